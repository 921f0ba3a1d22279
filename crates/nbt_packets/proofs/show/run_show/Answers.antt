use Rattle.nbt_packets.proofs.Common.{true, false, refl, Keeps-same}
use Rattle.nbt_packets.proofs.show.run_show.Goals as goal

pub returns-in-true-true : goal.returns-in-true-true
returns-in-true-true g c = record {
  whole = λ brief partial. absurd (cc (c.in-true-true.ensures false brief));
  brief = λ brief partial. absurd (cc (c.in-true-true.ensures' false partial));
  fronts = λ brief partial. absurd (cc (c.in-true-true.ensures false brief));
  both = λ brief partial. (refl, Keeps-same _, Keeps-same _);
  why = λ write. absurd (cc write);
}

pub returns-in-true-false : goal.returns-in-true-false
returns-in-true-false g c = record {
  whole = λ brief partial. absurd (cc (c.in-true-false.ensures false brief));
  brief = λ brief partial. c.show_as.ensures;
  fronts = λ brief partial. absurd (cc (c.in-true-false.ensures false brief));
  both = λ brief partial. absurd (cc (c.in-true-false.ensures' true partial));
  why = c.show_as.ensures.why;
}

pub returns-in-false-true : goal.returns-in-false-true
returns-in-false-true g c = record {
  whole = λ brief partial. absurd (cc (c.in-false-true.ensures' false partial));
  brief = λ brief partial. absurd (cc (c.in-false-true.ensures true brief));
  fronts = λ brief partial. c.show_as-in-false-true.ensures;
  both = λ brief partial. absurd (cc (c.in-false-true.ensures true brief));
  why = c.show_as-in-false-true.ensures.why;
}

pub returns-in-false-false : goal.returns-in-false-false
returns-in-false-false g c = record {
  whole = λ brief partial. c.show_as-in-false-false.ensures;
  brief = λ brief partial. absurd (cc (c.in-false-false.ensures true brief));
  fronts = λ brief partial. absurd (cc (c.in-false-false.ensures' true partial));
  both = λ brief partial. absurd (cc (c.in-false-false.ensures true brief));
  why = c.show_as-in-false-false.ensures.why;
}
