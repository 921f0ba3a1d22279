use Rattle.std.proofs.Common.{◌≡◌, ◌∙◌, refl, ap, length, subst, sym, Bool, false, rules, nat_lt}
use Rattle.nb_connections.specs.Course.{lost}
use Rattle.nb_connections.specs.Directions.{Enters, ends_of, first_number, has, numbers_of, opens, part_in}
use Rattle.nb_connections.specs.Reading.{Part}
use Rattle.nb_connections.specs.declared.taken.Reason.TheVariants.{Reset}
use Rattle.nb_connections.specs.declared.taken.Taken.{Taken}
use Rattle.nb_connections.proofs.DirectionsLemmas.{enters_left}
use Rattle.nb_connections.proofs.connections.Connections.take.Goals as goal

pub returns-then-has-clause-takes : goal.returns-then-has-clause-takes
returns-then-has-clause-takes c =
    let all : ◌≡◌ {A = Taken} c.left_out.result (record { left_out = lost Reset (length c.args.segment.now.payload.bytes); differs = false }) =
    c.left_out.ensures ∙ ap (λ n. record { left_out = lost Reset n; differs = false }) (ap length c.bytes-bytes.ensures.value) in
    enters_left c.args.self.now c.args.self.now _ _ _ _ _ _ refl refl c.clear.ensures.items (Reset, search rules, all)

pub returns-clause-takes : goal.returns-clause-takes
returns-clause-takes c =
    let s = c.args.segment.now in
    let number = c.first_number.ensures ∙ ap (first_number s.sequence) c.has-opens.ensures in
    let had : Part = record {
      number = c.first_number.result;
      bytes = c.bytes-bytes.result.now;
      numbers = c.numbers_of.result;
      is_cut = nat_lt (length c.bytes-bytes.result.now) c.wire_len-2.result;
    } in
    let part : had ≡ part_in s = λ i. record {
      number = number i;
      bytes = c.bytes-bytes.ensures.value i;
      numbers = (c.numbers_of.ensures ∙ (λ j. numbers_of (c.wire_len.ensures j) (c.has-2.ensures j))) i;
      is_cut = nat_lt (length (c.bytes-bytes.ensures.value i)) (c.wire_len-2.ensures i);
    } in
    subst (λ (p : Part). Enters c.args.self.now (ends_of s) (has s.flags.0 4) (opens s) p c.enter.new.self c.enter.new.ready.items c.enter.result) part
    (subst (λ (b : Bool). Enters c.args.self.now (ends_of s) (has s.flags.0 4) b had c.enter.new.self c.enter.new.ready.items c.enter.result) c.has-opens.ensures
    (subst (λ (b : Bool). Enters c.args.self.now (ends_of s) b c.has-opens.result had c.enter.new.self c.enter.new.ready.items c.enter.result) (sym (sym c.has.ensures ∙ c.if-has.false)) c.enter.ensures.enters))
