use Rattle.std.proofs.Common.{[], refl, ap₂}
use Rattle.nb_text.proofs.SaidLemmas.{front_place, last_place, part_said}
use Rattle.nb_text.specs.Said.{offset_said}
use Rattle.nb_text.proofs.laws.phrases.datagrams_in_words.Goals as goal

pub returns : goal.returns
returns c = record {
  kinds = (refl, refl, refl);
  whole = λ datagram last first. part_said datagram [] (ap₂ offset_said last first);
  front = λ datagram more. part_said datagram _ (front_place _ datagram.offset more);
  last = λ datagram last low. part_said datagram _ (last_place _ datagram.offset last low);
}
