use Rattle.nb_calls.proofs.Common.{◌≡◌, ◌&&◌, drop, nat_lt, list_all, is_letter}
use Rattle.nb_calls.proofs.service_reading.are_letters.Given as goal

abbrev pub invariant-letters : goal.invariant-letters
invariant-letters l = (nat_lt l.greatest 16 && list_all is_letter (drop l.letter-index l.label)) ≡ list_all is_letter l.label
