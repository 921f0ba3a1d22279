use Rattle.std.proofs.Common.{◌≡◌, ◌*◌, ◌<◌, ℕ, take, get_or, length}
use Rattle.nb_names.specs.FirstLevel.{letters, IsLetter}
use Rattle.nb_names.proofs.spellings.bytes_in_turn.Given as goal

abbrev pub invariant-loop-place : goal.invariant-loop-place
invariant-loop-place l = record {
  size : length l.bytes ≡ 16;
  read : take (2 * l.place) l.letters ≡ letters (take l.place l.bytes);
  before : (k : ℕ) → k < 2 * l.place → IsLetter (get_or l.letters k 0);
}
