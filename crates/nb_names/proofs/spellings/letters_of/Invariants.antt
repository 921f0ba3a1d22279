use Rattle.std.proofs.Common.{◌≡◌, ◌*◌, take, length}
use Rattle.nb_names.specs.FirstLevel.{letters}
use Rattle.nb_names.proofs.spellings.letters_of.Given as goal

abbrev pub invariant-loop-place : goal.invariant-loop-place
invariant-loop-place l = record {
  size : length l.letters ≡ 32;
  written : take (2 * l.place) l.letters ≡ letters (take l.place l.bytes);
}
