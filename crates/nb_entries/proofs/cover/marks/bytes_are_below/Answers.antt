use Rattle.nb_entries.proofs.Common.{rules, nat_tests}
use Rattle.nb_entries.proofs.Covers.{piece_ends_by}
use Rattle.nb_entries.proofs.cover.marks.bytes_are_below.Goals as goal

pub returns-then-is_empty : goal.returns-then-is_empty
returns-then-is_empty c = let below = piece_ends_by c.args.piece.now c.args.end in search (rules, below)

pub returns-else-is_empty : goal.returns-else-is_empty
returns-else-is_empty c = let below = piece_ends_by c.args.piece.now c.args.end in search (rules, nat_tests, below)
