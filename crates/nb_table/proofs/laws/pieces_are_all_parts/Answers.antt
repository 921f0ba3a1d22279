use Rattle.nb_table.proofs.Common.{cores_of}
use Rattle.nb_datagram.specs.Pieces.{pieces}
use Rattle.nb_table.proofs.Wholeness.{gives_where_all}
use Rattle.nb_table.proofs.laws.pieces_are_all_parts.Goals as goal

pub returns-clause-alone : goal.returns-clause-alone
returns-clause-alone c d m h f has _ = c.pieces_are_parts.ensures.parts d m f h has

pub returns-clause-all : goal.returns-clause-all
returns-clause-all c d m h = record {
  places = λ i inside. (
      let p = c.pieces_are_parts.ensures.covered d m i h inside in (p.0, (p.1, (c.pieces_are_parts.ensures.parts d m p.0 h p.1).key), p.2));
  last = let p = c.pieces_are_parts.ensures.ends d m h in (p.0, (p.1, (c.pieces_are_parts.ensures.parts d m p.0 h p.1).key), p.2);
}

pub returns-clause-gives : goal.returns-clause-gives
returns-clause-gives c d m h =
    gives_where_all (cores_of (pieces d m)) d (returns-clause-alone c d m h) (returns-clause-all c d m h)
