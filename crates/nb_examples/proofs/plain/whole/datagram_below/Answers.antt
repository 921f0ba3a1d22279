use Rattle.std.proofs.Common.{arith, sym, ◌∙◌}
use Rattle.nb_datagram.specs.Fragment.{cores_of}
use Rattle.nb_table.specs.Conflict.{with_key}
use Rattle.nb_table.specs.Contents.{cover_in}
use Rattle.nb_entries.specs.Shared.WholeLemmas.{below_found}
use Rattle.nb_examples.proofs.plain.whole.datagram_below.Goals as goal

pub datagram_from-requires : goal.datagram_from-requires
datagram_from-requires c =
    let b = below_found (cover_in (with_key c.args.key.now (cores_of c.args.fragments.now))).bytes c.args.end c.in-Some.bytes (sym c.in_ok-bytes.ensures ∙ c.in-Some.is) in
    omega (arith, b.count, c.requires)
