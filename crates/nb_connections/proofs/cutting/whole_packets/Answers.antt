use Rattle.std.proofs.Common.{arith, subst, length-drop, List, ℕ, ◌∷◌, [], ◌++◌, drop}
use Rattle.std.proofs.lemmas.List.{take_rest}
use Rattle.nb_session.specs.declared.parsing.Parsed.TheVariants.{Whole}
use Rattle.nb_session.specs.Cutting.{no_packet}
use Rattle.nb_session.specs.Parsing.{Parses}
use Rattle.nb_connections.proofs.CutLemmas.{one_more_whole, used_within}
use Rattle.nb_connections.proofs.cutting.whole_packets.Goals as goal

pub packets-init : goal.packets-init
packets-init c = record { within = omega arith; packets = ([], no_packet) }

pub packets-preserved : goal.packets-preserved
packets-preserved c =
    let stands = subst (λ (b : List ℕ). Parses b (Whole c.in-Whole.field-0 c.in-Whole.used)) (take_rest c.args.bytes.now c.packets.end) c.in-Whole.ensures.stands in
    let within = used_within (drop c.packets.end c.args.bytes.now) c.in-Whole.field-0 c.in-Whole.used stands in
    let long = length-drop c.packets.end c.args.bytes.now in
    record {
      within = omega (arith, within.1, long, c.packets.invariant.within);
      packets = (c.packets.invariant.packets.0 ++ c.in-Whole.field-0 ∷ [], one_more_whole c.args.bytes.now c.packets.invariant.packets.0 c.packets.end c.in-Whole.used c.in-Whole.field-0 c.packets.invariant.packets.1 stands);
    }
