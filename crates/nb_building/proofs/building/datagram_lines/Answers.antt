use Rattle.nb_building.proofs.Common.{◌∙◌, ap, of_datagrams, payload_lines}
use Rattle.nb_building.proofs.TakenLemmas.{memory_passed_on}
use Rattle.nb_building.proofs.building.datagram_lines.Goals as goal

pub returns-clause-built : goal.returns-clause-built
returns-clause-built c broadcast = record {
  port = 138;
  payloads = c.in_ok-packets.packets;
  named = of_datagrams c.in_ok-packets.packets c.in_ok-packets.ensures.built;
  lines = c.in_ok-lines.ensures ∙ ap (payload_lines 138) c.as_slice.ensures;
}

pub returns-in_err-lines-clause-refused : goal.returns-in_err-lines-clause-refused
returns-in_err-lines-clause-refused c = memory_passed_on _ _ _ c.from_residual-in_err-lines.result c.from_residual-in_err-lines.ensures.1
