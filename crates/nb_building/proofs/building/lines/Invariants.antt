use Rattle.nb_building.proofs.Common.{◌≡◌, string_bytes, take, payload_lines}
use Rattle.nb_building.proofs.building.lines.Given as goal

abbrev pub invariant-loop-payload : goal.invariant-loop-payload
invariant-loop-payload l = string_bytes l.text ≡ payload_lines l.port (take l.payload-index l.payloads)
