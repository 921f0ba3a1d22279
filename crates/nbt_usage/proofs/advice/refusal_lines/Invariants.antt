use Rattle.nbt_usage.proofs.Common.{◌≡◌, take, string_bytes, flat_map}
use Rattle.nbt_usage.specs.Refusals.{lines_by}
use Rattle.nbt_usage.proofs.advice.refusal_lines.Given as goal

abbrev pub invariant-loop-refusal : goal.invariant-loop-refusal
invariant-loop-refusal l =
    string_bytes l.lines ≡ flat_map (lines_by l.command) (take l.refusal-index l.refusals)
