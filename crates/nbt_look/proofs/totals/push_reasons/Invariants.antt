use Rattle.std.proofs.Common.{◌≡◌, ◌++◌, drop, false, string_bytes}
use Rattle.nbt_look.specs.Totals.{reasons_text}
use Rattle.nbt_look.proofs.totals.push_reasons.Given as goal

abbrev pub invariant-loop-reason : goal.invariant-loop-reason
invariant-loop-reason l =
    string_bytes l.text ++ reasons_text l.counts l.begun (drop l.reason-index l.reasons) ≡ string_bytes l.fn.text ++ reasons_text l.counts false l.reasons
