use Rattle.std.proofs.Common.{◌≡◌, ◌++◌, drop, map}
use Rattle.json.specs.Token.{string}
use Rattle.nb_telling.specs.Texts.{names_of}
use Rattle.nb_telling.proofs.json_sink.write_names.Given as goal

abbrev pub invariant-loop-flag : goal.invariant-loop-flag
invariant-loop-flag l =
    (l.writer.tokens ++ map string (names_of (drop l.flag-index l.flags)) ≡ l.fn.writer.tokens ++ map string (names_of l.flags))
    × (l.writer.before ≡ l.fn.writer.before)
