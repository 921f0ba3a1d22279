use Rattle.std.proofs.Common.{◌≡◌, ◌++◌, drop, string_bytes}
use Rattle.nb_streams.specs.Growth.{OnlyAdds}
use Rattle.nb_telling.specs.Texts.{joined, names_of}
use Rattle.nb_telling.proofs.SetLemmas.{set_from}
use Rattle.nb_telling.proofs.text_sink.push_names.Given as goal

abbrev pub invariant-loop-flag : goal.invariant-loop-flag
invariant-loop-flag l =
    (string_bytes l.text ++ set_from l.none (names_of (drop l.flag-index l.flags)) ≡ string_bytes l.fn.text ++ joined (names_of l.flags))
    × OnlyAdds (string_bytes l.fn.text) (string_bytes l.text)
