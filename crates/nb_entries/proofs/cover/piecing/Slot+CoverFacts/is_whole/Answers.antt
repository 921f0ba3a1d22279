use Rattle.nb_entries.proofs.Common.{◌∙◌, sym, ap, CoverValue}
use Rattle.std.specs.Prelude.{is_some}
use Rattle.nb_entries.specs.CoverChange.{data_of}
use Rattle.nb_entries.proofs.CoverChanges.{tells_data}
use Rattle.nb_entries.proofs.cover.piecing.Slot+CoverFacts.is_whole.Goals as goal

pub returns-in-Held : goal.returns-in-Held
returns-in-Held c = tells_data c.is_whole.result c.in-Held.facts c.is_whole.ensures ∙ ap (λ (s : CoverValue). is_some (data_of s)) (sym c.in-Held.is)
