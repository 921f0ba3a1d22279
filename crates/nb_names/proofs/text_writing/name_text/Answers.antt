use Rattle.std.proofs.Common.{◌++◌, List, ℕ, ◌∙◌, ap}
use Rattle.nb_names.specs.NameText.{written}
use Rattle.nb_names.proofs.WrittenLemmas.{text_of_written}
use Rattle.nb_names.proofs.text_writing.name_text.Goals as goal

pub returns-clause-read : goal.returns-clause-read
returns-clause-read c = text_of_written c.args.name.now _ (c.in_ok-push_name.ensures.added ∙ ap (λ (front : List ℕ). front ++ written c.args.name.now) c.new-text.ensures.bytes) c.bytes.ensures.name
