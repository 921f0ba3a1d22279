use Rattle.nb_entries.proofs.Common.{box_value, ◌∙◌, sym, MAX_LENGTH}
use Rattle.nb_entries.proofs.Changes.{whole_size}
use Rattle.nb_entries.proofs.entry.EntryFacts.user_data.Goals as goal

pub new-requires : goal.new-requires
new-requires c =
    let short = rw (← c.self.view_is) at c.requires in
    whole_size (box_value c.self.inside.known).cover c.in-Some.bytes MAX_LENGTH short (sym c.in-Some.is ∙ (rw c.deref.ensures at c.in_ok-bytes.ensures.value))
