use Rattle.nb_entries.proofs.Common.{◌∙◌, ap, Held, EntryFacts, bytes_to, datagram_of, datagram_with}
use Rattle.nb_entries.specs.Change.{grown_to, made_by}
use Rattle.nb_entries.proofs.Changes.{key_first, made_grown, told_grown, with_handed}
use Rattle.nb_entries.proofs.entry.Slot+EntryFacts.first.Goals as goal

pub returns-clause-change : goal.returns-clause-change
returns-clause-change c =
    let f = c.args.fragment.now in
    let h = c.args.handing in
    let facts = c.in_ok-facts.facts in
    let says = c.in_ok-facts.ensures in
    let whole = datagram_of f.key (Held facts) in
    let datagram = ap (datagram_with f.key facts) c.in_ok-bytes.ensures ∙ with_handed h f.key facts (bytes_to facts.cover.bytes facts.cover.marks.end) in
    let made = made_grown f facts c.in_ok-bytes.bytes (ap (λ (x : EntryFacts). x.kind) says) (ap (λ (x : EntryFacts). x.source) says) (ap (λ (x : EntryFacts). x.destination) says) in
    (grown_to whole, key_first f.key facts, ap (made_by f) c.grown_to.ensures ∙ made ∙ ap grown_to datagram ∙ told_grown h whole)
