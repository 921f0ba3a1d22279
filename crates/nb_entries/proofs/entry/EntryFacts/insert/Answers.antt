use Rattle.nb_entries.proofs.Common.{box_value, ◌≡◌, ◌∙◌, sym, ap, subst, Option, core_of, DatagramParts, Held, AreCoverFacts, EntryFacts, facts_of, facts_together, bytes_to, datagram_of, newly, cover_of_formed, not_from_Decides}
use Rattle.nb_entries.specs.Change.{grown_to, handed_by, made_by}
use Rattle.nb_entries.proofs.Changes.{facts_held, key_grown, made_grown, told_grown, with_together}
use Rattle.nb_entries.proofs.Covers.{together_formed}
use Rattle.nb_entries.proofs.entry.EntryFacts.insert.Goals as goal

pub returns-then-holds-clause-joined : goal.returns-then-holds-clause-joined
returns-then-holds-clause-joined c =
    rw (← c.self.view_is) (facts_held _ (facts_of (core_of c.args.fragment.now)) (rw (c.deref.ensures, c.of-piece.ensures) at (c.holds.ensures.0 c.if-holds.true)))

pub returns-clause-formed : goal.returns-clause-formed
returns-clause-formed c =
    let f = core_of c.args.fragment.now in
    let fit = rw (← c.self.view_is) at c.requires.fits in
    subst AreCoverFacts (sym (rw (c.deref_mut.ensures.value, c.of-piece.ensures) at c.in_ok-insert.ensures.ok)) (together_formed (box_value c.self.inside.known).cover (facts_of f).cover fit.cover c.self.invariant (cover_of_formed f))

pub invariant_of-self-2 : goal.invariant_of-self-2
invariant_of-self-2 c = returns-clause-formed c

pub returns-clause-change : goal.returns-clause-change
returns-clause-change c =
    let known = box_value c.self.inside.known in
    let f = c.args.fragment.now in
    let k = f.key in
    let h = c.args.handing in
    let b = facts_of (core_of f) in
    let old : EntryFacts = record { kind = known.kind; source = known.source; destination = known.destination; cover = known.cover } in
    let fit = rw (← c.self.view_is) at c.requires.fits in
    let made = (rw (c.deref_mut.ensures.value, c.of-piece.ensures) at c.in_ok-insert.ensures.ok) in
    let new : ◌≡◌ {A = EntryFacts} (record { kind = known.kind; source = known.source; destination = known.destination; cover = c.insert.new.self }) (facts_together old b) =
    λ i. record { kind = known.kind; source = known.source; destination = known.destination; cover = made i } in
    let whole = newly (datagram_of k (Held old)) (datagram_of k (Held (facts_together old b))) in
    let datagram =
    (rw (← c.self.view_is) at c.in_ok-bytes.ensures)
    ∙ ap (λ (d : Option DatagramParts). handed_by h (newly (datagram_of k (Held old)) d)) (with_together k old b (bytes_to (facts_together old b).cover.bytes (facts_together old b).cover.marks.end)) in
    let told = ap (made_by f) c.grown_to.ensures ∙ made_grown f old c.in_ok-bytes.bytes fit.kind fit.source fit.destination ∙ ap grown_to datagram ∙ told_grown h whole in
    let grown = key_grown k old b fit (rw (c.deref.ensures, c.of-piece.ensures) at (not_from_Decides c.holds.result c.holds.ensures c.if-holds.false)) in
    rw (← c.self.view_is, c.deref_mut.ensures.value) (grown_to whole, rw new grown, told)
