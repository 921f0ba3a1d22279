use Rattle.nb_entries.proofs.Common.{box_value, ◌∙◌, sym, ap, Some, core_of, MAX_LENGTH, cover_of, covers_together, Held, EntryFacts, bytes_to, datagram_with, not_from_Decides, newly_never, newly_always}
use Rattle.nb_entries.proofs.Changes.{whole_size}
use Rattle.nb_entries.proofs.entry.EntryFacts.newly_whole_with.Goals as goal

pub returns-then-is_whole : goal.returns-then-is_whole
returns-then-is_whole c = rw c.in-Over.is (newly_never c.args.fragment.now.key (Held c.args.self.now) _ (c.is_whole.ensures.0 c.if-is_whole.true))

pub new-requires : goal.new-requires
new-requires c =
    let short = rw (← c.self.view_is) at c.requires.short in
    whole_size (covers_together (box_value c.self.inside.known).cover (cover_of (core_of c.args.fragment.now))) c.in-Some.bytes MAX_LENGTH short
    (sym c.in-Some.is ∙ (rw (c.deref.ensures, c.of.ensures) at c.in_ok-bytes.ensures))

pub returns-in-Some : goal.returns-in-Some
returns-in-Some c =
    let k = c.args.fragment.now.key in
    let e = c.args.self.now in
    let whole = λ (x : EntryFacts). bytes_to (covers_together x.cover (cover_of (core_of c.args.fragment.now))).bytes (covers_together x.cover (cover_of (core_of c.args.fragment.now))).marks.end in
    let same = ap Some c.new.ensures ∙ sym c.in-Some.is ∙ (rw (c.deref.ensures, c.of.ensures) at c.in_ok-bytes.ensures) ∙ ap whole c.self.view_is in
    rw c.in-Over.is (newly_always k (Held e) _ (datagram_with k e (whole e)) (not_from_Decides c.is_whole.result c.is_whole.ensures c.if-is_whole.false) (ap (datagram_with k e) same))

pub returns-in-None : goal.returns-in-None
returns-in-None c =
    let k = c.args.fragment.now.key in
    let e = c.args.self.now in
    let whole = λ (x : EntryFacts). bytes_to (covers_together x.cover (cover_of (core_of c.args.fragment.now))).bytes (covers_together x.cover (cover_of (core_of c.args.fragment.now))).marks.end in
    let same = sym c.in-None.is ∙ (rw (c.deref.ensures, c.of.ensures) at c.in_ok-bytes.ensures) ∙ ap whole c.self.view_is in
    rw c.in-Over.is (newly_always k (Held e) _ (datagram_with k e (whole e)) (not_from_Decides c.is_whole.result c.is_whole.ensures c.if-is_whole.false) (ap (datagram_with k e) same))
