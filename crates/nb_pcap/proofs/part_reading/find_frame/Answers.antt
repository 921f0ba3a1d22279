use Rattle.std.proofs.Common.{◌≡◌, ◌≤◌, ◌<◌, ◌∙◌, ℕ, List, Ok, refl, sym, subst, ap, arith, length, take}
use Rattle.std.proofs.lemmas.Result.{err_from_is_err_and}
use Rattle.nb_pcap.specs.Context.{size_of}
use Rattle.nb_pcap.specs.File.{IsEnd, in_size}
use Rattle.nb_pcap.specs.Steps.{bad, cut}
use Rattle.nb_pcap.proofs.SizeLemmas.{whole_part}
use Rattle.nb_pcap.proofs.StepLemmas.{stops_unread}
use Rattle.nb_pcap.proofs.SeekLemmas.{seeks_none, seeks_more, seeks_frame, seeks_other, seeks_fails, seeks_stops, took_held, took_passed, held_stops, unfinished}
use Rattle.nb_pcap.proofs.part_reading.find_frame.Goals as goal

pub parts-init : goal.parts-init
parts-init g c = seeks_none c.args.context.now c.args.place.now c.args.room.now _ _ c.requires.place_is c.requires.within c.requires.near

pub returns-in_err-size : goal.returns-in_err-size
returns-in_err-size g c =
    let e = err_from_is_err_and c.from_residual.result c.from_residual.ensures.1 in
    rw (e.1, e.2) (seeks_stops _ _ _ _ _ _ _ _ _ _ _ _ c.parts.invariant (bad _ (in_size (ap (size_of c.parts.context) (sym c.rest.ensures) ∙ sym c.in_err-size.ensures))) refl)

-- ---- a part that is held

pub take_in-requires : goal.take_in-requires
take_in-requires g c =
    let says = ap (size_of c.parts.context) (sym c.rest.ensures) ∙ sym c.in_ok-size.ensures in
    subst (λ (b : List ℕ). size_of c.parts.context (take c.in_ok-size.size b) ≡ Ok (length (take c.in_ok-size.size b))) (sym c.rest-then-size-rest.ensures)
    (whole_part _ _ _ says (omega (arith, c.if-size-rest.true, ap length c.rest-in-parts.ensures)))

pub returns-in_err-found : goal.returns-in_err-found
returns-in_err-found g c =
    let e = err_from_is_err_and c.from_residual-in_err-found.result c.from_residual-in_err-found.ensures.1 in
    let says = ap (size_of c.parts.context) (sym c.rest.ensures) ∙ sym c.in_ok-size.ensures in
    let s = held_stops _ _ _ _ _ c.parts.room _ _ _ _ (ap (take c.in_ok-size.size) c.rest-then-size-rest.ensures) says
    (omega (arith, c.if-size-rest.true, ap length c.rest-in-parts.ensures)) refl c.in_err-found.ensures in
    rw (e.1, e.2) (seeks_stops _ _ _ _ _ _ _ _ _ _ _ _ c.parts.invariant s.0 s.1)

pub returns-in-Some : goal.returns-in-Some
returns-in-Some g c =
    let says = ap (size_of c.parts.context) (sym c.rest.ensures) ∙ sym c.in_ok-size.ensures in
    let within : c.in_ok-size.size ≤ length c.parts.room.rest = omega (arith, c.if-size-rest.true, ap length c.rest-in-parts.ensures) in
    seeks_frame _ _ _ _ _ _ _ _ _ _ _ _ _ _ _ _ c.parts.invariant
    (took_held _ _ _ _ _ _ _ _ _ (ap (take c.in_ok-size.size) c.rest-then-size-rest.ensures) says within (c.parts.invariant.ahead _ says within)
    (rw c.in-Some.is at c.in_ok-found.ensures) c.hand_out.ensures) c.place.ensures.value

pub parts-smaller-in-None : goal.parts-smaller-in-None
parts-smaller-in-None g c =
    let says = ap (size_of c.parts.context) (sym c.rest.ensures) ∙ sym c.in_ok-size.ensures in
    let within : c.in_ok-size.size ≤ length c.parts.room.rest = omega (arith, c.if-size-rest.true, ap length c.rest-in-parts.ensures) in
    (seeks_other _ _ _ _ _ _ _ _ _ _ _ _ _ _ _ _ c.parts.invariant
    (took_held _ _ _ _ _ _ _ _ _ (ap (take c.in_ok-size.size) c.rest-then-size-rest.ensures) says within (c.parts.invariant.ahead _ says within)
    (rw c.in-None.is at c.in_ok-found.ensures) c.hand_out.ensures) c.place.ensures.value).1

pub parts-preserved-in-None : goal.parts-preserved-in-None
parts-preserved-in-None g c =
    let says = ap (size_of c.parts.context) (sym c.rest.ensures) ∙ sym c.in_ok-size.ensures in
    let within : c.in_ok-size.size ≤ length c.parts.room.rest = omega (arith, c.if-size-rest.true, ap length c.rest-in-parts.ensures) in
    (seeks_other _ _ _ _ _ _ _ _ _ _ _ _ _ _ _ _ c.parts.invariant
    (took_held _ _ _ _ _ _ _ _ _ (ap (take c.in_ok-size.size) c.rest-then-size-rest.ensures) says within (c.parts.invariant.ahead _ says within)
    (rw c.in-None.is at c.in_ok-found.ensures) c.hand_out.ensures) c.place.ensures.value).0

-- ---- a block that is passed over

pub returns-in_err-pass_over : goal.returns-in_err-pass_over
returns-in_err-pass_over g c =
    let e = err_from_is_err_and c.from_residual-in_err-pass_over.result c.from_residual-in_err-pass_over.ensures.1 in
    let p = c.in_err-pass_over.ensures in
    rw (e.1, e.2) (seeks_fails _ _ _ _ p.got _ _ _ _ _ _ _ _ _ _ c.parts.invariant p.took p.passes)

pub parts-smaller-then-passes_over : goal.parts-smaller-then-passes_over
parts-smaller-then-passes_over g c =
    (seeks_other _ _ _ _ _ _ _ _ _ _ _ _ _ _ _ _ c.parts.invariant (took_passed _ _ _ _ _ _ _ _ c.in_ok-pass_over.ensures) c.place-then-passes_over.ensures.value).1

pub parts-preserved-then-passes_over : goal.parts-preserved-then-passes_over
parts-preserved-then-passes_over g c =
    (seeks_other _ _ _ _ _ _ _ _ _ _ _ _ _ _ _ _ c.parts.invariant (took_passed _ _ _ _ _ _ _ _ c.in_ok-pass_over.ensures) c.place-then-passes_over.ensures.value).0

-- ---- a read

pub returns-in_err-read_once : goal.returns-in_err-read_once
returns-in_err-read_once g c =
    let e = err_from_is_err_and c.from_residual-in_err-read_once.result c.from_residual-in_err-read_once.ensures.1 in
    let says = ap (size_of c.parts.context) (sym c.rest.ensures) ∙ sym c.in_ok-size.ensures in
    let short : length c.parts.room.rest < c.in_ok-size.size = omega (arith, c.if-size-rest.false, ap length c.rest-in-parts.ensures) in
    let r = c.in_err-read_once.ensures in
    rw (e.1, e.2) (seeks_fails _ _ _ _ r.got _ _ _ _ _ _ _ _ _ _ c.parts.invariant r.took
    (stops_unread _ _ _ _ _ _ _ (unfinished _ _ _ r.got _ says short (ap length r.once.0) refl) r.once.1))

pub parts-preserved : goal.parts-preserved
parts-preserved g c =
    let says = ap (size_of c.parts.context) (sym c.rest.ensures) ∙ sym c.in_ok-size.ensures in
    let short : length c.parts.room.rest < c.in_ok-size.size = omega (arith, c.if-size-rest.false, ap length c.rest-in-parts.ensures) in
    (seeks_more _ _ _ _ _ _ _ _ _ _ _ _ _ _ _ c.parts.invariant says short c.in_ok-read_once.ensures).0

pub returns-else-is_end : goal.returns-else-is_end
returns-else-is_end g c =
    let says = ap (size_of c.parts.context) (sym c.rest.ensures) ∙ sym c.in_ok-size.ensures in
    let short : length c.parts.room.rest < c.in_ok-size.size = omega (arith, c.if-size-rest.false, ap length c.rest-in-parts.ensures) in
    let r = c.in_ok-read_once.ensures in
    seeks_fails _ _ _ _ r.got _ _ _ _ _ _ _ _ _ _ c.parts.invariant r.took
    (cut (unfinished _ _ _ r.got _ says short (sym r.once.0 ∙ c.if-branch-eq0.true) refl) (r.once.1 c.if-branch-eq0.true)
    (λ e. c.is_end.ensures.no c.if-is_end.false (subst (λ (b : List ℕ). IsEnd c.parts.context b) (sym (c.rest-then-branch-eq0.ensures ∙ r.rest)) e)))
