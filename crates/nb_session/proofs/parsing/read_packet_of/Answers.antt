use Rattle.std.proofs.Common.{ℕ, ◌+◌, ◌≤◌, List, [], ◌∷◌, get_or, length, refl, subst, sym, arith}
use Rattle.std.proofs.lemmas.List.{drop_more}
use Rattle.std.proofs.lemmas.Result.{IfErr-weaker}
use Rattle.std.specs.Int.{w16, to_be_bytes}
use Rattle.nb_streams.specs.Places.{StandsAt}
use Rattle.nb_session.specs.declared.packet.Packet.TheVariants.{Retarget}
use Rattle.nb_session.specs.Header.{IsGood}
use Rattle.nb_names.proofs.LabelsLemmas.{stands_joined}
use Rattle.nb_session.proofs.PacketLemmas.{packet_made}
use Rattle.nb_session.proofs.PacketReadingLemmas.{request_refused}
use Rattle.nb_session.proofs.parsing.read_packet_of.Goals as goal

-- four bytes that are there stand there
stands_four : (p : List ℕ) (at : ℕ) → at + 4 ≤ length p → StandsAt p at (get_or p at 0 ∷ get_or p (at + 1) 0 ∷ get_or p (at + 1 + 1) 0 ∷ get_or p (at + 1 + 1 + 1) 0 ∷ [])
stands_four p at fits =
    rw (drop_more p at 0 (omega arith)) (rw (drop_more p (at + 1) 0 (omega arith)) (rw (drop_more p (at + 1 + 1) 0 (omega arith)) (rw (drop_more p (at + 1 + 1 + 1) 0 (omega arith)) refl)))

pub returns-in-Retarget-clause-found : goal.returns-in-Retarget-clause-found
returns-in-Retarget-clause-found c =
    let p = c.args.packet.now in
    let good : IsGood c.args.header _ = subst (IsGood c.args.header) c.in-Retarget.is c.requires.good in
    let address : List ℕ = get_or p 4 0 ∷ get_or p 5 0 ∷ get_or p 6 0 ∷ get_or p 7 0 ∷ [] in
    let there = stands_joined p 4 address (to_be_bytes w16 c.number_16.result) (stands_four p 4 (omega (arith, c.requires.whole, good.length))) c.number_16.ensures.bytes in
    packet_made p c.args.header (Retarget address c.number_16.result) c.requires.header good c.requires.whole (refl, c.number_16.ensures.fits) there (sym good.length)

pub returns-in-Request-clause-earliest : goal.returns-in-Request-clause-earliest
returns-in-Request-clause-earliest c =
    IfErr-weaker c.read_request.result _ _
    (λ fault why. request_refused c.args.packet.now c.args.header fault c.requires.header (subst (IsGood c.args.header) c.in-Request.is c.requires.good) c.requires.whole why)
    c.read_request.ensures.fault
