use Rattle.nb_building.proofs.Common.{◌++◌, ◌∷◌, [], ℕ, List, sym, ap, ◌∙◌, map, rules, map-append, map-id, Direct, packet_bytes}
use Rattle.std.proofs.lemmas.Iterator.Adapters.{YieldsList-from_vec}
use Rattle.std.proofs.lemmas.Iterator.Consumers.{YieldsList-end}
use Rattle.nb_building.proofs.datagram.encoded_pieces.Goals as goal

pub returns : goal.returns
returns c =
    let end = YieldsList-end (YieldsList-from_vec {s = c.into_iter-piece-iterator.result} c.args.pieces (search rules) (search rules))
    c.loop-piece.yielded c.loop-piece.piece-iterator c.loop-piece.yielded_by c.next.result c.next.new.self c.in-None.is c.next.ensures.steps in
    c.loop-piece.invariant ∙ ap (map (λ piece. packet_bytes (Direct piece))) (sym (map-id c.loop-piece.yielded) ∙ end.0)

pub loop-piece-preserved : goal.loop-piece-preserved
loop-piece-preserved c =
    c.in_ok-push.ensures ∙ ap (λ (l : List (List ℕ)). l ++ packet_bytes (Direct c.in-Some.piece) ∷ []) c.loop-piece.invariant
    ∙ sym (map-append (λ piece. packet_bytes (Direct piece)) c.loop-piece.yielded (c.in-Some.piece ∷ []))
