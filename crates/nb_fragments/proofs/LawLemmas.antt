-- The lemmas of which the laws are made.
use Rattle.std.proofs.Common.{◌≡◌, ◌≢◌, refl, sym, subst, ◌∙◌, ap, List, [], ◌∷◌, ◌++◌, map, append-nil, Bool, true, false, cond, Decides}
use Rattle.nb_entries.specs.Piece.{PieceParts}
use Rattle.nb_entries.specs.Cover.{CoverValue, join_cover, piece_cover}
use Rattle.nb_entries.specs.CoverChange.{cover_of_pieces, with_piece}
use Rattle.nb_entries.specs.declared.slot.Slot.TheVariants.{Held}
use Rattle.nb_entries.specs.Shared.SlotLemmas.{join-assoc, join-comm}
use Rattle.nb_entries.specs.Shared.CoverLemmas.{covers_unite}
use Rattle.nb_fragments.specs.declared.key.Key.{Key}
use Rattle.nb_fragments.specs.Keys.{key_exact, same_key}
use Rattle.nb_fragments.specs.Live.{Came, is_of, of_key, cover_at}
use Rattle.nb_fragments.proofs.JoinLemmas.{fold-more, of_key-more, own_key}

pub keys_decide : (a b : Key) → Decides (same_key a b) (a ≡ b)
keys_decide a b = (key_exact a b, λ e. subst (λ k. same_key a k ≡ true) e (own_key a))

-- what the fragments of a packet say after one more
cover_at-more : (key : Key) (live : List Came) (came : Came) (b : Bool) → is_of key came ≡ b
    → cover_at key (live ++ came ∷ []) ≡ cond b (with_piece (cover_at key live) came.piece) (cover_at key live)
cover_at-more key live came b e =
    ap (λ (A : List Came). cover_of_pieces (map (λ x. x.piece) A)) (of_key-more key live came ∙ ap (λ (t : Bool). of_key key live ++ cond t (came ∷ []) []) e)
    ∙ step b
  where
    step : (b : Bool) → cover_of_pieces (map (λ x. x.piece) (of_key key live ++ cond b (came ∷ []) [])) ≡ cond b (with_piece (cover_at key live) came.piece) (cover_at key live)
    step true = fold-more (cover_of_pieces []) (of_key key live) came
    step false = ap (λ (A : List Came). cover_of_pieces (map (λ x. x.piece) A)) (append-nil (of_key key live))

pub others_change_nothing : (key : Key) (live : List Came) (came : Came) → came.key ≢ key → cover_at key (live ++ came ∷ []) ≡ cover_at key live
others_change_nothing key live came other = at (is_of key came) refl
  where
    at : (b : Bool) → is_of key came ≡ b → cover_at key (live ++ came ∷ []) ≡ cover_at key live
    at true e = absurd (other (key_exact came.key key e))
    at false e = cover_at-more key live came false e

-- pieces joined in either order
turned : (c : CoverValue) (p q : PieceParts) → with_piece (with_piece c p) q ≡ with_piece (with_piece c q) p
turned c p q =
    let a : CoverValue = Held (piece_cover p) in let b : CoverValue = Held (piece_cover q) in
    join-assoc covers_unite c a b ∙ ap (join_cover c) (join-comm covers_unite a b) ∙ sym (join-assoc covers_unite c b a)

pub either_first : (key : Key) (live : List Came) (one other : Came) → cover_at key ((live ++ one ∷ []) ++ other ∷ []) ≡ cover_at key ((live ++ other ∷ []) ++ one ∷ [])
either_first key live one other = at (is_of key one) refl (is_of key other) refl
  where
    two : (a b : Came) (s t : Bool) → is_of key a ≡ s → is_of key b ≡ t → cover_at key ((live ++ a ∷ []) ++ b ∷ [])
        ≡ cond t (with_piece (cond s (with_piece (cover_at key live) a.piece) (cover_at key live)) b.piece) (cond s (with_piece (cover_at key live) a.piece) (cover_at key live))
    two a b s t e f = cover_at-more key (live ++ a ∷ []) b t f ∙ ap (λ (c : CoverValue). cond t (with_piece c b.piece) c) (cover_at-more key live a s e)

    at : (s : Bool) → is_of key one ≡ s → (t : Bool) → is_of key other ≡ t → cover_at key ((live ++ one ∷ []) ++ other ∷ []) ≡ cover_at key ((live ++ other ∷ []) ++ one ∷ [])
    at true e true f = two one other true true e f ∙ turned (cover_at key live) one.piece other.piece ∙ sym (two other one true true f e)
    at true e false f = two one other true false e f ∙ sym (two other one false true f e)
    at false e true f = two one other false true e f ∙ sym (two other one true false f e)
    at false e false f = two one other false false e f ∙ sym (two other one false false f e)
