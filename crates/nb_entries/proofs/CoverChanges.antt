-- What a piece changes in a cover.
use Rattle.nb_entries.proofs.Common.{◌≡◌, ◌≤◌, ◌↔◌, Bool, true, false, ℕ, List, length, get_or, Option, Some, None, refl, sym, ◌∙◌, ap, arith, slice_get-get_or, CoverFacts, CoversFit, covers_together, Held, Holds, bytes_to, newly, below_found, below_from, take_all, ◌+◌, [], ◌∷◌, cond, subst, nat_cmp, nat_cmp_total, Spoilt, CoverValue, PieceParts, piece_cover, with_bytes, fit_of}
use Rattle.std.specs.FinMap as maps
use Rattle.std.specs.Prelude.{IsTrue, is_some}
use Rattle.nb_entries.specs.Whole.{IsWholeCover}
use Rattle.nb_entries.specs.Change.{grown_to}
use Rattle.nb_entries.specs.CoverChange.{known_of, with_piece, CoverChange, IsData, data_of}
use Rattle.nb_entries.specs.Shared.WholeLemmas.{below_covered}
use Rattle.nb_entries.specs.Cover.{covers_agree}
use Rattle.nb_entries.proofs.Covers.{together_holds, with_is}

-- the data of a cover is its bytes up to its end
data_is : (c : CoverFacts) (xs : List ℕ) → data_of (Held c) ≡ Some xs → IsData c xs
data_is c xs h = at c.marks.end refl h
  where
    at : (o : Option ℕ) → c.marks.end ≡ o → bytes_to c.bytes o ≡ Some xs → IsData c xs
    at None e h = absurd (cc)
    at (Some n) e h = let b = below_found c.bytes n xs h in record {
      ends = e ∙ ap Some (sym b.count);
      bytes = λ i f. b.each i (let size = b.count in omega (arith, f, size));
    }

is_data : (c : CoverFacts) (xs : List ℕ) → IsData c xs → data_of (Held c) ≡ Some xs
is_data c xs d =
    ap (bytes_to c.bytes) d.ends ∙ below_from c.bytes xs (length xs) (omega arith) d.bytes ∙ ap Some (take_all (length xs) xs (omega arith))

pub data_exactly : (c : CoverFacts) (xs : List ℕ) → (data_of (Held c) ≡ Some xs) ↔ IsData c xs
data_exactly c xs = (data_is c xs, is_data c xs)

-- a cover has data exactly where it is whole
whole_data : (c : CoverFacts) → IsWholeCover c → (xs : List ℕ) × (data_of (Held c) ≡ Some xs)
whole_data c w = let b = below_covered c.bytes w.length w.covered in (b.0, ap (bytes_to c.bytes) w.ends ∙ b.1)

data_whole : (c : CoverFacts) (xs : List ℕ) → data_of (Held c) ≡ Some xs → IsWholeCover c
data_whole c xs h = let d = data_is c xs h in record {
  length = length xs;
  ends = d.ends;
  covered = λ i f. (get_or xs i 0, d.bytes i f ∙ slice_get-get_or xs i 0 f);
}

-- a cover that was whole isn't newly whole, and one that wasn't is so wherever it is whole
pub data_never : (c : CoverFacts) (o : Option (List ℕ)) → IsWholeCover c → None ≡ newly (data_of (Held c)) o
data_never c o w = sym (ap (λ a. newly a o) (whole_data c w).1)

pub data_always : (c : CoverFacts) (o p : Option (List ℕ)) → (IsWholeCover c → ⊥) → o ≡ p → o ≡ newly (data_of (Held c)) p
data_always c o p n same = same ∙ step (data_of (Held c)) refl
  where
    step : (a : Option (List ℕ)) → data_of (Held c) ≡ a → p ≡ newly a p
    step None h = refl
    step (Some xs) h = absurd (n (data_whole c xs h))

-- a cover that agrees with another and doesn't hold it grows to both together
pub cover_grown : (a b : CoverFacts) → CoversFit a b → (Holds a b → ⊥) → (o : Option (List ℕ))
    → o ≡ newly (data_of (Held a)) (data_of (Held (covers_together a b))) → CoverChange (Held a) (Held (covers_together a b)) (grown_to o)
cover_grown a b fit more None e = (
  λ same. (let one : covers_together a b ≡ a = cc same in more (together_holds a b fit one)),
  (λ s. absurd (cc)),
  sym e,
)
cover_grown a b fit more (Some xs) e = sym e

-- the test of a whole cover says whether it has data
pub tells_data : (b : Bool) (c : CoverFacts) → IsTrue b ↔ IsWholeCover c → b ≡ is_some (data_of (Held c))
tells_data true c h = sym (ap is_some (whole_data c (h.0 refl)).1)
tells_data false c h = at (data_of (Held c)) refl
  where
    at : (o : Option (List ℕ)) → data_of (Held c) ≡ o → false ≡ is_some o
    at None e = refl
    at (Some xs) e = let clash = h.1 (data_whole c xs e) in absurd (cc)

-- ---- how many places a piece adds

insert_len : (m : maps.FinMap nat_cmp ℕ) (i x : ℕ) → maps.len (maps.insert m i x) ≤ maps.len m + 1
insert_len m i x = at (maps.contains_key m i) (maps.len-insert nat_cmp_total m i x)
  where
    at : (b : Bool) → maps.len (maps.insert m i x) ≡ cond b (maps.len m) (maps.len m + 1) → maps.len (maps.insert m i x) ≤ maps.len m + 1
    at true e = omega (arith, e)
    at false e = omega (arith, e)

put_len : (m : maps.FinMap nat_cmp ℕ) (i : ℕ) (xs : List ℕ) → maps.len (with_bytes m i xs) ≤ maps.len m + length xs
put_len m i [] = omega arith
put_len m i (x ∷ xs) = let rest = put_len (maps.insert m i x) (i + 1) xs in let one = insert_len m i x in omega (arith, rest, one)

pub known_more : (c : CoverValue) (p : PieceParts) → known_of (with_piece c p) ≤ known_of c + length p.bytes
known_more Spoilt p = omega arith
known_more (Held a) p = at (covers_agree a (piece_cover p)) refl
  where
    at : (b : Bool) → covers_agree a (piece_cover p) ≡ b → known_of (cond b (Held (covers_together a (piece_cover p))) Spoilt) ≤ maps.len a.bytes + length p.bytes
    at true e =
        let fit = fit_of a (piece_cover p) e in
        let put = put_len a.bytes p.offset p.bytes in
        subst (λ (t : CoverFacts). maps.len t.bytes ≤ maps.len a.bytes + length p.bytes) (with_is a p fit) put
    at false e = omega arith
