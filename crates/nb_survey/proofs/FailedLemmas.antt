-- A row of the table of queries that found nothing, after one more query.
use Rattle.std.proofs.Common.{ℕ, ◌≡◌, ◌+◌, ◌-◌, ◌^◌, min, refl, ◌∙◌, ap, List, [], ◌∷◌, ◌++◌, Bool, true, false, cond, filter, sum_by, append-nil, append_assoc, arith, length, take, zero, suc, get_or, ◌<◌, sym, Option, Some, None}
use Rattle.std.proofs.lemmas.List.{take_more}
use Rattle.std.specs.List.{flat_map}
use Rattle.std.proofs.lemmas.List.Elements.{filter-append}
use Rattle.std.proofs.lemmas.List.Sums.{fold-append}
use Rattle.nb_survey.specs.declared.query.Query.{Query}
use Rattle.nb_survey.specs.declared.query_row.QueryRow.{QueryRow}
use Rattle.nb_survey.specs.QueryRows.{frames_of, from_failed, later_reply, more, row_frames, row_from, row_more, row_of, same_row, unanswered}

bounded : (total all : ℕ) (w : ℕ) → all ≡ total + w → min all (2 ^ 64 - 1) ≡ min (min total (2 ^ 64 - 1) + w) (2 ^ 64 - 1)
bounded total all w e = omega (arith, e)

begun_by : (b : Bool) (q : Query) → q.is_answered ≡ b → row_from (cond b [] (q ∷ [])) ≡ cond b None (Some (more q (record { packets = 0; since = q.since; reply = None })))
begun_by true q e = refl
begun_by false q e = refl

more_by : (y : Query) (ys : List Query) (q : Query) → row_from (y ∷ (ys ++ q ∷ [])) ≡ row_more (row_from (y ∷ ys)) q
more_by y ys q = ap Some (λ i. record {
  packets = bounded (sum_by unanswered (y ∷ ys)) (sum_by unanswered (y ∷ (ys ++ q ∷ []))) (unanswered q)
      (fold-append (λ (a : ℕ) (x : Query). a + unanswered x) 0 (y ∷ ys) (q ∷ [])) i;
  since = y.since;
  reply = fold-append (λ reply (x : Query). later_reply reply x.reply) None (y ∷ ys) (q ∷ []) i;
})

failed_by : (b : Bool) (y : Query) (ys : List Query) (q : Query) → row_from (from_failed (ys ++ q ∷ [])) ≡ row_more (row_from (from_failed ys)) q
    → row_from (cond b (from_failed (ys ++ q ∷ [])) (y ∷ (ys ++ q ∷ []))) ≡ row_more (row_from (cond b (from_failed ys) (y ∷ ys))) q
failed_by true y ys q rest = rest
failed_by false y ys q rest = more_by y ys q

failed_more : (ys : List Query) (q : Query) → row_from (from_failed (ys ++ q ∷ [])) ≡ row_more (row_from (from_failed ys)) q
failed_more [] q = begun_by q.is_answered q refl
failed_more (y ∷ ys) q = failed_by y.is_answered y ys q (failed_more ys q)

row_by : (b : Bool) (xs : List Query) (q : Query) → row_from (from_failed (xs ++ cond b (q ∷ []) [])) ≡ cond b (row_more (row_from (from_failed xs)) q) (row_from (from_failed xs))
row_by true xs q = failed_more xs q
row_by false xs q = ap (λ ys. row_from (from_failed ys)) (append-nil xs)

row_of-more : (one : Query) (xs : List Query) (q : Query) → row_of one (xs ++ q ∷ []) ≡ cond (same_row one q) (row_more (row_of one xs) q) (row_of one xs)
row_of-more one xs q =
    ap (λ ys. row_from (from_failed ys)) (filter-append (same_row one) xs (q ∷ [])) ∙ row_by (same_row one q) (filter (same_row one) xs) q

-- one more of a list
pub row_turn : (one : Query) (xs : List Query) (i : ℕ) (d : Query) (row : Option QueryRow) → row ≡ row_of one (take i xs) → i < length xs
    → cond (same_row one (get_or xs i d)) (row_more row (get_or xs i d)) row ≡ row_of one (take (i + 1) xs)
row_turn one xs i d row e h =
    ap (λ r. cond (same_row one (get_or xs i d)) (row_more r (get_or xs i d)) r) e
    ∙ sym (ap (row_of one) (take_more xs i d h) ∙ row_of-more one (take i xs) (get_or xs i d))

take_front : {A : Type 0} (n : ℕ) (xs ys : List A) → take n (take n xs ++ ys) ≡ take n (xs ++ ys)
take_front zero xs ys = refl
take_front (suc n) [] ys = refl
take_front (suc n) (x ∷ xs) ys = ap (λ zs. x ∷ zs) (take_front n xs ys)

flat_map-more : {A B : Type 0} (f : A → List B) (xs : List A) (x : A) → flat_map f (xs ++ x ∷ []) ≡ flat_map f xs ++ f x
flat_map-more f [] x = append-nil (f x)
flat_map-more f (y ∷ ys) x = ap (λ zs. f y ++ zs) (flat_map-more f ys x) ∙ sym (append_assoc (f y) (flat_map f ys) (f x))

pub frames_turn : (one : Query) (xs : List Query) (i : ℕ) (d : Query) (frames : List ℕ) → frames ≡ frames_of one (take i xs) → i < length xs
    → take 16 (frames ++ row_frames one (get_or xs i d)) ≡ frames_of one (take (i + 1) xs)
frames_turn one xs i d frames e h =
    ap (λ zs. take 16 (zs ++ row_frames one (get_or xs i d))) e
    ∙ (take_front 16 (flat_map (row_frames one) (take i xs)) (row_frames one (get_or xs i d))
    ∙ sym (ap (frames_of one) (take_more xs i d h) ∙ ap (take 16) (flat_map-more (row_frames one) (take i xs) (get_or xs i d))))
