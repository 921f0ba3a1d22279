-- Live fragments, and what is kept of them.
use Rattle.std.proofs.Common.{ℕ, ◌≡◌, ◌≤◌, ◌<◌, ◌+◌, refl, sym, subst, ◌∙◌, ap, arith, List, [], ◌∷◌, map, filter, sum_by, ◌-◌, ◌^◌, Bool, true, false, cond, not, min, Option, Some, None}
use Rattle.std.proofs.lemmas.Bool.{leb-true, leb-false}
use Rattle.std.proofs.lemmas.Option.{same_Some}
use Rattle.std.proofs.lemmas.List.Sums.{sum_by-cons}
use Rattle.std.specs.BTreeMap.{btree_map_len, get}
use Rattle.std.specs.Map.{lookup}
use Rattle.nb_fragments.specs.Keys.{key_cmp, key_exact}
use Rattle.nb_fragments.specs.declared.key.Key.{Key}
use Rattle.nb_fragments.specs.declared.limits.TheConstants.{LIFETIME, ROOM}
use Rattle.nb_fragments.specs.declared.waiting.Waiting.{Waiting}
use Rattle.nb_fragments.specs.declared.fragments.Fragments.{Fragments}
use Rattle.nb_fragments.specs.Live.{Came, is_of, of_key, start_of, is_over, live_at}
use Rattle.nb_fragments.specs.Code.Kept.{Known, charge_of, known_of, known_by, kept_at, Waits, still_kept, earliest_in, used_in}

-- ---- what stays live

-- of the fragments whose keys pass a test, those of one key: all, or none
kept_of_key : (P : Key → Bool) (k : Key) (L : List Came) → of_key k (filter (λ c. P c.key) L) ≡ cond (P k) (of_key k L) []
kept_of_key P k [] = at (P k)
  where
    at : (b : Bool) → ◌≡◌ {A = List Came} [] (cond b [] [])
    at true = refl
    at false = refl
kept_of_key P k (c ∷ cs) = at (P c.key) refl (is_of k c) refl (P k) refl (kept_of_key P k cs)
  where
    at : (b : Bool) → P c.key ≡ b → (m : Bool) → is_of k c ≡ m → (d : Bool) → P k ≡ d → of_key k (filter (λ c. P c.key) cs) ≡ cond d (of_key k cs) []
        → of_key k (cond b (c ∷ filter (λ c. P c.key) cs) (filter (λ c. P c.key) cs)) ≡ cond d (cond m (c ∷ of_key k cs) (of_key k cs)) []
    at true e true f true g rec = ap (λ (t : Bool). cond t (c ∷ of_key k (filter (λ c. P c.key) cs)) (of_key k (filter (λ c. P c.key) cs))) f ∙ ap (λ xs. c ∷ xs) rec
    at true e true f false g rec = let same = ap P (key_exact c.key k f) in let clash : true ≡ false = sym e ∙ same ∙ g in absurd (cc clash)
    at true e false f d g rec = ap (λ (t : Bool). cond t (c ∷ of_key k (filter (λ c. P c.key) cs)) (of_key k (filter (λ c. P c.key) cs))) f ∙ rec
    at false e true f true g rec = let same = ap P (key_exact c.key k f) in let clash : false ≡ true = sym e ∙ same ∙ g in absurd (cc clash)
    at false e true f false g rec = rec
    at false e false f d g rec = rec

-- what is kept of a packet that is over is dropped
still : (now : ℕ) (o : Option Waiting) (A : List Came) → known_of o ≡ known_by A → known_of (still_kept now o) ≡ known_by (cond (not (is_over now (start_of A))) A [])
still now None [] e = refl
still now None (c ∷ cs) e = absurd (cc)
still now (Some w) [] e = absurd (cc)
still now (Some w) (c ∷ cs) e =
    let start : w.start ≡ c.time = ap (λ (k : Known). k.start) (same_Some _ _ e) in
    at (is_over now (Some w.start)) (is_over now (Some c.time)) (ap (λ n. is_over now (Some n)) start)
  where
    at : (b d : Bool) → b ≡ d → known_of (cond (not b) (Some w) None) ≡ known_by (cond (not d) (c ∷ cs) [])
    at true true h = refl
    at true false h = absurd (cc h)
    at false true h = absurd (cc h)
    at false false h = e

-- the clock goes on
pub waits_on : (f g : Fragments) (now : ℕ) (live : List Came) → Waits f live → ((k : Key) → kept_at g k ≡ still_kept now (kept_at f k))
    → ((k : Key) (w : Waiting) → kept_at g k ≡ Some w → g.earliest ≤ w.start) → btree_map_len g.waiting ≤ btree_map_len f.waiting
    → charge_of g.waiting ≤ g.used → g.used ≤ ROOM → Waits g (live_at now live)
waits_on f g now live h kept early few charge room = record {
  known = λ k.
      ap known_of (kept k)
      ∙ still now (kept_at f k) (of_key k live) (h.known k)
      ∙ ap known_by (sym (kept_of_key (λ q. not (is_over now (start_of (of_key q live)))) k live));
  early = early;
  few = let most = h.few in omega (arith, few, most);
  charge = charge;
  room = room;
}

-- where nothing is over, all is kept
none_over : (now least : ℕ) (o : Option Waiting) → is_over now (Some least) ≡ false → ((w : Waiting) → o ≡ Some w → least ≤ w.start) → o ≡ still_kept now o
none_over now least None over h = refl
none_over now least (Some w) over h = at (is_over now (Some w.start)) refl
  where
    at : (b : Bool) → is_over now (Some w.start) ≡ b → Some w ≡ cond (not b) (Some w) None
    at true e =
        let late = leb-true (w.start + LIFETIME) now e in
        let first = h w refl in
        let before = leb-false (least + LIFETIME) now over in
        absurd (omega (arith, late, first, before))
    at false e = refl

-- the clock goes on, and nothing is over
pub waits_still : (f g : Fragments) (now : ℕ) (live : List Came) → Waits f live → is_over now (Some f.earliest) ≡ false → g.waiting ≡ f.waiting → g.earliest ≡ f.earliest → g.used ≡ f.used
    → Waits g (live_at now live)
waits_still f g now live h over same least used =
    let kept : (k : Key) → kept_at g k ≡ kept_at f k = λ k. ap (λ m. get key_cmp m k) same in
    waits_on f g now live h
    (λ k. kept k ∙ none_over now f.earliest (kept_at f k) over (h.early k))
    (λ k w e. subst (λ n. n ≤ w.start) (sym least) (h.early k w (sym (kept k) ∙ e)))
    (subst (λ m. btree_map_len m ≤ btree_map_len f.waiting) (sym same) (omega arith))
    (let less = h.charge in let is = ap charge_of same in omega (arith, less, is, used))
    (let most = h.room in omega (arith, most, used))

-- ---- the earliest start

earliest_most : (ws : List Waiting) (m : ℕ) → earliest_in m ws ≤ m
earliest_most [] m = omega arith
earliest_most (w ∷ ws) m = let rest = earliest_most ws (min m w.start) in omega (arith, rest)

pub earliest_found : (test : Key → Bool) (es : List (Key × Waiting)) (m : ℕ) (w : Waiting) → lookup test es ≡ Some w → earliest_in m (map (λ e. e.1) es) ≤ w.start
earliest_found test [] m w h = absurd (cc)
earliest_found test (e ∷ es) m w h = at (test e.0) (earliest_found test es (min m e.1.start) w) h
  where
    at : (b : Bool) → (lookup test es ≡ Some w → earliest_in (min m e.1.start) (map (λ e. e.1) es) ≤ w.start)
        → cond b (Some e.1) (lookup test es) ≡ Some w → earliest_in (min m e.1.start) (map (λ e. e.1) es) ≤ w.start
    at true rec g = let same : e.1.start ≡ w.start = ap (λ (x : Waiting). x.start) (same_Some _ _ g) in let most = earliest_most (map (λ e. e.1) es) (min m e.1.start) in omega (arith, same, most)
    at false rec g = rec g

-- ---- how many bytes count

total-more : (w : Waiting) (ws : List Waiting) → sum_by (λ (x : Waiting). x.bytes) (w ∷ ws) ≡ w.bytes + sum_by (λ (x : Waiting). x.bytes) ws
total-more w ws = sum_by-cons (λ (x : Waiting). x.bytes) w ws

pub used_found : (ws : List Waiting) (u : ℕ) → u + sum_by (λ (x : Waiting). x.bytes) ws < 2 ^ 64 → u + sum_by (λ (x : Waiting). x.bytes) ws ≤ used_in u ws
used_found [] u less = omega arith
used_found (w ∷ ws) u less =
    let more = total-more w ws in
    let added : min (u + w.bytes) (2 ^ 64 - 1) ≡ u + w.bytes = omega (arith, less, more) in
    let rest = used_found ws (u + w.bytes) (omega (arith, less, more)) in
    let same = ap (λ n. used_in n ws) added in
    omega (arith, rest, more, same)

pub filter_less : (p : Key × Waiting → Bool) (es : List (Key × Waiting)) → sum_by (λ (x : Waiting). x.bytes) (map (λ e. e.1) (filter p es)) ≤ sum_by (λ (x : Waiting). x.bytes) (map (λ e. e.1) es)
filter_less p [] = omega arith
filter_less p (e ∷ es) = at (p e) (filter_less p es)
  where
    at : (b : Bool) → sum_by (λ (x : Waiting). x.bytes) (map (λ e. e.1) (filter p es)) ≤ sum_by (λ (x : Waiting). x.bytes) (map (λ e. e.1) es)
        → sum_by (λ (x : Waiting). x.bytes) (map (λ e. e.1) (cond b (e ∷ filter p es) (filter p es))) ≤ sum_by (λ (x : Waiting). x.bytes) (map (λ e. e.1) (e ∷ es))
    at true rec = let a = total-more e.1 (map (λ e. e.1) (filter p es)) in let b = total-more e.1 (map (λ e. e.1) es) in omega (arith, rec, a, b)
    at false rec = let b = total-more e.1 (map (λ e. e.1) es) in omega (arith, rec, b)
