-- Of a payload of port 137 one run of items is answered, with the names in their RDATA.
use Rattle.nb_calls.proofs.Common.{◌≡◌, ◌∙◌, ℕ, ◌+◌, ◌<◌, ◌≤◌, ◌≢◌, List, [], ◌∷◌, ◌++◌, length, take, drop, set, min, Ok, Err, inl, inr, refl, ap, sym, subst, arith, length-append, cases_lt, drop-drop, drop-set-lt, length-set, length-take-le, take-append-drop, take_more_set, Refusal, HasOne, FilledFront, room_of, ReadsEntries, ReadsEntry, ReadsServer, Run, begins, goes_on, ReadsItem}
use Rattle.nb_calls.specs.declared.service_entries.NbtServiceEntry.{NbtServiceEntry}
use Rattle.nb_calls.specs.declared.service_entries.TheConstants.{MOST_ITEMS}
use Rattle.nb_calls.specs.declared.service_reading.NbtServiceItem.{NbtServiceItem}
use Rattle.nb_calls.specs.ServiceParts.{Ends}
use Rattle.nb_calls.proofs.DomainLemmas.{one_domain}

-- ---- one item

-- the RDATA of an item has one answer
one_server : (payload : List ℕ) (item : NbtServiceItem) → HasOne (ReadsServer payload item)
one_server payload item a b (inl (is, p)) (inl (too, q)) = one_domain payload item.contents item.contents_length a b p q
one_server payload item a b (inl (is, p)) (inr (not, e)) = absurd (not is)
one_server payload item a b (inr (not, e)) (inl (is, p)) = absurd (not is)
one_server payload item a b (inr (not, e)) (inr (nor, d)) = e ∙ sym d

-- of an item one thing is answered, its RDATA included
entry_one : (payload : List ℕ) → ((k at : ℕ) → HasOne (ReadsItem payload k at)) → (k at : ℕ) → HasOne (ReadsEntry payload k at)
entry_one payload one k at (Ok e) (Ok f) (item, there, (answer, p, is)) (other, also, (found, q, exact)) =
    let same : other ≡ item = cc (one k at (Ok other) (Ok item) also there) in
    let read = one_server payload item answer found p (subst (λ (i : NbtServiceItem). ReadsServer payload i found) same q) in
    cc (is, exact, same, read)
entry_one payload one k at (Ok e) (Err r) (item, there, is) bad = absurd (cc (one k at (Ok item) (Err r) there bad))
entry_one payload one k at (Err r) (Ok e) bad (item, there, is) = absurd (cc (one k at (Ok item) (Err r) there bad))
entry_one payload one k at (Err r) (Err q) bad worse = cc (one k at (Err q) (Err r) worse bad)

-- ---- many

-- so many items stand at the front of an array, up to this offset, and the rest of it is as it was
pub record Filling (payload : List ℕ) (number place : ℕ) (old : List NbtServiceEntry) (count at : ℕ) (new : List NbtServiceEntry) : Type 0 where
  pub run : Run payload number place (take count new) at
  pub kept : drop count new ≡ drop count old
  pub size : length new ≡ length old

pub filling_begins : (payload : List ℕ) (number place : ℕ) (old : List NbtServiceEntry) → Filling payload number place old 0 place old
filling_begins payload number place old = record { run = begins; kept = refl; size = refl }

-- one more
pub filling_more : (payload : List ℕ) (number place : ℕ) (old : List NbtServiceEntry) (count at : ℕ) (new : List NbtServiceEntry) (entry : NbtServiceEntry)
    → count < length new → Filling payload number place old count at new → ReadsEntry payload (number + count) at (Ok entry)
    → Filling payload number place old (count + 1) entry.item.next (set new count entry)
filling_more payload number place old count at new entry low f read =
    let long : length (take count new) ≡ count = length-take-le count new (omega (arith, low)) in
    let there = subst (λ (k : ℕ). ReadsEntry payload (number + k) at (Ok entry)) (sym long) read in
    record {
      run = subst (λ (es : List NbtServiceEntry). Run payload number place es entry.item.next) (sym (take_more_set new count entry low))
          (goes_on entry f.run there);
      kept = drop-set-lt (count + 1) new count entry (omega arith) ∙ sym (drop-drop 1 count new) ∙ ap (λ (es : List NbtServiceEntry). drop 1 es) f.kept
          ∙ drop-drop 1 count old;
      size = length-set new count entry ∙ f.size;
    }

longer : (xs : List NbtServiceEntry) (x : NbtServiceEntry) → length (xs ++ x ∷ []) ≡ length xs + 1
longer xs x = length-append xs (x ∷ [])

-- a run of no items ends where it begins
first_place : (payload : List ℕ) (number place : ℕ) (xs : List NbtServiceEntry) (at : ℕ) → Run payload number place xs at → length xs ≡ 0
    → at ≡ place
first_place payload number place _ _ begins e = refl
first_place payload number place _ _ (goes_on {entries = ys} y there is) e = absurd (omega (arith, e, longer ys y))

module _ (payload : List ℕ) (number place room : ℕ) (items : (k at : ℕ) → HasOne (ReadsItem payload k at)) where
  one : (k at : ℕ) → HasOne (ReadsEntry payload k at)
  one = entry_one payload items

  -- entries alone, of two that are answered of one item
  one_ok : (k at : ℕ) (a b : NbtServiceEntry) → ReadsEntry payload k at (Ok a) → ReadsEntry payload k at (Ok b) → a ≡ b
  one_ok k at a b h i = cc (one k at (Ok a) (Ok b) h i)

  not_both : (k at : ℕ) (a : NbtServiceEntry) (r : Refusal) → ReadsEntry payload k at (Ok a) → ¬ ReadsEntry payload k at (Err r)
  not_both k at a r h i = absurd (cc (one k at (Ok a) (Err r) h i))

  -- two runs of as many items are one
  same_run : (xs ys : List NbtServiceEntry) (at to : ℕ) → Run payload number place xs at → Run payload number place ys to
      → length xs ≡ length ys → (xs ≡ ys) × (at ≡ to)
  same_run _ _ _ _ begins begins long = (refl, refl)
  same_run _ _ _ _ begins (goes_on {entries = ys} y there is) long = absurd (omega (arith, long, longer ys y))
  same_run _ _ _ _ (goes_on {entries = xs} x here is) begins long = absurd (omega (arith, long, longer xs x))
  same_run _ _ _ _ (goes_on {entries = xs} {at = at} x here is) (goes_on {entries = ys} {at = to} y there also) long =
      let size : length xs ≡ length ys = omega (arith, long, longer xs x, longer ys y) in
      let same = same_run xs ys at to here there size in
      let moved = subst (λ (k : ℕ). ReadsEntry payload (number + k) to (Ok x)) size
      (subst (λ (n : ℕ). ReadsEntry payload (number + length xs) n (Ok x)) same.1 is) in
      let equal : x ≡ y = one_ok (number + length ys) to x y moved also in
      (cc (same.0, equal), ap (λ (e : NbtServiceEntry). e.item.next) equal)

  -- past a run that is followed by a refusal there is no longer one
  none_longer : (xs ys : List NbtServiceEntry) (at to : ℕ) (r : Refusal) → Run payload number place xs at
      → ReadsEntry payload (number + length xs) at (Err r) → Run payload number place ys to → ¬ (length xs < length ys)
  none_longer xs _ at _ r here bad begins low = absurd (omega (arith, low))
  none_longer xs _ at _ r here bad (goes_on {entries = ys} {at = to} y there is) low = elim (cases_lt (length xs) (length ys)) [
    | inl less ↦ none_longer xs ys at to r here bad there less
    | inr high ↦
        let same : length xs ≡ length ys = omega (arith, low, high, longer ys y) in
        let run = same_run xs ys at to here there same in
        not_both (number + length ys) to y r is
        (subst (λ (k : ℕ). ReadsEntry payload (number + k) to (Err r)) same (subst (λ (n : ℕ). ReadsEntry payload (number + length xs) n (Err r)) run.1 bad))
  ]

  -- a run that ends is as long as any other
  not_longer : (xs ys : List NbtServiceEntry) (at to : ℕ) → Run payload number place xs at → Ends payload number room (length xs) at
      → Run payload number place ys to → length ys ≤ room → length ys ≤ length xs
  not_longer xs ys at to here (inl all) there low = omega (arith, all, low)
  not_longer xs ys at to here (inr (some, less, r, bad)) there low = elim (cases_lt (length xs) (length ys)) [
    | inl more ↦ absurd (none_longer xs ys at to r here bad there more)
    | inr few ↦ few
  ]

  within : (xs : List NbtServiceEntry) (at : ℕ) → Ends payload number room (length xs) at → length xs ≤ room
  within xs at (inl all) = omega (arith, all)
  within xs at (inr (some, less, r, bad)) = omega (arith, less)

  -- a run that ends has an item, where there is room for one
  none_at_first : (xs : List NbtServiceEntry) (at : ℕ) (r : Refusal) → Run payload number place xs at → Ends payload number room (length xs) at
      → 0 < room → ¬ ReadsEntry payload number place (Err r)
  none_at_first xs at r here ends some bad =
      let first = subst (λ (k : ℕ). ReadsEntry payload k place (Err r)) (omega arith) bad in
      none_longer [] xs place at r begins first here (elim ends [
        | inl all ↦ omega (arith, all, some)
        | inr h ↦ omega (arith, h.0)
      ])

  -- one run is answered, or one refusal
  pub one_entries : HasOne (ReadsEntries payload number place room)
  one_entries (Ok xs) (Ok ys) (at, here, ends) (to, there, stops) =
      let few = not_longer ys xs to at there stops here (within xs at ends) in
      let many = not_longer xs ys at to here ends there (within ys to stops) in
      ap (λ (es : List NbtServiceEntry). Ok es) (same_run xs ys at to here there (omega (arith, few, many))).0
  one_entries (Ok xs) (Err r) (at, here, ends) (some, bad) = absurd (none_at_first xs at r here ends some bad)
  one_entries (Err r) (Ok xs) (some, bad) (at, here, ends) = absurd (none_at_first xs at r here ends some bad)
  one_entries (Err r) (Err q) (some, bad) (also, worse) = cc (one number place (Err r) (Err q) bad worse)

-- ---- what is filled in

module _ (payload : List ℕ) (number place room : ℕ) (old new : List NbtServiceEntry) (count at : ℕ) (f : Filling payload number place old count at new) where
  ended : count ≤ length old → Ends payload number room count at
      → FilledFront (ReadsEntries payload number place room) old new (Ok count)
  ended low ends =
      let long : length (take count new) ≡ count = length-take-le count new (omega (arith, low, f.size)) in (
        take count new,
        (at, f.run, subst (λ (n : ℕ). Ends payload number room n at) (sym long) ends),
        sym (take-append-drop count new) ∙ ap (λ (es : List NbtServiceEntry). take count new ++ es)
            (f.kept ∙ ap (λ (n : ℕ). drop n old) (sym long)),
        sym long,
      )

  -- there is room for no more
  pub filled_all : count ≤ room → room ≤ count → room ≤ length old
      → FilledFront (ReadsEntries payload number place room) old new (Ok count)
  filled_all low high fits = ended (omega (arith, low, fits)) (inl (omega (arith, low, high)))

  -- the next one is refused
  pub filled_some : (r : Refusal) → count ≢ 0 → count < room → room ≤ length old → ReadsEntry payload (number + count) at (Err r)
      → FilledFront (ReadsEntries payload number place room) old new (Ok count)
  filled_some r some low fits bad = ended (omega (arith, low, fits)) (inr (omega (arith, some), low, r, bad))

  -- the first one is
  pub filled_none : (r : Refusal) → count ≡ 0 → 0 < room → ReadsEntry payload (number + count) at (Err r)
      → FilledFront (ReadsEntries payload number place room) old new (Err r)
  filled_none r none some bad =
      let here = first_place payload number place (take count new) at f.run (ap (λ (n : ℕ). length (take n new)) none) in
      let moved = subst (λ (n : ℕ). ReadsEntry payload (number + count) n (Err r)) here bad in
      let first = subst (λ (k : ℕ). ReadsEntry payload k place (Err r)) (omega (arith, none)) moved in
      ((some, first), subst (λ (n : ℕ). drop n new ≡ drop n old) none f.kept)

-- into an array without room nothing is filled in
pub filled_none_wanted : (payload : List ℕ) (number place : ℕ) (old : List NbtServiceEntry) → length old ≡ 0
    → FilledFront (ReadsEntries payload number place (room_of old)) old old (Ok 0)
filled_none_wanted payload number place old none =
    let room : room_of old ≡ 0 = ap (λ (n : ℕ). min n MOST_ITEMS) none in
    filled_all payload number place (room_of old) old old 0 place (filling_begins payload number place old) (omega arith)
    (omega (arith, room)) (omega (arith, room))
