-- What a reading of a saved table finds stands there.
use Rattle.nb_table.proofs.Common.{◌≡◌, ◌+◌, ℕ, suc, zero, List, ◌++◌, length, Option, None, Some, Ok, refl, sym, ap, subst, ◌∙◌, arith, length-append, ◌-◌, ◌<◌, map, [], ◌∷◌, Bool, true, false, ◌&&◌, Err, append_assoc, append-nil, ◌==◌, ◌≤◌, take, get_or, w16, w32, to_be_bytes, Key, SavedForm, First, Second, EntryValue, is_short, magic, key_bytes, keyed_bytes, entries_bytes, IsAfter, key_at, entries_at, table_at, IsRead, after_magic, KeyAt, no_magic, entry_bytes, gives, goes_on, whole, good, stops, entry_at, Field, bad, Judged, list_all, starts_with, unsigned_Decides, pointwise_decides, true≢false, AreJudged, IsJudged, take_all}
use Rattle.nb_streams.specs.Places.{StandsAt, NumberAt}
use Rattle.nb_entries.specs.Shared.FoundLemmas.{Spells, entry_found, spells_none, spells_then}
use Rattle.std.proofs.lemmas.List.Folds.{list_all-append}
use Rattle.nb_entries.specs.declared.saved.LoadFault.{LoadFault}
use Rattle.nb_entries.specs.declared.saved.LoadFault.TheVariants.{NotCanonical}
use Rattle.nb_streams.specs.PacketFacts.{stands_same, one_number_16, one_number_32}
use Rattle.nb_names.proofs.LabelsLemmas.{stands_before, stands_behind}
use Rattle.nb_entries.specs.Shared.OutcomeLemmas.{IsOne, one_entry, one_field, one_gives, one_judged, one_then}

-- the magic has four bytes
pub magic_size : (form : SavedForm) → length (magic form) ≡ 4
magic_size First = refl
magic_size Second = refl

key_length : (k : Key) → length k.ip ≡ 4 → length (key_bytes k) ≡ 8
key_length k four = omega (arith, length-append k.ip (to_be_bytes w16 k.port ++ to_be_bytes w16 k.id), four)

pub key_found : (input : List ℕ) (before : Option Key) (at next : ℕ) (k : Key) → key_at input before at (Ok (k, next)) → Spells input at (key_bytes k) next × IsAfter before k
key_found input before at next k (goes_on l n (whole m h i) (good g)) =
    (record { there = i.stands; behind = ap (λ (n : ℕ). at + n) (sym (key_length m i.fits.ip)) }, g)

pub entries_found : (form : SavedForm) (input : List ℕ) (count : ℕ) (before : Option Key) (at next : ℕ) (es : List (Key × EntryValue)) → entries_at form input count before at (Ok (es, next)) →
    Spells input at (entries_bytes form es) next × (length es ≡ count)
entries_found form input zero before at next es gives = (spells_none input at, refl)
entries_found form input (suc count) before at next es (goes_on key a k (goes_on e b h (goes_on fs c r gives))) =
    let rest = entries_found form input count (Some key) b c fs r in
    let first = spells_then input at a b (key_bytes key) (entry_bytes form e) (key_found input before at a key k).0 (entry_found form input a b e h) in (
      spells_then input at b c (keyed_bytes form (key, e)) (entries_bytes form fs) first rest.0,
      ap suc rest.1,
    )

-- the whole input
pub read_found : (form : SavedForm) (input : List ℕ) (es : List (Key × EntryValue)) (last : ℕ) → StandsAt input 0 (magic form) → table_at form input 4 (Ok (es, last)) → input ≡ magic form ++ (to_be_bytes w32 (length es) ++ entries_bytes form es)
read_found form input es last m (goes_on n a (whole i f c) (goes_on fs b r (good g))) =
    let rest = entries_found form input n None a b fs r in
    let count : Spells input 4 (to_be_bytes w32 (length fs)) a = record { there = subst (λ (i : ℕ). StandsAt input 4 (to_be_bytes w32 i)) (sym rest.1) c.bytes; behind = refl } in
    let bytes : List ℕ = magic form ++ (to_be_bytes w32 (length fs) ++ entries_bytes form fs) in
    let all : Spells input 0 bytes b =
    spells_then input 0 4 b (magic form) (to_be_bytes w32 (length fs) ++ entries_bytes form fs) (record { there = m; behind = omega (arith, magic_size form) })
    (spells_then input 4 a b (to_be_bytes w32 (length fs)) (entries_bytes form fs) count rest.0) in
    sym (take_all (length bytes) input (omega (arith, all.behind, g))) ∙ all.there

-- ---- Rows of entries, read one after the other.

-- ---- entries

-- so many entries have been read of `total`, which begin at `at`: these; the next one stands at `here`
pub record EntriesSoFar (form : SavedForm) (input : List ℕ) (total at counter : ℕ) (before : Option Key) (here : ℕ) (done : List (Key × EntryValue)) : Type 0 where
  pub fault : (left : ℕ) (f : LoadFault) → counter + left ≡ total → entries_at form input left before here (Err f) → entries_at form input total None at (Err f)
  pub found : (left next : ℕ) (es : List (Key × EntryValue)) → counter + left ≡ total → entries_at form input left before here (Ok (es, next)) → entries_at form input total None at (Ok (done ++ es, next))

pub entries_begun : (form : SavedForm) (input : List ℕ) (total at : ℕ) → EntriesSoFar form input total at 0 None at []
entries_begun form input total at = record {
  fault = λ left f e h. (let all : left ≡ total = omega (arith, e) in subst (λ (n : ℕ). entries_at form input n None at (Err f)) all h);
  found = λ left next es e h. (let all : left ≡ total = omega (arith, e) in subst (λ (n : ℕ). entries_at form input n None at (Ok (es, next))) all h);
}

pub entries_turn : (form : SavedForm) (input : List ℕ) (total at counter : ℕ) (before : Option Key) (here behind next : ℕ) (done : List (Key × EntryValue)) (k : Key) (v : EntryValue) → EntriesSoFar form input total at counter before here done
    → key_at input before here (Ok (k, behind)) → entry_at form input behind (Ok (v, next)) → EntriesSoFar form input total at (counter + 1) (Some k) next (done ++ (k, v) ∷ [])
entries_turn form input total at counter before here behind next done k v s g h = record {
  fault = λ left f e r. s.fault (suc left) f (omega (arith, e)) (goes_on k behind g (goes_on v next h (stops f r)));
  found = λ left last es e r.
      subst (λ (fs : List (Key × EntryValue)). entries_at form input total None at (Ok (fs, last))) (sym (append_assoc done ((k, v) ∷ []) es))
      (s.found (suc left) last ((k, v) ∷ es) (omega (arith, e)) (goes_on k behind g (goes_on v next h (goes_on es last r gives))));
}

pub key_stopped : (form : SavedForm) (input : List ℕ) (total at counter : ℕ) (before : Option Key) (here : ℕ) (done : List (Key × EntryValue)) (f : LoadFault) → EntriesSoFar form input total at counter before here done → counter < total
    → key_at input before here (Err f) → entries_at form input total None at (Err f)
key_stopped form input total at counter before here done f s below h = s.fault (suc (total - (counter + 1))) f (omega arith) (stops f h)

pub entry_stopped : (form : SavedForm) (input : List ℕ) (total at counter : ℕ) (before : Option Key) (here behind : ℕ) (done : List (Key × EntryValue)) (k : Key) (f : LoadFault) → EntriesSoFar form input total at counter before here done → counter < total
    → key_at input before here (Ok (k, behind)) → entry_at form input behind (Err f) → entries_at form input total None at (Err f)
entry_stopped form input total at counter before here behind done k f s below g h = s.fault (suc (total - (counter + 1))) f (omega arith) (goes_on k behind g (stops f h))

pub entries_ended : (form : SavedForm) (input : List ℕ) (total at counter : ℕ) (before : Option Key) (here : ℕ) (done : List (Key × EntryValue)) → EntriesSoFar form input total at counter before here done → counter ≡ total → entries_at form input total None at (Ok (done, here))
entries_ended form input total at counter before here done s all =
    subst (λ (es : List (Key × EntryValue)). entries_at form input total None at (Ok (es, here))) (append-nil done) (s.found 0 here [] (omega (arith, all)) gives)

-- a test of all but the last, and of the last
pub tested_more : (n : ℕ) (done : List (Key × EntryValue)) (k : Key) (v : EntryValue) → list_all (λ (e : Key × EntryValue). is_short n e.1) (done ++ (k, v) ∷ []) ≡ (list_all (λ (e : Key × EntryValue). is_short n e.1) done && is_short n v)
tested_more n done k v = list_all-append (λ (e : Key × EntryValue). is_short n e.1) done ((k, v) ∷ []) ∙ ap (λ b. list_all (λ (e : Key × EntryValue). is_short n e.1) done && b) (and_true (is_short n v))
  where
    and_true : (b : Bool) → (b && true) ≡ b
    and_true b = elim b as (λ v. (v && true) ≡ v) [ true ↦ refl | false ↦ refl ]

pub keys_more : (done : List (Key × EntryValue)) (k : Key) (v : EntryValue) → map (λ e. e.0) (done ++ (k, v) ∷ []) ≡ map (λ e. e.0) done ++ k ∷ []
keys_more [] k v = refl
keys_more (e ∷ done) k v = ap (λ (ks : List Key). e.0 ∷ ks) (keys_more done k v)

-- ---- The first bytes of a saved table, tested, and the readings of its parts put together.

pub magic_there : (form : SavedForm) (input : List ℕ) → starts_with ◌==◌ input (magic form) ≡ true → StandsAt input 0 (magic form)
magic_there First input h = sym ((pointwise_decides unsigned_Decides (magic First) (take 4 input)).0 h)
magic_there Second input h = sym ((pointwise_decides unsigned_Decides (magic Second) (take 4 input)).0 h)

pub magic_absent : (form : SavedForm) (input : List ℕ) → starts_with ◌==◌ input (magic form) ≡ false → StandsAt input 0 (magic form) → ⊥
magic_absent First input h there = true≢false (sym ((pointwise_decides unsigned_Decides (magic First) (take 4 input)).1 (sym there)) ∙ h)
magic_absent Second input h there = true≢false (sym ((pointwise_decides unsigned_Decides (magic Second) (take 4 input)).1 (sym there)) ∙ h)

-- neither form's magic stands there
pub magics_absent : (input : List ℕ) → starts_with ◌==◌ input (magic First) ≡ false → starts_with ◌==◌ input (magic Second) ≡ false → (form : SavedForm) → StandsAt input 0 (magic form) → ⊥
magics_absent input h k First = magic_absent First input h
magics_absent input h k Second = magic_absent Second input k

-- the number of keys is cut off
pub count_cut : (form : SavedForm) (input : List ℕ) (f : LoadFault) → StandsAt input 0 (magic form) → Field input 4 4 (NumberAt input 4 w32) (Err f) → IsRead input (Err f)
count_cut form input f m h = after_magic form m (stops f h)

-- an entry has a fault
pub entries_failed : (form : SavedForm) (input : List ℕ) (count first : ℕ) (f : LoadFault) → StandsAt input 0 (magic form) → Field input 4 4 (NumberAt input 4 w32) (Ok (count, first)) → entries_at form input count None first (Err f) → IsRead input (Err f)
entries_failed form input count first f m c h = after_magic form m (goes_on count first c (stops f h))

-- there are bytes after the last entry
pub bytes_after : (form : SavedForm) (input : List ℕ) (count first limit most last : ℕ) (short few : Bool) → StandsAt input 0 (magic form) → Field input 4 4 (NumberAt input 4 w32) (Ok (count, first)) → AreJudged form input count limit most first short few last → last < length input → IsRead input (Err (NotCanonical last))
bytes_after form input count first limit most last short few m c j more =
    after_magic form m (goes_on count first c (goes_on j.entries last j.read (bad (λ h. omega (arith, more, h)))))

-- all is judged
pub all_judged : (form : SavedForm) (input : List ℕ) (count first limit most last : ℕ) (short few : Bool) → StandsAt input 0 (magic form) → Field input 4 4 (NumberAt input 4 w32) (Ok (count, first)) → AreJudged form input count limit most first short few last → length input ≤ last → IsJudged input limit most count short few
all_judged form input count first limit most last short few m c j none = record {
  entries = j.entries;
  last = last;
  read = after_magic form m (goes_on count first c (goes_on j.entries last j.read (good none)));
  counted = sym (entries_found form input count None first last j.entries j.read).1;
  tested = j.tested;
  few_counted = j.counted;
}

-- ---- A reading of a saved table has one outcome.

one_key_at : (input : List ℕ) (at : ℕ) (k l : Key) → KeyAt input at k → KeyAt input at l → k ≡ l
one_key_at input at k l a b =
    let ip : k.ip ≡ l.ip = stands_same input at k.ip l.ip (stands_before input at k.ip _ a.stands) (stands_before input at l.ip _ b.stands) (a.fits.ip ∙ sym b.fits.ip) in
    let first : StandsAt input (at + 4) (to_be_bytes w16 k.port ++ to_be_bytes w16 k.id) =
    subst (λ (n : ℕ). StandsAt input (at + n) (to_be_bytes w16 k.port ++ to_be_bytes w16 k.id)) a.fits.ip (stands_behind input at k.ip _ a.stands) in
    let second : StandsAt input (at + 4) (to_be_bytes w16 l.port ++ to_be_bytes w16 l.id) =
    subst (λ (n : ℕ). StandsAt input (at + n) (to_be_bytes w16 l.port ++ to_be_bytes w16 l.id)) b.fits.ip (stands_behind input at l.ip _ b.stands) in
    let port : k.port ≡ l.port = one_number_16 input (at + 4) k.port l.port
    (record { fits = a.fits.port; bytes = stands_before input (at + 4) (to_be_bytes w16 k.port) _ first })
    (record { fits = b.fits.port; bytes = stands_before input (at + 4) (to_be_bytes w16 l.port) _ second }) in
    let id : k.id ≡ l.id = one_number_16 input (at + 4 + 2) k.id l.id
    (record { fits = a.fits.id; bytes = stands_behind input (at + 4) (to_be_bytes w16 k.port) _ first })
    (record { fits = b.fits.id; bytes = stands_behind input (at + 4) (to_be_bytes w16 l.port) _ second }) in
    λ i. record { ip = ip i; port = port i; id = id i }

one_key : (input : List ℕ) (before : Option Key) (at : ℕ) → IsOne (key_at input before at)
one_key input before at =
    one_then (Field input at 8 (KeyAt input at)) (Judged at (IsAfter before)) (one_field input at 8 (KeyAt input at) (one_key_at input at))
    (λ key next. one_judged at (IsAfter before) key next)

pub one_entries : (form : SavedForm) (input : List ℕ) (count : ℕ) (before : Option Key) (at : ℕ) → IsOne (entries_at form input count before at)
one_entries form input zero before at = one_gives [] at
one_entries form input (suc count) before at =
    one_then (key_at input before at) _ (one_key input before at) (λ key behind.
    one_then (entry_at form input behind) _ (one_entry form input behind) (λ entry next.
    one_then (entries_at form input count (Some key) next) _ (one_entries form input count (Some key) next) (λ entries last. one_gives _ last)))

one_table : (form : SavedForm) (input : List ℕ) (at : ℕ) → IsOne (table_at form input at)
one_table form input at =
    one_then (Field input at 4 (NumberAt input at w32)) _ (one_field input at 4 (NumberAt input at w32) (λ m n h k. one_number_32 input at m n h k)) (λ count next.
    one_then (entries_at form input count None next) _ (one_entries form input count None next) (λ entries last.
    one_judged last (λ all. length input ≤ last) entries last))

-- an input has one form
pub one_form : (input : List ℕ) (f g : SavedForm) → StandsAt input 0 (magic f) → StandsAt input 0 (magic g) → f ≡ g
one_form input First First h k = refl
one_form input Second Second h k = refl
one_form input First Second h k = let same = stands_same input 0 (magic First) (magic Second) h k refl in absurd (omega (arith, ap (λ (r : List ℕ). get_or r 3 0) same))
one_form input Second First h k = let same = stands_same input 0 (magic Second) (magic First) h k refl in absurd (omega (arith, ap (λ (r : List ℕ). get_or r 3 0) same))

pub one_read : (input : List ℕ) → IsOne (IsRead input)
one_read input o p (no_magic h) (no_magic k) = refl
one_read input o p (no_magic h) (after_magic g k t) = absurd (h g k)
one_read input o p (after_magic f h t) (no_magic k) = absurd (k f h)
one_read input o p (after_magic f h t) (after_magic g k u) =
    one_table g input 4 o p (subst (λ (form : SavedForm). table_at form input 4 o) (one_form input f g h k) t) u
