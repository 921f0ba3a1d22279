-- An input that was read is the saved bytes of the table of its entries.
use Rattle.nb_table.proofs.Common.{◌≡◌, inl, inr, ℕ, suc, zero, List, ◌∷◌, ◌++◌, length, Option, None, Some, Ok, sym, ap, ap₂, subst, ◌∙◌, [], Bool, true, false, cond, refl, ◌+◌, zero-add, arith, length-append, ◌≤◌, drop, get_or, T, Decides, w32, to_be_bytes, w16, list_all, AllByRecursion, is_sorted, below_all, Key, key_cmp, key_cmp_total, key_cmp_exact, SavedForm, First, Second, Contents, EntryValue, IsEntry, is_short, IsShort, IsTable, AllShort, magic, entries_bytes, saved_as, IsSaved, key_bytes, keyed_bytes, saved, saved_first, HasNoPromise, IsAfter, entries_at, IsRead, after_magic, key_at, KeyAt, FitsKeyed, FitsSaved, gives, goes_on, whole, good, Field, is_0, is_1, entry_at, Held, Spoilt, OnHeld, sorted_entries, T_left, T_right, T_both, none-some, same_Some, Less, eq_by_cmp, drop_more, MAX_LENGTH, facts_bytes, entry_bytes, less_is, take_all}
use Rattle.std.specs.FinMap as maps
use Rattle.nb_streams.specs.Places.{StandsAt, NumberAt}
use Rattle.nb_table.proofs.Limits.CountLemmas.{all_short_decides}
use Rattle.nb_table.proofs.SavedReading.FoundLemmas.{key_found, entries_found, read_found, magic_size}
use Rattle.nb_entries.specs.Shared.RowLemmas.{entry_formed, entry_plain}
use Rattle.nb_streams.specs.PacketFacts.{stands_fits}
use Rattle.nb_datagram.specs.Header.{IsKey}
use Rattle.nb_entries.specs.Shared.FoundLemmas.{Spells, spells_then}
use Rattle.nb_entries.specs.Shared.SavedLemmas.{each_found}
use Rattle.nb_entries.specs.Shared.ReadBackLemmas.{InForm, any_form, byte_back, facts_back, split}
use Rattle.nb_table.proofs.Limits.SourceLemmas.{is_less}

-- ---- keys ascend

pub below_less : (b k : Key) (es : List (Key × EntryValue)) → key_cmp b k ≡ Less → T (below_all key_cmp k es) → T (below_all key_cmp b es)
below_less b k [] h t = tt
below_less b k (e ∷ es) h t =
    T_both _ _ (less_is (key_cmp b e.0) (key_cmp_total.trans b k e.0 h (is_less (key_cmp k e.0) (T_left _ _ t)))) (below_less b k es h (T_right _ _ t))

-- the key before, if there is one, is below each of these
abbrev pub Above : Option Key → List (Key × EntryValue) → Type 0
Above None es = Unit {0}
Above (Some before) es = T (below_all key_cmp before es)

pub above_none : (before : Option Key) → Above before []
above_none None = tt
above_none (Some b) = tt

pub record Ascend (before : Option Key) (es : List (Key × EntryValue)) : Type 0 where
  pub sorted : T (is_sorted key_cmp es)
  pub above : Above before es

pub found_in : (P : EntryValue → Type 0) (es : List (Key × EntryValue)) → AllByRecursion (λ (e : Key × EntryValue). P e.1) es → (q : Key) (x : EntryValue) → maps.find key_cmp q es ≡ Some x → P x
found_in P [] h q x f = absurd (none-some x f)
found_in P (e ∷ es) h q x f = step (eq_by_cmp key_cmp q e.0) f (found_in P es h.1 q x)
  where
    step : (b : Bool) → cond b (Some e.1) (maps.find key_cmp q es) ≡ Some x → (maps.find key_cmp q es ≡ Some x → P x) → P x
    step true g rec = subst P (same_Some e.1 x g) h.0
    step false g rec = rec g

above_more : (before : Option Key) (key : Key) (e : EntryValue) (es : List (Key × EntryValue)) → IsAfter before key → T (below_all key_cmp key es) → Above before ((key, e) ∷ es)
above_more None key e es h t = tt
above_more (Some b) key e es h t = T_both _ _ (less_is (key_cmp b key) h) (below_less b key es h t)

pub entries_ascend : (form : SavedForm) (input : List ℕ) (count : ℕ) (before : Option Key) (at next : ℕ) (es : List (Key × EntryValue)) → entries_at form input count before at (Ok (es, next)) → Ascend before es
entries_ascend form input zero before at next es gives = record { sorted = tt; above = above_none before }
entries_ascend form input (suc count) before at next es (goes_on key a k (goes_on e b h (goes_on fs c r gives))) =
    let rest = entries_ascend form input count (Some key) b c fs r in
    record {
      sorted = T_both _ _ rest.above rest.sorted;
      above = above_more before key e fs (key_found input before at a key k).1 rest.above;
    }

entries_formed : (form : SavedForm) (input : List ℕ) (count : ℕ) (before : Option Key) (at next : ℕ) (es : List (Key × EntryValue)) → entries_at form input count before at (Ok (es, next)) → AllByRecursion (λ (e : Key × EntryValue). IsEntry e.1) es
entries_formed form input zero before at next es gives = tt
entries_formed form input (suc count) before at next es (goes_on key a k (goes_on e b h (goes_on fs c r gives))) =
    (entry_formed form input a b e h, entries_formed form input count (Some key) b c fs r)

-- ---- the whole input

-- the table of entries
abbrev pub table_with : List (Key × EntryValue) → Contents
table_with es = maps.from_entries {R = key_cmp} es

-- the form of an input that was read, and its entries
pub record Inside (input : List ℕ) (es : List (Key × EntryValue)) (last : ℕ) : Type 0 where
  pub form : SavedForm
  pub stands : StandsAt input 0 (magic form)
  pub entries : entries_at form input (length es) None 8 (Ok (es, last))
  pub bytes : input ≡ magic form ++ (to_be_bytes w32 (length es) ++ entries_bytes form es)

pub read_inside : (input : List ℕ) (es : List (Key × EntryValue)) (last : ℕ) → IsRead input (Ok (es, last)) → Inside input es last
read_inside input es last (after_magic form m (goes_on n a (whole i f c) (goes_on fs b r (good g)))) = record {
  form = form;
  stands = m;
  entries = subst (λ (k : ℕ). entries_at form input k None 8 (Ok (fs, b))) (sym (entries_found form input n None 8 b fs r).1) r;
  bytes = read_found form input fs b m (goes_on n a (whole i f c) (goes_on fs b r (good g)));
}

read_sorted : (input : List ℕ) (es : List (Key × EntryValue)) (last : ℕ) → IsRead input (Ok (es, last)) → T (is_sorted key_cmp es)
read_sorted input es last h = let w = read_inside input es last h in (entries_ascend w.form input (length es) None 8 last es w.entries).sorted

pub read_entries : (input : List ℕ) (es : List (Key × EntryValue)) (last : ℕ) → IsRead input (Ok (es, last)) → maps.entries (table_with es) ≡ es
read_entries input es last h = sorted_entries key_cmp_total key_cmp_exact es (read_sorted input es last h)

pub read_len : (input : List ℕ) (es : List (Key × EntryValue)) (last : ℕ) → IsRead input (Ok (es, last)) → maps.len (table_with es) ≡ length es
read_len input es last h = maps.len-entries (table_with es) ∙ ap length (read_entries input es last h)

entries_plain : (input : List ℕ) (count : ℕ) (before : Option Key) (at next : ℕ) (es : List (Key × EntryValue)) → entries_at First input count before at (Ok (es, next)) → AllByRecursion (λ (e : Key × EntryValue). OnHeld (λ a. a.cover.marks.promise ≡ None) e.1) es
entries_plain input zero before at next es gives = tt
entries_plain input (suc count) before at next es (goes_on key a k (goes_on e b h (goes_on fs c r gives))) =
    (entry_plain input a b e h, entries_plain input count (Some key) b c fs r)

found_as : (form : SavedForm) (input : List ℕ) (es : List (Key × EntryValue)) → maps.len (table_with es) ≡ length es → maps.entries (table_with es) ≡ es → input ≡ magic form ++ (to_be_bytes w32 (length es) ++ entries_bytes form es) → input ≡ saved_as form (table_with es)
found_as form input es count same h =
    h ∙ ap₂ (λ (n : ℕ) (fs : List (Key × EntryValue)). magic form ++ (to_be_bytes w32 n ++ entries_bytes form fs)) (sym count) (sym same)

pub read_saved : (input : List ℕ) (es : List (Key × EntryValue)) (last : ℕ) → IsRead input (Ok (es, last)) → IsSaved input (table_with es)
read_saved input es last h = let w = read_inside input es last h in by_form w.form w.entries w.bytes
  where
    by_form : (form : SavedForm) → entries_at form input (length es) None 8 (Ok (es, last)) → input ≡ magic form ++ (to_be_bytes w32 (length es) ++ entries_bytes form es) → IsSaved input (table_with es)
    by_form Second r b = inl (found_as Second input es (read_len input es last h) (read_entries input es last h) b)
    by_form First r b = inr (
      found_as First input es (read_len input es last h) (read_entries input es last h) b,
      λ k e f. found_in (OnHeld (λ a. a.cover.marks.promise ≡ None)) es (entries_plain input (length es) None 8 last es r) k (Held e) (sym (maps.get-from_entries key_cmp_total es k) ∙ f),
    )

pub read_formed : (input : List ℕ) (es : List (Key × EntryValue)) (last : ℕ) → IsRead input (Ok (es, last)) → IsTable (table_with es)
read_formed input es last h k e g =
    let w = read_inside input es last h in
    found_in IsEntry es (entries_formed w.form input (length es) None 8 last es w.entries) k e (sym (maps.get-from_entries key_cmp_total es k) ∙ g)

pub read_short : (input : List ℕ) (es : List (Key × EntryValue)) (last n : ℕ) → IsRead input (Ok (es, last)) → Decides (list_all (λ (e : Key × EntryValue). is_short n e.1) es) (AllShort n (table_with es))
read_short input es last n h =
    let same = ap (list_all (λ (e : Key × EntryValue). is_short n e.1)) (read_entries input es last h) in
    let decides = all_short_decides n (table_with es) in
    (λ g. decides.0 (same ∙ g), λ a. sym same ∙ decides.1 a)

-- ---- The saved bytes of a table are read as that table.

key_back : (input : List ℕ) (before : Option Key) (at next : ℕ) (k : Key) → IsKey k → IsAfter before k → Spells input at (key_bytes k) next → key_at input before at (Ok (k, next))
key_back input before at next k is after s =
    let long : length (key_bytes k) ≡ 8 = omega (arith, length-append k.ip (to_be_bytes w16 k.port ++ to_be_bytes w16 k.id), is.ip) in
    let inside = stands_fits input at (key_bytes k) s.there (omega (arith, long)) in
    let behind : at + 8 ≡ next = omega (arith, s.behind, long) in
    subst (λ (m : ℕ). key_at input before at (Ok (k, m))) behind
    (goes_on k (at + 8) (whole k (omega (arith, inside, long)) (record { fits = is; stands = s.there })) (good after))

-- an entry that fits the form and its fields, is well formed, and is short
pub record IsSound (form : SavedForm) (k : Key) (e : EntryValue) : Type 0 where
  pub in_form : OnHeld (λ a. InForm form a.cover.marks) e
  pub fits : FitsKeyed k e
  pub formed : IsEntry e
  pub short : IsShort MAX_LENGTH e

entry_back : (form : SavedForm) (input : List ℕ) (at next : ℕ) (k : Key) (e : EntryValue) → IsSound form k e → Spells input at (entry_bytes form e) next → entry_at form input at (Ok (e, next))
entry_back form input at next k Spoilt sound s = goes_on 0 next (byte_back input at 0 next s) (is_0 refl gives)
entry_back form input at next k (Held e) sound s =
    let parts = split input at (1 ∷ []) (facts_bytes form e) next s in
    goes_on 1 (at + 1) (byte_back input at 1 (at + 1) parts.front)
    (is_1 refl (goes_on e next (facts_back form input (at + 1) next e sound.in_form sound.fits.entry sound.formed sound.short.below parts.rest) gives))

-- the first of the entries is after the key before, if there is one
abbrev pub IsHead : Option Key → List (Key × EntryValue) → Type 0
IsHead before [] = Unit {0}
IsHead before (e ∷ es) = IsAfter before e.0

head_of : (k : Key) (es : List (Key × EntryValue)) → T (below_all key_cmp k es) → IsHead (Some k) es
head_of k [] t = tt
head_of k (e ∷ es) t = is_less (key_cmp k e.0) (T_left _ _ t)

entries_back : (form : SavedForm) (input : List ℕ) (before : Option Key) (at next : ℕ) (es : List (Key × EntryValue)) → AllByRecursion (λ (e : Key × EntryValue). IsSound form e.0 e.1) es → T (is_sorted key_cmp es) → IsHead before es →
    Spells input at (entries_bytes form es) next → entries_at form input (length es) before at (Ok (es, next))
entries_back form input before at next [] sound sorted head s = let same : at ≡ next = omega (arith, s.behind) in subst (λ (n : ℕ). entries_at form input 0 before at (Ok ([], n))) same gives
entries_back form input before at next (e ∷ es) sound sorted head s =
    let parts = split input at (keyed_bytes form e) (entries_bytes form es) next s in
    let mid = at + length (keyed_bytes form e) in
    let keyed = split input at (key_bytes e.0) (entry_bytes form e.1) mid parts.front in
    let behind = at + length (key_bytes e.0) in
    goes_on e.0 behind (key_back input before at behind e.0 sound.0.fits.key head keyed.front)
    (goes_on e.1 mid (entry_back form input behind mid e.0 e.1 sound.0 keyed.rest)
    (goes_on es next (entries_back form input (Some e.0) mid next es sound.1 (T_right _ _ sorted) (head_of e.0 es (T_left _ _ sorted)) parts.rest) gives))

-- ---- the whole table

pub read_back_as : (form : SavedForm) (t : Contents) → ((k : Key) (e : EntryValue) → maps.get t k ≡ Some e → OnHeld (λ a. InForm form a.cover.marks) e) → FitsSaved t → IsTable t → AllShort MAX_LENGTH t → IsRead (saved_as form t) (Ok (maps.entries t, length (saved_as form t)))
read_back_as form t in_form fits formed short =
    let es = maps.entries t in
    let input = saved_as form t in
    let last = length input in
    let all : Spells input 0 (magic form ++ (to_be_bytes w32 (maps.len t) ++ entries_bytes form es)) last = record { there = take_all last input (omega arith); behind = sym (zero-add last) } in
    let first = split input 0 (magic form) (to_be_bytes w32 (maps.len t) ++ entries_bytes form es) last all in
    let rest : Spells input 4 (to_be_bytes w32 (maps.len t) ++ entries_bytes form es) last = subst (λ (n : ℕ). Spells input n (to_be_bytes w32 (maps.len t) ++ entries_bytes form es) last) (zero-add (length (magic form)) ∙ magic_size form) first.rest in
    let second = split input 4 (to_be_bytes w32 (maps.len t)) (entries_bytes form es) last rest in
    let sound = each_found key_cmp key_cmp_total key_cmp_exact (IsSound form) es (maps.entries_sorted t)
    (λ q x f. (let g = maps.get-entries t q ∙ f in record { in_form = in_form q x g; fits = fits.each q x g; formed = formed q x g; short = short q x g })) in
    let count : Field input 4 4 (NumberAt input 4 w32) (Ok (maps.len t, 8)) =
    whole (maps.len t) (stands_fits input 4 (to_be_bytes w32 (maps.len t)) second.front.there (omega arith)) (record { fits = fits.count; bytes = second.front.there }) in
    let entries : entries_at form input (maps.len t) None 8 (Ok (es, last)) =
    subst (λ (n : ℕ). entries_at form input n None 8 (Ok (es, last))) (sym (maps.len-entries t)) (entries_back form input None 8 last es sound (maps.entries_sorted t) (head_none es) second.rest) in
    after_magic form first.front.there (goes_on (maps.len t) 8 count (goes_on es last entries (good (omega arith))))
  where
    head_none : (es : List (Key × EntryValue)) → IsHead None es
    head_none [] = tt
    head_none (e ∷ es) = tt

pub read_back : (t : Contents) → FitsSaved t → IsTable t → AllShort MAX_LENGTH t → IsRead (saved t) (Ok (maps.entries t, length (saved t)))
read_back t = read_back_as Second t (λ k e f. any_form e)

pub read_back_first : (t : Contents) → HasNoPromise t → FitsSaved t → IsTable t → AllShort MAX_LENGTH t → IsRead (saved_first t) (Ok (maps.entries t, length (saved_first t)))
read_back_first t none = read_back_as First t plain
  where
    plain : (k : Key) (e : EntryValue) → maps.get t k ≡ Some e → OnHeld (λ a. InForm First a.cover.marks) e
    plain k Spoilt f = tt
    plain k (Held a) f = none k a f

-- ---- Keys and bytes that stand in saved bytes.

four_there : (input : List ℕ) (at : ℕ) → at + 4 ≤ length input → StandsAt input at (get_or input at 0 ∷ get_or input (at + 1) 0 ∷ get_or input (at + 2) 0 ∷ get_or input (at + 3) 0 ∷ [])
four_there input at fits =
    let first : drop at input ≡ get_or input at 0 ∷ drop (at + 1) input = drop_more input at 0 (omega arith) in
    let second : drop (at + 1) input ≡ get_or input (at + 1) 0 ∷ drop (at + 1 + 1) input = drop_more input (at + 1) 0 (omega arith) in
    let third : drop (at + 2) input ≡ get_or input (at + 2) 0 ∷ drop (at + 2 + 1) input = drop_more input (at + 2) 0 (omega arith) in
    let fourth : drop (at + 3) input ≡ get_or input (at + 3) 0 ∷ drop (at + 3 + 1) input = drop_more input (at + 3) 0 (omega arith) in
    let two : at + 1 + 1 ≡ at + 2 = omega arith in
    let three : at + 2 + 1 ≡ at + 3 = omega arith in
    rw (first, second, two, third, three, fourth) refl

-- the key of these fields stands there
pub key_there : (input : List ℕ) (at port id : ℕ) → at + 8 ≤ length input → NumberAt input (at + 4) w16 port → NumberAt input (at + 6) w16 id →
    KeyAt input at (record { ip = get_or input at 0 ∷ get_or input (at + 1) 0 ∷ get_or input (at + 2) 0 ∷ get_or input (at + 3) 0 ∷ []; port = port; id = id })
key_there input at port id fits p q =
    let ip : Spells input at (get_or input at 0 ∷ get_or input (at + 1) 0 ∷ get_or input (at + 2) 0 ∷ get_or input (at + 3) 0 ∷ []) (at + 4) =
    record { there = four_there input at (omega arith); behind = refl } in
    let first : Spells input (at + 4) (to_be_bytes w16 port) (at + 6) = record { there = p.bytes; behind = omega arith } in
    let second : Spells input (at + 6) (to_be_bytes w16 id) (at + 8) = record { there = q.bytes; behind = omega arith } in
    let rest = spells_then input (at + 4) (at + 6) (at + 8) (to_be_bytes w16 port) (to_be_bytes w16 id) first second in
    record {
      fits = record { ip = refl; port = p.fits; id = q.fits };
      stands = (spells_then input at (at + 4) (at + 8) _ _ ip rest).there;
    }
