-- Tables within the limits fit the fields of a saved table.
use Rattle.nb_table.proofs.Common.{◌≡◌, ◌<◌, ◌≤◌, ◌^◌, length, Some, sym, ◌∙◌, arith, Bool, true, false, cond, List, [], ◌∷◌, inl, inr, Ok, ℕ, refl, subst, ◌++◌, Option, None, ap, drop, append_assoc, append-nil, take, AllByRecursion, Key, MAX_LENGTH, OnHeld, EntryValue, Contents, IsTable, TableValue, KeepsLimits, IsReadAs, IsSaved, saved, saved_first, entries_bytes, key_bytes, magic, saved_as, keyed_bytes, IsRead, FitsSaved, FitsKeyed, AllShort, IsNamed, runs_bytes, entry_bytes, HasNames, key_cmp_total, key_cmp_exact, key_cmp, none-some, same_Some, eq_by_cmp, one_key, w32, to_be_bytes, w16, from_be_bytes, SavedForm, First, Second, Held, take-append-drop, nil_from_length, Passes, Breaks, passes_wider, breaks_wider, passes_on, breaks_on}
use Rattle.std.specs.FinMap as maps
use Rattle.nb_datagram.specs.Header.{IsKey}
use Rattle.nb_entries.specs.Marks.{marks_bytes}
use Rattle.nb_table.proofs.Changes.{short_more}
use Rattle.nb_table.proofs.SavedReading.LoadedLemmas.{read_back, read_back_first}
use Rattle.nb_entries.specs.Shared.SavedLemmas.{entry_fits, NameLaws, each_found, each_same, entry_same, fronts_same, numbers_same}
use Rattle.nb_datagram.specs.declared.key.Kind.TheVariants.{Group}
use Rattle.nb_datagram.specs.Packet.{type_of, name_bytes}
use Rattle.nb_entries.specs.Runs.{RunValue, map_of_runs, runs_of_map}
use Rattle.nb_table.specs.SavedExample.{example_facts, example_key, example_runs, example_saved, example_saved_first, example_table}
use Rattle.nb_entries.specs.Shared.RunsLemmas.{runs_back}
use Rattle.std.proofs.lemmas.Nat.{from_be_bytes-to_be_bytes_4}
use Rattle.std.specs.Io.KnownBytes.{Appends}
use Rattle.nb_streams.specs.Counted.{CountedOf}
use Rattle.nb_streams.specs.Hexadecimal.{digits_text}

-- what holds of each entry holds of what a look-up finds
pub each_held : (P : Key × EntryValue → Type 0) (es : List (Key × EntryValue)) → AllByRecursion P es → (k : Key) (e : EntryValue) → maps.find key_cmp k es ≡ Some e → P (k, e)
each_held P [] h k e f = absurd (none-some e f)
each_held P (x ∷ es) h k e f = step (eq_by_cmp key_cmp k x.0) refl f (each_held P es h.1 k e)
  where
    step : (b : Bool) → eq_by_cmp key_cmp k x.0 ≡ b → cond b (Some x.1) (maps.find key_cmp k es) ≡ Some e → (maps.find key_cmp k es ≡ Some e → P (k, e)) → P (k, e)
    step true is f rec = subst (λ y. P (k, y)) (same_Some x.1 e f) (subst (λ q. P (q, x.1)) (sym (one_key key_cmp_exact k x.0 is)) h.0)
    step false is f rec = rec f

pub short_fits : (t : Contents) → maps.len t < 2 ^ 32 → AllShort MAX_LENGTH t → ((k : Key) (e : EntryValue) → maps.get t k ≡ Some e → IsKey k × OnHeld IsNamed e) → FitsSaved t
short_fits t count short named = record {
  count = count;
  each = λ k e f. record { key = (named k e f).0; entry = entry_fits e (short k e f) (named k e f).1 };
}

pub all_short : (t : TableValue) → KeepsLimits t → t.limits.longest ≤ MAX_LENGTH → AllShort MAX_LENGTH t.contents
all_short t keeps most k e f = short_more t.limits.longest MAX_LENGTH e most (keeps.short k e f)

-- a table that keeps its limits, which are fields' numbers, fits if its entries have names
pub table_fits : (t : TableValue) → KeepsLimits t → t.limits.keys < 2 ^ 32 → t.limits.longest ≤ MAX_LENGTH → AllByRecursion HasNames (maps.entries t.contents) → FitsSaved t.contents
table_fits t keeps few most named =
    short_fits t.contents (omega (arith, keeps.count, few)) (all_short t keeps most)
    (λ k e f. each_held HasNames (maps.entries t.contents) named k e (sym (maps.get-entries t.contents k) ∙ f))

-- what is looked up in the list of a table's entries is looked up in the table
listed : (t : Contents) → t ≡ maps.from_entries {R = key_cmp} (maps.entries t)
listed t = sym (maps.same_map key_cmp_total key_cmp_exact _ _ (λ q. maps.get-from_entries key_cmp_total (maps.entries t) q ∙ sym (maps.get-entries t q)))

-- the bytes of contents, saved in either form, are read as them
pub saved_read : (input : List ℕ) (t : Contents) → IsSaved input t → FitsSaved t → IsTable t → AllShort MAX_LENGTH t → IsReadAs input t
saved_read input t (inl is) fits formed short = record {
  entries = maps.entries t;
  last = length (saved t);
  read = subst (λ (b : List ℕ). IsRead b (Ok (maps.entries t, length (saved t)))) (sym is) (read_back t fits formed short);
  same = listed t;
}
saved_read input t (inr is) fits formed short = record {
  entries = maps.entries t;
  last = length (saved_first t);
  read = subst (λ (b : List ℕ). IsRead b (Ok (maps.entries t, length (saved_first t)))) (sym is.0) (read_back_first t is.1 fits formed short);
  same = listed t;
}

-- and its saved bytes are read as the table
pub table_read : (t : TableValue) → KeepsLimits t → t.limits.longest ≤ MAX_LENGTH → FitsSaved t.contents → IsReadAs (saved t.contents) t.contents
table_read t keeps most fits = saved_read (saved t.contents) t.contents (inl refl) fits keeps.formed (all_short t keeps most)

-- ---- The saved bytes of a table of which no two fields are equal.

none_at_first : maps.entries (maps.empty {X = EntryValue} {R = key_cmp}) ≡ []
none_at_first = nil_from_length (maps.entries (maps.empty {X = EntryValue} {R = key_cmp})) (sym (maps.len-entries (maps.empty {X = EntryValue} {R = key_cmp})) ∙ maps.len-empty key_cmp EntryValue)

one_entry : (p : Option ℕ) → maps.entries (example_table p) ≡ (example_key, Held (example_facts p)) ∷ []
one_entry p =
    maps.entries-insert key_cmp_total (maps.empty {X = EntryValue} {R = key_cmp}) example_key (Held (example_facts p))
    ∙ ap (maps.put key_cmp example_key (Held (example_facts p))) none_at_first

runs_are : runs_of_map (map_of_runs example_runs) ≡ example_runs
runs_are = runs_back example_runs (omega arith, (omega arith, (omega arith, (tt, tt))))

-- the fields of the one key, with these runs
fields : SavedForm → Option ℕ → List RunValue → List ℕ
fields form p rs =
    key_bytes example_key
    ++ (1 ∷ type_of Group ∷ (name_bytes (example_facts p).source ++ (name_bytes (example_facts p).destination
    ++ (marks_bytes form (record { end = Some 3598; promise = p }) ++ runs_bytes rs))))

saved_is : (form : SavedForm) (p : Option ℕ) → saved_as form (example_table p) ≡ magic form ++ (to_be_bytes w32 1 ++ (fields form p example_runs ++ []))
unfolding fields
saved_is form p =
    ap (λ n. magic form ++ (to_be_bytes w32 n ++ entries_bytes form (maps.entries (example_table p)))) (maps.len-entries (example_table p))
    ∙ ap (λ (es : List (Key × EntryValue)). magic form ++ (to_be_bytes w32 (length es) ++ entries_bytes form es)) (one_entry p)
    ∙ ap (λ (rs : List RunValue). magic form ++ (to_be_bytes w32 1 ++ (fields form p rs ++ []))) runs_are

pub saved_example : saved (example_table (Some 3341)) ≡ example_saved
unfolding fields
saved_example = saved_is Second (Some 3341) ∙ refl

pub saved_example_first : saved_first (example_table None) ≡ example_saved_first
unfolding fields
saved_example_first = saved_is First None ∙ refl

-- ---- Each field of a saved table, with what follows it, tells both.

pub counts_same : (m n : ℕ) (x y : List ℕ) → m < 2 ^ 32 → n < 2 ^ 32 → to_be_bytes w32 m ++ x ≡ to_be_bytes w32 n ++ y → (m ≡ n) × (x ≡ y)
counts_same m n x y p q e =
    let parts = fronts_same (to_be_bytes w32 m) (to_be_bytes w32 n) x y refl e in
    (sym (from_be_bytes-to_be_bytes_4 m p) ∙ ap (λ (r : List ℕ). from_be_bytes w32 r) parts.0 ∙ from_be_bytes-to_be_bytes_4 n q, parts.1)

pub key_same : (k l : Key) (x y : List ℕ) → IsKey k → IsKey l → key_bytes k ++ x ≡ key_bytes l ++ y → (k ≡ l) × (x ≡ y)
key_same k l x y p q e =
    let ip = fronts_same k.ip l.ip (to_be_bytes w16 k.port ++ (to_be_bytes w16 k.id ++ x)) (to_be_bytes w16 l.port ++ (to_be_bytes w16 l.id ++ y)) (p.ip ∙ sym q.ip)
    (sym (append_assoc k.ip (to_be_bytes w16 k.port ++ to_be_bytes w16 k.id) x) ∙ e ∙ append_assoc l.ip (to_be_bytes w16 l.port ++ to_be_bytes w16 l.id) y) in
    let port = numbers_same k.port l.port (to_be_bytes w16 k.id ++ x) (to_be_bytes w16 l.id ++ y) p.port q.port ip.1 in
    let id = numbers_same k.id l.id x y p.id q.id port.1 in
    (λ i. record { ip = ip.0 i; port = port.0 i; id = id.0 i }, id.1)

-- a key and its entry fit
abbrev pub FitsItem : Key × EntryValue → Type 0
FitsItem e = FitsKeyed e.0 e.1

pub keyed_same : NameLaws → (a b : Key × EntryValue) (x y : List ℕ) → FitsItem a → FitsItem b → keyed_bytes Second a ++ x ≡ keyed_bytes Second b ++ y → (a ≡ b) × (x ≡ y)
keyed_same laws a b x y p q e =
    let key = key_same a.0 b.0 (entry_bytes Second a.1 ++ x) (entry_bytes Second b.1 ++ y) p.key q.key (sym (append_assoc (key_bytes a.0) (entry_bytes Second a.1) x) ∙ e ∙ append_assoc (key_bytes b.0) (entry_bytes Second b.1) y) in
    let entry = entry_same laws a.1 b.1 x y p.entry q.entry key.1 in
    (λ i. (key.0 i, entry.0 i), entry.1)

pub items_fit : (t : Contents) → FitsSaved t → AllByRecursion FitsItem (maps.entries t)
items_fit t p = each_found key_cmp key_cmp_total key_cmp_exact FitsKeyed (maps.entries t) (maps.entries_sorted t) (λ k e f. p.each k e (maps.get-entries t k ∙ f))

pub table_same : NameLaws → (t u : Contents) → FitsSaved t → FitsSaved u → saved t ≡ saved u → t ≡ u
table_same laws t u p q e =
    let one : List ℕ = entries_bytes Second (maps.entries t) in
    let two : List ℕ = entries_bytes Second (maps.entries u) in
    let count = counts_same (maps.len t) (maps.len u) one two p.count q.count (ap (λ (r : List ℕ). drop 4 r) e) in
    let size : length (maps.entries t) ≡ length (maps.entries u) = sym (maps.len-entries t) ∙ count.0 ∙ maps.len-entries u in
    let entries = each_same (keyed_bytes Second) FitsItem (keyed_same laws) (maps.entries t) (maps.entries u) [] [] (items_fit t p) (items_fit u q) size (append-nil one ∙ count.1 ∙ sym (append-nil two)) in
    maps.same_entries_map t u entries.0

-- ---- Parts of some bytes whose digits are written, one after another.

-- what waits is filled up with a front of the rest
filled_up : (held rest front behind filled : List ℕ) (n : ℕ) → front ≡ take n rest → behind ≡ drop n rest → filled ≡ held ++ front
    → held ++ rest ≡ filled ++ behind
filled_up held rest front behind filled n f b e =
    rw (e, f, b) (ap (λ bs. held ++ bs) (sym (take-append-drop n rest)) ∙ sym (append_assoc held (take n rest) (drop n rest)))

module _ {W : Type 0} {C : W → Option (List ℕ)} where
  -- what waits was filled up and written
  pub passes_part : (old mid new : CountedOf W) (whole held rest front behind filled left : List ℕ) (n : ℕ)
      → Passes C old mid whole (held ++ rest) → front ≡ take n rest → behind ≡ drop n rest → filled ≡ held ++ front → Passes C mid new filled []
      → left ≡ [] → Passes C old new whole (left ++ behind)
  passes_part old mid new whole held rest front behind filled left n p f b e q none =
      let all = subst (Passes C old mid whole) (filled_up held rest front behind filled n f b e) p in
      rw none (passes_on old mid new whole (filled ++ behind) behind all (passes_wider mid new filled [] behind q))

  pub breaks_part : (old mid new : CountedOf W) (whole held rest front behind filled : List ℕ) (n : ℕ) → Passes C old mid whole (held ++ rest)
      → front ≡ take n rest → behind ≡ drop n rest → filled ≡ held ++ front → Breaks C mid new filled → Breaks C old new whole
  breaks_part old mid new whole held rest front behind filled n p f b e cut =
      let all = subst (Passes C old mid whole) (filled_up held rest front behind filled n f b e) p in
      breaks_on old mid new whole (filled ++ behind) all (breaks_wider mid new filled behind cut)

  -- where none waits the digits of all are written
  pub passes_wrote : (old new : CountedOf W) (bytes : List ℕ) → Passes C old new bytes [] → Appends (C old.inner) (C new.inner) (digits_text bytes)
  passes_wrote old new bytes p =
      subst (λ (bs : List ℕ). Appends (C old.inner) (C new.inner) (digits_text bs)) (sym (p.whole ∙ append-nil p.gone)) p.written
