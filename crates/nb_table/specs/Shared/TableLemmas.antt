-- The laws of joins of tables, and the table of one fragment.
use Rattle.std.proofs.Common.{◌≡◌, Option, Some, None, refl, sym, ◌∙◌, subst, cond, Bool, true, false, List, [], ◌∷◌, filter, map, length, ap, ◌++◌, ℕ, arith, append_assoc, append-nil}
use Rattle.std.proofs.lemmas.Option.{same_Some, none-some}
use Rattle.std.proofs.lemmas.List.{length-map}
use Rattle.std.specs.declared.cmp.Ordering.TheVariants.{Equal}
use Rattle.std.specs.FinMap.Entries.{find-where_key, is_sorted-where_key}
use Rattle.std.specs.Io.KnownBytes.{Appends}
use Rattle.std.proofs.lemmas.Grind.{flat_map-append}
use Rattle.std.proofs.lemmas.Bool.{true≢false, or_parts}
use Rattle.std.specs.List.{list_any}
use Rattle.nb_streams.specs.Counted.{CountedOf}
use Rattle.nb_streams.specs.Devices.{AppendsFront}
use Rattle.nb_streams.specs.DeviceFacts.{Appends-nil, Appends-more, front_wider, front_after, fails_from, grows_on}
use Rattle.nb_streams.specs.Hexadecimal.{digits_text, digits_of}
use Rattle.nb_datagram.specs.declared.key.Key.{Key}
use Rattle.nb_datagram.specs.Key.{key_cmp_total, key_cmp_exact, key_cmp, same_key, same_key_decides}
use Rattle.nb_datagram.specs.Fragment.{Core}
use Rattle.nb_entries.specs.Maps.{joined_at, joined_onto}
use Rattle.nb_entries.specs.Entry.{EntryValue, join_entry, IsEntry, facts_of}
use Rattle.nb_entries.specs.Shared.MapsLemmas.{get-joined, joined-comm, joined-assoc, joined-idem, get-at_keys, tied_self}
use Rattle.nb_entries.specs.Shared.EntryLemmas.{join_entry-comm, join_entry-assoc, join_entry-idem, join_entry_formed}
use Rattle.nb_entries.specs.declared.slot.Slot.TheVariants.{Spoilt, Held}
use Rattle.nb_entries.specs.Marks.{marks_of}
use Rattle.nb_entries.specs.Cover.{placed, cover_of}
use Rattle.nb_entries.specs.Shared.MarksLemmas.{marks_alone}
use Rattle.nb_table.specs.Contents.{Contents, cover_in, facts_in, entry_in, entry_at, table_of}
use Rattle.nb_table.specs.Join.{join, IsTable}
use Rattle.nb_table.specs.Limits.{held_keys}
use Rattle.nb_table.specs.Code.Each.{Passes, Breaks}
use Rattle.nb_table.specs.Conflict.{with_key}
use Rattle.nb_table.specs.Insert.{NeedsNoMemory, spoilt, contradicts, held}
use Rattle.std.specs.FinMap as maps

-- ---- the laws of joins of tables

-- tables with the same look-ups are one
pub same_table : (a b : Contents) → ((k : Key) → maps.get a k ≡ maps.get b k) → a ≡ b
same_table = maps.same_map key_cmp_total key_cmp_exact

-- what a join has at a key
pub get-join : (a b : Contents) (k : Key) → maps.get (join a b) k ≡ joined_at join_entry (maps.get a k) (maps.get b k)
get-join = get-joined key_cmp_total key_cmp_exact join_entry

pub join-comm : (a b : Contents) → join a b ≡ join b a
join-comm = joined-comm key_cmp_total key_cmp_exact join_entry join_entry-comm

pub join-assoc : (a b c : Contents) → join (join a b) c ≡ join a (join b c)
join-assoc = joined-assoc key_cmp_total key_cmp_exact join_entry join_entry-assoc

pub join-idem : (a : Contents) → IsTable a → join a a ≡ a
join-idem a f = joined-idem key_cmp_total key_cmp_exact join_entry a (λ k e h. join_entry-idem e (f k e h))

-- the entry of a join, where both entries are well formed
pub at_formed : (a b : Option EntryValue) → ((e : EntryValue) → a ≡ Some e → IsEntry e) → ((e : EntryValue) → b ≡ Some e → IsEntry e) → (e : EntryValue) → joined_at join_entry a b ≡ Some e → IsEntry e
at_formed None b f g e h = g e h
at_formed (Some x) None f g e h = f e h
at_formed (Some x) (Some y) f g e h =
    subst IsEntry (same_Some (join_entry x y) e h) (join_entry_formed x y (f x refl) (g y refl))

pub join_formed : (a b : Contents) → IsTable a → IsTable b → IsTable (join a b)
join_formed a b f g k e h = at_formed (maps.get a k) (maps.get b k) (f k) (g k) e (sym (get-join a b k) ∙ h)

-- ---- the keys of a group as a table of their own, which has as many keys as the table holds of the group

pub keys_kept : {X : Type 0} (p : Key → Bool) (es : List (Key × X)) → map (λ e. e.0) (filter (λ e. p e.0) es) ≡ filter p (map (λ e. e.0) es)
keys_kept p [] = refl
keys_kept p (e ∷ es) = step (p e.0) (keys_kept p es)
  where
    step : (b : Bool) → map (λ f. f.0) (filter (λ f. p f.0) es) ≡ filter p (map (λ f. f.0) es) → map (λ f. f.0) (cond b (e ∷ filter (λ f. p f.0) es) (filter (λ f. p f.0) es)) ≡ cond b (e.0 ∷ filter p (map (λ f. f.0) es)) (filter p (map (λ f. f.0) es))
    step true rec = ap (λ (r : List Key). e.0 ∷ r) rec
    step false rec = rec

kept_is : (s : Contents) (p : Key → Bool) → maps.retain_keys s p ≡ maps.from_sorted (filter (λ e. p e.0) (maps.entries s))
kept_is s p =
    let alike : (q x : Key) → key_cmp q x ≡ Equal → p x ≡ p q = λ q x e. ap p (sym (key_cmp_exact q x e)) in
    maps.same_map key_cmp_total key_cmp_exact _ _ (λ q.
    maps.get-retain_keys s p q (alike q)
    ∙ ap (λ a. cond (p q) a None) (maps.get-entries s q)
    ∙ sym (maps.get-from_sorted key_cmp (filter (λ e. p e.0) (maps.entries s)) q (is_sorted-where_key key_cmp p (maps.entries s) (maps.entries_sorted s))
    ∙ find-where_key key_cmp p q (alike q) (maps.entries s)))

pub entries_kept : (s : Contents) (p : Key → Bool) → maps.entries (maps.retain_keys s p) ≡ filter (λ e. p e.0) (maps.entries s)
entries_kept s p =
    ap maps.entries (kept_is s p)
    ∙ maps.entries-from_sorted key_cmp (filter (λ e. p e.0) (maps.entries s)) (is_sorted-where_key key_cmp p (maps.entries s) (maps.entries_sorted s))

-- a table holds as many keys of a group as the table of its keys of the group has
pub held_is : (p : Key → Bool) (s : Contents) → held_keys p s ≡ maps.len (maps.retain_keys s p)
held_is p s =
    ap length (sym (keys_kept p (maps.entries s)))
    ∙ length-map (filter (λ (e : Key × EntryValue). p e.0) (maps.entries s)) (λ (e : Key × EntryValue). e.0)
    ∙ ap length (sym (entries_kept s p))
    ∙ sym (maps.len-entries (maps.retain_keys s p))

pub get_kept : (s : Contents) (p : Key → Bool) (q : Key) → maps.get (maps.retain_keys s p) q ≡ cond (p q) (maps.get s q) None
get_kept s p q = maps.get-retain_keys s p q (λ x e. ap p (sym (key_cmp_exact q x e)))

-- ---- on Code/Waiting: bytes whose digits are written a part at a time, one after another

digits_more : (xs ys : List ℕ) → digits_text (xs ++ ys) ≡ digits_text xs ++ digits_text ys
digits_more xs ys = flat_map-append digits_of xs ys

module _ {W : Type 0} (C : W → Option (List ℕ)) where
  -- all bytes wait
  pub passes_none : (old : CountedOf W) (bytes : List ℕ) → Passes C old old bytes bytes
  passes_none old bytes = record {
    gone = [];
    whole = refl;
    written = Appends-nil (C old.inner);
    grow = record { empty = omega arith; interrupted = omega arith; failed = omega arith };
  }

  -- those that waited wait, and no more
  pub passes_no_more : (old : CountedOf W) (waits : List ℕ) → Passes C old old (waits ++ []) waits
  passes_no_more old waits = subst (λ (bs : List ℕ). Passes C old old bs waits) (sym (append-nil waits)) (passes_none old waits)

module _ {W : Type 0} {C : W → Option (List ℕ)} where
  -- bytes that follow wait as well
  pub passes_wider : (old new : CountedOf W) (bytes waiting more : List ℕ) → Passes C old new bytes waiting → Passes C old new (bytes ++ more) (waiting ++ more)
  passes_wider old new bytes waiting more p = record {
    gone = p.gone;
    whole = ap (λ bs. bs ++ more) p.whole ∙ append_assoc p.gone waiting more;
    written = p.written;
    grow = p.grow;
  }

  pub breaks_wider : (old new : CountedOf W) (bytes more : List ℕ) → Breaks C old new bytes → Breaks C old new (bytes ++ more)
  breaks_wider old new bytes more b = record {
    front = subst (AppendsFront (C old.inner) (C new.inner)) (sym (digits_more bytes more)) (front_wider (C old.inner) (C new.inner) (digits_text bytes) (digits_text more) b.front);
    grow = b.grow;
    why = b.why;
  }

  -- those that waited are passed on
  pub passes_on : (old mid new : CountedOf W) (whole bytes waiting : List ℕ) → Passes C old mid whole bytes → Passes C mid new bytes waiting
      → Passes C old new whole waiting
  passes_on old mid new whole bytes waiting p q = record {
    gone = p.gone ++ q.gone;
    whole = p.whole ∙ ap (λ bs. p.gone ++ bs) q.whole ∙ sym (append_assoc p.gone q.gone waiting);
    written = subst (Appends (C old.inner) (C new.inner)) (sym (digits_more p.gone q.gone)) (Appends-more (C old.inner) (C mid.inner) (C new.inner) (digits_text p.gone) (digits_text q.gone) p.written q.written);
    grow = grows_on old.counts mid.counts new.counts p.grow q.grow;
  }

  pub breaks_on : (old mid new : CountedOf W) (whole bytes : List ℕ) → Passes C old mid whole bytes → Breaks C mid new bytes → Breaks C old new whole
  breaks_on old mid new whole bytes p b = record {
    front = subst (AppendsFront (C old.inner) (C new.inner)) (sym (ap digits_text p.whole ∙ digits_more p.gone bytes)) (front_after (C old.inner) (C mid.inner) (C new.inner) (digits_text p.gone) (digits_text bytes) p.written b.front);
    grow = grows_on old.counts mid.counts new.counts p.grow b.grow;
    why = fails_from old.counts mid.counts new.counts p.grow b.why;
  }

  -- some bytes passed after those that waited, and then others
  passes_first : (old new : CountedOf W) (waits xs ys waiting : List ℕ) → Passes C old new (waits ++ xs) waiting
      → Passes C old new (waits ++ (xs ++ ys)) (waiting ++ ys)
  passes_first old new waits xs ys waiting p =
      subst (λ (bs : List ℕ). Passes C old new bs (waiting ++ ys)) (append_assoc waits xs ys) (passes_wider old new (waits ++ xs) waiting ys p)

  pub passes_more : (old mid new : CountedOf W) (waits between waiting xs ys : List ℕ) → Passes C old mid (waits ++ xs) between
      → Passes C mid new (between ++ ys) waiting → Passes C old new (waits ++ (xs ++ ys)) waiting
  passes_more old mid new waits between waiting xs ys p q =
      passes_on old mid new (waits ++ (xs ++ ys)) (between ++ ys) waiting (passes_first old mid waits xs ys between p) q

  -- some bytes broke, or passed, and then others broke
  pub breaks_first : (old new : CountedOf W) (waits xs ys : List ℕ) → Breaks C old new (waits ++ xs) → Breaks C old new (waits ++ (xs ++ ys))
  breaks_first old new waits xs ys b = subst (Breaks C old new) (append_assoc waits xs ys) (breaks_wider old new (waits ++ xs) ys b)

  pub breaks_later : (old mid new : CountedOf W) (waits between xs ys : List ℕ) → Passes C old mid (waits ++ xs) between
      → Breaks C mid new (between ++ ys) → Breaks C old new (waits ++ (xs ++ ys))
  breaks_later old mid new waits between xs ys p b =
      breaks_on old mid new (waits ++ (xs ++ ys)) (between ++ ys) (passes_first old mid waits xs ys between p) b

-- ---- the table of one fragment, and what changes where it is joined to another

-- ---- the facts of one fragment

cover_in-one : (f : Core) → cover_in (f ∷ []) ≡ cover_of f
cover_in-one f = λ i. record { bytes = maps.from_entries (append-nil (placed f.offset f.bytes) i); marks = marks_alone (marks_of f) i }

pub facts_in-one : (f : Core) → facts_in f (f ∷ []) ≡ facts_of f
facts_in-one f = λ i. record { kind = f.kind; source = f.source; destination = f.destination; cover = cover_in-one f i }

-- ---- the table of a list, by its keys

none_there : (L : List Core) (k : Key) → list_any (same_key k) (map (λ f. f.key) L) ≡ false → with_key k L ≡ []
none_there [] k h = refl
none_there (f ∷ fs) k h = step (same_key k f.key) (or_parts _ _ h).0 (none_there fs k (or_parts _ _ h).1)
  where
    step : (b : Bool) → b ≡ false → with_key k fs ≡ [] → cond b (f ∷ with_key k fs) (with_key k fs) ≡ []
    step true h rec = absurd (true≢false h)
    step false h rec = rec

has : (L : List Core) (k : Key) (b : Bool) → list_any (same_key k) (map (λ f. f.key) L) ≡ b → cond b (entry_at L k) None ≡ entry_at L k
has L k true h = refl
has L k false h = sym (ap entry_in (none_there L k h))

-- the table has at each key what the list says of it
pub get-table_of : (L : List Core) (k : Key) → maps.get (table_of L) k ≡ entry_at L k
get-table_of L k = get-at_keys key_cmp_total key_cmp_exact (entry_at L) (map (λ f. f.key) L) k ∙ has L k _ refl

-- ---- one fragment more

none_else : (b : Bool) (f : Core) → entry_in (cond b (f ∷ []) []) ≡ cond b (Some (Held (facts_of f))) None
none_else true f = ap (λ x. Some (Held x)) (facts_in-one f)
none_else false f = refl

-- the table of one fragment
pub get-table_of-one : (f : Core) (k : Key) → maps.get (table_of (f ∷ [])) k ≡ cond (same_key k f.key) (Some (Held (facts_of f))) None
get-table_of-one f k = get-table_of (f ∷ []) k ∙ none_else (same_key k f.key) f

at_one : (t : Contents) (f : Core) (q : Key) (b : Bool) → same_key q f.key ≡ b →
    joined_at join_entry (maps.get t q) (cond b (Some (Held (facts_of f))) None) ≡ cond b (Some (joined_onto join_entry (maps.get t f.key) (Held (facts_of f)))) (maps.get t q)
at_one t f q true e = onto (maps.get t q) ∙ ap (λ k. Some (joined_onto join_entry (maps.get t k) (Held (facts_of f)))) ((same_key_decides q f.key).0 e)
  where
    onto : (a : Option EntryValue) → joined_at join_entry a (Some (Held (facts_of f))) ≡ Some (joined_onto join_entry a (Held (facts_of f)))
    onto None = refl
    onto (Some x) = refl
at_one t f q false e = alone (maps.get t q)
  where
    alone : (a : Option EntryValue) → joined_at join_entry a None ≡ a
    alone None = refl
    alone (Some x) = refl

-- joining the table of one fragment changes its key alone
pub join_one : (t : Contents) (f : Core) → join t (table_of (f ∷ [])) ≡ maps.insert t f.key (joined_onto join_entry (maps.get t f.key) (Held (facts_of f)))
join_one t f = same_table _ _ (λ q.
    get-join t (table_of (f ∷ [])) q
    ∙ ap (joined_at join_entry (maps.get t q)) (get-table_of-one f q)
    ∙ at_one t f q (same_key q f.key) refl
    ∙ sym (maps.get-insert key_cmp_total t f.key (joined_onto join_entry (maps.get t f.key) (Held (facts_of f))) q))

-- what stands at a key that was inserted
pub insert_at : (t : Contents) (k : Key) (e : EntryValue) → maps.get (maps.insert t k e) k ≡ Some e
insert_at t k e = maps.get-insert key_cmp_total t k e k ∙ ap (λ b. cond b (Some e) (maps.get t k)) (tied_self key_cmp_total k)

-- a fragment of a new key needs memory
pub needs_new : (t : Contents) (f : Core) → maps.get t f.key ≡ None → NeedsNoMemory t f → ⊥
needs_new t f none (spoilt s) = none-some Spoilt (sym none ∙ s)
needs_new t f none (contradicts a h never) = none-some (Held a) (sym none ∙ h)
needs_new t f none (held same) =
    let e = joined_onto join_entry (maps.get t f.key) (Held (facts_of f)) in
    none-some e (sym none ∙ ap (λ u. maps.get u f.key) (sym same ∙ join_one t f) ∙ insert_at t f.key e)
