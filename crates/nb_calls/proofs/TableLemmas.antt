-- What stands in an input is one table or one fault, also under limits; what is told of one table, and of two, is one.
use Rattle.nb_calls.proofs.Common.{◌≡◌, ◌≢◌, ℕ, ◌≤◌, List, Result, Ok, Err, Refusal, OrMemory, refl, subst, arith, Key, LoadFault, Contents, FewOfEach, Limits, TableValue, IsReadAs, LoadFails, ill_formed, too_long, full_source, full, no_memory, IsRead, AllShort, ap, Memory, HasOneElse, IfOk, NO_ROLE, NoMemory, SECOND, of_memory, saved, sym, ◌∙◌, Fits, IsRefused, EntryValue, load_refusal, IsLoaded, IsUnread, OfTwo, first_fails, second_fails, both, OfOne, not_read, read, widest, Joins, table_refusal}
use Rattle.std.specs.FinMap as maps
use Rattle.nb_entries.specs.SavedReading.{Outcome}
use Rattle.nb_entries.specs.declared.saved.LoadFault.TheVariants as loads
use Rattle.nb_table.specs.declared.fault.TableFault.{TableFault}
use Rattle.nb_table.specs.declared.fault.TableFault.TheVariants as tables
use Rattle.nb_table.specs.Join.{join}
use Rattle.nb_calls.proofs.AnswerLemmas.{one_expected}

-- what stands in an input is one
pub record InputLaws (input : List ℕ) : Type 0 where
  pub one : (t u : Contents) → IsReadAs input t → IsReadAs input u → t ≡ u
  pub one_reading : (a b : Outcome (List (Key × EntryValue))) → IsRead input a → IsRead input b → a ≡ b

module _ (input : List ℕ) (limits : Limits) (laws : InputLaws input) where
  no_fault : {A : Type 0} (t : Contents) (fault : LoadFault) → IsReadAs input t → IsRead input (Err fault) → A
  no_fault t fault there bad = absurd (cc (laws.one_reading (Ok (there.entries, there.last)) (Err fault) there.read bad))

  short_of : (t u : Contents) → IsReadAs input t → IsReadAs input u → AllShort limits.longest u → AllShort limits.longest t
  short_of t u r q s = subst (λ (x : Contents). AllShort limits.longest x) (laws.one u t q r) s

  few_of : (t u : Contents) → IsReadAs input t → IsReadAs input u → FewOfEach limits.per_source u → FewOfEach limits.per_source t
  few_of t u r q s = subst (λ (x : Contents). FewOfEach limits.per_source x) (laws.one u t q r) s

  count_of : (t u : Contents) → IsReadAs input t → IsReadAs input u → maps.len u ≤ limits.keys → maps.len t ≤ limits.keys
  count_of t u r q s = subst (λ (x : Contents). maps.len x ≤ limits.keys) (laws.one u t q r) s

  one_fault : (a b : LoadFault) → LoadFails input limits a → LoadFails input limits b → a ≡ b
  one_fault a b (ill_formed p) (ill_formed q) = cc (laws.one_reading (Err a) (Err b) p q)
  one_fault a _ (ill_formed p) (too_long u q _) = no_fault u a q p
  one_fault a _ (ill_formed p) (full_source u q _ _) = no_fault u a q p
  one_fault a _ (ill_formed p) (full u q _ _ _) = no_fault u a q p
  one_fault a _ (ill_formed p) (no_memory u q _ _ _) = no_fault u a q p
  one_fault _ b (too_long t r n) (ill_formed q) = no_fault t b r q
  one_fault _ _ (too_long t r n) (too_long u q _) = refl
  one_fault _ _ (too_long t r n) (full_source u q s _) = absurd (n (short_of t u r q s))
  one_fault _ _ (too_long t r n) (full u q s _ _) = absurd (n (short_of t u r q s))
  one_fault _ _ (too_long t r n) (no_memory u q s _ _) = absurd (n (short_of t u r q s))
  one_fault _ b (full_source t r s n) (ill_formed q) = no_fault t b r q
  one_fault _ _ (full_source t r s n) (too_long u q m) = absurd (m (short_of u t q r s))
  one_fault _ _ (full_source t r s n) (full_source u q _ _) = refl
  one_fault _ _ (full_source t r s n) (full u q _ f _) = absurd (n (few_of t u r q f))
  one_fault _ _ (full_source t r s n) (no_memory u q _ f _) = absurd (n (few_of t u r q f))
  one_fault _ b (full t r s f n) (ill_formed q) = no_fault t b r q
  one_fault _ _ (full t r s f n) (too_long u q m) = absurd (m (short_of u t q r s))
  one_fault _ _ (full t r s f n) (full_source u q _ m) = absurd (m (few_of u t q r f))
  one_fault _ _ (full t r s f n) (full u q _ _ _) = refl
  one_fault _ _ (full t r s f n) (no_memory u q _ _ k) = absurd (omega (arith, n, count_of t u r q k))
  one_fault _ b (no_memory t r s f k) (ill_formed q) = no_fault t b r q
  one_fault _ _ (no_memory t r s f k) (too_long u q m) = absurd (m (short_of u t q r s))
  one_fault _ _ (no_memory t r s f k) (full_source u q _ m) = absurd (m (few_of u t q r f))
  one_fault _ _ (no_memory t r s f k) (full u q _ _ n) = absurd (omega (arith, n, count_of u t q r k))
  one_fault _ _ (no_memory t r s f k) (no_memory u q _ _ _) = refl

  -- what is loaded has no fault but for want of memory
  as_memory : (t : TableValue) → IsLoaded input limits t → LoadFails input limits loads.NoMemory
  as_memory t is =
      no_memory t.contents is.stands (subst (λ (l : Limits). AllShort l.longest t.contents) is.limited is.keeps.short)
      (subst (λ (l : Limits). FewOfEach l.per_source t.contents) is.limited is.keeps.sources)
      (subst (λ (l : Limits). maps.len t.contents ≤ l.keys) is.limited is.keeps.count)

  -- it is refused so alone
  unread_apart : {A : Type 0} (role : ℕ) (t : TableValue) (refusal : Refusal) → IsLoaded input limits t → IsUnread role input limits refusal
      → refusal ≢ Memory → A
  unread_apart role t refusal is (fault, p, e) h =
      absurd (h (e ∙ ap (load_refusal role) (one_fault fault loads.NoMemory p (as_memory t is))))

  one_unread : (role : ℕ) (r s : Refusal) → IsUnread role input limits r → IsUnread role input limits s → r ≡ s
  one_unread role r s (f, p, e) (g, q, d) = cc (e, d, one_fault f g p q)

-- ---- of one table, and of two

module _ (table : List ℕ) (told_of : Contents → List ℕ) (laws : InputLaws table) where
  pub one_list : HasOneElse (OfOne table told_of)
  one_list _ _ (not_read r p) (not_read s q) h k = ap Err (one_unread table widest laws NO_ROLE r s p q)
  one_list _ _ (not_read r p) (read t a is e) h k = unread_apart table widest laws NO_ROLE t r is p (λ m. h (ap Err m))
  one_list _ _ (read t a is e) (not_read r p) h k = unread_apart table widest laws NO_ROLE t r is p (λ m. k (ap Err m))
  one_list _ _ (read t a is e) (read u b also d) h k =
      one_expected (Ok (told_of t.contents)) a b e
      (subst (λ (x : Contents). OrMemory (Ok (told_of x)) b) (laws.one u.contents t.contents also.stands is.stands) d) h k

module _ {A : Type 0} (first second : List ℕ) (limits : Limits) (Then : Contents → Contents → Result A Refusal → Type 0) (laws : InputLaws first)
    (more : InputLaws second) (one_said : (s t : Contents) → HasOneElse (Then s t)) where
  pub one_of_two : HasOneElse (OfTwo first second limits Then)
  one_of_two _ _ (first_fails r p) (first_fails s q) h k = ap Err (one_unread first limits laws NO_ROLE r s p q)
  one_of_two _ _ (first_fails r p) (second_fails one _ is q) h k = unread_apart first limits laws NO_ROLE one r is p (λ m. h (ap Err m))
  one_of_two _ _ (first_fails r p) (both one other b is also j) h k = unread_apart first limits laws NO_ROLE one r is p (λ m. h (ap Err m))
  one_of_two _ _ (second_fails one _ is q) (first_fails r p) h k = unread_apart first limits laws NO_ROLE one r is p (λ m. k (ap Err m))
  one_of_two _ _ (second_fails one r is p) (second_fails _ s _ q) h k = ap Err (one_unread second limits more SECOND r s p q)
  one_of_two _ _ (second_fails one r is p) (both _ other b _ also j) h k = unread_apart second limits more SECOND other r also p (λ m. h (ap Err m))
  one_of_two _ _ (both one other a is also j) (first_fails r p) h k = unread_apart first limits laws NO_ROLE one r is p (λ m. k (ap Err m))
  one_of_two _ _ (both one other a is also j) (second_fails _ r _ p) h k = unread_apart second limits more SECOND other r also p (λ m. k (ap Err m))
  one_of_two _ _ (both one other a is also j) (both two third b same too i) h k =
      one_said one.contents other.contents a b j
      (subst (λ (x : Contents). Then x other.contents b) (laws.one two.contents one.contents same.stands is.stands)
      (subst (λ (x : Contents). Then two.contents x b) (more.one third.contents other.contents too.stands also.stands) i)) h k

-- ---- the join of two tables, or why there is none

module _ (l : Limits) (s t : Contents) where
  fits_apart : {A : Type 0} (fault : TableFault) → fault ≢ tables.NoMemory → Fits l s t → IsRefused l s t fault → A
  fits_apart tables.MisplacedFirst h f q = absurd q
  fits_apart tables.TooLong h f q = absurd (q f.short)
  fits_apart (tables.FullSource k) h f q = absurd (cc (q.1.unfit, f.sources k.ip))
  fits_apart (tables.Full k) h f q = absurd (cc (q.1, f.room))
  fits_apart tables.NoMemory h f q = absurd (h refl)

  one_refusal : (f g : TableFault) → f ≢ tables.NoMemory → g ≢ tables.NoMemory → IsRefused l s t f → IsRefused l s t g
      → table_refusal f ≡ table_refusal g
  one_refusal tables.MisplacedFirst g h k p q = absurd p
  one_refusal tables.NoMemory g h k p q = absurd (h refl)
  one_refusal tables.TooLong tables.MisplacedFirst h k p q = absurd q
  one_refusal tables.TooLong tables.TooLong h k p q = refl
  one_refusal tables.TooLong (tables.FullSource _) h k p q = absurd (p q.0)
  one_refusal tables.TooLong (tables.Full _) h k p q = absurd (p q.0)
  one_refusal tables.TooLong tables.NoMemory h k p q = absurd (k refl)
  one_refusal (tables.FullSource _) tables.MisplacedFirst h k p q = absurd q
  one_refusal (tables.FullSource _) tables.TooLong h k p q = absurd (q p.0)
  one_refusal (tables.FullSource _) (tables.FullSource _) h k p q = refl
  one_refusal (tables.FullSource a) (tables.Full _) h k p q = absurd (cc (p.1.unfit, q.2 a.ip))
  one_refusal (tables.FullSource _) tables.NoMemory h k p q = absurd (k refl)
  one_refusal (tables.Full _) tables.MisplacedFirst h k p q = absurd q
  one_refusal (tables.Full _) tables.TooLong h k p q = absurd (q p.0)
  one_refusal (tables.Full _) (tables.FullSource a) h k p q = absurd (cc (q.1.unfit, p.2 a.ip))
  one_refusal (tables.Full _) (tables.Full _) h k p q = refl
  one_refusal (tables.Full _) tables.NoMemory h k p q = absurd (k refl)

  joined_memory : (fault : TableFault) (answer : Result (List ℕ) Refusal) → answer ≡ Err (table_refusal fault) → answer ≢ Err Memory
      → fault ≢ tables.NoMemory
  joined_memory fault answer is h e = h (is ∙ ap (λ (f : TableFault). Err (table_refusal f)) e)

  pub one_join : HasOneElse (Joins l s t)
  one_join (Ok a) (Ok b) (f, e) (g, d) h k = ap (λ (x : List ℕ). Ok x) (e ∙ sym d)
  one_join (Ok a) (Err b) (f, e) (fault, q, d) h k = fits_apart fault (joined_memory fault (Err b) (ap Err d) k) f q
  one_join (Err a) (Ok b) (fault, q, d) (f, e) h k = fits_apart fault (joined_memory fault (Err a) (ap Err d) h) f q
  one_join (Err a) (Err b) (f, p, e) (g, q, d) h k =
      ap (λ (x : Refusal). Err x) (e ∙ one_refusal f g (joined_memory f (Err a) (ap Err e) h) (joined_memory g (Err b) (ap Err d) k) p q ∙ sym d)

  -- what is taken in is saved, unless memory runs out
  pub join_done : (told : Result (List ℕ) NoMemory) → Fits l s t → IfOk told (λ (bytes : List ℕ). bytes ≡ saved (join s t))
      → Joins l s t (of_memory told)
  join_done (Ok bytes) f e = (f, e)
  join_done (Err fault) f e = (tables.NoMemory, f, refl)

-- what is said of the join of two tables under the limits that the first keeps
pub joined_both : {first second : List ℕ} {limits : Limits} (s t : TableValue) (answer : Result (List ℕ) Refusal) → IsLoaded first limits s
    → IsLoaded second limits t → Joins s.limits s.contents t.contents answer → OfTwo first second limits (Joins limits) answer
joined_both s t answer is also j = both s t answer is also (subst (λ (l : Limits). Joins l s.contents t.contents answer) is.limited j)
