-- What a judged input comes to, and the table that is kept of it.
use Rattle.nb_table.proofs.Common.{◌≡◌, ◌<◌, ◌≤◌, ◌⊎◌, inl, inr, ℕ, List, map, filter, length, Bool, true, false, None, Ok, Err, refl, sym, ap, subst, ◌∙◌, arith, ◌≢◌, ◌+◌, ◌-◌, ◌&&◌, ◌++◌, nat_lt, cond, [], ◌∷◌, Option, Some, true≢false, ltb-true, lt-ltb, and_from, and_parts, Decides, IsTrue, Key, SavedForm, Contents, EntryValue, FewOfEach, of_source, Limits, KeepsLimits, IsReadAs, LoadFails, too_long, full_source, full, no_memory, magic, IsSaved, IsRead, entries_at, IsAfter, IsJudged, AreKept, AreFew, SourcesSoFar, IfSome, MatchOption, Ordering, Less, Equal, Greater, is_le, tied_itself, AllByRecursion, ip_cmp, nat_list_cmp_total}
use Rattle.std.specs.FinMap as maps
use Rattle.nb_entries.specs.declared.saved.LoadFault.{LoadFault}
use Rattle.nb_entries.specs.declared.saved.LoadFault.TheVariants.{TooLong, FullSource, Full, NoMemory}
use Rattle.nb_streams.specs.Places.{StandsAt}
use Rattle.nb_table.proofs.SavedReading.LoadedLemmas.{table_with, read_inside, read_entries, read_len, read_saved, read_formed, read_short}
use Rattle.nb_entries.specs.Shared.OutcomeLemmas.{same_fault, same_value, apart}
use Rattle.nb_table.proofs.SavedReading.FoundLemmas.{one_form, one_read, one_entries}
use Rattle.nb_table.specs.declared.saved.Sources.{Sources}
use Rattle.nb_table.proofs.Limits.GroupLemmas.{source_decides}
use Rattle.nb_table.proofs.Limits.SourceLemmas.{lower_ip, same_ip, strictly, le_both, itself_le}

-- a judged input has no fault
pub judged_sound : (input : List ℕ) (limit most count : ℕ) (short few : Bool) → IsJudged input limit most count short few → (f : LoadFault) → IsRead input (Err f) → ⊥
judged_sound input limit most count short few j f h = apart j.entries j.last f (one_read input (Ok (j.entries, j.last)) (Err f) j.read h)

-- a fault is the only one
pub fault_same : (input : List ℕ) (f g : LoadFault) → IsRead input (Err f) → IsRead input (Err g) → f ≡ g
fault_same input f g h k = same_fault f g (one_read input (Err f) (Err g) h k)

-- an input is read as one table
pub one_table : (input : List ℕ) (t u : Contents) → IsReadAs input t → IsReadAs input u → t ≡ u
one_table input t u h k =
    let same = same_value h.entries k.entries h.last k.last (one_read input (Ok (h.entries, h.last)) (Ok (k.entries, k.last)) h.read k.read) in
    h.same ∙ ap (λ (v : List (Key × EntryValue) × ℕ). table_with v.0) same ∙ sym k.same

-- ---- what is refused

pub judged_long : (input : List ℕ) (limits : Limits) (count : ℕ) (short few : Bool) → IsJudged input limits.longest limits.per_source count short few → short ≡ false → LoadFails input limits TooLong
judged_long input limits count short few j long =
    too_long (table_with j.entries) (record { entries = j.entries; last = j.last; read = j.read; same = refl })
    (λ all. true≢false (sym ((read_short input j.entries j.last limits.longest j.read).1 all) ∙ sym j.tested ∙ long))

judged_len : (input : List ℕ) (limit most count : ℕ) (short few : Bool) (j : IsJudged input limit most count short few) → maps.len (table_with j.entries) ≡ count
judged_len input limit most count short few j = read_len input j.entries j.last j.read ∙ sym j.counted

-- whether few keys of each address were judged is whether the table has few
judged_few : (input : List ℕ) (limit most count : ℕ) (short few : Bool) (j : IsJudged input limit most count short few) → Decides few (FewOfEach most (table_with j.entries))
judged_few input limit most count short few j = (
  λ h ip. (let few_there = j.few_counted.0 h ip in subst (λ (es : List (Key × EntryValue)). length (filter (of_source ip) (map (λ e. e.0) es)) ≤ most) (sym (read_entries input j.entries j.last j.read)) few_there),
  λ h. j.few_counted.1 (λ ip. subst (λ (es : List (Key × EntryValue)). length (filter (of_source ip) (map (λ e. e.0) es)) ≤ most) (read_entries input j.entries j.last j.read) (h ip)),
)

pub judged_crowded : (input : List ℕ) (limits : Limits) (count : ℕ) (short few : Bool) → IsJudged input limits.longest limits.per_source count short few → short ≡ true → few ≡ false → LoadFails input limits FullSource
judged_crowded input limits count short few j is many =
    full_source (table_with j.entries) (record { entries = j.entries; last = j.last; read = j.read; same = refl })
    ((read_short input j.entries j.last limits.longest j.read).0 (sym j.tested ∙ is))
    (λ h. true≢false (sym ((judged_few input limits.longest limits.per_source count short few j).1 h) ∙ many))

pub judged_full : (input : List ℕ) (limits : Limits) (count : ℕ) (short few : Bool) → IsJudged input limits.longest limits.per_source count short few → short ≡ true → few ≡ true → limits.keys < count → LoadFails input limits Full
judged_full input limits count short few j is spread many =
    full (table_with j.entries) (record { entries = j.entries; last = j.last; read = j.read; same = refl })
    ((read_short input j.entries j.last limits.longest j.read).0 (sym j.tested ∙ is))
    ((judged_few input limits.longest limits.per_source count short few j).0 spread)
    (omega (arith, many, judged_len input limits.longest limits.per_source count short few j))

pub judged_kept : (input : List ℕ) (limits : Limits) (count : ℕ) (short few : Bool) → IsJudged input limits.longest limits.per_source count short few → short ≡ true → few ≡ true → count ≤ limits.keys → LoadFails input limits NoMemory
judged_kept input limits count short few j is spread fits =
    no_memory (table_with j.entries) (record { entries = j.entries; last = j.last; read = j.read; same = refl })
    ((read_short input j.entries j.last limits.longest j.read).0 (sym j.tested ∙ is))
    ((judged_few input limits.longest limits.per_source count short few j).0 spread)
    (omega (arith, fits, judged_len input limits.longest limits.per_source count short few j))

-- the entries of a judged input of this form
judged_entries : (form : SavedForm) (input : List ℕ) (limit most count : ℕ) (short few : Bool) → StandsAt input 0 (magic form) → (j : IsJudged input limit most count short few) → entries_at form input count None 8 (Ok (j.entries, j.last))
judged_entries form input limit most count short few m j =
    let w = read_inside input j.entries j.last j.read in
    subst (λ (n : ℕ). entries_at form input n None 8 (Ok (j.entries, j.last))) (sym j.counted)
    (subst (λ (f : SavedForm). entries_at f input (length j.entries) None 8 (Ok (j.entries, j.last))) (one_form input w.form form w.stands m) w.entries)

-- no fault comes up after a judgement
pub judged_inside : (form : SavedForm) (input : List ℕ) (limit most count : ℕ) (short few : Bool) → StandsAt input 0 (magic form) → IsJudged input limit most count short few → (f : LoadFault) → entries_at form input count None 8 (Err f) → ⊥
judged_inside form input limit most count short few m j f h =
    apart j.entries j.last f (one_entries form input count None 8 (Ok (j.entries, j.last)) (Err f) (judged_entries form input limit most count short few m j) h)

-- ---- what is kept

-- the map that is kept is the table of the entries that were judged
pub kept_same : (form : SavedForm) (input : List ℕ) (limit most count : ℕ) (short few : Bool) (kept : Contents) → StandsAt input 0 (magic form) → (j : IsJudged input limit most count short few) → AreKept form input count 8 kept → kept ≡ table_with j.entries
kept_same form input limit most count short few kept m j k =
    let inside = judged_entries form input limit most count short few m j in
    let same = same_value k.entries j.entries k.next j.last (one_entries form input count None 8 (Ok (k.entries, k.next)) (Ok (j.entries, j.last)) k.read inside) in
    k.same ∙ ap (λ (v : List (Key × EntryValue) × ℕ). table_with v.0) same

pub kept_read : (form : SavedForm) (input : List ℕ) (limit most count : ℕ) (short few : Bool) (kept : Contents) → StandsAt input 0 (magic form) → IsJudged input limit most count short few → AreKept form input count 8 kept → IsReadAs input kept
kept_read form input limit most count short few kept m j k = record { entries = j.entries; last = j.last; read = j.read; same = kept_same form input limit most count short few kept m j k }

pub kept_saved : (form : SavedForm) (input : List ℕ) (limit most count : ℕ) (short few : Bool) (kept : Contents) → StandsAt input 0 (magic form) → IsJudged input limit most count short few → AreKept form input count 8 kept → IsSaved input kept
kept_saved form input limit most count short few kept m j k =
    subst (λ (t : Contents). IsSaved input t) (sym (kept_same form input limit most count short few kept m j k)) (read_saved input j.entries j.last j.read)

pub kept_limits : (form : SavedForm) (input : List ℕ) (limits : Limits) (count : ℕ) (short few : Bool) (kept : Contents) → StandsAt input 0 (magic form) → IsJudged input limits.longest limits.per_source count short few → short ≡ true → few ≡ true → count ≤ limits.keys → AreKept form input count 8 kept
    → KeepsLimits (record { contents = kept; limits = limits })
kept_limits form input limits count short few kept m j is spread fits k =
    subst (λ (t : Contents). KeepsLimits (record { contents = t; limits = limits })) (sym (kept_same form input limits.longest limits.per_source count short few kept m j k))
    (record {
      count = omega (arith, fits, judged_len input limits.longest limits.per_source count short few j);
      sources = (judged_few input limits.longest limits.per_source count short few j).0 spread;
      short = (read_short input j.entries j.last limits.longest j.read).0 (sym j.tested ∙ is);
      formed = read_formed input j.entries j.last j.read;
    })

-- what the keeping of a judged input answers where it fails
pub keeping_failed : (form : SavedForm) (input : List ℕ) (limits : Limits) (count : ℕ) (short few : Bool) (f : LoadFault) → StandsAt input 0 (magic form) → IsJudged input limits.longest limits.per_source count short few → short ≡ true → few ≡ true → count ≤ limits.keys
    → (f ≡ NoMemory) ⊎ entries_at form input count None 8 (Err f) → LoadFails input limits f
keeping_failed form input limits count short few f m j is spread fits (inl e) = subst (LoadFails input limits) (sym e) (judged_kept input limits count short few j is spread fits)
keeping_failed form input limits count short few f m j is spread fits (inr h) = absurd (judged_inside form input limits.longest limits.per_source count short few m j f h)

-- ---- The keys of one address, counted while a saved table is judged.

-- how many of these keys have the address
abbrev pub of_ip : List ℕ → List Key → ℕ
of_ip ip ks = length (filter (of_source ip) ks)

count_more : (ip : List ℕ) (ks : List Key) (k : Key) → of_ip ip (ks ++ k ∷ []) ≡ of_ip ip ks + cond (of_source ip k) 1 0
count_more ip [] k = step (of_source ip k)
  where
    step : (b : Bool) → length (cond b (k ∷ []) []) ≡ 0 + cond b 1 0
    step true = omega arith
    step false = omega arith
count_more ip (q ∷ ks) k = step (of_source ip q) (count_more ip ks k)
  where
    step : (b : Bool) → of_ip ip (ks ++ k ∷ []) ≡ of_ip ip ks + cond (of_source ip k) 1 0 → length (cond b (q ∷ filter (of_source ip) (ks ++ k ∷ [])) (filter (of_source ip) (ks ++ k ∷ []))) ≡ length (cond b (q ∷ filter (of_source ip) ks) (filter (of_source ip) ks)) + cond (of_source ip k) 1 0
    step true rec = omega (arith, rec)
    step false rec = rec

none_yet : (ip : List ℕ) (ks : List Key) → AllByRecursion (λ q. of_source ip q ≡ false) ks → of_ip ip ks ≡ 0
none_yet ip [] h = refl
none_yet ip (q ∷ ks) h = ap (λ b. length (cond b (q ∷ filter (of_source ip) ks) (filter (of_source ip) ks))) h.0 ∙ none_yet ip ks h.1

le_lt : (a b c : List ℕ) → is_le (ip_cmp a b) ≡ true → ip_cmp b c ≡ Less → ip_cmp a c ≡ Less
le_lt a b c h g = step (ip_cmp a b) refl h
  where
    step : (r : Ordering) → ip_cmp a b ≡ r → is_le r ≡ true → ip_cmp a c ≡ Less
    step Less e k = nat_list_cmp_total.trans a b c e g
    step Equal e k = subst (λ (x : List ℕ). ip_cmp x c ≡ Less) (sym (same_ip a b e)) g
    step Greater e k = absurd (cc k)

-- a key of a lesser address isn't of this one
lesser_source : (ip : List ℕ) (q : Key) → ip_cmp q.ip ip ≡ Less → of_source ip q ≡ false
lesser_source ip q h = step (of_source ip q) refl
  where
    step : (b : Bool) → of_source ip q ≡ b → b ≡ false
    step false e = refl
    step true e = let same = (source_decides ip q).0 e in let clash = sym (tied_itself nat_list_cmp_total ip) ∙ ap (λ (x : List ℕ). ip_cmp x ip) (sym same) ∙ h in absurd (cc clash)

lesser_all : (ip b : List ℕ) (ks : List Key) → ip_cmp b ip ≡ Less → AllByRecursion (λ q. is_le (ip_cmp q.ip b) ≡ true) ks → AllByRecursion (λ q. of_source ip q ≡ false) ks
lesser_all ip b [] less h = tt
lesser_all ip b (q ∷ ks) less h = (lesser_source ip q (le_lt q.ip b ip h.0 less), lesser_all ip b ks less h.1)

below_more : (b : List ℕ) (k : Key) (ks : List Key) → is_le (ip_cmp b k.ip) ≡ true → AllByRecursion (λ q. is_le (ip_cmp q.ip b) ≡ true) ks → AllByRecursion (λ q. is_le (ip_cmp q.ip k.ip) ≡ true) (ks ++ k ∷ [])
below_more b k [] le h = (itself_le k.ip, tt)
below_more b k (q ∷ ks) le h = (le_both q.ip b k.ip h.0 le, below_more b k ks le h.1)

-- ---- the turns

-- how many keys of the next one's address may come
pub room_is : (n : ℕ) (ks : List Key) (before : Option Key) (k : Key) (s : Sources) (room : ℕ) → SourcesSoFar n ks before s → IsAfter before k
    → MatchOption before (room ≡ n) (λ b. ((b.ip ≡ k.ip) → room ≡ s.room) × ((b.ip ≢ k.ip) → room ≡ n)) → room ≡ n - of_ip k.ip ks
room_is n ks None k s room so after is =
    let none = ap (of_ip k.ip) (so.none_yet refl) in
    omega (arith, is, none)
room_is n ks (Some b) k s room so after is = step (of_source k.ip b) refl
  where
    step : (t : Bool) → of_source k.ip b ≡ t → room ≡ n - of_ip k.ip ks
    step true e =
        let same = (source_decides k.ip b).0 e in
        is.0 same ∙ so.room ∙ ap (λ (ip : List ℕ). n - of_ip ip ks) same
    step false e =
        let apart : b.ip ≢ k.ip = λ h. true≢false (sym ((source_decides k.ip b).1 h) ∙ e) in
        let less = strictly b.ip k.ip (lower_ip b k after) apart in
        let none = none_yet k.ip ks (lesser_all k.ip b.ip ks less so.below) in
        let room_n = is.1 apart in
        omega (arith, room_n, none)

pub sources_turn : (n : ℕ) (ks : List Key) (before : Option Key) (k : Key) (s r : Sources) (room : ℕ) → SourcesSoFar n ks before s → IsAfter before k → room ≡ n - of_ip k.ip ks
    → r.are_few ≡ (s.are_few && nat_lt 0 room) → r.room ≡ room - 1 → SourcesSoFar n (ks ++ k ∷ []) (Some k) r
sources_turn n ks before k s r room so after is few left = record {
  few = (few_then, then_few);
  room = (let more = count_more k.ip ks k in let own = ap {B = ℕ} (λ b. cond b 1 0) ((source_decides k.ip k).1 refl) in omega (arith, more, own, is, left));
  none_yet = λ h. absurd (cc h);
  below = lower before after so.below so.none_yet;
}
  where
    at_ip : (ip : List ℕ) (b : Bool) → of_source ip k ≡ b → of_ip ip ks ≤ n → 0 < room → of_ip ip (ks ++ k ∷ []) ≤ n
    at_ip ip true e so_far some =
        let more = count_more ip ks k in
        let one = ap {B = ℕ} (λ b. cond b 1 0) e in
        let room_there : room ≡ n - of_ip ip ks = is ∙ ap (λ (i : List ℕ). n - of_ip i ks) ((source_decides ip k).0 e) in
        omega (arith, more, one, room_there, some)
    at_ip ip false e so_far some =
        let more = count_more ip ks k in
        let one = ap {B = ℕ} (λ b. cond b 1 0) e in
        omega (arith, more, one, so_far)

    few_then : IsTrue r.are_few → AreFew n (ks ++ k ∷ [])
    few_then h ip =
        let both = sym few ∙ h in
        at_ip ip (of_source ip k) refl (so.few.0 (and_parts s.are_few (nat_lt 0 room) both).0 ip) (ltb-true 0 room (and_parts s.are_few (nat_lt 0 room) both).1)

    before_few : AreFew n (ks ++ k ∷ []) → AreFew n ks
    before_few h ip = let more = count_more ip ks k in let most = h ip in omega (arith, more, most)

    then_few : AreFew n (ks ++ k ∷ []) → IsTrue r.are_few
    then_few h =
        let more = count_more k.ip ks k in
        let own = ap {B = ℕ} (λ b. cond b 1 0) ((source_decides k.ip k).1 refl) in
        let most = h k.ip in
        few ∙ and_from s.are_few (nat_lt 0 room) (so.few.1 (before_few h)) (lt-ltb 0 room (omega (arith, more, own, most, is)))

    lower : (o : Option Key) → IsAfter o k → IfSome o (λ b. AllByRecursion (λ q. is_le (ip_cmp q.ip b.ip) ≡ true) ks) → (o ≡ None → ks ≡ []) → AllByRecursion (λ q. is_le (ip_cmp q.ip k.ip) ≡ true) (ks ++ k ∷ [])
    lower None a h none = subst (λ (qs : List Key). AllByRecursion (λ q. is_le (ip_cmp q.ip k.ip) ≡ true) (qs ++ k ∷ [])) (sym (none refl)) (itself_le k.ip, tt)
    lower (Some b) a h none = below_more b.ip k ks (lower_ip b k a) h
