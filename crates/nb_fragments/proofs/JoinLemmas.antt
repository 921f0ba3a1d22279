-- One fragment more.
use Rattle.std.proofs.Common.{ℕ, ◌≡◌, ◌≤◌, ◌<◌, ◌+◌, refl, sym, subst, ◌∙◌, ap, arith, List, [], ◌∷◌, ◌++◌, map, fold, sum_by, ◌^◌, append-nil, Bool, true, false, cond, min, Option, Some, None, Result, Ok, Err, OnOk, OnErr, IfOk}
use Rattle.std.specs.Prelude.{is_some, if◌then◌else◌}
use Rattle.std.proofs.lemmas.List.Elements.{filter-append}
use Rattle.std.proofs.lemmas.Option.{same_Some}
use Rattle.std.specs.Cmp.{Equal-is, tied_itself}
use Rattle.std.specs.BTreeMap.{BTreeMap, btree_map_len, get, is_at, insert_entry, IsOrdered}
use Rattle.std.specs.Map.{set_value, values_of}
use Rattle.std.proofs.lemmas.Map.Entries.{sum_by-insert_entry, sum_by-set_value}
use Rattle.nb_streams.specs.declared.bytes.NoMemory.{NoMemory}
use Rattle.nb_entries.specs.Piece.{PieceParts}
use Rattle.nb_entries.specs.Cover.{CoverValue}
use Rattle.nb_entries.specs.CoverChange.{cover_of_pieces, no_facts, with_piece}
use Rattle.nb_entries.specs.declared.slot.Slot.TheVariants.{Held}
use Rattle.nb_fragments.specs.declared.key.Key.{Key}
use Rattle.nb_fragments.specs.declared.limits.TheConstants.{KEYS, ROOM}
use Rattle.nb_fragments.specs.declared.taken.Taken.{Taken}
use Rattle.nb_fragments.specs.declared.taken.Taken.TheVariants.{Whole, Kept, Again, Disagrees, LeftOut}
use Rattle.nb_fragments.specs.declared.taken.Refusal.TheVariants.{TooMany}
use Rattle.nb_fragments.specs.declared.waiting.Waiting.{Waiting}
use Rattle.nb_fragments.specs.declared.fragments.Fragments.{Fragments}
use Rattle.nb_fragments.specs.Keys.{key_cmp, key_cmp_total, key_exact, same_key}
use Rattle.nb_fragments.specs.Live.{Came, is_of, of_key, cover_at}
use Rattle.nb_fragments.specs.Taking.{IsTaken, MakesOf, live_after}
use Rattle.nb_fragments.specs.Code.Kept.{IsPut, Joins, charge_of, Known, Waits, came_at, known_by, known_cover, known_of, known_with, kept_at}

-- ---- what is joined

joins_of : (old new : BTreeMap Key Waiting) (now : ℕ) (key : Key) (piece : PieceParts) (taken : Taken) → IsPut old new now key piece
    → IsTaken (known_cover (known_of (get key_cmp old key))) (known_with now piece (known_of (get key_cmp old key))).cover taken → Joins old new now key piece taken
joins_of old new now key piece (Whole bytes) put is = (put, is)
joins_of old new now key piece Kept put is = (put, is)
joins_of old new now key piece Again put is = (put, is)
joins_of old new now key piece Disagrees put is = (put, is)
joins_of old new now key piece (LeftOut refusal) put is = absurd is

-- a packet of which some is kept
pub joined_held : (old new : BTreeMap Key Waiting) (now : ℕ) (key : Key) (piece : PieceParts) (w v : Waiting) (r : Result Taken NoMemory) → get key_cmp old key ≡ Some w
    → ((other : Key) → get key_cmp new other ≡ cond (same_key key other) (Some v) (get key_cmp old other)) → btree_map_len new ≡ btree_map_len old
    → v.start ≡ w.start → OnOk r (v.cover ≡ with_piece w.cover piece) → IfOk r (IsTaken w.cover v.cover) → IfOk r (Joins old new now key piece)
joined_held old new now key piece w v (Err e) at put len start joined is = tt
joined_held old new now key piece w v (Ok taken) at put len start joined is =
    let before = ap known_of at in
    let grown : ◌≡◌ {A = Known} (record { start = v.start; cover = v.cover }) (known_with now piece (known_of (get key_cmp old key))) =
    (λ i. record { start = start i; cover = joined i }) ∙ ap (known_with now piece) (sym before) in
    joins_of old new now key piece taken
    (record { value = v; known = ap Some grown; put = put; few = λ most. (omega (arith, len, most)) })
    (subst (λ (a : CoverValue). IsTaken a (known_with now piece (known_of (get key_cmp old key))).cover taken) (ap known_cover (sym before))
    (subst (λ (b : CoverValue). IsTaken w.cover b taken) (ap (λ (k : Known). k.cover) grown) is))

-- where memory runs out nothing changes
pub kept_held : (old new : BTreeMap Key Waiting) (key : Key) (w v : Waiting) (r : Result Taken NoMemory) → get key_cmp old key ≡ Some w
    → ((other : Key) → get key_cmp new other ≡ cond (same_key key other) (Some v) (get key_cmp old other)) → OnErr r (v ≡ w)
    → OnErr r ((other : Key) → get key_cmp new other ≡ get key_cmp old other)
kept_held old new key w v (Ok taken) at put kept = tt
kept_held old new key w v (Err e) at put kept = λ other. put other ∙ step other (same_key key other) refl
  where
    step : (other : Key) (b : Bool) → same_key key other ≡ b → cond b (Some v) (get key_cmp old other) ≡ get key_cmp old other
    step other true e = ap Some kept ∙ sym at ∙ ap (get key_cmp old) (key_exact key other e)
    step other false e = refl

-- a packet of which none is kept
pub joined_new : (old new : BTreeMap Key Waiting) (now : ℕ) (key : Key) (piece : PieceParts) (v : Waiting) (taken : Taken) → get key_cmp old key ≡ None
    → ((other : Key) → get key_cmp new other ≡ cond (same_key key other) (Some v) (get key_cmp old other)) → (btree_map_len old ≤ KEYS → btree_map_len new ≤ KEYS)
    → v.start ≡ now → v.cover ≡ with_piece (Held no_facts) piece → IsTaken (Held no_facts) v.cover taken → Joins old new now key piece taken
joined_new old new now key piece v taken none put few start joined is =
    let before = ap known_of none in
    let grown : ◌≡◌ {A = Known} (record { start = v.start; cover = v.cover }) (known_with now piece (known_of (get key_cmp old key))) =
    (λ i. record { start = start i; cover = joined i }) ∙ ap (known_with now piece) (sym before) in
    joins_of old new now key piece taken
    (record { value = v; known = ap Some grown; put = put; few = few })
    (subst (λ (a : CoverValue). IsTaken a (known_with now piece (known_of (get key_cmp old key))).cover taken) (ap known_cover (sym before))
    (subst (λ (b : CoverValue). IsTaken (Held no_facts) b taken) (ap (λ (k : Known). k.cover) grown) is))

-- ---- what is live

pub fold-more : (c : CoverValue) (ps : List Came) (came : Came) → fold with_piece c (map (λ x. x.piece) (ps ++ came ∷ [])) ≡ with_piece (fold with_piece c (map (λ x. x.piece) ps)) came.piece
fold-more c [] came = refl
fold-more c (p ∷ ps) came = fold-more (with_piece c p.piece) ps came

-- what is known after one fragment more of the packet
known_by-more : (A : List Came) (came : Came) → known_by (A ++ came ∷ []) ≡ Some (known_with came.time came.piece (known_by A))
known_by-more [] came = refl
known_by-more (c ∷ cs) came = let cover = fold-more (Held no_facts) (c ∷ cs) came in λ i. Some (record { start = c.time; cover = cover i })

-- the fragments of a packet after one more
pub of_key-more : (k : Key) (live : List Came) (came : Came) → of_key k (live ++ came ∷ []) ≡ of_key k live ++ cond (is_of k came) (came ∷ []) []
of_key-more k live came = filter-append (is_of k) live (came ∷ [])

pub own_key : (k : Key) → same_key k k ≡ true
own_key k = (Equal-is (key_cmp k k)).1 (tied_itself key_cmp_total k)

-- one fragment more is live
pub waits_more : (f g : Fragments) (key : Key) (piece : PieceParts) (live : List Came) → Waits f live → IsPut f.waiting g.waiting f.clock key piece
    → g.earliest ≡ min f.earliest f.clock → charge_of g.waiting ≤ g.used → g.used ≤ ROOM → Waits g (live ++ came_at f key piece ∷ [])
waits_more f g key piece live h p least charge room = record {
  known = λ k. ap known_of (p.put k) ∙ step k (same_key key k) refl ∙ ap known_by (sym (of_key-more k live (came_at f key piece)));
  early = λ k w e. early k w (same_key key k) refl (sym (p.put k) ∙ e);
  few = p.few h.few;
  charge = charge;
  room = room;
}
  where
    now : ℕ
    now = f.clock

    step : (k : Key) (b : Bool) → same_key key k ≡ b → known_of (cond b (Some p.value) (kept_at f k)) ≡ known_by (of_key k live ++ cond (same_key key k) (came_at f key piece ∷ []) [])
    step k true e =
        p.known
        ∙ ap (λ q. Some (known_with f.clock piece (known_of (kept_at f q)))) (key_exact key k e)
        ∙ ap (λ o. Some (known_with f.clock piece o)) (h.known k)
        ∙ sym (known_by-more (of_key k live) (came_at f key piece))
        ∙ ap (λ (t : Bool). known_by (of_key k live ++ cond t (came_at f key piece ∷ []) [])) (sym e)
    step k false e =
        h.known k
        ∙ ap known_by (sym (append-nil (of_key k live)))
        ∙ ap (λ (t : Bool). known_by (of_key k live ++ cond t (came_at f key piece ∷ []) [])) (sym e)

    first : (o : Option Waiting) → ((w : Waiting) → o ≡ Some w → f.earliest ≤ w.start) → known_of (Some p.value) ≡ Some (known_with f.clock piece (known_of o)) → min f.earliest f.clock ≤ p.value.start
    first None before e = let start = ap (λ (k : Known). k.start) (same_Some _ _ e) in omega (arith, start)
    first (Some w) before e = let start = ap (λ (k : Known). k.start) (same_Some _ _ e) in let most = before w refl in omega (arith, start, most)

    early : (k : Key) (w : Waiting) (b : Bool) → same_key key k ≡ b → cond b (Some p.value) (kept_at f k) ≡ Some w → g.earliest ≤ w.start
    early k w true e is =
        let same : p.value.start ≡ w.start = ap (λ (x : Waiting). x.start) (same_Some _ _ is) in
        let most = first (kept_at f key) (h.early key) p.known in
        omega (arith, same, most, least)
    early k w false e is = let most = h.early k w is in omega (arith, most, least)

-- what a fragment makes, of the fragments that are live
cover_known : (A : List Came) → cover_of_pieces (map (λ x. x.piece) A) ≡ known_cover (known_by A)
cover_known [] = refl
cover_known (c ∷ cs) = refl

cover_more : (f : Fragments) (key : Key) (piece : PieceParts) (live : List Came) → Waits f live
    → cover_at key (live ++ came_at f key piece ∷ []) ≡ (known_with f.clock piece (known_of (kept_at f key))).cover
cover_more f key piece live h =
    let came = came_at f key piece in
    let own = of_key-more key live came ∙ ap (λ (t : Bool). of_key key live ++ cond t (came ∷ []) []) (own_key key) in
    ap (λ (A : List Came). cover_of_pieces (map (λ x. x.piece) A)) own
    ∙ cover_known (of_key key live ++ came ∷ [])
    ∙ ap known_cover (known_by-more (of_key key live) came)
    ∙ ap (λ o. (known_with f.clock piece o).cover) (sym (h.known key))

pub makes_of : (f : Fragments) (key : Key) (piece : PieceParts) (live : List Came) (taken : Taken) → Waits f live
    → IsTaken (known_cover (known_of (kept_at f key))) (known_with f.clock piece (known_of (kept_at f key))).cover taken
    → IsTaken (cover_at key live) (cover_at key (live ++ came_at f key piece ∷ [])) taken
makes_of f key piece live taken h is =
    let before : cover_at key live ≡ known_cover (known_of (kept_at f key)) = cover_known (of_key key live) ∙ ap known_cover (sym (h.known key)) in
    subst (λ (a : CoverValue). IsTaken a (cover_at key (live ++ came_at f key piece ∷ [])) taken) (sym before)
    (subst (λ (b : CoverValue). IsTaken (known_cover (known_of (kept_at f key))) b taken) (sym (cover_more f key piece live h)) is)

-- after a fragment that was joined, or left out
pub live_joined : (f g : Fragments) (key : Key) (piece : PieceParts) (live : List Came) (taken : Taken) → Waits f live → Joins f.waiting g.waiting f.clock key piece taken
    → g.earliest ≡ min f.earliest f.clock → charge_of g.waiting ≤ g.used → g.used ≤ ROOM → Waits g (live_after taken (came_at f key piece) live)
live_joined f g key piece live (Whole bytes) h j least charge room = waits_more f g key piece live h j.0 least charge room
live_joined f g key piece live Kept h j least charge room = waits_more f g key piece live h j.0 least charge room
live_joined f g key piece live Again h j least charge room = waits_more f g key piece live h j.0 least charge room
live_joined f g key piece live Disagrees h j least charge room = waits_more f g key piece live h j.0 least charge room
live_joined f g key piece live (LeftOut refusal) h j least charge room = record {
  known = λ k. ap (λ (m : BTreeMap Key Waiting). known_of (get key_cmp m k)) j.1 ∙ h.known k;
  early = λ k w e. (let most = h.early k w (ap (λ (m : BTreeMap Key Waiting). get key_cmp m k) (sym j.1) ∙ e) in omega (arith, most, least));
  few = subst (λ (m : BTreeMap Key Waiting). btree_map_len m ≤ KEYS) (sym j.1) h.few;
  charge = charge;
  room = room;
}

pub makes_joined : (f : Fragments) (new : BTreeMap Key Waiting) (key : Key) (piece : PieceParts) (live : List Came) (taken : Taken) → Waits f live
    → Joins f.waiting new f.clock key piece taken → MakesOf (came_at f key piece) live taken
makes_joined f new key piece live (Whole bytes) h j = makes_of f key piece live (Whole bytes) h j.1
makes_joined f new key piece live Kept h j = makes_of f key piece live Kept h j.1
makes_joined f new key piece live Again h j = makes_of f key piece live Again h j.1
makes_joined f new key piece live Disagrees h j = makes_of f key piece live Disagrees h j.1
makes_joined f new key piece live (LeftOut refusal) h j = j.0

-- where memory ran out
pub live_kept : (f g : Fragments) (live : List Came) → Waits f live → ((k : Key) → kept_at g k ≡ kept_at f k) → btree_map_len g.waiting ≡ btree_map_len f.waiting
    → g.earliest ≡ f.earliest → charge_of g.waiting ≤ charge_of f.waiting → g.used ≡ f.used → Waits g live
live_kept f g live h same len least charge used = record {
  known = λ k. ap known_of (same k) ∙ h.known k;
  early = λ k w e. (let most = h.early k w (sym (same k) ∙ e) in omega (arith, most, least));
  few = let most = h.few in omega (arith, len, most);
  charge = let less = h.charge in omega (arith, less, charge, used);
  room = let most = h.room in omega (arith, most, used);
}

pub any_err : {P : Type 0} (r : Result Taken NoMemory) → P → OnErr r P
any_err (Ok taken) p = tt
any_err (Err e) p = p

-- one key more is held at most
pub few_more : (o : Option Waiting) (m n : ℕ) → m ≡ n + (if is_some o then 0 else 1) → n < KEYS → n ≤ KEYS → m ≤ KEYS
few_more None m n e less most = omega (arith, e, less)
few_more (Some w) m n e less most = omega (arith, e, less)

-- ---- how many bytes count

abbrev total : List (Key × Waiting) → ℕ
total es = sum_by (λ (x : Waiting). x.bytes) (values_of es)

pub charge_held : (old new : BTreeMap Key Waiting) (key : Key) (w v : Waiting) (u t n : ℕ) (r : Result Taken NoMemory) → get key_cmp old key ≡ Some w
    → new.entries ≡ set_value (is_at (key_cmp key)) old.entries v → OnOk r (u + n < 2 ^ 64 → v.bytes + u ≤ w.bytes + t) → OnOk r (u + n < 2 ^ 64 → charge_of new + u ≤ charge_of old + t)
charge_held old new key w v u t n (Err e) at put more = tt
charge_held old new key w v u t n (Ok taken) at put more = λ less.
    let sum = sum_by-set_value (λ (x : Waiting). x.bytes) (is_at (key_cmp key)) old.entries w v at in
    let is = ap total put in
    let grown = more less in
    omega (arith, sum, is, grown)

pub charge_kept : (old new : BTreeMap Key Waiting) (key : Key) (w v : Waiting) (r : Result Taken NoMemory) → get key_cmp old key ≡ Some w
    → new.entries ≡ set_value (is_at (key_cmp key)) old.entries v → OnErr r (v ≡ w) → OnErr r (charge_of new ≤ charge_of old)
charge_kept old new key w v (Ok taken) at put kept = tt
charge_kept old new key w v (Err e) at put kept =
    let sum = sum_by-set_value (λ (x : Waiting). x.bytes) (is_at (key_cmp key)) old.entries w v at in
    let is = ap total put in
    let same = ap (λ (x : Waiting). x.bytes) kept in
    omega (arith, sum, is, same)

pub charge_new : (old new : BTreeMap Key Waiting) (key : Key) (v : Waiting) → IsOrdered key_cmp old → new.entries ≡ insert_entry key_cmp old.entries key v
    → charge_of new ≤ charge_of old + v.bytes
charge_new old new key v ordered put =
    let sum = sum_by-insert_entry (λ (x : Waiting). x.bytes) key_cmp_total old.entries key v ordered in
    let is = ap total put in
    omega (arith, sum, is)

-- ---- where there is no room

-- what is joined isn't left out
pub is_joined : {P : Type 0} (a b : CoverValue) (r : Result Taken NoMemory) → IfOk r (IsTaken a b) → r ≡ Ok (LeftOut TooMany) → P
is_joined {P} a b (Err e) is left = absurd (cc left)
is_joined {P} a b (Ok taken) is left = let same : taken ≡ LeftOut TooMany = cc left in absurd (subst (IsTaken a b) same is)
