-- What is kept of a name, after one more word.
use Rattle.std.proofs.Common.{ℕ, ◌≡◌, ◌==◌, ◌&&◌, ◌<◌, refl, sym, ◌∙◌, ap, subst, arith, List, [], ◌∷◌, ◌++◌, Bool, true, false, cond, filter, append-nil, append_assoc, length, fold, sum_by, ◌+◌, ◌≤◌, Option, Some, None}
use Rattle.std.proofs.lemmas.Bool.{false≢true}
use Rattle.std.proofs.lemmas.Bool.Decides.{nat_tests}
use Rattle.std.specs.Ordering.{match_ordering}
use Rattle.std.proofs.lemmas.List.Elements.{filter-append}
use Rattle.std.proofs.lemmas.List.Sums.{fold-append}
use Rattle.std.specs.BTreeMap.{btree_map_len, is_at, values}
use Rattle.std.specs.BTreeSet.{insert_key}
use Rattle.std.specs.declared.net.ip_addr.IpAddr.{IpAddr}
use Rattle.std.specs.declared.cmp.Ordering.{Ordering}
use Rattle.std.specs.declared.cmp.Ordering.TheVariants.{Less, Equal, Greater}
use Rattle.std.specs.Option.{option_cmp}
use Rattle.std.specs.Ordering.{ordering_then, is_eq, on, then_cmp}
use Rattle.std.proofs.lemmas.Cmp.{eq_by_cmp_equiv}
use Rattle.std.specs.Map.{lookup, set_value, values_of}
use Rattle.std.proofs.lemmas.Map.{length-set_value}
use Rattle.std.proofs.lemmas.Map.Entries.{sum_by-set_value}
use Rattle.nb_names.specs.DomainName.{domain_cmp}
use Rattle.nb_survey.specs.declared.key.Key.{Key}
use Rattle.nb_survey.specs.declared.key.Reason.{Reason}
use Rattle.nb_survey.specs.declared.heard.Heard.{Heard}
use Rattle.nb_survey.specs.declared.heard.Said.{Said}
use Rattle.nb_survey.specs.declared.limits.TheConstants.{MAX_REQUESTS, MAX_ROWS}
use Rattle.nb_survey.specs.declared.rows.Table.{Table}
use Rattle.nb_survey.specs.declared.rows.Tables.{Tables}
use Rattle.nb_survey.specs.declared.survey.Kept.{Kept}
use Rattle.nb_survey.specs.declared.survey.Survey.{Survey}
use Rattle.nb_survey.specs.Code.Kept.{Hears, is_whole, IsRenewed, Keeps, kept_count, kept_row, key_at, Taken, left_out, of_name, queries_in, requests_in, whole_in}
use Rattle.nb_survey.specs.Code.Steps.{grown}
use Rattle.nb_survey.specs.KeyFacts.{key_cmp_total}
use Rattle.nb_survey.specs.Keys.{has_key, name_key, reason_cmp, reason_of, refusal_key, same_key}
use Rattle.nb_survey.specs.Places.{address_cmp, same_name}
use Rattle.nb_survey.specs.Words.{is_refusal}
use Rattle.nb_survey.specs.Queries.{is_for, step}
use Rattle.nb_survey.specs.Requests.{latest, renewed_by, request_of, requests}
use Rattle.nb_survey.specs.Rows.{row_at}
use Rattle.nb_survey.specs.Sums.{HasRoom, IsBounded, KeepsAll, Takes}
use Rattle.nb_survey.specs.Telling.{is_about, is_its}
use Rattle.nb_survey.proofs.PlaceLemmas.{name_exact}
use Rattle.nb_survey.proofs.RequestLemmas.{requests-more}
use Rattle.nb_survey.proofs.RowLemmas.{row_at-more}

-- ---- tables

and_false : (b : Bool) → (b && false) ≡ false
and_false true = refl
and_false false = refl

both_equal : (a b : Ordering) → is_eq (ordering_then a b) ≡ (is_eq a && is_eq b)
both_equal Less b = refl
both_equal Equal b = refl
both_equal Greater b = refl

-- rows of names that differ differ
other_key : (k : Key) (name : List (List ℕ)) (a : IpAddr) (r : Option Reason) → same_name k.name name ≡ false → same_key k (key_at name a r) ≡ false
other_key k name a r apart =
    let rest : Ordering = then_cmp (on (λ (x : Key). x.address) address_cmp) (on (λ (x : Key). x.reason) (option_cmp reason_cmp)) k (key_at name a r) in
    both_equal (domain_cmp k.name name) rest ∙ ap (λ b. b && is_eq rest) apart

other_refusal : (b : Bool) (k : Key) (name : List (List ℕ)) (a : IpAddr) (r : Option Reason) → same_name k.name name ≡ false
    → has_key (key_at name a r) (cond b (Some k) None) ≡ false
other_refusal true k name a r apart = other_key k name a r apart
other_refusal false k name a r apart = refl

-- rows that are one have one value
pub tied_row : (table : Table) (k key : Key) → same_key k key ≡ true → kept_row table k ≡ kept_row table key
tied_row table k key e = λ i. lookup (λ x. (eq_by_cmp_equiv key_cmp_total).congr k key x e i) table.rows.entries

-- a table that takes a word in its row
pub table_takes : (key_of : Said → Option Key) (old new : Table) (k : Key) (s : Said) (room : Bool) → Some k ≡ key_of s
    → ((other : Key) → kept_row new other ≡ cond (room && same_key k other) (Some (grown (kept_row old k) s)) (kept_row old other))
    → Taken key_of old new s room
table_takes key_of old new k s room is heard = record {
  takes = λ some key e.
      let same : same_key k key ≡ true = ap (has_key key) is ∙ e in
      heard key ∙ (ap (λ r. cond (r && same_key k key) (Some (grown (kept_row old k) s)) (kept_row old key)) some
      ∙ (ap (λ b. cond b (Some (grown (kept_row old k) s)) (kept_row old key)) same ∙ ap (λ r. Some (grown r s)) (tied_row old k key same)));
  stays = λ key e.
      let apart : (room && same_key k key) ≡ false = ap (λ b. room && b) (ap (has_key key) is ∙ e) ∙ and_false room in
      heard key ∙ ap (λ b. cond b (Some (grown (kept_row old k) s)) (kept_row old key)) apart;
}

-- a table in which a word has no row
pub table_stays : (key_of : Said → Option Key) (table : Table) (s : Said) (room : Bool) → None ≡ key_of s → Taken key_of table table s room
table_stays key_of table s room is = record {
  takes = λ some key e. absurd (false≢true (ap (has_key key) is ∙ e));
  stays = λ key e. refl;
}

step_by : (key_of : Said → Option Key) (old new : Table) (s : Said) (room : Bool) (t : Taken key_of old new s room) (key : Key) (before : List Said) (b : Bool)
    → has_key key (key_of s) ≡ b → room ≡ true → kept_row old key ≡ row_at key_of key before
    → kept_row new key ≡ cond b (Some (grown (row_at key_of key before) s)) (row_at key_of key before)
step_by key_of old new s room t key before true e some k = t.takes some key e ∙ ap (λ r. Some (grown r s)) k
step_by key_of old new s room t key before false e some k = t.stays key e ∙ k

-- a row of a table, after one more word of its name
table_step : (key_of : Said → Option Key) (old new : Table) (s : Said) (room : Bool) → Taken key_of old new s room → room ≡ true → (key : Key) (before : List Said)
    → kept_row old key ≡ row_at key_of key before → kept_row new key ≡ row_at key_of key (before ++ s ∷ [])
table_step key_of old new s room t some key before k =
    step_by key_of old new s room t key before (has_key key (key_of s)) refl some k ∙ sym (row_at-more key_of key before s)

-- ---- names

-- Stays old new name: the rows of a name are as they were
pub record Stays (old new : Survey) (name : List (List ℕ)) : Type 0 where
  pub rows : (address : IpAddr) (reason : Option Reason) → kept_row new.tables.names (key_at name address reason) ≡ kept_row old.tables.names (key_at name address reason)
  pub refusals : (address : IpAddr) (reason : Option Reason) → kept_row new.tables.refusals (key_at name address reason) ≡ kept_row old.tables.refusals (key_at name address reason)

-- IsUpdated old new name said packets kept: this is kept of the name once these words and packets are taken, and of other names what was
pub record IsUpdated (old new : Survey) (name : List (List ℕ)) (said : List Said) (packets : List Heard) (kept : Kept) : Type 0 where
  pub names : (other : List (List ℕ)) → of_name new other ≡ cond (same_name name other) (Some kept) (of_name old other)
  pub others : left_out new ≡ left_out old
  pub this : of_name new name ≡ Some kept → kept.is_whole ≡ true → Hears old new name said packets
  pub stays : (other : List (List ℕ)) → same_name name other ≡ false → Stays old new other
  pub silent : (other : List (List ℕ)) → same_name name other ≡ false → filter (is_about other) said ≡ []
  pub apart : (other : List (List ℕ)) → same_name name other ≡ false → filter (is_for other) packets ≡ []
  pub room : HasRoom new → HasRoom old × (is_whole old name ≡ true → kept.is_whole ≡ true)

-- a name of which nothing is said stays
stays_kept : (old new : Survey) (name : List (List ℕ)) (said : List Said) (packets : List Heard) → Stays old new name → of_name new name ≡ of_name old name
    → filter (is_about name) said ≡ [] → filter (is_for name) packets ≡ [] → is_whole old name ≡ true → Hears old new name said packets
stays_kept old new name said packets s e none apart whole =
    let words : (before : List Said) → before ++ filter (is_about name) said ≡ before = λ before. ap (λ xs. before ++ xs) none ∙ append-nil before in
    record {
      whole = whole;
      keeps = λ before k. subst (Keeps new name) (sym (words before)) (record {
        rows = λ a r. s.rows a r ∙ k.rows a r;
        refusals = λ a r. s.refusals a r ∙ k.refusals a r;
        asked = ap requests_in e ∙ k.asked;
      });
      queries = ap queries_in e ∙ sym (ap (fold step (queries_in (of_name old name))) apart);
    }

module _ (old new : Survey) (n : List (List ℕ)) (said : List Said) (packets : List Heard) (kept : Kept) (u : IsUpdated old new n said packets kept) where
  found : (b : Bool) (name : List (List ℕ)) → same_name n name ≡ b → of_name new name ≡ cond b (Some kept) (of_name old name)
  found b name e = u.names name ∙ ap (λ c. cond c (Some kept) (of_name old name)) e

  same_whole : (name : List (List ℕ)) → same_name n name ≡ false → is_whole new name ≡ is_whole old name
  same_whole name e = ap (λ k. whole_in k (of_name new name)) u.others ∙ ap (whole_in (left_out old)) (found false name e)

  hears_by : (b : Bool) (name : List (List ℕ)) → same_name n name ≡ b → is_whole new name ≡ true → Hears old new name said packets
  hears_by true name e whole =
      let is = found true name e in
      let exact = name_exact n name e in
      subst (λ x. Hears old new x said packets) exact (u.this (ap (of_name new) exact ∙ is) (sym (ap (whole_in (left_out new)) is) ∙ whole))
  hears_by false name e whole =
      stays_kept old new name said packets (u.stays name e) (found false name e) (u.silent name e) (u.apart name e) (sym (same_whole name e) ∙ whole)

  whole_by : KeepsAll old → HasRoom new → (b : Bool) (name : List (List ℕ)) → same_name n name ≡ b → is_whole new name ≡ true
  whole_by all has true name e = ap (whole_in (left_out new)) (found true name e) ∙ (u.room has).1 (all (u.room has).0 n)
  whole_by all has false name e = same_whole name e ∙ all (u.room has).0 name

  -- one name is updated
  pub takes_on : Takes old new said packets
  takes_on = record {
    hears = λ name. hears_by (same_name n name) name refl;
    kept = λ all has name. whole_by all has (same_name n name) name refl;
  }

-- IsSaid old new s room kept: the word is taken: the row where there is room, and what is kept of the name
pub record IsSaid (old new : Survey) (s : Said) (has_room : Bool) (before kept : Kept) : Type 0 where
  pub there : of_name old s.place.name ≡ Some before
  pub rows : Taken name_key old.tables.names new.tables.names s has_room
  pub refusals : Taken refusal_key old.tables.refusals new.tables.refusals s has_room
  pub names : (name : List (List ℕ)) → of_name new name ≡ cond (same_name s.place.name name) (Some kept) (of_name old name)
  pub others : left_out new ≡ left_out old
  pub whole : kept.is_whole ≡ true → IsRenewed before kept s has_room
  pub queries : kept.queries.items ≡ before.queries.items
  pub room : HasRoom new → HasRoom old × (kept.is_whole ≡ before.is_whole)

module _ (old new : Survey) (s : Said) (room : Bool) (before kept : Kept) (u : IsSaid old new s room before kept) where
  hears_this : same_name s.place.name s.place.name ≡ true → of_name new s.place.name ≡ Some kept → kept.is_whole ≡ true → Hears old new s.place.name (s ∷ []) []
  hears_this self e is =
      let n = s.place.name in
      let w = u.whole is in
      let filt : s ∷ [] ≡ filter (is_about n) (s ∷ []) = sym (ap (λ b. cond b (s ∷ []) []) self) in
      record {
        whole = ap (whole_in (left_out old)) u.there ∙ w.whole;
        keeps = λ said k. record {
          rows = λ a r. table_step name_key old.tables.names new.tables.names s room u.rows w.room (key_at n a r) said (k.rows a r)
              ∙ ap (λ xs. row_at name_key (key_at n a r) (said ++ xs)) filt;
          refusals = λ a r. table_step refusal_key old.tables.refusals new.tables.refusals s room u.refusals w.room (key_at n a r) said (k.refusals a r)
              ∙ ap (λ xs. row_at refusal_key (key_at n a r) (said ++ xs)) filt;
          asked = ap requests_in e ∙ (w.asked ∙ (ap (λ rs. renewed_by rs (request_of s)) (sym (ap requests_in u.there) ∙ k.asked)
              ∙ (sym (requests-more said s) ∙ ap (λ xs. latest (requests (said ++ xs))) filt)));
        };
        queries = ap queries_in e ∙ (u.queries ∙ sym (ap queries_in u.there));
      }

  said_stays : (name : List (List ℕ)) → same_name s.place.name name ≡ false → Stays old new name
  said_stays name apart = record {
    rows = λ a r. u.rows.stays (key_at name a r) (other_key (record { name = s.place.name; address = s.place.address; reason = None }) name a r apart);
    refusals = λ a r. u.refusals.stays (key_at name a r)
        (other_refusal (is_refusal s.word) (record { name = s.place.name; address = s.place.address; reason = Some (reason_of s) }) name a r apart);
  }

  -- a word that is taken
  pub takes_word : same_name s.place.name s.place.name ≡ true → Takes old new (s ∷ []) []
  takes_word self = takes_on old new s.place.name (s ∷ []) [] kept (record {
    names = u.names;
    others = u.others;
    this = hears_this self;
    stays = said_stays;
    silent = λ name apart. ap (λ b. cond b (s ∷ []) []) apart;
    apart = λ name apart. refl;
    room = λ has.
        let r = u.room has in
        (r.0, λ whole. r.1 ∙ (sym (ap (whole_in (left_out old)) u.there) ∙ whole));
  })

-- a name that isn't kept isn't whole once one is left out
none_zero : (n : ℕ) → 0 < n → (n == 0) ≡ true → ⊥
none_zero n low e = grind (arith, nat_tests)

pub none_whole : (survey : Survey) (name : List (List ℕ)) → of_name survey name ≡ None → 0 < left_out survey → is_whole survey name ≡ true → ⊥
none_whole survey name none low whole = none_zero (left_out survey) low (sym (ap (whole_in (left_out survey)) none) ∙ whole)

rows_stay : (old new : Survey) → new.tables ≡ old.tables → (name : List (List ℕ)) → Stays old new name
rows_stay old new e name = record {
  rows = λ a r. ap (λ (t : Tables). kept_row t.names (key_at name a r)) e;
  refusals = λ a r. ap (λ (t : Tables). kept_row t.refusals (key_at name a r)) e;
}

-- words and packets of a name that finds no room
module _ (survey : Survey) (n : List (List ℕ)) (none : of_name survey n ≡ None) (full : 0 < left_out survey) (said : List Said) (packets : List Heard)
    (silent : (other : List (List ℕ)) → same_name n other ≡ false → filter (is_about other) said ≡ [])
    (apart : (other : List (List ℕ)) → same_name n other ≡ false → filter (is_for other) packets ≡ []) where
  passes_by : (b : Bool) (name : List (List ℕ)) → same_name n name ≡ b → is_whole survey name ≡ true → Hears survey survey name said packets
  passes_by true name e whole = absurd (none_whole survey n none full (ap (is_whole survey) (name_exact n name e) ∙ whole))
  passes_by false name e whole = stays_kept survey survey name said packets (rows_stay survey survey refl name) refl (silent name e) (apart name e) whole

  pub passes : Takes survey survey said packets
  passes = record { hears = λ name. passes_by (same_name n name) name refl; kept = λ all. all }

-- IsAsked old new heard n before kept: a packet about a name is taken to its queries
pub record IsAsked (old new : Survey) (heard : Heard) (n : List (List ℕ)) (before kept : Kept) : Type 0 where
  pub named : heard.name ≡ Some n
  pub there : of_name old n ≡ Some before
  pub tables : new.tables ≡ old.tables
  pub names : (name : List (List ℕ)) → of_name new name ≡ cond (same_name n name) (Some kept) (of_name old name)
  pub others : left_out new ≡ left_out old
  pub whole : kept.is_whole ≡ true → (before.is_whole ≡ true) × (kept.queries.items ≡ step before.queries.items heard)
  pub requests : kept.requests.items ≡ before.requests.items
  pub room : HasRoom new → HasRoom old × (kept.is_whole ≡ before.is_whole)

packet_of : (heard : Heard) (n name : List (List ℕ)) → heard.name ≡ Some n → filter (is_for name) (heard ∷ []) ≡ cond (same_name n name) (heard ∷ []) []
packet_of heard n name e = ap (λ o. cond (is_its name o) (heard ∷ []) []) e

-- packets about one name are none about another
pub packet_apart : (heard : Heard) (n : List (List ℕ)) → heard.name ≡ Some n → (name : List (List ℕ)) → same_name n name ≡ false → filter (is_for name) (heard ∷ []) ≡ []
packet_apart heard n e name apart = packet_of heard n name e ∙ ap (λ b. cond b (heard ∷ []) []) apart

module _ (old new : Survey) (heard : Heard) (n : List (List ℕ)) (before kept : Kept) (u : IsAsked old new heard n before kept) where
  asks_this : same_name n n ≡ true → of_name new n ≡ Some kept → kept.is_whole ≡ true → Hears old new n [] (heard ∷ [])
  asks_this self e is =
      let w = u.whole is in
      let s = rows_stay old new u.tables n in
      record {
        whole = ap (whole_in (left_out old)) u.there ∙ w.0;
        keeps = λ said k. subst (Keeps new n) (sym (append-nil said)) (record {
          rows = λ a r. s.rows a r ∙ k.rows a r;
          refusals = λ a r. s.refusals a r ∙ k.refusals a r;
          asked = ap requests_in e ∙ (u.requests ∙ (sym (ap requests_in u.there) ∙ k.asked));
        });
        queries = ap queries_in e ∙ (w.1 ∙ (ap (λ qs. step qs heard) (sym (ap queries_in u.there))
            ∙ sym (ap (fold step (queries_in (of_name old n))) (packet_of heard n n u.named ∙ ap (λ b. cond b (heard ∷ []) []) self))));
      }

  -- a packet that is taken
  pub takes_packet : same_name n n ≡ true → Takes old new [] (heard ∷ [])
  takes_packet self = takes_on old new n [] (heard ∷ []) kept (record {
    names = u.names;
    others = u.others;
    this = asks_this self;
    stays = λ name apart. rows_stay old new u.tables name;
    silent = λ name apart. refl;
    apart = packet_apart heard n u.named;
    room = λ has.
        let r = u.room has in
        (r.0, λ whole. r.1 ∙ (sym (ap (whole_in (left_out old)) u.there) ∙ whole));
  })

-- a name that is admitted
module _ (old new : Survey) (n : List (List ℕ)) (kept : Kept) (absent : of_name old n ≡ None) (none : left_out old ≡ 0) (tables : new.tables ≡ old.tables)
    (names : (name : List (List ℕ)) → of_name new name ≡ cond (same_name n name) (Some kept) (of_name old name)) (others : left_out new ≡ left_out old)
    (whole : kept.is_whole ≡ true) (requests : kept.requests.items ≡ []) (queries : kept.queries.items ≡ []) (room : HasRoom new → HasRoom old) where
  admits_this : of_name new n ≡ Some kept → kept.is_whole ≡ true → Hears old new n [] []
  admits_this e is =
      let s = rows_stay old new tables n in
      record {
        whole = ap (whole_in (left_out old)) absent ∙ ap (λ k. k == 0) none;
        keeps = λ said k. subst (Keeps new n) (sym (append-nil said)) (record {
          rows = λ a r. s.rows a r ∙ k.rows a r;
          refusals = λ a r. s.refusals a r ∙ k.refusals a r;
          asked = ap requests_in e ∙ (requests ∙ (sym (ap requests_in absent) ∙ k.asked));
        });
        queries = ap queries_in e ∙ (queries ∙ sym (ap queries_in absent));
      }

  pub admits : Takes old new [] []
  admits = takes_on old new n [] [] kept (record {
    names = names;
    others = others;
    this = admits_this;
    stays = λ name apart. rows_stay old new tables name;
    silent = λ name apart. refl;
    apart = λ name apart. refl;
    room = λ has. (room has, λ old_whole. whole);
  })

-- a name that is left out
module _ (old new : Survey) (n : List (List ℕ)) (absent : of_name old n ≡ None) (full : 0 < left_out new) (tables : new.tables ≡ old.tables)
    (names : (name : List (List ℕ)) → of_name new name ≡ of_name old name) (room : HasRoom new → HasRoom old × (0 < left_out old)) where
  leaves_by : (o : Option Kept) (name : List (List ℕ)) → of_name old name ≡ o → is_whole new name ≡ true → Hears old new name [] []
  leaves_by None name e whole = absurd (none_whole new name (names name ∙ e) full whole)
  leaves_by (Some k) name e whole =
      stays_kept old new name [] [] (rows_stay old new tables name) (names name) refl refl
      (ap (whole_in (left_out old)) e ∙ (sym (ap (whole_in (left_out new)) (names name ∙ e)) ∙ whole))

  pub leaves : Takes old new [] []
  leaves = record {
    hears = λ name. leaves_by (of_name old name) name refl;
    kept = λ all has name. absurd (none_whole old n absent (room has).1 (all (room has).0 n));
  }

cons_some : {K : Type 0} (o : Ordering) (k x : K) (xs ys : List K) → 0 < length (match_ordering o (k ∷ (x ∷ xs)) (x ∷ xs) (x ∷ ys))
cons_some Less k x xs ys = omega arith
cons_some Equal k x xs ys = omega arith
cons_some Greater k x xs ys = omega arith

pub inserted_some : {K : Type 0} (cmp : K → K → Ordering) (ks : List K) (k : K) → 0 < length (insert_key cmp ks k)
inserted_some cmp [] k = omega arith
inserted_some cmp (x ∷ xs) k = cons_some (cmp k x) k x xs (insert_key cmp xs k)

-- no words and no packets
pub takes_nothing : (survey : Survey) → Takes survey survey [] []
takes_nothing survey = record {
  hears = λ name whole. stays_kept survey survey name [] [] (rows_stay survey survey refl name) refl refl refl whole;
  kept = λ all. all;
}

-- words and packets, and more of them
pub takes_both : (old mid new : Survey) (said more : List Said) (packets later : List Heard) → Takes old mid said packets → Takes mid new more later
    → Takes old new (said ++ more) (packets ++ later)
takes_both old mid new said more packets later first then = record {
  hears = λ name whole.
      let t = then.hears name whole in
      let f = first.hears name t.whole in
      let about = filter (is_about name) in
      let qs = queries_in (of_name old name) in
      record {
        whole = f.whole;
        keeps = λ before k. subst (Keeps new name)
            (append_assoc before (about said) (about more) ∙ ap (λ xs. before ++ xs) (sym (filter-append (is_about name) said more)))
            (t.keeps (before ++ about said) (f.keeps before k));
        queries = t.queries ∙ (ap (λ xs. fold step xs (filter (is_for name) later)) f.queries
            ∙ sym (ap (fold step qs) (filter-append (is_for name) packets later) ∙ fold-append step qs (filter (is_for name) packets) (filter (is_for name) later)));
      };
  kept = λ all. then.kept (first.kept all);
}

-- ---- bounds

-- what is kept of a name changes
pub bounded_on : (old new : Survey) (n : List (List ℕ)) (before kept : Kept) → of_name old n ≡ Some before
    → new.by_name.entries ≡ set_value (is_at (domain_cmp n)) old.by_name.entries kept
    → kept_count kept + old.count ≤ kept_count before + new.count → (old.count ≤ MAX_REQUESTS → new.count ≤ MAX_REQUESTS)
    → (btree_map_len old.tables.names.rows ≤ MAX_ROWS → btree_map_len old.tables.refusals.rows ≤ MAX_ROWS
    → (btree_map_len new.tables.names.rows ≤ MAX_ROWS) × (btree_map_len new.tables.refusals.rows ≤ MAX_ROWS))
    → left_out new ≡ left_out old → IsBounded old → IsBounded new
bounded_on old new n before kept there written counted within rows others b =
    let both = rows b.rows b.refusals in
    let long : btree_map_len new.by_name ≡ btree_map_len old.by_name = ap length written ∙ length-set_value (is_at (domain_cmp n)) old.by_name.entries kept in
    let total : sum_by kept_count (values new.by_name) ≡ sum_by kept_count (values_of (set_value (is_at (domain_cmp n)) old.by_name.entries kept)) =
    ap (λ es. sum_by kept_count (values_of es)) written in
    let more = sum_by-set_value kept_count (is_at (domain_cmp n)) old.by_name.entries before kept there in
    record {
      names = omega (arith, long, b.names);
      rows = both.0;
      refusals = both.1;
      others = omega (arith, others, b.others);
      requests = omega (arith, total, more, counted, b.requests);
      count = within b.count;
    }
