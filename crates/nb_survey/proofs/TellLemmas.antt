-- What a packet says of which names.
use Rattle.std.proofs.Common.{ℕ, ◌≡◌, ◌==◌, refl, sym, ◌∙◌, ap, List, [], ◌∷◌, ◌++◌, Bool, true, false, cond, map, filter, fold, append-nil, length, Option, Some, None}
use Rattle.std.proofs.lemmas.Bool.{or_parts}
use Rattle.std.proofs.lemmas.List.Elements.{filter-append}
use Rattle.std.proofs.lemmas.List.Sums.{fold-append}
use Rattle.std.specs.List.{list_any}
use Rattle.nb_survey.specs.declared.heard.Heard.{Heard}
use Rattle.nb_survey.specs.declared.heard.Listed.{Listed}
use Rattle.nb_survey.specs.declared.heard.Said.{Said}
use Rattle.nb_survey.specs.declared.requests.Request.{Request}
use Rattle.nb_survey.specs.declared.survey.Survey.{Survey}
use Rattle.nb_survey.specs.declared.word.Asking.{Asking}
use Rattle.nb_survey.specs.declared.word.Word.{Word}
use Rattle.nb_survey.specs.declared.word.Word.TheVariants.{Answers}
use Rattle.nb_survey.specs.Code.Kept.{Keeps, of_name, requests_in}
use Rattle.nb_survey.specs.Places.{same_name}
use Rattle.nb_survey.specs.Queries.{is_for, queries_of, step}
use Rattle.nb_survey.specs.Requests.{answered, latest, requests}
use Rattle.nb_survey.specs.Sayings.{asks_or_tells, is_of_a_name, is_of_record, is_positive, of_entry, of_listed, of_record, of_sender, of_target, sayings, worded}
use Rattle.nb_survey.specs.Sayings as sayings
use Rattle.nb_survey.specs.Telling.{about, answer_of, is_about, is_its, mentions, of_request, told, told_by, words_of}
use Rattle.nb_survey.specs.Words.{asking_of, word_of}
use Rattle.nb_survey.proofs.PlaceLemmas.{name_exact}

-- ---- words of other names

none_more : (name : List (List ℕ)) (b : Bool) (s : Said) (xs : List Said) → is_about name s ≡ false → filter (is_about name) xs ≡ []
    → filter (is_about name) (cond b (s ∷ xs) xs) ≡ []
none_more name true s xs apart rest = ap (λ c. cond c (s ∷ filter (is_about name) xs) (filter (is_about name) xs)) apart ∙ rest
none_more name false s xs apart rest = rest

none_about : {X : Type 0} (name : List (List ℕ)) (f : X → Said) → ((x : X) → is_about name (f x) ≡ false) → (xs : List X)
    → filter (is_about name) (filter is_of_a_name (map f xs)) ≡ []
none_about name f apart [] = refl
none_about name f apart (x ∷ xs) = none_more name (is_of_a_name (f x)) (f x) (filter is_of_a_name (map f xs)) (apart x) (none_about name f apart xs)

none_asked : {X : Type 0} (name : List (List ℕ)) (f : X → Said) → ((x : X) → is_about name (f x) ≡ false) → (xs : List X)
    → filter (is_about name) (map f xs) ≡ []
none_asked name f apart [] = refl
none_asked name f apart (x ∷ xs) = none_more name true (f x) (map f xs) (apart x) (none_asked name f apart xs)

module _ (heard : Heard) (n name : List (List ℕ)) (apart : same_name n name ≡ false) where
  record_silent : (w : Word) → filter (is_about name) (filter is_of_a_name (of_record heard n w)) ≡ []
  record_silent w = none_about name (of_entry heard n w) (λ x. apart) heard.entries.items

  either_silent : (w : Word) (s : Said) (b : Bool) → is_about name s ≡ false
      → filter (is_about name) (filter is_of_a_name (cond b (s ∷ []) (of_record heard n w))) ≡ []
  either_silent w s true e = none_about name (λ (k : ℕ). s) (λ k. e) (0 ∷ [])
  either_silent w s false e = record_silent w

  other_silent : (w : Word) (s : Said) (b : Bool) → is_about name s ≡ false
      → filter (is_about name) (filter is_of_a_name (cond b (of_record heard n w) (s ∷ []))) ≡ []
  other_silent w s true e = record_silent w
  other_silent w s false e = none_about name (λ (k : ℕ). s) (λ k. e) (0 ∷ [])

  asks_silent : (w : Word) (asking : Option Asking) → filter (is_about name) (filter is_of_a_name (asks_or_tells asking heard n w)) ≡ []
  asks_silent w (Some asking) = either_silent w (of_sender heard n w) (length heard.entries.items == 0) apart
  asks_silent w None = other_silent w (of_target heard n w) (is_of_record w) apart

  -- what a response says of a request is of its name, and so is what it says without one
  pub about_others : (w : Option Word) → word_of heard.flags ≡ w → heard.name ≡ Some n → (found : List Request)
      → filter (is_about name) (about heard w n found) ≡ filter (is_about name) (sayings heard)
  about_others None e h found = refl
  about_others (Some w) e h [] = refl
  about_others (Some w) e h (r ∷ rs) =
      none_asked name (of_request heard n w) (λ x. apart) (r ∷ rs)
      ∙ sym (ap (λ o. filter (is_about name) (filter is_of_a_name (sayings.of_name heard o))) h
      ∙ (ap (λ o. filter (is_about name) (filter is_of_a_name (worded heard n o))) e ∙ asks_silent w (asking_of w)))

about_none : (heard : Heard) (w : Option Word) (n : List (List ℕ)) → about heard w n [] ≡ sayings heard
about_none heard None n = refl
about_none heard (Some w) n = refl

-- ---- what is told with the requests that are kept

told_by_name : (survey : Survey) (heard : Heard) (asking : Asking) (n name : List (List ℕ)) (before : List Said) (b : Bool) → same_name n name ≡ b
    → heard.name ≡ Some n → Keeps survey name before
    → filter (is_about name) (about heard (word_of heard.flags) n (answered asking heard.facts (requests_in (of_name survey n))))
    ≡ filter (is_about name) (about heard (word_of heard.flags) n (answered asking heard.facts (latest (requests before))))
told_by_name survey heard asking n name before true e h k =
    ap (λ rs. filter (is_about name) (about heard (word_of heard.flags) n (answered asking heard.facts rs)))
    (ap (λ m. requests_in (of_name survey m)) (name_exact n name e) ∙ k.asked)
told_by_name survey heard asking n name before false e h k =
    about_others heard n name e (word_of heard.flags) refl h (answered asking heard.facts (requests_in (of_name survey n)))
    ∙ sym (about_others heard n name e (word_of heard.flags) refl h (answered asking heard.facts (latest (requests before))))

-- what a response says that answers requests
pub told_on : (survey : Survey) (heard : Heard) (asking : Asking) (n : List (List ℕ)) → answer_of heard ≡ Some asking → heard.name ≡ Some n
    → (name : List (List ℕ)) (before : List Said) → Keeps survey name before
    → filter (is_about name) (about heard (word_of heard.flags) n (answered asking heard.facts (requests_in (of_name survey n))))
    ≡ filter (is_about name) (told before heard)
told_on survey heard asking n a h name before k =
    told_by_name survey heard asking n name before (same_name n name) refl h k
    ∙ sym (ap (λ o. filter (is_about name) (told_by o heard.name before heard)) a ∙ ap (λ o. filter (is_about name) (told_by (Some asking) o before heard)) h)

-- what a response says of whose name apart requests are kept
pub told_none : (survey : Survey) (heard : Heard) (asking : Asking) (n : List (List ℕ)) → answer_of heard ≡ Some asking → heard.name ≡ Some n
    → of_name survey n ≡ None → (name : List (List ℕ)) (before : List Said) → Keeps survey name before
    → filter (is_about name) (sayings heard) ≡ filter (is_about name) (told before heard)
told_none survey heard asking n a h none name before k =
    ap (filter (is_about name)) (sym (ap (λ o. about heard (word_of heard.flags) n (answered asking heard.facts (requests_in o))) none ∙ about_none heard (word_of heard.flags) n))
    ∙ told_on survey heard asking n a h name before k

-- ---- packets that don't mention a name

listed_silent : (heard : Heard) (name : List (List ℕ)) (xs : List Listed) → list_any (λ listed. same_name listed.name name) xs ≡ false
    → filter (is_about name) (filter is_of_a_name (map (of_listed heard) xs)) ≡ []
listed_silent heard name [] apart = refl
listed_silent heard name (x ∷ xs) apart =
    let parts = or_parts (same_name x.name name) (list_any (λ listed. same_name listed.name name) xs) apart in
    none_more name (is_of_a_name (of_listed heard x)) (of_listed heard x) (filter is_of_a_name (map (of_listed heard) xs)) parts.0 (listed_silent heard name xs parts.1)

module _ (heard : Heard) (name : List (List ℕ)) (none_listed : list_any (λ listed. same_name listed.name name) heard.listed.items ≡ false) where
  answers_silent : (n : List (List ℕ)) (b : Bool) → same_name n name ≡ false
      → filter (is_about name) (filter is_of_a_name (cond b (of_record heard n Answers ++ map (of_listed heard) heard.listed.items) [])) ≡ []
  answers_silent n true apart =
      ap (filter (is_about name)) (filter-append is_of_a_name (of_record heard n Answers) (map (of_listed heard) heard.listed.items))
      ∙ (filter-append (is_about name) (filter is_of_a_name (of_record heard n Answers)) (filter is_of_a_name (map (of_listed heard) heard.listed.items))
      ∙ (ap (λ xs. xs ++ filter (is_about name) (filter is_of_a_name (map (of_listed heard) heard.listed.items))) (record_silent heard n name apart Answers)
      ∙ listed_silent heard name heard.listed.items none_listed))
  answers_silent n false apart = refl

  worded_silent : (n : List (List ℕ)) (w : Option Word) → same_name n name ≡ false
      → filter (is_about name) (filter is_of_a_name (worded heard n w)) ≡ []
  worded_silent n (Some w) apart = asks_silent heard n name apart w (asking_of w)
  worded_silent n None apart = answers_silent n (is_positive heard.flags) apart

  named_silent : (o : Option (List (List ℕ))) → is_its name o ≡ false → filter (is_about name) (filter is_of_a_name (sayings.of_name heard o)) ≡ []
  named_silent None apart = refl
  named_silent (Some n) apart = worded_silent n (word_of heard.flags) apart

  told_silent : (before : List Said) (a : Option Asking) (o : Option (List (List ℕ))) → heard.name ≡ o → is_its name o ≡ false
      → filter (is_about name) (told_by a o before heard) ≡ []
  told_silent before None o e apart = ap (λ x. filter (is_about name) (filter is_of_a_name (sayings.of_name heard x))) e ∙ named_silent o apart
  told_silent before (Some a) None e apart = ap (λ x. filter (is_about name) (filter is_of_a_name (sayings.of_name heard x))) e
  told_silent before (Some a) (Some n) e apart =
      about_others heard n name apart (word_of heard.flags) refl e (answered a heard.facts (latest (requests before)))
      ∙ (ap (λ x. filter (is_about name) (filter is_of_a_name (sayings.of_name heard x))) e ∙ named_silent (Some n) apart)

-- a packet that doesn't mention a name says nothing of it
pub silent : (name : List (List ℕ)) (before later : List Heard) (other : Heard) → mentions name other ≡ false
    → words_of name (before ++ other ∷ later) ≡ words_of name (before ++ later)
silent name before later other apart =
    let step = λ (said : List Said) (heard : Heard). said ++ filter (is_about name) (told said heard) in
    let parts = or_parts (is_its name other.name) (list_any (λ listed. same_name listed.name name) other.listed.items) apart in
    let none = told_silent other name parts.1 (words_of name before) (answer_of other) other.name refl parts.0 in
    fold-append step [] before (other ∷ later)
    ∙ (ap (λ xs. fold step (words_of name before ++ xs) later) none
    ∙ (ap (λ xs. fold step xs later) (append-nil (words_of name before)) ∙ sym (fold-append step [] before later)))

-- a packet about another name changes no query about a name
pub queries_silent : (name : List (List ℕ)) (before later : List Heard) (other : Heard) → is_for name other ≡ false
    → queries_of name (before ++ other ∷ later) ≡ queries_of name (before ++ later)
queries_silent name before later other apart =
    let about = filter (is_for name) in
    ap (fold step []) (filter-append (is_for name) before (other ∷ later)
    ∙ (ap (λ b. about before ++ cond b (other ∷ about later) (about later)) apart ∙ sym (filter-append (is_for name) before later)))
