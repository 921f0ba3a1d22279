-- The latest requests, after one more word.
use Rattle.std.proofs.Common.{◌≡◌, refl, ◌∙◌, ap, List, [], ◌∷◌, ◌++◌, Bool, true, false, cond, ◌||◌, append-nil, Option, Some, None}
use Rattle.std.specs.List.{cons_option}
use Rattle.std.proofs.lemmas.List.Elements.{filter_map-append}
use Rattle.nb_survey.specs.declared.heard.Said.{Said}
use Rattle.nb_survey.specs.declared.requests.Request.{Request}
use Rattle.nb_survey.specs.Requests.{is_renewed, latest, renewed, renewed_by, replaces, request_of, requests}

or_false : (b : Bool) → (b || false) ≡ b
or_false true = refl
or_false false = refl

or_assoc : (a b c : Bool) → (a || (b || c)) ≡ ((a || b) || c)
or_assoc true b c = refl
or_assoc false b c = refl

is_renewed-more : (later : List Request) (one request : Request) → is_renewed (later ++ one ∷ []) request ≡ (is_renewed later request || replaces one request)
is_renewed-more [] one request = or_false (replaces one request)
is_renewed-more (r ∷ later) one request =
    ap (λ b. replaces r request || b) (is_renewed-more later one request)
    ∙ or_assoc (replaces r request) (is_renewed later request) (replaces one request)

kept_first : (b : Bool) (r one : Request) (xs : List Request) → replaces one r ≡ b → cond b (renewed xs one) (r ∷ renewed xs one) ≡ renewed (r ∷ xs) one
kept_first true r one xs e = rw e refl
kept_first false r one xs e = rw e refl

turn : (a c : Bool) (r one : Request) (xs ys : List Request) → c ≡ (a || replaces one r) → ys ≡ renewed xs one → cond c ys (r ∷ ys) ≡ renewed (cond a xs (r ∷ xs)) one
turn true c r one xs ys e h = rw e h
turn false c r one xs ys e h = rw (e, h) (kept_first (replaces one r) r one xs refl)

-- the latest ones, after one more request
pub latest-more : (rs : List Request) (one : Request) → latest (rs ++ one ∷ []) ≡ renewed (latest rs) one
latest-more [] one = refl
latest-more (r ∷ rs) one = turn (is_renewed rs r) (is_renewed (rs ++ one ∷ []) r) r one (latest rs) (latest (rs ++ one ∷ [])) (is_renewed-more rs one r) (latest-more rs one)

latest_by : (o : Option Request) (rs : List Request) → latest (rs ++ cons_option o []) ≡ renewed_by (latest rs) o
latest_by None rs = ap latest (append-nil rs)
latest_by (Some one) rs = latest-more rs one

-- the latest requests, after one more word of the name
pub requests-more : (said : List Said) (s : Said) → latest (requests (said ++ s ∷ [])) ≡ renewed_by (latest (requests said)) (request_of s)
requests-more said s = ap latest (filter_map-append request_of said (s ∷ [])) ∙ latest_by (request_of s) (requests said)
