-- What the steps read as parts has the form with these parts.
use Rattle.std.proofs.Common.{◌≡◌, ◌==◌, ◌&&◌, ℕ, ◌<◌, ◌≤◌, Bool, true, false, inl, inr, IfSome, List, [], ◌∷◌, ◌++◌, length, Option, Some, None, option_and_then, if◌then◌else◌, nat_lt, refl, ◌∙◌, ap, arith, append_assoc, append-nil}
use Rattle.std.specs.Char.{digit_value}
use Rattle.std.proofs.lemmas.Bool.{cases_lt, ltb-true, eqb-true}
use Rattle.std.proofs.lemmas.Bool.Decides.{nat_tests}
use Rattle.std.proofs.lemmas.List.{length-append}
use Rattle.nb_names.specs.declared.text_steps.Stage.{Stage}
use Rattle.nb_names.specs.declared.text_steps.Stage.TheVariants.{Front, FrontEscape, FrontDigit, Suffix, SuffixDigit, SuffixEnd, Closed, LabelStart, Label, LabelEscape, LabelDigit}
use Rattle.nb_names.specs.declared.text_steps.Added.{Added}
use Rattle.nb_names.specs.declared.text_steps.Added.TheVariants.{Nothing, FrontByte, Last, LabelByte, LabelEnd}
use Rattle.nb_names.specs.NameText.{is_plain, Item, plain, escaped, Items, no_item, more_items, ScopeText, no_label, more_labels, Parts, HasForm}
use Rattle.nb_streams.specs.Hexadecimal.{IsHexDigit, byte_of}
use Rattle.nb_streams.specs.Hexadecimal.{pair_byte}
use Rattle.nb_names.specs.Code.TextSteps.{first_digit, second_digit, step, step_in_front, step_in_label, Taken, nothing_taken, takes, steps, parts_of, finish, parts_read}

-- ---- items and labels at an end

one_item : (b : ℕ) (item : List ℕ) → Item b item → Items (b ∷ []) item
one_item b item is = let last : Items (b ∷ []) (item ++ []) = more_items b [] item [] is no_item in rw append-nil at last

items-snoc : (bytes text : List ℕ) → Items bytes text → (b : ℕ) (item : List ℕ) → Item b item → Items (bytes ++ b ∷ []) (text ++ item)
items-snoc bytes text no_item b item is = one_item b item is
items-snoc bytes text (more_items byte more first text' one others) b item is =
    rw (append_assoc first text' item) (more_items byte (more ++ b ∷ []) first (text' ++ item) one (items-snoc more text' others b item is))

scope_text-snoc : (labels : List (List ℕ)) (text : List ℕ) → ScopeText labels text → (label items : List ℕ) → 0 < length label → Items label items → ScopeText (labels ++ label ∷ []) (text ++ 46 ∷ items)
scope_text-snoc labels text no_label label items some row =
    let last : ScopeText (label ∷ []) (46 ∷ items ++ []) = more_labels label [] items [] some row no_label in rw append-nil at last
scope_text-snoc labels text (more_labels first others text' rest some' row' behind) label items some row =
    rw (append_assoc (46 ∷ text') rest (46 ∷ items)) (more_labels first (others ++ label ∷ []) text' (rest ++ 46 ∷ items) some' row' (scope_text-snoc others rest behind label items some row))

-- ---- what the bytes read so far are

-- the text is items for what is taken
pub record InFront (t : Taken) (done : List ℕ) : Type 0 where
  pub items : Items t.front done
  pub scope : t.scope ≡ []
  pub label : t.label ≡ []

-- the text has the form, with a label begun after it
pub record InLabel (t : Taken) (done : List ℕ) : Type 0 where
  pub text : List ℕ
  pub items : List ℕ
  pub form : HasForm (parts_of t) text
  pub row : Items t.label items
  pub whole : done ≡ text ++ 46 ∷ items

-- Reached stage t done: what the bytes read so far are, where a reading stands here with this taken
abbrev pub Reached : Stage → Taken → List ℕ → Type 0
Reached Front t done = InFront t done
Reached FrontEscape t done = (d : List ℕ) × InFront t d × (done ≡ d ++ 92 ∷ [])
Reached (FrontDigit high) t done = (d : List ℕ) × InFront t d × IsHexDigit high × (done ≡ d ++ 92 ∷ high ∷ [])
Reached Suffix t done = (d : List ℕ) × InFront t d × (done ≡ d ++ 60 ∷ [])
Reached (SuffixDigit high) t done = (d : List ℕ) × InFront t d × IsHexDigit high × (done ≡ d ++ 60 ∷ high ∷ [])
Reached SuffixEnd t done = (d : List ℕ) × (c e : ℕ) × InFront t d × IsHexDigit c × IsHexDigit e × (t.last ≡ byte_of c e) × (done ≡ d ++ 60 ∷ c ∷ e ∷ [])
Reached Closed t done = HasForm (parts_of t) done × (t.label ≡ [])
Reached LabelStart t done = InLabel t done × (t.label ≡ [])
Reached Label t done = InLabel t done × (0 < length t.label)
Reached LabelEscape t done = (d : List ℕ) × InLabel t d × (done ≡ d ++ 92 ∷ [])
Reached (LabelDigit high) t done = (d : List ℕ) × InLabel t d × IsHexDigit high × (done ≡ d ++ 92 ∷ high ∷ [])

-- ---- what a step leads to

further : (d done xs ys : List ℕ) → done ≡ d ++ xs → done ++ ys ≡ d ++ (xs ++ ys)
further d done xs ys e = ap (λ (front : List ℕ). front ++ ys) e ∙ append_assoc d xs ys

some_if : {X : Type 0} (Q : X → Type 0) (b : Bool) (x : X) (o : Option X) → (b ≡ true → Q x) → IfSome o Q → IfSome (if b then Some x else o) Q
some_if Q true x o p q = p refl
some_if Q false x o p q = q

second_if : (Q : Stage × Added → Type 0) (both : Bool) (byte : ℕ) (next : Stage) (adds : ℕ → Added) → Q (next, adds byte)
    → IfSome (second_digit (if both then Some byte else None) next adds) Q
second_if Q true byte next adds q = q
second_if Q false byte next adds q = tt

not_digit : (first : Bool) (value : ℕ) → 16 ≤ value → (first && nat_lt value 16) ≡ false
not_digit true value big = grind (arith, nat_tests)
not_digit false value big = refl

some_first : (Q : Stage × Added → Type 0) (c : ℕ) (next : Stage) → (IsHexDigit c → Q (next, Nothing)) → IfSome (first_digit c next) Q
some_first Q c next p = some_if Q (nat_lt (digit_value c) 16) (next, Nothing) None (λ e. p (ltb-true (digit_value c) 16 e)) tt

some_second : (Q : Stage × Added → Type 0) (high c : ℕ) (next : Stage) (adds : ℕ → Added) → (IsHexDigit c → Q (next, adds (byte_of high c)))
    → IfSome (second_digit (pair_byte high c) next adds) Q
some_second Q high c next adds p = elim (cases_lt (digit_value c) 16) [
  | inl hex ↦ second_if Q (nat_lt (digit_value high) 16 && nat_lt (digit_value c) 16) (byte_of high c) next adds (p hex)
  | inr big ↦ rw (not_digit (nat_lt (digit_value high) 16) (digit_value c) big) tt
]

-- what is reached after a byte
abbrev After : Taken → List ℕ → ℕ → Stage × Added → Type 0
After t done c next = Reached next.0 (takes t next.1) (done ++ c ∷ [])

front_item : (t : Taken) (done : List ℕ) → InFront t done → (b : ℕ) (item : List ℕ) → Item b item → InFront (takes t (FrontByte b)) (done ++ item)
front_item t done f b item is = record { items = items-snoc t.front done f.items b item is; scope = f.scope; label = f.label }

label_item : (t : Taken) (done : List ℕ) → InLabel t done → (b : ℕ) (item : List ℕ) → Item b item → InLabel (takes t (LabelByte b)) (done ++ item) × (0 < length (t.label ++ b ∷ []))
label_item t done l b item is =
    (record { text = l.text; items = l.items ++ item; form = l.form; row = items-snoc t.label l.items l.row b item is; whole = further l.text done (46 ∷ l.items) item l.whole }, omega (arith, length-append t.label (b ∷ [])))

ended_label : (t : Taken) (done : List ℕ) → InLabel t done → 0 < length t.label → HasForm (parts_of (takes t LabelEnd)) done
ended_label t done l some = record {
  items = l.form.items;
  high = l.form.high;
  low = l.form.low;
  behind = l.form.behind ++ 46 ∷ l.items;
  front = l.form.front;
  high_digit = l.form.high_digit;
  low_digit = l.form.low_digit;
  last = l.form.last;
  scope = scope_text-snoc t.scope l.form.behind l.form.scope t.label l.items some l.row;
  whole = l.whole ∙ further l.form.items l.text (60 ∷ l.form.high ∷ l.form.low ∷ 62 ∷ l.form.behind) (46 ∷ l.items) l.form.whole;
}

label_begun : (t : Taken) (done : List ℕ) (c : ℕ) → HasForm (parts_of t) done → t.label ≡ [] → c ≡ 46 → InLabel t (done ++ c ∷ [])
label_begun t done c form none is = record { text = done; items = []; form = form; row = rw none no_item; whole = ap (λ (x : ℕ). done ++ x ∷ []) is }

front_step : (t : Taken) (done : List ℕ) (c : ℕ) → InFront t done → IfSome (step_in_front c) (After t done c)
front_step t done c f =
    some_if (After t done c) (is_plain c) (Front, FrontByte c) _ (λ p. front_item t done f c (c ∷ []) (plain c p))
    (some_if (After t done c) (c == 92) (FrontEscape, Nothing) _ (λ e. (done, f, ap (λ (x : ℕ). done ++ x ∷ []) (eqb-true c 92 e)))
    (some_if (After t done c) (c == 60) (Suffix, Nothing) None (λ e. (done, f, ap (λ (x : ℕ). done ++ x ∷ []) (eqb-true c 60 e))) tt))

label_step : (t : Taken) (done : List ℕ) (c : ℕ) → InLabel t done → IfSome (step_in_label c) (After t done c)
label_step t done c l =
    some_if (After t done c) (is_plain c) (Label, LabelByte c) _ (λ p. label_item t done l c (c ∷ []) (plain c p))
    (some_if (After t done c) (c == 92) (LabelEscape, Nothing) None (λ e. (done, l, ap (λ (x : ℕ). done ++ x ∷ []) (eqb-true c 92 e))) tt)

suffix_ends : (t : Taken) (done : List ℕ) (c : ℕ) → Reached SuffixEnd t done → c ≡ 62 → HasForm (parts_of t) (done ++ c ∷ []) × (t.label ≡ [])
suffix_ends t done c (d, high, low, f, h, l, last, whole) is = (
  record {
    items = d;
    high = high;
    low = low;
    behind = [];
    front = f.items;
    high_digit = h;
    low_digit = l;
    last = last;
    scope = rw f.scope no_label;
    whole = ap (λ (x : ℕ). done ++ x ∷ []) is ∙ further d done (60 ∷ high ∷ low ∷ []) (62 ∷ []) whole;
  },
  f.label,
)

reached_step : (s : Stage) (t : Taken) (done : List ℕ) (c : ℕ) → Reached s t done → IfSome (step s c) (After t done c)
reached_step Front t done c f = front_step t done c f
reached_step FrontEscape t done c (d, f, e) =
    some_first (After t done c) c (FrontDigit c) (λ hex. (d, f, hex, further d done (92 ∷ []) (c ∷ []) e))
reached_step (FrontDigit high) t done c (d, f, digit, e) =
    some_second (After t done c) high c Front FrontByte (λ hex.
    rw (further d done (92 ∷ high ∷ []) (c ∷ []) e) (front_item t d f (byte_of high c) (92 ∷ high ∷ c ∷ []) (escaped high c digit hex)))
reached_step Suffix t done c (d, f, e) =
    some_first (After t done c) c (SuffixDigit c) (λ hex. (d, f, hex, further d done (60 ∷ []) (c ∷ []) e))
reached_step (SuffixDigit high) t done c (d, f, digit, e) =
    some_second (After t done c) high c SuffixEnd Last (λ hex.
    (d, high, c, record { items = f.items; scope = f.scope; label = f.label }, digit, hex, refl, further d done (60 ∷ high ∷ []) (c ∷ []) e))
reached_step SuffixEnd t done c r =
    some_if (After t done c) (c == 62) (Closed, Nothing) None (λ e. suffix_ends t done c r (eqb-true c 62 e)) tt
reached_step Closed t done c (form, none) =
    some_if (After t done c) (c == 46) (LabelStart, Nothing) None (λ e. (label_begun t done c form none (eqb-true c 46 e), none)) tt
reached_step LabelStart t done c (l, _) = label_step t done c l
reached_step Label t done c (l, some) =
    some_if (After t done c) (c == 46) (LabelStart, LabelEnd) _ (λ e. (label_begun (takes t LabelEnd) done c (ended_label t done l some) refl (eqb-true c 46 e), refl)) (label_step t done c l)
reached_step LabelEscape t done c (d, l, e) =
    some_first (After t done c) c (LabelDigit c) (λ hex. (d, l, hex, further d done (92 ∷ []) (c ∷ []) e))
reached_step (LabelDigit high) t done c (d, l, digit, e) =
    some_second (After t done c) high c Label LabelByte (λ hex.
    rw (further d done (92 ∷ high ∷ []) (c ∷ []) e) (label_item t d l (byte_of high c) (92 ∷ high ∷ c ∷ []) (escaped high c digit hex)))

-- ---- steps

some_bind : {X Y : Type 0} (P : X → Type 0) (Q : Y → Type 0) (f : X → Option Y) (o : Option X) → IfSome o P → ((x : X) → P x → IfSome (f x) Q) → IfSome (option_and_then f o) Q
some_bind P Q f None p g = tt
some_bind P Q f (Some x) p g = g x p

pub steps_reached : (s : Stage) (t : Taken) (done text : List ℕ) → Reached s t done → IfSome (steps s t text) (λ end. Reached end.0 end.1 (done ++ text))
steps_reached s t done [] r = rw append-nil r
steps_reached s t done (c ∷ text) r =
    some_bind (After t done c) (λ end. Reached end.0 end.1 (done ++ c ∷ text)) (λ next. steps next.0 (takes t next.1) text) (step s c) (reached_step s t done c r)
    (λ next there. rw (append_assoc done (c ∷ []) text) at (steps_reached next.0 (takes t next.1) (done ++ c ∷ []) text there))

-- where a reading may end, the text has the form
finish_reached : (s : Stage) (t : Taken) (done : List ℕ) → Reached s t done → IfSome (finish s t) (λ parts. HasForm parts done)
finish_reached Closed t done (form, none) = form
finish_reached Label t done (l, some) = ended_label t done l some
finish_reached Front t done r = tt
finish_reached FrontEscape t done r = tt
finish_reached (FrontDigit _) t done r = tt
finish_reached Suffix t done r = tt
finish_reached (SuffixDigit _) t done r = tt
finish_reached SuffixEnd t done r = tt
finish_reached LabelStart t done r = tt
finish_reached LabelEscape t done r = tt
finish_reached (LabelDigit _) t done r = tt

pub start_reached : Reached Front nothing_taken []
start_reached = record { items = no_item; scope = refl; label = refl }

-- what is read as parts has the form with them
parts_read-reached : (text : List ℕ) → IfSome (parts_read text) (λ parts. HasForm parts text)
parts_read-reached text =
    some_bind (λ end. Reached end.0 end.1 text) (λ parts. HasForm parts text) (λ end. finish end.0 end.1) (steps Front nothing_taken text)
    (steps_reached Front nothing_taken [] text start_reached) (λ end there. finish_reached end.0 end.1 text there)

pub form-parts_read : (parts : Parts) (text : List ℕ) → parts_read text ≡ Some parts → HasForm parts text
form-parts_read parts text e = let has = parts_read-reached text in rw e at has
