-- A text that has the form with some parts is read by the steps as these parts.
use Rattle.std.proofs.Common.{◌≡◌, ◌==◌, ◌||◌, ℕ, ◌<◌, Bool, true, false, IsTrue, List, [], ◌∷◌, ◌++◌, length, Option, Some, None, option_and_then, if◌then◌else◌, refl, ◌∙◌, ap, arith, append_assoc, append-nil}
use Rattle.std.specs.Char.{digit_value}
use Rattle.std.proofs.lemmas.Bool.{lt-ltb}
use Rattle.nb_names.specs.declared.text_steps.Stage.{Stage}
use Rattle.nb_names.specs.declared.text_steps.Stage.TheVariants.{Front, FrontEscape, FrontDigit, Suffix, SuffixDigit, SuffixEnd, Closed, LabelStart, Label, LabelEscape, LabelDigit}
use Rattle.nb_names.specs.declared.text_steps.Added.{Added}
use Rattle.nb_names.specs.declared.text_steps.Added.TheVariants.{Nothing, FrontByte, Last, LabelByte, LabelEnd}
use Rattle.nb_names.specs.NameText.{is_plain, Item, plain, escaped, Items, no_item, more_items, ScopeText, no_label, more_labels, Parts, HasForm}
use Rattle.nb_streams.specs.Hexadecimal.{IsHexDigit, byte_of}
use Rattle.nb_streams.specs.Hexadecimal.{pair_byte}
use Rattle.nb_names.specs.Code.TextSteps.{first_digit, second_digit, step, step_in_front, step_in_label, Taken, nothing_taken, takes, steps, finish, parts_read}

-- ---- steps

-- steps over two texts are those over the second after those over the first
pub steps-append : (s : Stage) (t : Taken) (xs ys : List ℕ) → steps s t (xs ++ ys) ≡ option_and_then (λ end. steps end.0 end.1 ys) (steps s t xs)
steps-append s t [] ys = refl
steps-append s t (x ∷ xs) ys =
    elim (step s x) as (λ o. option_and_then (λ next. steps next.0 (takes t next.1) (xs ++ ys)) o ≡ option_and_then (λ end. steps end.0 end.1 ys) (option_and_then (λ next. steps next.0 (takes t next.1) xs) o)) [
      | None ↦ refl
      | Some next ↦ steps-append next.0 (takes t next.1) xs ys
    ]

-- the parts where steps end
abbrev pub ended : Option (Stage × Taken) → Option Parts
ended o = option_and_then (λ end. finish end.0 end.1) o

-- steps go on after a step
pub steps_on : (s : Stage) (t : Taken) (c : ℕ) (rest : List ℕ) (next : Stage × Added) → step s c ≡ Some next → steps s t (c ∷ rest) ≡ steps next.0 (takes t next.1) rest
steps_on s t c rest next e = ap (option_and_then (λ (n : Stage × Added). steps n.0 (takes t n.1) rest)) e

-- ---- steps

first_digit-hex : (c : ℕ) (next : Stage) → IsHexDigit c → first_digit c next ≡ Some (next, Nothing)
first_digit-hex c next h = rw (lt-ltb (digit_value c) 16 h) refl

pub second_digit-hex : (high low : ℕ) (next : Stage) (adds : ℕ → Added) → IsHexDigit high → IsHexDigit low
    → second_digit (pair_byte high low) next adds ≡ Some (next, adds (byte_of high low))
second_digit-hex high low next adds h l = rw (lt-ltb (digit_value high) 16 h, lt-ltb (digit_value low) 16 l) refl

not_first : (a b c d e : Bool) → (if a || b || c || d then false else e) ≡ true → a ≡ false
not_first true b c d e h = absurd (cc)
not_first false b c d e h = refl

-- a plain byte is no dot and no backslash
plain_no_dot : (c : ℕ) → IsTrue (is_plain c) → (c == 46) ≡ false
plain_no_dot c p = not_first (c == 46) (c == 60) (c == 62) (c == 92) _ p

step_in_front-plain : (c : ℕ) → IsTrue (is_plain c) → step_in_front c ≡ Some (Front, FrontByte c)
step_in_front-plain c p = rw p refl

step_in_label-plain : (c : ℕ) → IsTrue (is_plain c) → step_in_label c ≡ Some (Label, LabelByte c)
step_in_label-plain c p = rw p refl

otherwise : {X : Type 0} (b : Bool) (x y : X) → b ≡ false → (if b then x else y) ≡ y
otherwise true x y h = absurd (cc)
otherwise false x y h = refl

step-label_plain : (c : ℕ) → IsTrue (is_plain c) → step Label c ≡ Some (Label, LabelByte c)
step-label_plain c p = otherwise (c == 46) (Some (LabelStart, LabelEnd)) (step_in_label c) (plain_no_dot c p) ∙ step_in_label-plain c p

-- ---- items

front_item : (b : ℕ) (item : List ℕ) → Item b item → (t : Taken) (rest : List ℕ) → steps Front t (item ++ rest) ≡ steps Front (takes t (FrontByte b)) rest
front_item b item (plain byte p) t rest = steps_on Front t byte rest (Front, FrontByte byte) (step_in_front-plain byte p)
front_item b item (escaped high low h l) t rest =
    steps_on FrontEscape t high (low ∷ rest) _ (first_digit-hex high (FrontDigit high) h)
    ∙ steps_on (FrontDigit high) t low rest _ (second_digit-hex high low Front FrontByte h l)

pub front_items : (bytes text : List ℕ) → Items bytes text → (t : Taken) (rest : List ℕ) → steps Front t (text ++ rest) ≡ steps Front (record t { front = t.front ++ bytes }) rest
front_items bytes text no_item t rest = rw append-nil refl
front_items bytes text (more_items byte more item text' one others) t rest =
    rw (append_assoc item text' rest) (front_item byte item one t (text' ++ rest) ∙ front_items more text' others (takes t (FrontByte byte)) rest)
    ∙ ap (λ (front : List ℕ). steps Front (record t { front = front }) rest) (append_assoc t.front (byte ∷ []) more)

start_item : (b : ℕ) (item : List ℕ) → Item b item → (t : Taken) (rest : List ℕ) → steps LabelStart t (item ++ rest) ≡ steps Label (takes t (LabelByte b)) rest
start_item b item (plain byte p) t rest = steps_on LabelStart t byte rest (Label, LabelByte byte) (step_in_label-plain byte p)
start_item b item (escaped high low h l) t rest =
    steps_on LabelEscape t high (low ∷ rest) _ (first_digit-hex high (LabelDigit high) h)
    ∙ steps_on (LabelDigit high) t low rest _ (second_digit-hex high low Label LabelByte h l)

label_item : (b : ℕ) (item : List ℕ) → Item b item → (t : Taken) (rest : List ℕ) → steps Label t (item ++ rest) ≡ steps Label (takes t (LabelByte b)) rest
label_item b item (plain byte p) t rest = steps_on Label t byte rest (Label, LabelByte byte) (step-label_plain byte p)
label_item b item (escaped high low h l) t rest = start_item _ _ (escaped high low h l) t rest

label_items : (bytes text : List ℕ) → Items bytes text → (t : Taken) (rest : List ℕ) → steps Label t (text ++ rest) ≡ steps Label (record t { label = t.label ++ bytes }) rest
label_items bytes text no_item t rest = rw append-nil refl
label_items bytes text (more_items byte more item text' one others) t rest =
    rw (append_assoc item text' rest) (label_item byte item one t (text' ++ rest) ∙ label_items more text' others (takes t (LabelByte byte)) rest)
    ∙ ap (λ (label : List ℕ). steps Label (record t { label = label }) rest) (append_assoc t.label (byte ∷ []) more)

-- a label's items are one or more
start_items : (bytes text : List ℕ) → Items bytes text → 0 < length bytes → (t : Taken) (rest : List ℕ) → steps LabelStart t (text ++ rest) ≡ steps Label (record t { label = t.label ++ bytes }) rest
start_items bytes text no_item some t rest = absurd (omega arith)
start_items bytes text (more_items byte more item text' one others) some t rest =
    rw (append_assoc item text' rest) (start_item byte item one t (text' ++ rest) ∙ label_items more text' others (takes t (LabelByte byte)) rest)
    ∙ ap (λ (label : List ℕ). steps Label (record t { label = label }) rest) (append_assoc t.label (byte ∷ []) more)

-- ---- scopes

labels_behind : (labels : List (List ℕ)) (text : List ℕ) → ScopeText labels text → (t : Taken) → ended (steps Label t text) ≡ Some (record { front = t.front; last = t.last; scope = (t.scope ++ t.label ∷ []) ++ labels })
labels_behind labels text no_label t = rw append-nil refl
labels_behind labels text (more_labels label others text' rest some row behind) t =
    ap ended (start_items label text' row some (takes t LabelEnd) rest)
    ∙ labels_behind others rest behind (record t { scope = t.scope ++ t.label ∷ []; label = label })
    ∙ ap (λ (scope : List (List ℕ)). Some (record { front = t.front; last = t.last; scope = scope })) (append_assoc (t.scope ++ t.label ∷ []) (label ∷ []) others)

scope_behind : (labels : List (List ℕ)) (text : List ℕ) → ScopeText labels text → (t : Taken) → t.scope ≡ [] → t.label ≡ [] → ended (steps Closed t text) ≡ Some (record { front = t.front; last = t.last; scope = labels })
scope_behind labels text no_label t s l = rw s refl
scope_behind labels text (more_labels label others text' rest some row behind) t s l =
    ap ended (start_items label text' row some t rest)
    ∙ labels_behind others rest behind (record t { label = t.label ++ label })
    ∙ rw (s, l) refl

-- ---- the whole text

-- a text of the form is read as its parts
pub parts_read-form : (parts : Parts) (text : List ℕ) → HasForm parts text → parts_read text ≡ Some parts
parts_read-form parts text form =
    let behind : List ℕ = 60 ∷ form.high ∷ form.low ∷ 62 ∷ form.behind in
    let t : Taken = record { front = parts.front; last = 0; scope = []; label = [] } in
    ap parts_read form.whole
    ∙ ap ended (front_items parts.front form.items form.front nothing_taken behind)
    ∙ ap ended (steps_on Suffix t form.high (form.low ∷ 62 ∷ form.behind) _ (first_digit-hex form.high (SuffixDigit form.high) form.high_digit))
    ∙ ap ended (steps_on (SuffixDigit form.high) t form.low (62 ∷ form.behind) _ (second_digit-hex form.high form.low SuffixEnd Last form.high_digit form.low_digit))
    ∙ scope_behind parts.scope form.behind form.scope (record t { last = byte_of form.high form.low }) refl refl
    ∙ rw (← form.last) refl
