-- Which fronts of a text some text of the form begins with: those that the steps don't refuse.
use Rattle.std.proofs.Common.{◌≡◌, ℕ, ◌+◌, ◌<◌, ◌≤◌, List, [], ◌∷◌, ◌++◌, length, take, drop, Some, None, option_and_then, refl, sym, ◌∙◌, ap, arith, append_assoc, get_or, ◌⊎◌, inl, inr}
use Rattle.std.proofs.lemmas.List.{take-append-drop, take-take, take_more, take_all}
use Rattle.nb_names.specs.declared.text_steps.Stage.{Stage}
use Rattle.nb_names.specs.declared.text_steps.Stage.TheVariants.{Front, FrontEscape, FrontDigit, Suffix, SuffixDigit, SuffixEnd, Closed, LabelStart, Label, LabelEscape, LabelDigit}
use Rattle.nb_names.specs.declared.text_steps.Added.{Added}
use Rattle.nb_names.specs.declared.text_steps.Added.TheVariants.{FrontByte, Last, LabelByte, LabelEnd}
use Rattle.nb_streams.specs.Hexadecimal.{IsHexDigit, byte_of}
use Rattle.nb_names.specs.NameText.{Parts, IsFormed, IsFront, IsBad, IsText, IsFaultOf}
use Rattle.nb_names.specs.Name.{NetbiosName}
use Rattle.nb_names.specs.declared.fault.TextFault.{TextFault}
use Rattle.nb_names.specs.declared.fault.TextFault.TheVariants.{BadText, TooLong}
use Rattle.nb_streams.specs.Hexadecimal.{pair_byte}
use Rattle.nb_names.specs.Code.TextSteps.{Taken, nothing_taken, takes, second_digit, step, steps, parts_of, finish, parts_read}
use Rattle.nb_names.proofs.TextStepLemmas.{ended, steps-append, steps_on, second_digit-hex, parts_read-form}
use Rattle.nb_names.proofs.TextReachLemmas.{Reached, start_reached, steps_reached, form-parts_read}

-- what completes a text from a stage
completion : Stage → List ℕ
completion Front = 60 ∷ 48 ∷ 48 ∷ 62 ∷ []
completion FrontEscape = 48 ∷ 48 ∷ 60 ∷ 48 ∷ 48 ∷ 62 ∷ []
completion (FrontDigit _) = 48 ∷ 60 ∷ 48 ∷ 48 ∷ 62 ∷ []
completion Suffix = 48 ∷ 48 ∷ 62 ∷ []
completion (SuffixDigit _) = 48 ∷ 62 ∷ []
completion SuffixEnd = 62 ∷ []
completion Closed = []
completion LabelStart = 65 ∷ []
completion Label = []
completion LabelEscape = 48 ∷ 48 ∷ []
completion (LabelDigit _) = 48 ∷ []

-- a stage that remembers a digit remembers one
HasDigit : Stage → Type 0
HasDigit (FrontDigit high) = IsHexDigit high
HasDigit (SuffixDigit high) = IsHexDigit high
HasDigit (LabelDigit high) = IsHexDigit high
HasDigit _ = Unit {0}

has_digit : (s : Stage) (t : Taken) (done : List ℕ) → Reached s t done → HasDigit s
unfolding HasDigit
has_digit (FrontDigit high) t done (d, f, digit, e) = digit
has_digit (SuffixDigit high) t done (d, f, digit, e) = digit
has_digit (LabelDigit high) t done (d, l, digit, e) = digit
has_digit Front t done r = tt
has_digit FrontEscape t done r = tt
has_digit Suffix t done r = tt
has_digit SuffixEnd t done r = tt
has_digit Closed t done r = tt
has_digit LabelStart t done r = tt
has_digit Label t done r = tt
has_digit LabelEscape t done r = tt

-- a zero ends an escape, or the byte after `<`
zero_behind : (high : ℕ) (t : Taken) (next : Stage) (adds : ℕ → Added) (rest : List ℕ) (s : Stage) → IsHexDigit high
    → step s 48 ≡ second_digit (pair_byte high 48) next adds
    → steps s t (48 ∷ rest) ≡ steps next (takes t (adds (byte_of high 48))) rest
zero_behind high t next adds rest s digit is =
    steps_on s t 48 rest (next, adds (byte_of high 48)) (is ∙ second_digit-hex high 48 next adds digit (omega arith))

completes : (s : Stage) (t : Taken) → HasDigit s → (parts : Parts) × (ended (steps s t (completion s)) ≡ Some parts)
unfolding completion HasDigit
completes Front t h = (_, refl)
completes FrontEscape t h = (_, refl)
completes (FrontDigit high) t h =
    (_, ap ended (zero_behind high t Front FrontByte (60 ∷ 48 ∷ 48 ∷ 62 ∷ []) (FrontDigit high) h refl))
completes Suffix t h = (_, refl)
completes (SuffixDigit high) t h = (_, ap ended (zero_behind high t SuffixEnd Last (62 ∷ []) (SuffixDigit high) h refl))
completes SuffixEnd t h = (_, refl)
completes Closed t h = (_, refl)
completes LabelStart t h = (_, refl)
completes Label t h = (_, refl)
completes LabelEscape t h = (_, refl)
completes (LabelDigit high) t h = (_, ap ended (zero_behind high t Label LabelByte [] (LabelDigit high) h refl))

-- a text whose reading ends in parts is formed; one whose reading doesn't isn't
pub formed_if_read : (text : List ℕ) (parts : Parts) → parts_read text ≡ Some parts → IsFormed text
formed_if_read text parts e = (parts, form-parts_read parts text e)

pub unformed_unless_read : (text : List ℕ) → parts_read text ≡ None → ¬ IsFormed text
unformed_unless_read text e (parts, form) = absurd (let is : Some parts ≡ None = sym (parts_read-form parts text form) ∙ e in cc)

read_behind : (s : Stage) (t : Taken) (front rest : List ℕ) → steps Front nothing_taken front ≡ Some (s, t) → parts_read (front ++ rest) ≡ ended (steps s t rest)
read_behind s t front rest e = ap ended (steps-append Front nothing_taken front rest ∙ ap (option_and_then (λ (end : Stage × Taken). steps end.0 end.1 rest)) e)

none_behind : (front rest : List ℕ) → steps Front nothing_taken front ≡ None → parts_read (front ++ rest) ≡ None
none_behind front rest e = ap ended (steps-append Front nothing_taken front rest ∙ ap (option_and_then (λ (end : Stage × Taken). steps end.0 end.1 rest)) e)

-- some text of the form begins with what the steps read
pub front_if_steps : (text : List ℕ) (count : ℕ) (s : Stage) (t : Taken) → steps Front nothing_taken (take count text) ≡ Some (s, t) → IsFront text count
front_if_steps text count s t e =
    let reached = steps_reached Front nothing_taken [] (take count text) start_reached in
    let digit = has_digit s t (take count text) (rw e at reached) in
    let whole = completes s t digit in
    (completion s, formed_if_read (take count text ++ completion s) whole.0 (read_behind s t (take count text) (completion s) e ∙ whole.1))

-- no text of the form begins with what they refuse, or with more
pub no_front : (text : List ℕ) (dead count : ℕ) → steps Front nothing_taken (take dead text) ≡ None → dead ≤ count → ¬ IsFront text count
no_front text dead count e h (rest, formed) =
    let two : take count text ≡ take dead text ++ drop dead (take count text) =
    sym (take-append-drop dead (take count text)) ∙ ap (λ (front : List ℕ). front ++ drop dead (take count text)) (take-take dead count text h) in
    unformed_unless_read (take count text ++ rest)
    (ap (λ (front : List ℕ). parts_read (front ++ rest)) two ∙ ap parts_read (append_assoc (take dead text) (drop dead (take count text)) rest) ∙ none_behind (take dead text) (drop dead (take count text) ++ rest) e)
    formed

-- ---- the turns and ends of a loop over a text

-- the steps over one more byte
pub steps_more : (text : List ℕ) (i : ℕ) (s : Stage) (t : Taken) → i < length text → steps Front nothing_taken (take i text) ≡ Some (s, t) → steps Front nothing_taken (take (i + 1) text) ≡ option_and_then (λ next. Some (next.0, takes t next.1)) (step s (get_or text i 0))
steps_more text i s t h e =
    ap (steps Front nothing_taken) (take_more text i 0 h)
    ∙ steps-append Front nothing_taken (take i text) (get_or text i 0 ∷ [])
    ∙ ap (option_and_then (λ (end : Stage × Taken). steps end.0 end.1 (get_or text i 0 ∷ []))) e

pub steps_turn : (text : List ℕ) (i : ℕ) (s : Stage) (t : Taken) (next : Stage × Added) → i < length text → steps Front nothing_taken (take i text) ≡ Some (s, t) → step s (get_or text i 0) ≡ Some next → steps Front nothing_taken (take (i + 1) text) ≡ Some (next.0, takes t next.1)
steps_turn text i s t next h e f = steps_more text i s t h e ∙ ap (option_and_then (λ (n : Stage × Added). Some (n.0, takes t n.1))) f

-- where the steps refuse a byte, the text is bad at its place
pub bad_inside : (text : List ℕ) (i : ℕ) (s : Stage) (t : Taken) → i < length text → steps Front nothing_taken (take i text) ≡ Some (s, t) → step s (get_or text i 0) ≡ None → (¬ IsFormed text) × IsBad text i
bad_inside text i s t h e f =
    let dead : steps Front nothing_taken (take (i + 1) text) ≡ None = steps_more text i s t h e ∙ ap (option_and_then (λ (n : Stage × Added). Some (n.0, takes t n.1))) f in (
      unformed_unless_read text (ap parts_read (sym (take-append-drop (i + 1) text)) ∙ none_behind (take (i + 1) text) (drop (i + 1) text) dead),
      record { within = omega arith; front = front_if_steps text i s t e; longest = λ count above in_text. no_front text (i + 1) count dead (omega arith) },
    )

-- where the text stops too early, it is bad at its end
pub bad_at_end : (text : List ℕ) (i : ℕ) (s : Stage) (t : Taken) → length text ≤ i → steps Front nothing_taken (take i text) ≡ Some (s, t) → finish s t ≡ None → (¬ IsFormed text) × IsBad text (length text)
bad_at_end text i s t h e f =
    let whole : steps Front nothing_taken text ≡ Some (s, t) = ap (steps Front nothing_taken) (sym (take_all i text h)) ∙ e in (
      unformed_unless_read text (ap ended whole ∙ f),
      record { within = omega arith; front = front_if_steps text (length text) s t (ap (steps Front nothing_taken) (take_all (length text) text (omega arith)) ∙ whole); longest = λ count above in_text. absurd (omega arith) },
    )

-- where it may end, it has the form
pub parts_at_end : (text : List ℕ) (i : ℕ) (s : Stage) (t : Taken) (parts : Parts) → length text ≤ i → steps Front nothing_taken (take i text) ≡ Some (s, t) → finish s t ≡ Some parts → parts_read text ≡ Some parts
parts_at_end text i s t parts h e f = ap parts_read (sym (take_all i text h)) ∙ ap ended e ∙ f

-- elsewhere than after `>` or a label no text ends
pub not_ended : (s : Stage) (t : Taken) → ¬ (s ≡ Closed) → ¬ (s ≡ Label) → finish s t ≡ None
not_ended Closed t c l = absurd (c refl)
not_ended Label t c l = absurd (l refl)
not_ended Front t c l = refl
not_ended FrontEscape t c l = refl
not_ended (FrontDigit _) t c l = refl
not_ended Suffix t c l = refl
not_ended (SuffixDigit _) t c l = refl
not_ended SuffixEnd t c l = refl
not_ended LabelStart t c l = refl
not_ended LabelEscape t c l = refl
not_ended (LabelDigit _) t c l = refl

-- after `>` or a label a text may end
pub formed_at_end : (text : List ℕ) (i : ℕ) (s : Stage) (t : Taken) → length text ≤ i → steps Front nothing_taken (take i text) ≡ Some (s, t) → (s ≡ Closed) ⊎ (s ≡ Label) → IsFormed text
formed_at_end text i s t h e (inl is) =
    formed_if_read text _ (parts_at_end text i s t (parts_of t) h e (ap (λ (s : Stage). finish s t) is))
formed_at_end text i s t h e (inr is) =
    formed_if_read text _ (parts_at_end text i s t (parts_of (takes t LabelEnd)) h e (ap (λ (s : Stage). finish s t) is))

-- ---- a text has one fault

bad_places : (text : List ℕ) (a b : ℕ) → IsBad text a → IsBad text b → ¬ (a < b)
bad_places text a b x y h = x.longest b h y.within y.front

pub one_fault_of : (text : List ℕ) (a b : TextFault) → IsFaultOf text a → IsFaultOf text b → a ≡ b
one_fault_of text (BadText a) (BadText b) x y =
    let least : ¬ (a < b) = bad_places text a b x.1 y.1 in
    let most : ¬ (b < a) = bad_places text b a y.1 x.1 in
    let same : a ≡ b = grind (arith, least, most) in
    ap BadText same
one_fault_of text (BadText a) TooLong x y = absurd (x.0 y.0)
one_fault_of text TooLong (BadText b) x y = absurd (y.0 x.0)
one_fault_of text TooLong TooLong x y = refl

pub no_fault_of_name : (text : List ℕ) (name : NetbiosName) (fault : TextFault) → IsText name text → ¬ IsFaultOf text fault
no_fault_of_name text name (BadText place) is fault = fault.0 (is.parts, is.form)
no_fault_of_name text name TooLong is fault = fault.1 name is
