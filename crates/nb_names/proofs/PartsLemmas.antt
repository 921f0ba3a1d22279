-- The parts of a text within the limits, and the name that they make.
use Rattle.std.proofs.Common.{◌≡◌, ℕ, ◌-◌, ◌≤◌, IfSome, IfNone, IsOkAnd, Result, Option, Some, None, option_and_then, List, [], ◌∷◌, ◌++◌, length, take, drop, replicate, slice_set, refl, sym, ◌∙◌, ap, arith, append_assoc}
use Rattle.std.specs.List.{AllByRecursion}
use Rattle.std.specs.Option.{ok_or}
use Rattle.std.proofs.lemmas.List.{drop-replicate, replicate_more, length-replicate, length-append, set_at, take-append-drop}
use Rattle.std.proofs.lemmas.Option.{option_and_then_some}
use Rattle.nb_names.specs.declared.text_steps.Stage.{Stage}
use Rattle.nb_names.specs.declared.text_steps.Stage.TheVariants.{Front, FrontEscape, FrontDigit, Suffix, SuffixDigit, SuffixEnd, Closed, LabelStart, Label, LabelEscape, LabelDigit}
use Rattle.nb_names.specs.declared.text_steps.Added.{Added}
use Rattle.nb_names.specs.declared.text_steps.Added.TheVariants.{Nothing, FrontByte, Last, LabelByte, LabelEnd}
use Rattle.nb_names.specs.declared.fault.TextFault.{TextFault}
use Rattle.nb_names.specs.DomainName.{IsLabel}
use Rattle.nb_names.specs.Name.{NetbiosName, IsScope}
use Rattle.nb_names.specs.NameText.{Parts, FitsLimits, filled, name_of, IsText, IsFormed}
use Rattle.nb_names.specs.Code.TextSteps.{Taken, nothing_taken, step, takes, steps, parts_of, finish}
use Rattle.nb_names.specs.Code.Kept.{FitsSoFar}
use Rattle.nb_names.proofs.SpellingLemmas.{length-spelling-snoc}
use Rattle.nb_names.proofs.TextStepLemmas.{steps-append, parts_read-form}
use Rattle.nb_names.proofs.TextReachLemmas.{Reached, steps_reached, start_reached, form-parts_read}
use Rattle.nb_names.proofs.FrontLemmas.{parts_at_end}

-- sixteen spaces, with the bytes at their front and one at their end
pub filled_array : (front : List ℕ) (last : ℕ) → length front ≤ 15 → slice_set (front ++ drop (length front) (replicate 16 32)) 15 last ≡ filled front ++ last ∷ []
filled_array front last h =
    let spaces : drop (length front) (replicate 16 32) ≡ replicate {A = ℕ} (15 - length front) 32 ++ 32 ∷ [] =
    drop-replicate (length front) 16 32 ∙ ap (λ n. replicate n 32) (omega arith) ∙ sym (replicate_more (15 - length front) 32) in
    let size : length (filled front) ≡ 15 = omega (arith, length-append front (replicate (15 - length front) 32), length-replicate {A = ℕ} (15 - length front) 32) in
    ap (λ (rest : List ℕ). slice_set (front ++ rest) 15 last) spaces
    ∙ ap (λ (bytes : List ℕ). slice_set bytes 15 last) (sym (append_assoc front (replicate (15 - length front) 32) (32 ∷ [])))
    ∙ set_at (filled front) 32 [] last 15 size

-- ---- limits are passed for good

All-front : (ls ms : List (List ℕ)) → AllByRecursion IsLabel (ls ++ ms) → AllByRecursion IsLabel ls
All-front [] ms a = tt
All-front (l ∷ ls) ms a = (a.0, All-front ls ms a.1)

All-last : (ls : List (List ℕ)) (l : List ℕ) → AllByRecursion IsLabel (ls ++ l ∷ []) → IsLabel l
All-last [] l a = a.0
All-last (m ∷ ls) l a = All-last ls l a.1

IsScope-front : (ls : List (List ℕ)) (l : List ℕ) → IsScope (ls ++ l ∷ []) → IsScope ls
IsScope-front ls l scope = record {
  domain = record { each = All-front ls (l ∷ []) scope.domain.each; short = omega (arith, scope.domain.short, length-spelling-snoc ls l) };
  short = omega (arith, scope.short, length-spelling-snoc ls l);
}

fits_before : (t : Taken) (e : Added) → FitsSoFar (takes t e) → FitsSoFar t
fits_before t Nothing f = f
fits_before t (FrontByte b) f = record { front_fits = omega (arith, f.front_fits, length-append t.front (b ∷ [])); label_fits = f.label_fits; scope_fits = f.scope_fits }
fits_before t (Last b) f = record { front_fits = f.front_fits; label_fits = f.label_fits; scope_fits = f.scope_fits }
fits_before t (LabelByte b) f = record { front_fits = f.front_fits; label_fits = omega (arith, f.label_fits, length-append t.label (b ∷ [])); scope_fits = f.scope_fits }
fits_before t LabelEnd f = record { front_fits = f.front_fits; label_fits = (All-last t.scope t.label f.scope_fits.domain.each).1; scope_fits = IsScope-front t.scope t.label f.scope_fits }

fits_all_along : (s : Stage) (t : Taken) (text : List ℕ) (end : Stage × Taken) → steps s t text ≡ Some end → FitsSoFar end.1 → FitsSoFar t
fits_all_along s t [] end e f = let same : end.1 ≡ t = cc in rw same at f
fits_all_along s t (c ∷ text) end e f =
    option_and_then_some (λ next. steps next.0 (takes t next.1) text) (step s c) end e
    (λ next is rest. fits_before t next.1 (fits_all_along next.0 (takes t next.1) text end rest f))

-- where a text ends with parts within the limits, what is taken is
end_fits : (s : Stage) (t : Taken) (done : List ℕ) (parts : Parts) → Reached s t done → finish s t ≡ Some parts → FitsLimits parts → FitsSoFar t
end_fits Closed t done parts r e f =
    let same : parts ≡ parts_of t = cc in
    let g : FitsLimits (parts_of t) = rw same at f in
    record { front_fits = g.front; label_fits = rw r.1 (omega arith); scope_fits = g.scope }
end_fits Label t done parts r e f =
    let same : parts ≡ parts_of (takes t LabelEnd) = cc in
    let g : FitsLimits (parts_of (takes t LabelEnd)) = rw same at f in
    fits_before t LabelEnd (record { front_fits = g.front; label_fits = omega arith; scope_fits = g.scope })
end_fits Front t done parts r e f = absurd (cc)
end_fits FrontEscape t done parts r e f = absurd (cc)
end_fits (FrontDigit _) t done parts r e f = absurd (cc)
end_fits Suffix t done parts r e f = absurd (cc)
end_fits (SuffixDigit _) t done parts r e f = absurd (cc)
end_fits SuffixEnd t done parts r e f = absurd (cc)
end_fits LabelStart t done parts r e f = absurd (cc)
end_fits LabelEscape t done parts r e f = absurd (cc)
end_fits (LabelDigit _) t done parts r e f = absurd (cc)

-- ---- the ends of a loop over a text

-- a text that isn't formed is that of no name
pub no_name_unformed : (text : List ℕ) → ¬ IsFormed text → (name : NetbiosName) → ¬ IsText name text
no_name_unformed text h name is = h (is.parts, is.form)

-- a text is a name's only if its parts are within the limits at each place
pub no_name_past_limits : (text : List ℕ) (i : ℕ) (s : Stage) (t : Taken) → steps Front nothing_taken (take i text) ≡ Some (s, t) → ¬ FitsSoFar t → (name : NetbiosName) → ¬ IsText name text
no_name_past_limits text i s t e h name is =
    let whole : steps Front nothing_taken text ≡ steps s t (drop i text) =
    ap (steps Front nothing_taken) (sym (take-append-drop i text)) ∙ steps-append Front nothing_taken (take i text) (drop i text)
    ∙ ap (option_and_then (λ (end : Stage × Taken). steps end.0 end.1 (drop i text))) e in
    option_and_then_some (λ end. finish end.0 end.1) (steps Front nothing_taken text) is.parts (parts_read-form is.parts text is.form)
    (λ end there done.
    let reached : Reached end.0 end.1 text = rw there at (steps_reached Front nothing_taken [] text start_reached) in
    h (fits_all_along s t (drop i text) end (sym whole ∙ there) (end_fits end.0 end.1 text is.parts reached done is.limits)))

-- nor if the scope has no room for its last label
pub no_name_past_label : (text : List ℕ) (i : ℕ) (t : Taken) → length text ≤ i → steps Front nothing_taken (take i text) ≡ Some (Label, t) → ¬ FitsSoFar (takes t LabelEnd) → (name : NetbiosName) → ¬ IsText name text
no_name_past_label text i t short e h name is =
    let read = sym (parts_read-form is.parts text is.form) ∙ parts_at_end text i Label t (parts_of (takes t LabelEnd)) short e refl in
    let same : is.parts ≡ parts_of (takes t LabelEnd) = cc in
    let f : FitsLimits (parts_of (takes t LabelEnd)) = rw same at is.limits in
    h (record { front_fits = f.front; label_fits = omega arith; scope_fits = f.scope })

-- where a text may end, it is the text of the name of what is taken
pub text_at_end : (text : List ℕ) (i : ℕ) (s : Stage) (t : Taken) (parts : Parts) (name : NetbiosName) → length text ≤ i → steps Front nothing_taken (take i text) ≡ Some (s, t) → finish s t ≡ Some parts → FitsLimits parts → name ≡ name_of parts → IsText name text
text_at_end text i s t parts name short e done limits is =
    record { parts = parts; form = form-parts_read parts text (parts_at_end text i s t parts short e done); limits = limits; exact = is }

-- a text is the text of one name
pub one_name_of : (text : List ℕ) (a b : NetbiosName) → IsText a text → IsText b text → a ≡ b
one_name_of text a b x y =
    let read = sym (parts_read-form x.parts text x.form) ∙ parts_read-form y.parts text y.form in
    let same : x.parts ≡ y.parts = cc in
    x.exact ∙ ap name_of same ∙ sym y.exact

-- the one name of a text is what was read
pub only_name : (text : List ℕ) (found : Option NetbiosName) (fault : TextFault) (answer : Result NetbiosName TextFault) → answer ≡ ok_or found fault → IfSome found (λ name. IsText name text) → IfNone found ((name : NetbiosName) → ¬ IsText name text) → (name : NetbiosName) → IsText name text → IsOkAnd answer (λ read. read ≡ name)
only_name text None fault answer e some none name is = absurd (none name is)
only_name text (Some read) fault answer e some none name is = rw e (one_name_of text read name some is)
