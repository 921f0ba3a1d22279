-- What is heard of a packet, item by item.
use Rattle.std.proofs.Common.{ℕ, zero, suc, ◌≡◌, ◌∙◌, refl, sym, ap, List, [], ◌∷◌, ◌++◌, length, slice_index, get_or, Bool, true, false, ◌==◌, ◌&&◌, ◌*◌, ◌/◌, ◌%◌, ◌<◌, Option, Some, None, map, take, ◌+◌, append-nil, append_assoc, arith}
use Rattle.std.proofs.lemmas.List.{map-append, take_more}
use Rattle.std.proofs.lemmas.List.Elements.{filter_map-append}
use Rattle.std.proofs.lemmas.Option.{get_or_from_slice_get, slice_get_within}
use Rattle.std.specs.List.{cons_option, list_all, slice_get}
use Rattle.std.specs.Option.{is_some, option_or}
use Rattle.std.proofs.lemmas.Bool.Decides.{nat_tests}
use Rattle.nb_streams.specs.Places.{AreBytes}
use Rattle.nb_names.specs.FirstLevel.{letter, letters, IsLetter}
use Rattle.nb_names.specs.Name.{NetbiosName, IsName, IsNoName, no_label, wrong_length, non_letter, labels_of_name}
use Rattle.nb_names.specs.NameText.{is_letter}
use Rattle.nb_service.specs.declared.seen.Seen.{Seen}
use Rattle.nb_service.specs.Items.{PacketItem, asked, told, section_of, Sees, SeesRecord}
use Rattle.nb_service.specs.Record.{ResourceRecord}
use Rattle.nb_survey.specs.Hearing.{first_of, record_in, records_in, scope_of}

or_none : {A : Type 0} (o : Option A) → option_or o None ≡ o
or_none None = refl
or_none (Some y) = refl

or_assoc : {A : Type 0} (a b c : Option A) → option_or a (option_or b c) ≡ option_or (option_or a b) c
or_assoc None b c = refl
or_assoc (Some x) b c = refl

pub first_of-more : {A B : Type 0} (f : A → Option B) (xs : List A) (x : A) → first_of f (xs ++ x ∷ []) ≡ option_or (first_of f xs) (f x)
first_of-more f [] x = or_none (f x)
first_of-more f (y ∷ ys) x = ap (option_or (f y)) (first_of-more f ys x) ∙ or_assoc (f y) (first_of f ys) (f x)

-- what the first of these has, after one more
pub first_of-turn : {A B : Type 0} (f : A → Option B) (xs : List A) (i : ℕ) (d : A) (o : Option B) → o ≡ first_of f (take i xs) → i < length xs
    → option_or o (f (get_or xs i d)) ≡ first_of f (take (i + 1) xs)
first_of-turn f xs i d o e h =
    ap (λ x. option_or x (f (get_or xs i d))) e ∙ sym (ap (first_of f) (take_more xs i d h) ∙ first_of-more f (take i xs) (get_or xs i d))

length-letters : (bytes : List ℕ) → length (letters bytes) ≡ 2 * length bytes
length-letters [] = refl
length-letters (b ∷ bytes) = omega (arith, length-letters bytes)

letter_passes : (half : ℕ) → half < 16 → is_letter (letter half) ≡ true
letter_passes half h = grind (arith, nat_tests)

letters_pass : (bytes : List ℕ) → AreBytes bytes → list_all is_letter (letters bytes) ≡ true
letters_pass [] h = refl
letters_pass (b ∷ bytes) h =
    let byte : b < 256 = h.0 in
    rw (letter_passes (b / 16) (omega (arith, byte)), letter_passes (b % 16) (omega arith)) (letters_pass bytes h.1)

-- the scope of a NetBIOS name
pub scope_of-name : (name : NetbiosName) → IsName name → scope_of (labels_of_name name) ≡ name.scope
scope_of-name name is =
    let long : length (letters name.bytes) ≡ 32 = omega (arith, length-letters name.bytes, is.sixteen) in
    rw (long, letters_pass name.bytes is.each) refl

and_false : (test : Bool) → (test && false) ≡ false
and_false true = refl
and_false false = refl

not_letter : (byte : ℕ) → ¬ IsLetter byte → is_letter byte ≡ false
not_letter byte non = grind (arith, nat_tests)

not_all_letters : (label : List ℕ) (place : ℕ) → place < length label → ¬ IsLetter (slice_index label place) → list_all is_letter label ≡ false
not_all_letters [] place within non = absurd (omega arith)
not_all_letters (b ∷ label) zero within non = rw (not_letter b non) refl
not_all_letters (b ∷ label) (suc place) within non =
    ap (λ rest. is_letter b && rest) (not_all_letters label place (omega arith) non) ∙ and_false (is_letter b)

-- labels that are no NetBIOS name's have no scope
pub scope_of-others : (labels : List (List ℕ)) (place : ℕ) → IsNoName labels place → scope_of labels ≡ []
scope_of-others labels place no_label = refl
scope_of-others labels place (wrong_length first rest apart) =
    let other : (length first == 32) ≡ false = grind (arith, nat_tests) in rw other refl
scope_of-others labels place (non_letter first rest at long is) =
    rw (not_all_letters first at is.within is.non_letter, and_false (length first == 32)) refl

-- one more of a list, and what is made of it
pub made_more : {A B : Type 0} (f : A → B) (old : List B) (xs : List A) (i : ℕ) (x : A) → slice_get xs i ≡ Some x
    → (old ++ map f (take i xs)) ++ f x ∷ [] ≡ old ++ map f (take (i + 1) xs)
made_more f old xs i x e =
    let more : take (i + 1) xs ≡ take i xs ++ x ∷ [] = take_more xs i x (slice_get_within xs i x e) ∙ ap (λ y. take i xs ++ y ∷ []) (get_or_from_slice_get xs i x x e) in
    append_assoc old (map f (take i xs)) (f x ∷ []) ∙ ap (λ ys. old ++ ys) (sym (ap (map f) more ∙ map-append f (take i xs) (x ∷ [])))

pub taken_more : {A : Type 0} (old xs : List A) (i : ℕ) (x : A) → slice_get xs i ≡ Some x → (old ++ take i xs) ++ x ∷ [] ≡ old ++ take (i + 1) xs
taken_more old xs i x e =
    let more : take (i + 1) xs ≡ take i xs ++ x ∷ [] = take_more xs i x (slice_get_within xs i x e) ∙ ap (λ y. take i xs ++ y ∷ []) (get_or_from_slice_get xs i x x e) in
    append_assoc old (take i xs) (x ∷ []) ∙ ap (λ ys. old ++ ys) (sym more)

no_section : (item : PacketItem) → is_some (section_of item) ≡ false → record_in item ≡ None
no_section (asked question) e = refl
no_section (told section entry) e = absurd (cc)

-- an item without a section has no record
pub records_none : (items : List PacketItem) (item : PacketItem) → is_some (section_of item) ≡ false → records_in (items ++ item ∷ []) ≡ records_in items
records_none items item e =
    filter_map-append record_in items (item ∷ []) ∙ (ap (λ o. records_in items ++ cons_option o []) (no_section item e) ∙ append-nil (records_in items))

-- an item with one is a record
pub record_seen : (packet : List ℕ) (item : PacketItem) (seen : Seen) → is_some (section_of item) ≡ true → Sees packet item seen
    → (entry : ResourceRecord) × SeesRecord packet entry seen × ((items : List PacketItem) → records_in (items ++ item ∷ []) ≡ records_in items ++ entry ∷ [])
record_seen packet (asked question) seen e h = absurd (cc)
record_seen packet (told section entry) seen e h = (entry, h, λ items. filter_map-append record_in items (told section entry ∷ []))
