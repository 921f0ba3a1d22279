-- What stands in bytes is bytes. Pieces of lines: what may stand amid a line, and where lines end.
use Rattle.std.proofs.Common.{ℕ, zero, suc, List, [], ◌∷◌, ◌++◌, length, drop, subst, arith, ◌≡◌, ◌<◌, Bool, true, false, if◌then◌else◌, Option, Some, None, refl, sym, ap, ◌∙◌, append_assoc, codes}
use Rattle.std.specs.List.{AllByRecursion, flat_map, list_all}
use Rattle.nb_names.specs.declared.reading.Pointers.{Pointers}
use Rattle.nb_names.specs.DomainName.{spelling, AreByteLabels}
use Rattle.nb_streams.specs.PacketFacts.{All-drop}
use Rattle.nb_streams.specs.Places.{AreBytes, StandsAt}
use Rattle.nb_names.specs.Labels.{LabelsAt, ends, goes_on, leads_to}
use Rattle.nb_names.specs.Name.{NetbiosName, IsName, IsByteName, labels_of_name}
use Rattle.nb_names.proofs.SpellingLemmas.{AreByteLabels-spelled}
use Rattle.std.specs.Fmt.{decimal}
use Rattle.std.proofs.lemmas.Bool.{and_parts}
use Rattle.std.proofs.lemmas.Grind.{flat_map-append}
use Rattle.std.proofs.lemmas.List.{length-append}
use Rattle.nb_service.proofs.EncodingLemmas.{all_append}
use Rattle.nb_text.specs.Fields.{IsWord, AreWords, last, more, IsPart, AreLines}
use Rattle.nb_text.specs.Lines.{line_end, used_text, refused_text}
use Rattle.nb_text.proofs.FieldLemmas.{IsSeen, all-split, bytes-take, seen-append, is_literal, literal, number_word}

pub bytes-split : (xs ys : List ℕ) → AreBytes (xs ++ ys) → AreBytes xs × AreBytes ys
bytes-split xs ys a = all-split (λ (b : ℕ). b < 256) xs ys a

pub bytes-drop : (n : ℕ) (xs : List ℕ) → AreBytes xs → AreBytes (drop n xs)
bytes-drop = All-drop (λ (b : ℕ). b < 256)

pub bytes-stand : (packet bytes : List ℕ) (at : ℕ) → AreBytes packet → StandsAt packet at bytes → AreBytes bytes
bytes-stand packet bytes at a stands =
    subst AreBytes stands (bytes-take (length bytes) (drop at packet) (bytes-drop at packet a))

-- the labels that stand in bytes are of bytes
pub labels_bytes : (packet : List ℕ) (pointers : Pointers) (start at : ℕ) (labels : List (List ℕ)) (next : ℕ) → AreBytes packet
    → LabelsAt packet pointers start at labels next → AreByteLabels labels
labels_bytes packet pointers start at _ next a (ends stands) = tt
labels_bytes packet pointers start at _ next a (goes_on label labels is stands short rest) =
    ((bytes-stand packet (length label ∷ label) at a stands).1, labels_bytes packet pointers start _ labels next a rest)
labels_bytes packet pointers start at labels next a (leads_to target behind followed there below rest) =
    labels_bytes packet pointers target target labels behind a rest

-- a name whose spelling is of bytes
pub spelled_name : (name : NetbiosName) → IsName name → AreBytes (spelling (labels_of_name name)) → IsByteName name
spelled_name name is a = (is, (AreByteLabels-spelled (labels_of_name name) a).1)

-- ---- amid a line

-- what may follow a word, so that these are lines
pub record Ends (rest : List ℕ) : Type 0 where
  pub lines : (word : List ℕ) → IsWord word → AreLines (word ++ rest)

-- what may stand before such
pub record IsMid (text : List ℕ) : Type 0 where
  pub before : (rest : List ℕ) → Ends rest → Ends (text ++ rest)

pub mid_then : {text rest : List ℕ} → IsMid text → Ends rest → Ends (text ++ rest)
mid_then {text} {rest} mid e = mid.before rest e

pub mid_both : {xs ys : List ℕ} → IsMid xs → IsMid ys → IsMid (xs ++ ys)
mid_both {xs} {ys} a b = record { before = λ rest e. subst Ends (sym (append_assoc xs ys rest)) (a.before (ys ++ rest) (b.before rest e)) }

joined_word : (xs ys : List ℕ) → IsWord xs → IsSeen ys → IsWord (xs ++ ys)
joined_word xs ys is seen = (omega (arith, is.0, length-append xs ys), seen-append xs ys is.1 seen)

pub mid_seen : (xs : List ℕ) → IsSeen xs → IsMid xs
mid_seen xs seen = record {
  before = λ rest e. record { lines = λ word is. subst AreLines (append_assoc word xs rest) (e.lines (word ++ xs) (joined_word word xs is seen)) };
}

more_words : (word next rest : List ℕ) → IsWord word → AreLines (next ++ rest) → AreLines (word ++ ((32 ∷ next) ++ rest))
more_words word next rest is l = record {
  first = word ++ 32 ∷ l.first;
  parts = l.parts;
  words = more word l.first is l.words;
  each = l.each;
  whole = ap (λ (t : List ℕ). word ++ 32 ∷ t) l.whole
      ∙ sym (append_assoc word (32 ∷ l.first) (line_end ++ flat_map (λ part. part ++ line_end) l.parts));
}

pub mid_word : (next : List ℕ) → IsWord next → IsMid (32 ∷ next)
mid_word next is_next = record {
  before = λ rest e. record { lines = λ word is. more_words word next rest is (e.lines next is_next) };
}

-- words that are written out, each after a space
pub mid_words : (words : List (List ℕ)) → list_all is_literal words ≡ true → IsMid (flat_map (λ word. 32 ∷ word) words)
mid_words [] h = mid_seen [] tt
mid_words (word ∷ words) h =
    let parts = and_parts (is_literal word) (list_all is_literal words) h in
    mid_both (mid_word word (literal word parts.0)) (mid_words words parts.1)

-- a space, and a field: its name, which is written out, and then its value
pub mid_field : (cs value : List ℕ) → is_literal cs ≡ true → IsSeen value → IsMid (32 ∷ (cs ++ value))
mid_field cs value h seen = mid_word (cs ++ value) (joined_word cs value (literal cs h) seen)

-- the same, of a number
pub number_field : (cs : List ℕ) (n : ℕ) → is_literal cs ≡ true → IsMid (32 ∷ (cs ++ decimal n))
number_field cs n h = mid_field cs (decimal n) h (number_word n).1

-- ---- where a line ends

-- lines of parts alone
pub record AreParts (text : List ℕ) : Type 0 where
  pub parts : List (List ℕ)
  pub each : AllByRecursion IsPart parts
  pub whole : text ≡ flat_map (λ part. part ++ line_end) parts

pub no_parts : AreParts []
no_parts = record { parts = []; each = tt; whole = refl }

pub ends_here : Ends line_end
ends_here = record {
  lines = λ word is. record { first = word; parts = []; words = last word is; each = tt; whole = refl };
}

pub used_ends : (used : ℕ) → Ends (used_text used)
used_ends used = mid_then (number_field (codes "used=") used refl) ends_here

-- a line that begins with this word
pub line_of : (word : List ℕ) {text : List ℕ} → IsWord word → IsMid text → AreLines (word ++ (text ++ line_end))
line_of word is mid = (mid_then mid ends_here).lines word is

-- a whole packet's only line
pub used_line : (word : List ℕ) {text : List ℕ} (used : ℕ) → IsWord word → IsMid text → AreLines ((word ++ text) ++ used_text used)
used_line word {text} used is mid =
    subst AreLines (sym (append_assoc word text (used_text used))) ((mid_then mid (used_ends used)).lines word is)

-- a refusal's only line
pub refused_line : (fault : List ℕ) → IsMid (32 ∷ fault) → AreLines (refused_text fault)
refused_line fault mid = line_of (codes "refused") (literal (codes "refused") refl) mid

-- ---- lines of parts

pub parts_both : {xs ys : List ℕ} → AreParts xs → AreParts ys → AreParts (xs ++ ys)
parts_both {xs} {ys} a b = record {
  parts = a.parts ++ b.parts;
  each = all_append IsPart a.parts b.parts a.each b.each;
  whole = ap (λ (t : List ℕ). t ++ ys) a.whole ∙ ap (λ (t : List ℕ). flat_map (λ part. part ++ line_end) a.parts ++ t) b.whole
      ∙ sym (flat_map-append (λ part. part ++ line_end) a.parts b.parts);
}

pub parts_each : {A : Type 0} (P : A → Type 0) (f : A → List ℕ) (xs : List A) → AllByRecursion P xs → ((x : A) → P x → AreParts (f x))
    → AreParts (flat_map f xs)
parts_each {A} P f [] h each = no_parts
parts_each {A} P f (x ∷ xs) h each = parts_both (each x h.0) (parts_each P f xs h.1 each)

pub parts_all : {A : Type 0} (f : A → List ℕ) (xs : List A) → ((x : A) → AreParts (f x)) → AreParts (flat_map f xs)
parts_all {A} f [] each = no_parts
parts_all {A} f (x ∷ xs) each = parts_both (each x) (parts_all f xs each)

-- a line, then lines of parts
pub lines_then : {text after : List ℕ} → AreLines text → AreParts after → AreLines (text ++ after)
lines_then {text} {after} l p = record {
  first = l.first;
  parts = l.parts ++ p.parts;
  words = l.words;
  each = all_append IsPart l.parts p.parts l.each p.each;
  whole = ap (λ (t : List ℕ). t ++ after) l.whole ∙ append_assoc l.first (line_end ++ flat_map (λ part. part ++ line_end) l.parts) after
      ∙ ap (λ (t : List ℕ). l.first ++ (line_end ++ t))
      (ap (λ (t : List ℕ). flat_map (λ part. part ++ line_end) l.parts ++ t) p.whole ∙ sym (flat_map-append (λ part. part ++ line_end) l.parts p.parts));
}

-- a line that two spaces begin, or four
pub part_line : {text : List ℕ} (lead : List ℕ) → ((line : List ℕ) → AreWords line → IsPart (lead ++ line)) → AreLines text → AreParts (lead ++ text)
part_line lead is l = record {
  parts = (lead ++ l.first) ∷ l.parts;
  each = (is l.first l.words, l.each);
  whole = ap (λ (t : List ℕ). lead ++ t) l.whole
      ∙ sym (append_assoc lead l.first (line_end ++ flat_map (λ part. part ++ line_end) l.parts))
      ∙ sym (append_assoc (lead ++ l.first) line_end (flat_map (λ part. part ++ line_end) l.parts));
}

-- ---- a choice of words

-- the word, if there is one, is one
abbrev pub IsNamed : Option (List ℕ) → Type 0
IsNamed None = Unit {0}
IsNamed (Some word) = IsWord word

pub chosen : (test : Bool) (a b : Option (List ℕ)) → IsNamed a → IsNamed b → IsNamed (if test then a else b)
chosen true a b first second = first
chosen false a b first second = second
