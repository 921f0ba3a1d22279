-- Domain names as lists of labels, and how they are spelled (RFC 1001 section 14.2, RFC 1002
-- section 4.1). Lengths are in bytes, and a spelling's length counts its zero byte.
use Rattle.std.specs.Prelude.{◌≡◌, ℕ, ◌<◌, ◌≤◌, ◌++◌, ◌==◌, Bool, List, [], ◌∷◌, length, Result, Ok, Err}
use Rattle.std.specs.List.{AllByRecursion}
use Rattle.std.specs.Ordering.{nat_cmp, on}
use Rattle.std.specs.Cmp.Lexicographic.{pointwise, slice_cmp}
use Rattle.std.specs.declared.cmp.Ordering.{Ordering}
use Rattle.nb_streams.specs.Places.{AreBytes}
use Rattle.nb_names.specs.declared.limits.TheConstants.{MAX_LABEL, MAX_SPELLING}
use Rattle.nb_names.specs.declared.fault.LabelFault.{LabelFault}
use Rattle.nb_names.specs.declared.fault.LabelFault.TheVariants.{EmptyLabel, LabelTooLong, TooLong}

-- the labels in order, each with its length in front, and a zero at the end
abbrev pub spelling : List (List ℕ) → List ℕ
spelling [] = 0 ∷ []
spelling (label ∷ labels) = length label ∷ (label ++ spelling labels)

-- a label has 1 to 63 bytes
abbrev pub IsLabel : List ℕ → Type 0
IsLabel label = (0 < length label) × (length label ≤ MAX_LABEL)

-- these labels make a domain name
pub record IsDomain (labels : List (List ℕ)) : Type 0 where
  pub each : AllByRecursion IsLabel labels
  pub short : length (spelling labels) ≤ MAX_SPELLING

-- each label is of bytes
abbrev pub AreByteLabels : List (List ℕ) → Type 0
AreByteLabels = AllByRecursion AreBytes

-- IsRefused limit labels label fault: after these labels, where a spelling may have `limit` bytes,
-- the label is refused with this fault; the three cases exclude one another
abbrev pub IsRefused : ℕ → List (List ℕ) → List ℕ → LabelFault → Type 0
IsRefused limit labels label EmptyLabel = length label ≡ 0
IsRefused limit labels label LabelTooLong = MAX_LABEL < length label
IsRefused limit labels label TooLong = IsLabel label × (limit < length (spelling (labels ++ label ∷ [])))

-- Pushes limit old new label answer: pushing the label on the old labels gives the answer, and leaves
-- the new ones
abbrev pub Pushes : ℕ → List (List ℕ) → List (List ℕ) → List ℕ → Result Unit LabelFault → Type 0
Pushes limit old new label (Ok _) =
    IsLabel label × (length (spelling (old ++ label ∷ [])) ≤ limit) × (new ≡ old ++ label ∷ [])
Pushes limit old new label (Err fault) = IsRefused limit old label fault × (new ≡ old)

-- our choice: domain names are equal where the bytes of their spellings are
abbrev pub domain_eq : List (List ℕ) → List (List ℕ) → Bool
domain_eq = on spelling (pointwise ◌==◌)

-- our choice: domain names stand in the order of the bytes of their spellings
abbrev pub domain_cmp : List (List ℕ) → List (List ℕ) → Ordering
domain_cmp = on spelling (slice_cmp nat_cmp)
