-- NetBIOS names: sixteen bytes and a scope (RFC 1001 section 14.1). Places in a spelling count from
-- its first byte, which is the first label's length.
use Rattle.std.specs.Prelude.{◌≡◌, ℕ, ◌+◌, ◌≤◌, ◌==◌, Bool, List, [], ◌∷◌, length, refl, ◌≢◌}
use Rattle.std.specs.Ordering.{nat_cmp, on, then_cmp, eq_of_both}
use Rattle.std.specs.Cmp.Lexicographic.{pointwise, slice_cmp}
use Rattle.std.specs.Coded.{Coded, code_by, coded×, coded_ℕ, coded_list}
use Rattle.std.specs.declared.cmp.Ordering.{Ordering}
use Rattle.nb_names.specs.declared.limits.TheConstants.{NAME_LENGTH, LETTERS, MAX_SCOPE}
use Rattle.nb_names.specs.DomainName.{spelling, AreByteLabels, IsDomain, domain_eq, domain_cmp}
use Rattle.nb_streams.specs.Places.{AreBytes}
use Rattle.nb_names.specs.FirstLevel.{letters, IsFirstNonLetter}

-- a NetBIOS name: its sixteen bytes, of which the last is the suffix, and the labels of its scope
pub record NetbiosName : Type 0 where
  pub bytes : List ℕ
  pub scope : List (List ℕ)

-- a name as the pair of its fields
abbrev pub name_code : Coded NetbiosName
name_code =
    code_by (List ℕ × List (List ℕ)) (coded× (coded_list coded_ℕ) (coded_list (coded_list coded_ℕ)))
    (λ n. (n.bytes, n.scope)) (λ p. record { bytes = p.0; scope = p.1 }) (λ _. refl)

-- these labels make a scope: what their spelling leaves of 255 bytes has room for a name's first label
-- and its length byte
pub record IsScope (labels : List (List ℕ)) : Type 0 where
  pub domain : IsDomain labels
  pub short : length (spelling labels) ≤ MAX_SCOPE

-- a name has sixteen bytes, each of eight bits, and a scope
pub record IsName (name : NetbiosName) : Type 0 where
  pub sixteen : length name.bytes ≡ NAME_LENGTH
  pub each : AreBytes name.bytes
  pub scope : IsScope name.scope

-- a name whose labels are of bytes too
abbrev pub IsByteName : NetbiosName → Type 0
IsByteName name = IsName name × AreByteLabels name.scope

-- the labels of a name: its letters, then those of its scope
abbrev pub labels_of_name : NetbiosName → List (List ℕ)
labels_of_name name = letters name.bytes ∷ name.scope

-- our choice: names are equal where their bytes and their scopes are
abbrev pub name_eq : NetbiosName → NetbiosName → Bool
name_eq = eq_of_both (on (λ n. n.bytes) (pointwise ◌==◌)) (on (λ n. n.scope) domain_eq)

-- our choice: names stand in the order of their bytes, then of their scopes
abbrev pub name_cmp : NetbiosName → NetbiosName → Ordering
name_cmp = then_cmp (on (λ n. n.bytes) (slice_cmp nat_cmp)) (on (λ n. n.scope) domain_cmp)

-- IsNoName labels place: why these labels are of no name, as a place in their spelling: its start, if the
-- first label is missing or of another length than a name's letters; otherwise where the first label
-- has its first byte that is no letter
pub data IsNoName : List (List ℕ) → ℕ → Type 0 where
  no_label : IsNoName [] 0
  wrong_length : (first : List ℕ) (rest : List (List ℕ)) → length first ≢ LETTERS → IsNoName (first ∷ rest) 0
  non_letter : (first : List ℕ) (rest : List (List ℕ)) (place : ℕ)
      → length first ≡ LETTERS → IsFirstNonLetter first place → IsNoName (first ∷ rest) (1 + place)
