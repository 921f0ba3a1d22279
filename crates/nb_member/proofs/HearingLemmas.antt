-- Names that are held.
use Rattle.nb_member.proofs.Common.{◌≡◌, ℕ, zero, suc, Bool, true, false, ◌||◌, List, [], ◌∷◌, refl, ap, ◌∙◌, arith, inl, inr, Contains, false≢true, or_left, or_right, Contains-append_right, Contains-append_cases, NetbiosName, name_eq, holds, holds_scope, hears_as, HoldsScope, HearsAs}
use Rattle.nb_names.specs.DomainName.{domain_eq}
use Rattle.nb_names.specs.NameFacts.{name_eq_decides, domain_eq_decides}
use Rattle.nb_datagram.specs.declared.key.Kind.{Kind}
use Rattle.nb_datagram.specs.declared.key.Kind.TheVariants.{Unique, Group, Broadcast}

-- a name is in a list of one only where it is that one
single : (held name : NetbiosName) → Contains (held ∷ []) name → held ≡ name
single held name (zero, below, is) = is
single held name (suc k, below, is) = absurd (omega arith)

in_any : (b : Bool) (names : List NetbiosName) (held name : NetbiosName) → name_eq held name ≡ b
    → (b || holds names name) ≡ true → (holds names name ≡ true → Contains names name) → Contains (held ∷ names) name
in_any true names held name e h rest = (zero, omega arith, (name_eq_decides held name).0 e)
in_any false names held name e h rest = Contains-append_right (held ∷ []) names name (rest h)

-- the test finds a name that is held
pub Contains-from_holds : (names : List NetbiosName) (name : NetbiosName) → holds names name ≡ true → Contains names name
Contains-from_holds [] name h = absurd (false≢true h)
Contains-from_holds (held ∷ names) name h =
    in_any (name_eq held name) names held name refl h (Contains-from_holds names name)

-- and no other
pub holds-from_Contains : (names : List NetbiosName) (name : NetbiosName) → Contains names name → holds names name ≡ true
holds-from_Contains [] name h = absurd (omega (arith, h.1))
holds-from_Contains (held ∷ names) name h =
    elim (Contains-append_cases (held ∷ []) names name h) [
      | inl here ↦ or_left (name_eq held name) (holds names name) ((name_eq_decides held name).1 (single held name here))
      | inr behind ↦ or_right (name_eq held name) (holds names name) (holds-from_Contains names name behind)
    ]

-- ---- scopes

scope_in_any : (b : Bool) (names : List NetbiosName) (held : NetbiosName) (scope : List (List ℕ)) → domain_eq held.scope scope ≡ b
    → (b || holds_scope names scope) ≡ true → (holds_scope names scope ≡ true → HoldsScope names scope)
    → HoldsScope (held ∷ names) scope
scope_in_any true names held scope e h rest =
    (held, (zero, omega arith, refl), (domain_eq_decides held.scope scope).0 e)
scope_in_any false names held scope e h rest =
    let found = rest h in
    (found.0, Contains-append_right (held ∷ []) names found.0 found.1, found.2)

-- the test finds a name of the scope
pub HoldsScope-from_test : (names : List NetbiosName) (scope : List (List ℕ)) → holds_scope names scope ≡ true → HoldsScope names scope
HoldsScope-from_test [] scope h = absurd (false≢true h)
HoldsScope-from_test (held ∷ names) scope h =
    scope_in_any (domain_eq held.scope scope) names held scope refl h (HoldsScope-from_test names scope)

-- and no other
pub test-from_HoldsScope : (names : List NetbiosName) (scope : List (List ℕ)) → HoldsScope names scope → holds_scope names scope ≡ true
test-from_HoldsScope [] scope h = absurd (omega (arith, h.1.1))
test-from_HoldsScope (held ∷ names) scope h =
    elim (Contains-append_cases (held ∷ []) names h.0 h.1) [
      | inl here ↦
          let same = ap (λ (n : NetbiosName). n.scope) (single held h.0 here) ∙ h.2 in
          or_left (domain_eq held.scope scope) (holds_scope names scope) ((domain_eq_decides held.scope scope).1 same)
      | inr behind ↦
          or_right (domain_eq held.scope scope) (holds_scope names scope) (test-from_HoldsScope names scope (h.0, behind, h.2))
    ]

-- ---- hearing

pub Hears-from_test : (names : List NetbiosName) (kind : Kind) (destination : NetbiosName)
    → hears_as names kind destination ≡ true → HearsAs names kind destination
Hears-from_test names Unique destination h = Contains-from_holds names destination h
Hears-from_test names Group destination h = Contains-from_holds names destination h
Hears-from_test names Broadcast destination h = HoldsScope-from_test names destination.scope h

pub test-from_Hears : (names : List NetbiosName) (kind : Kind) (destination : NetbiosName)
    → HearsAs names kind destination → hears_as names kind destination ≡ true
test-from_Hears names Unique destination h = holds-from_Contains names destination h
test-from_Hears names Group destination h = holds-from_Contains names destination h
test-from_Hears names Broadcast destination h = test-from_HoldsScope names destination.scope h
