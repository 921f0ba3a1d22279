-- The keys of datagrams (RFC 1002 section 4.4.1: SOURCE_IP, SOURCE_PORT, DGM_ID).
use Rattle.std.specs.Prelude.{ℕ, Bool, List, refl, Decides}
use Rattle.std.specs.Ordering.{nat_cmp, on, then_cmp, eq_by_cmp, ordering_then}
use Rattle.std.specs.Cmp.Lexicographic.{slice_cmp, nat_list_cmp_total}
use Rattle.std.specs.Coded.{Coded, code_by, coded×, coded_ℕ, coded_list}
use Rattle.std.specs.declared.cmp.Ordering.{Ordering}
use Rattle.nb_datagram.specs.declared.key.Key.{Key}
use Rattle.std.proofs.Common.{◌≡◌, sym, ap, ◌∙◌}
use Rattle.std.specs.Cmp.{Equal-is, IsTotalOrder, nat_cmp_total, on_total, then_total, tied_itself}
use Rattle.std.specs.FinMap.{IsAntisymmetric, nat_cmp-IsAntisymmetric, slice_cmp-IsAntisymmetric}
use Rattle.std.specs.declared.cmp.Ordering.TheVariants.{Less, Equal, Greater}

-- our choice: keys stand in the order of the address, then the port, then the identifier
abbrev pub key_cmp : Key → Key → Ordering
key_cmp = then_cmp (on (λ k. k.ip) (slice_cmp nat_cmp)) (then_cmp (on (λ k. k.port) nat_cmp) (on (λ k. k.id) nat_cmp))

-- the two are one key
abbrev pub same_key : Key → Key → Bool
same_key = eq_by_cmp key_cmp

-- a key as the tuple of its fields
abbrev pub key_code : Coded Key
key_code =
    code_by (List ℕ × (ℕ × ℕ)) (coded× (coded_list coded_ℕ) (coded× coded_ℕ coded_ℕ))
    (λ k. (k.ip, (k.port, k.id))) (λ p. record { ip = p.0; port = p.1.0; id = p.1.1 }) (λ _. refl)

-- ---- the order of keys is total, keys that tie are one key, and the test for one key decides whether keys are equal
-- The laws of traits may cite these.

pub key_cmp_total : IsTotalOrder key_cmp
key_cmp_total =
    then_total (on_total (λ (k : Key). k.ip) nat_list_cmp_total)
    (then_total (on_total (λ (k : Key). k.port) nat_cmp_total) (on_total (λ (k : Key). k.id) nat_cmp_total))

-- where two comparisons one after the other tie, each ties
both_tie : (a b : Ordering) → ordering_then a b ≡ Equal → (a ≡ Equal) × (b ≡ Equal)
both_tie Less b e = absurd (cc)
both_tie Equal b e = (refl, e)
both_tie Greater b e = absurd (cc)

pub key_cmp_exact : IsAntisymmetric key_cmp
key_cmp_exact x y e =
    let outer = both_tie _ _ e in
    let inner = both_tie _ _ outer.1 in
    let ip = slice_cmp-IsAntisymmetric nat_cmp-IsAntisymmetric x.ip y.ip outer.0 in
    let port = nat_cmp-IsAntisymmetric x.port y.port inner.0 in
    let id = nat_cmp-IsAntisymmetric x.id y.id inner.1 in
    λ i. record { ip = ip i; port = port i; id = id i }

-- the test for one key decides whether keys are equal
pub same_key_decides : (a b : Key) → Decides (same_key a b) (a ≡ b)
same_key_decides a b = (
  λ h. key_cmp_exact a b ((Equal-is (key_cmp a b)).0 h),
  λ e. ap (same_key a) (sym e) ∙ (Equal-is (key_cmp a a)).1 (tied_itself key_cmp_total a),
)
