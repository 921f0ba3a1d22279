-- A type and the tags before it: what one turn of a loop along the tags adds.
use Rattle.std.proofs.Common.{◌≡◌, ◌≢◌, ℕ, zero, suc, ◌+◌, ◌-◌, ◌%◌, ◌<◌, ◌≤◌, ◌&&◌, Bool, true, false, List, [], ◌∷◌, ◌++◌, length, Err, refl, ap, sym, ◌∙◌, append_assoc, append-nil, arith, nat_le, nat_lt}
use Rattle.std.proofs.lemmas.Bool.Decides.{nat_tests}
use Rattle.nb_frames.specs.declared.reason.Reason.TheVariants.{Cut, TooManyTags}
use Rattle.nb_frames.specs.Fields.{word_at}
use Rattle.nb_frames.specs.Tags.{is_tag, follows, network_at, vlans_at}

-- ---- what follows

pub before : (m n : ℕ) → m < n → nat_lt m n ≡ true
before m n less = grind (arith, nat_tests)

pub not_before : (m n : ℕ) → n ≤ m → nat_lt m n ≡ false
not_before m n most = grind (arith, nat_tests)

pub cut_there : (frame : List ℕ) (most at next : ℕ) → length frame < next → network_at most frame at next ≡ Err Cut
unfolding network_at
cut_there frame zero at next cut = rw (before (length frame) next cut) refl
cut_there frame (suc most) at next cut = rw (before (length frame) next cut) refl

pub type_there : (frame : List ℕ) (most at next : ℕ) → next ≤ length frame → is_tag (word_at frame at) ≡ false
    → network_at most frame at next ≡ follows frame (word_at frame at) next
unfolding network_at
type_there frame zero at next fits none = rw (not_before (length frame) next fits, none) refl
type_there frame (suc most) at next fits none = rw (not_before (length frame) next fits, none) refl

pub tag_there : (frame : List ℕ) (at next : ℕ) → next ≤ length frame → is_tag (word_at frame at) ≡ true → network_at 0 frame at next ≡ Err TooManyTags
unfolding network_at
tag_there frame at next fits tag = rw (not_before (length frame) next fits, tag) refl

pub tag_passed : (frame : List ℕ) (most at next : ℕ) → most ≢ 0 → next ≤ length frame → is_tag (word_at frame at) ≡ true
    → network_at most frame at next ≡ network_at (most - 1) frame (next + 2) (next + 4)
unfolding network_at
tag_passed frame zero at next some fits tag = absurd (some refl)
tag_passed frame (suc most) at next some fits tag =
    let one : suc most - 1 ≡ most = omega arith in
    rw (one, not_before (length frame) next fits, tag) refl

-- ---- identifiers of VLANs

-- none where no whole tag stands
pub no_vlans : (frame : List ℕ) (most at next : ℕ) → (nat_le (next + 2) (length frame) && is_tag (word_at frame at)) ≡ false
    → vlans_at most frame at next ≡ []
unfolding vlans_at
no_vlans frame zero at next none = refl
no_vlans frame (suc most) at next none = rw none refl

-- no more where no whole tag stands
pub all_vlans : (frame : List ℕ) (most at next : ℕ) (found all : List ℕ) → (nat_le (next + 2) (length frame) && is_tag (word_at frame at)) ≡ false
    → found ++ vlans_at most frame at next ≡ all → found ≡ all
all_vlans frame most at next found all none more = sym (append-nil found) ∙ ap (λ (r : List ℕ). found ++ r) (sym (no_vlans frame most at next none)) ∙ more

pub vlan_passed : (frame : List ℕ) (most at next id : ℕ) (before after all : List ℕ) → 0 < most
    → (nat_le (next + 2) (length frame) && is_tag (word_at frame at)) ≡ true → id ≡ word_at frame next % 0x1000
    → before ++ vlans_at most frame at next ≡ all → after ≡ before ++ id ∷ [] → after ++ vlans_at (most - 1) frame (next + 2) (next + 4) ≡ all
unfolding vlans_at
vlan_passed frame zero at next id before after all some tag is same more = absurd (omega arith)
vlan_passed frame (suc most) at next id before after all some tag is same more =
    let one : suc most - 1 ≡ most = omega arith in
    rw (one, more, append_assoc, is) (rw tag at same)

-- none where no more are looked for
pub last_vlans : (frame : List ℕ) (most at next : ℕ) (found all : List ℕ) → most ≤ 0 → found ++ vlans_at most frame at next ≡ all → found ≡ all
unfolding vlans_at
last_vlans frame zero at next found all none more = sym (append-nil found) ∙ more
last_vlans frame (suc most) at next found all none more = absurd (omega arith)

-- ---- the test for a whole tag

pub whole_tag : (size next : ℕ) (tag : Bool) → next + 2 ≤ size → tag ≡ true → (nat_le (next + 2) size && tag) ≡ true
whole_tag size next tag fits is = rw is (grind (arith, nat_tests))

pub no_tag : (size next : ℕ) (tag : Bool) → tag ≡ false → (nat_le (next + 2) size && tag) ≡ false
no_tag size next tag none = rw none (grind (arith, nat_tests))

pub cut_tag : (size next : ℕ) (tag : Bool) → size < next + 2 → (nat_le (next + 2) size && tag) ≡ false
cut_tag size next tag cut = grind (arith, nat_tests)
