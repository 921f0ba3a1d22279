-- The pointers behind which stations stand (our choice): none stands behind null.
use Rattle.std.specs.Prelude.{◌≡◌, Bool, MatchBool, refl}
use Rattle.nb_calls.specs.Common.{MemberValue}
use denote.RawPtr.{Ptr, null_ptr, InBlock}
use Rattle.nb_calls.specs.declared.handle.Kept.{Kept}
use Rattle.std.specs.Coded.{Coded, code_by}
use Rattle.nb_member.specs.Code.Members.{member_code}

-- a station stands behind the pointer
abbrev pub IsHere : Ptr → Type 0
IsHere = InBlock

-- none does
abbrev pub IsNone : Ptr → Type 0
IsNone at = at ≡ null_ptr

-- IsLookedAt at at' value value' is_none: what is answered of a station is whether it is none, and it stays
abbrev pub IsLookedAt : Ptr → Ptr → Kept → Kept → Bool → Type 0
IsLookedAt at at' value value' is_none = (at' ≡ at) × (value' ≡ value) × MatchBool is_none (IsNone at) (IsHere at)

-- ---- how a proof stores what is kept for a station

-- what is kept, as its member
abbrev pub kept_code : Coded Kept
kept_code = code_by MemberValue member_code (λ k. k.member) (λ m. record { member = m }) (λ _. refl)
