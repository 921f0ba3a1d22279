-- Chains of pointers: what a reading has at their ends, and how the ends are found.
use Rattle.std.proofs.Common.{◌≡◌, ℕ, ◌≤◌, List, [], ◌∷◌, ◌++◌, length, Some, refl, arith, inl, inr, length-append}
use Rattle.std.proofs.lemmas.Bool.{cases_lt}
use Rattle.std.proofs.Math.Seq.{get_or-append_seam}
use Rattle.std.proofs.lemmas.List.{get_or_append_left}
use Rattle.nb_names.specs.declared.reading.Pointers.{Pointers}
use Rattle.nb_names.specs.declared.reading.Pointers.TheVariants.{Followed}
use Rattle.nb_names.specs.declared.length_byte.LengthByte.{LengthByte}
use Rattle.nb_names.specs.declared.length_byte.LengthByte.TheVariants.{Cut, End, Label, Reserved, Pointer}
use Rattle.nb_names.specs.Labels.{IsPointer}
use Rattle.nb_names.specs.Code.Kept.{Begins, LeadsTo, stays, follows, IsEnd, AreEnds}
use Rattle.nb_names.proofs.LabelsLemmas.{one_target}
use Rattle.nb_names.proofs.FaultLemmas.{sort_end, sort_label, sort_cut, sort_reserved, sort_pointer}
use Rattle.nb_names.proofs.ReadingLemmas.{IsReading, label_there, pointer_turn}

-- ---- a reading along a chain

-- a chain ends no higher than it begins
pub ends_lower : (packet : List ℕ) (at end : ℕ) → LeadsTo packet at end → end ≤ at
ends_lower packet at end stays = omega arith
ends_lower packet at end (follows t p low more) = omega (arith, ends_lower packet t end more)

-- the turns that follow a chain's pointers
pub chain_turns : (packet : List ℕ) (q : Pointers) (at t end : ℕ) (ls : List (List ℕ)) (behind : ℕ) → q ≡ Followed → LeadsTo packet t end →
    IsReading packet q at ls t t (Some behind) → IsReading packet q at ls end end (Some behind)
chain_turns packet q at t end ls behind e stays r = r
chain_turns packet q at t end ls behind e (follows u p low more) r =
    chain_turns packet q at u end ls behind e more (pointer_turn packet q at t t u ls (Some behind) behind r e p low refl)

-- ---- ends, found in ascending order

-- an offset at which no pointer stands is an end
pub end_here : (packet : List ℕ) (at : ℕ) (read : LengthByte) → Begins packet at read → ((target : ℕ) → read ≡ Pointer target → ⊥) → IsEnd packet at
end_here packet at Cut b none t p = let x = sort_cut packet at b in let y = sort_pointer packet at t p in absurd (cc)
end_here packet at End b none t p = let x = sort_end packet at b in let y = sort_pointer packet at t p in absurd (cc)
end_here packet at (Label size) b none t p =
    let there = label_there packet at size b in
    let x = sort_label packet at _ there.1 there.2 in let y = sort_pointer packet at t p in absurd (cc)
end_here packet at Reserved b none t p = let x = sort_reserved packet at b in let y = sort_pointer packet at t p in absurd (cc)
end_here packet at (Pointer u) b none t p = absurd (none u refl)

-- and one whose pointer leads no lower
pub end_high : (packet : List ℕ) (at target : ℕ) → IsPointer packet at target → at ≤ target → IsEnd packet at
end_high packet at target p high t o = omega (arith, one_target packet at target t p o)

-- one place more
pub ends_more : (packet ends : List ℕ) (end : ℕ) → AreEnds packet ends → LeadsTo packet (length ends) end → IsEnd packet end → AreEnds packet (ends ++ end ∷ [])
ends_more packet ends end all leads is at h = elim (cases_lt at (length ends)) [
  | inl less ↦ rw (get_or_append_left ends (end ∷ []) 0 at less) (all at less)
  | inr more ↦
      let same : at ≡ length ends = omega (arith, h, more, length-append ends (end ∷ [])) in
      rw (same, get_or-append_seam ends end [] 0) (leads, is)
]
