-- The machine values of parts of a box and of a handle. Assumes `Logic`.
use Rattle.nb_calls.proofs.Steps.{◌≡◌, ℕ, Bool, true, false, List, [], ◌∷◌, ◌++◌, refl, subst, lit<, T, Ura, impl, tnil, dnil, ptr_eq, ty_ptr, bare, Val, vptr, vnull, vbool, vstruct, vcons, vnil, of_list, op2_val, has_ty, WT, Fml, SProp, ent, guard, guard_i, never, fst∗, snd∗, via, fact_use, Logic, sem, Item, Goal, Seq, Step, step, ‵, ◌$◌, move, drop, fsplit, fjoin, fpick, fpack, feq_i, feq_l, rewrite, RattleType, Valss, RawPtr, layout, Ptr, block_ptr, null_ptr, ptr_val, in_a_block, InBlock, Testable, at_block, block_of, count_of, lies_at, nothing, Al, Fits, handle_tells, MatchBool, box_owns}
use base.Fraction.{full_share}
use denote.Memory.{lone}
use denote.Struct.Struct.{within}
use denote.Struct.Owning.{shape}
use Rattle.core.specs.Ptr.{if_non_null}
use Rattle.std_heap.proofs.GlobalToken.{dealloc_token-Testable}
use Rattle.std_heap.specs.contracts.Global as heap
use Rattle.std_heap.proofs.Global.TheLaws as heap_laws
use Rattle.std_heap.specs.contracts.GlobalAllocator.TheImpl.{ghosts}
use Rattle.nb_member.specs.Member.{new_member}
use Rattle.nb_calls.specs.contracts.handle.Parts as parts
use Rattle.nb_calls.specs.contracts.handle.NbtStation as handle
use Rattle.nb_calls.specs.contracts.handle.Kept as kept

abbrev pub both : Val → Val → Val
both v w = vstruct (vcons v (vcons w vnil))

abbrev pub alone : Val → Val
alone v = vstruct (vcons v vnil)

abbrev pub R : RattleType
R = kept.the_row

abbrev pub Z : RattleType
Z = heap.the_row

abbrev pub al : Al
al = record { row = Z; laws = heap_laws.the_row_laws; g = ghosts; d = impl [] tnil dnil; drops = impl [] tnil dnil }

abbrev pub Parts : RattleType
Parts = parts.the_row R Z ghosts

abbrev pub Handle : RattleType
Handle = handle.the_row

-- what a handle owns with this pointer
abbrev pub kept_at : Z.Denot → R.Denot → Ptr → Fml
kept_at a x p = if_non_null p (box_owns (ghosts.dealloc_token a) R p x)

-- a pointer has its type, and so has a handle of it
pub ptr_typed : (p : Ptr) → T (has_ty ty_ptr (ptr_val p)) × WT (ptr_val p)
ptr_typed (block_ptr b o) = (tt, tt)
ptr_typed null_ptr = (tt, record { fits = lit< tt })

pub alone_typed : (p : Ptr) → T (has_ty (layout Handle) (alone (ptr_val p))) × WT (alone (ptr_val p))
alone_typed (block_ptr b o) = (tt, (tt, tt))
alone_typed null_ptr = (tt, (record { fits = lit< tt }, tt))

-- a handle of a null pointer, which owns nothing, whatever its ghost fields are
abbrev pub nobody : Handle.Denot
nobody = record {
  at = null_ptr;
  value = record { member = new_member (record { ip = []; port = 0; keys = 0; per_source = 0; longest = 0 }) [] };
  heap = record { memory = record { seal = tt } };
}

-- whether a pointer is null, as the machine compares it
pub compared : (p : Ptr) → (y : Bool) × (op2_val ptr_eq (ptr_val p) vnull ≡ vbool y) × MatchBool y (p ≡ null_ptr) (InBlock p)
compared (block_ptr b o) = (false, refl, tt)
compared null_ptr = (true, refl, refl)

-- the pointer of a handle may be compared
pub testable : {M : Type 1} {𝓤 : Ura M} (𝓛 : Logic 𝓤) (a : Z.Denot) (x : R.Denot) (p : Ptr)
    → ent 𝓤 (sem 𝓛 (kept_at a x p)) (guard 𝓤 (Testable p) (sem 𝓛 (kept_at a x p)))
testable {𝓤 = 𝓤} 𝓛 a x (block_ptr b o) =
    let p : Ptr = block_ptr b o in let B : SProp 𝓤 = sem 𝓛 (kept_at a x p) in
    fact_use 𝓤 (Testable p) (via 𝓤 _ (snd∗ 𝓤 (sem 𝓛 (lies_at R full_share p x)) (sem 𝓛 (ghosts.dealloc_token a (bare (lone R.mir)) p))) (dealloc_token-Testable 𝓛 a (bare (lone R.mir)) p)) (guard_i 𝓤 (Testable p) B)
testable {𝓤 = 𝓤} 𝓛 a x null_ptr = guard_i 𝓤 (Testable null_ptr) (sem 𝓛 (kept_at a x null_ptr)) (lit< tt)

module _ {M : Type 1} {𝓤 : Ura M} {𝓛 : Logic 𝓤} {K : Type 0} {Γ : List (Item 𝓤)} {G : Goal 𝓤 𝓛.H} where
  pub parts_out : K → (d : Parts.Denot) (vs : List Val)
      → ((b o : ℕ) (h : Val) → d.ptr ≡ block_ptr b o → vs ≡ both (vptr b o) h ∷ [] → Fits al h → Seq K 𝓛 (‵ (box_owns (ghosts.dealloc_token d.alloc) R (block_ptr b o) d.value) ∷ ‵ (Z.own_val d.alloc (h ∷ [])) ∷ Γ) G)
      → Seq K 𝓛 (‵ (Parts.own_val d vs) ∷ Γ) G
  parts_out t d vs k =
      fsplit t $ fpick t (λ vss. fsplit t $ feq_l t (λ ev. fsplit t $ feq_l t (λ ep. fsplit t $ handle_tells al t d.alloc vss.1.0 (λ h ea fits. move t (1 ∷ []) $ drop t $ move t (1 ∷ []) $
      in_a_block t d.ptr (λ p. box_owns (ghosts.dealloc_token d.alloc) R p d.value) (fst∗ 𝓤 (never 𝓤) (sem 𝓛 (ghosts.dealloc_token d.alloc (bare (lone R.mir)) null_ptr))) (λ b o e. k b o h e
      (subst (λ (p : Ptr). vs ≡ vstruct (of_list (ptr_val p ∷ h ∷ [])) ∷ []) e
      (subst (λ (ws : List Val). vs ≡ vstruct (of_list (ptr_val d.ptr ∷ (ws ++ []))) ∷ []) ea (subst (λ (ps : List Val). vs ≡ vstruct (of_list (ps ++ (vss.1.0 ++ []))) ∷ []) ep ev))) fits)))))

  -- a handle is its pointer, and what that owns
  pub handle_open : K → (d : Handle.Denot) (vs : List Val)
      → (vs ≡ alone (ptr_val d.at) ∷ [] → Seq K 𝓛 (‵ (kept_at d.heap d.value d.at) ∷ Γ) G)
      → Seq K 𝓛 (‵ (Handle.own_val d vs) ∷ Γ) G
  handle_open t d vs k =
      fsplit t $ fpick t (λ vss. fsplit t $ feq_l t (λ ev. fsplit t $ feq_l t (λ ep. drop t $
      k (subst (λ (ps : List Val). vs ≡ vstruct (of_list (ps ++ [])) ∷ []) ep ev))))

  pub handle_made : K → (d : Handle.Denot)
      → Step K 𝓛 (‵ (Handle.own_val d (alone (ptr_val d.at) ∷ [])) ∷ Γ) G (‵ (kept_at d.heap d.value d.at) ∷ Γ) G
  handle_made t d = step (λ s. let v : Val = alone (ptr_val d.at) in
      nothing t $ feq_i t (List Val) (ptr_val d.at ∷ []) (ptr_val d.at ∷ []) refl $ fjoin t $ feq_i t (List Val) (v ∷ []) (v ∷ []) refl $ fjoin t $
      fpack t (Valss (RawPtr ∷ [])) (within (shape handle.the_type) (d.at, tt) (v ∷ [])) (ptr_val d.at ∷ [], tt) $ fjoin t $ s)

  -- one that isn't null
  pub handle_out : K → (d : Handle.Denot) (vs : List Val) → InBlock d.at
      → ((b o : ℕ) → d.at ≡ block_ptr b o → vs ≡ alone (vptr b o) ∷ [] → Seq K 𝓛 (‵ (box_owns (ghosts.dealloc_token d.heap) R (block_ptr b o) d.value) ∷ Γ) G)
      → Seq K 𝓛 (‵ (Handle.own_val d vs) ∷ Γ) G
  handle_out t d vs here k =
      let e : d.at ≡ block_ptr (block_of d.at) (count_of d.at) = at_block d.at here in
      handle_open t d vs (λ is. rewrite t 0 (λ (p : Ptr). ‵ (kept_at d.heap d.value p)) e refl $
      k (block_of d.at) (count_of d.at) e (subst (λ (p : Ptr). vs ≡ alone (ptr_val p) ∷ []) e is))

  pub parts_in : K → (b o : ℕ) (h : Val) (a : Z.Denot) (x : R.Denot)
      → Step K 𝓛 (‵ (Parts.own_val (record { ptr = block_ptr b o; alloc = a; value = x }) (both (vptr b o) h ∷ [])) ∷ Γ) G (‵ (box_owns (ghosts.dealloc_token a) R (block_ptr b o) x) ∷ ‵ (Z.own_val a (h ∷ [])) ∷ Γ) G
  parts_in t b o h a x = step (λ s. let v : Val = both (vptr b o) h in
      nothing t $ move t (2 ∷ 0 ∷ []) $ fjoin t $ feq_i t (List Val) (vptr b o ∷ []) (vptr b o ∷ []) refl $ fjoin t $ feq_i t (List Val) (v ∷ []) (v ∷ []) refl $ fjoin t $
      fpack t (Valss (RawPtr ∷ Z ∷ [])) (within (shape (parts.the_type R Z ghosts)) (block_ptr b o, (a, tt)) (v ∷ [])) (vptr b o ∷ [], (h ∷ [], tt)) $ fjoin t $ s)
