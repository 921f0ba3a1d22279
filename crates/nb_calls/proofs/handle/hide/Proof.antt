-- `hide` moves the fields of the parts into a handle, which owns what they owned.
use Rattle.nb_calls.proofs.Steps.{◌≡◌, List, [], ◌∷◌, ◌++◌, refl, sym, subst, T, Val, vptr, has_ty, WT, SProp, ent, emp, id⊢, ftrue, WpFn, ‵, raw, ◌⊛◌, ◌$◌, ◌∵◌, !, qed, by, move, keep, split, fsplit, fjoin, suffices, use0, stop, fld, of_opd, no_more, and_then, returns, enter, alloc_all, pass_all, free_all, look_at, get, get_in, sets, agg, sub, whole, fact, fact_i, tables, yes, owns, types_at, plain, block_ptr, InBlock, nothing, layout, Stays, stay_dropped, walk_of, Goes-blank, and_tt, proved_at, leaves}
use Rattle.nb_calls.proofs.HandleValues.{both, alone, Z, Parts, Handle, parts_out, handle_made}
use Rattle.nb_calls.specs.contracts.handle.hide.{ended, clauses}
use Rattle.nb_calls.specs.contracts.handle.hide.Key.{name as #self}
use Rattle.nb_calls.proofs.handle.hide.Statement.{statement}
use Rattle.nb_calls.proofs.handle.hide.Code as code

pub hide_spec : {M : Type 1} → statement M
hide_spec 𝓤 𝓛 𝓜 𝓡 wired =
    let H = 𝓛.H in let 𝓣 = tables 𝓤 H 𝓜 𝓡 𝓡.env in let En = ended in let c = clauses 𝓛 𝓜.mem 𝓡.returns in let fn = code.function in
    let hs : Stays En.signature.params En.kept = (stay_dropped (plain (λ _. Parts)) yes, tt) in
    proved_at 𝓛 En hs c 𝓜 𝓡 (Goes-blank 𝓛 0 (plain (λ _. Parts)) yes (λ κs x f. tt), tt) #self fn (code.unfolded 𝓤 H 𝓜 𝓡 wired) (λ z are.
    let v = z.0.3.0 in let a = v.alloc in let Post : Val → SProp 𝓤 = (walk_of 𝓛 En hs c).post z in let Run : List Val → SProp 𝓤 = λ ws. WpFn 𝓤 H 𝓣.C 𝓣.Λ fn ws Post in
    qed 𝓛 ((‵ ftrue ⊛ ‵ (owns (types_at En.signature.params z.0.0) z.0.3 z.0.4)) ∷ raw ((c z.0.0 z.0.3).requires z.1) ∷ []) ∵ split ! $ move ! (1 ∷ []) $ fsplit ! $ parts_out ! v z.0.4.0 (λ b o h e ws fits.
    let d : Handle.Denot = record { at = block_ptr b o; value = v.value; heap = a } in let Kept : Type 0 = (v.value ≡ v.value) × InBlock (block_ptr b o) in
    let w : Val = both (vptr b o) h in let typed : T (has_ty (layout Parts) w) × WT w = (and_tt (has_ty (layout Z) h) fits.0, (tt, (fits.1, tt))) in
    suffices ! (Run (w ∷ [])) (subst (λ (us : List Val). ent 𝓤 (Run (w ∷ [])) (Run us)) (sym (λ i. ws i ++ [])) (id⊢ 𝓤 (Run (w ∷ [])))) $
    enter ! 𝓣.C 𝓣.Λ fn (w ∷ []) Post $ alloc_all ! (λ l. pass_all ! refl (typed, tt) $
    sets ! (of_opd ! (get_in ! (fld ! refl (stop !)) (sub ! 0 refl (whole !)))) refl (tt, tt) $
    sets ! (of_opd ! (get ! refl)) refl (tt, tt) $
    sets ! (agg ! (and_then ! (get ! refl) (no_more !))) refl (tt, (tt, tt)) $
    -- [the box; the allocator; what the other parameters own; the tokens; what it requires]
    handle_made ! d $ use0 𝓛 (raw (fact 𝓤 Kept)) (fact_i 𝓤 Kept (emp 𝓤) (refl, tt)) $ nothing ! $ nothing ! $ fjoin ! $
    returns ! (look_at ! 0 refl) $ free_all ! refl $ keep ! (5 ∷ 0 ∷ 2 ∷ 1 ∷ []) $ by ! (leaves 𝓛 En hs c z (alone (vptr b o)) d (tt, tt) (tt, tt)))))
