-- `show` makes parts of the handle's pointer and an allocator, and they own what it owned.
use Rattle.nb_calls.proofs.Steps.{◌≡◌, List, [], ◌∷◌, ◌++◌, refl, sym, subst, T, Val, vptr, has_ty, WT, SProp, ent, emp, id⊢, ftrue, WpFn, ‵, raw, ◌⊛◌, ◌$◌, ◌∵◌, !, qed, by, move, keep, split, fsplit, fjoin, suffices, use0, stop, fld, of_opd, no_more, and_then, returns, enter, alloc_all, pass_all, free_all, look_at, get, get_in, sets, agg, sub, whole, fact, fact_i, tables, yes, owns, types_at, plain, block_ptr, InBlock, nothing, heard, layout, Stays, stay_dropped, walk_of, Goes-dropped, Goes-blank, handle_tells, and_tt, proved_at, leaves}
use Rattle.nb_calls.proofs.HandleValues.{both, alone, al, Z, Parts, Handle, handle_out, parts_in}
use Rattle.nb_calls.specs.contracts.handle.show.{ended, clauses}
use Rattle.nb_calls.specs.contracts.handle.show.Key.{name as #self}
use Rattle.nb_calls.proofs.handle.show.Statement.{statement}
use Rattle.nb_calls.proofs.handle.show.Code as code

pub show_spec : {M : Type 1} → statement M
show_spec 𝓤 𝓛 𝓜 𝓡 wired =
    let H = 𝓛.H in let 𝓣 = tables 𝓤 H 𝓜 𝓡 𝓡.env in let En = ended in let c = clauses 𝓛 𝓜.mem 𝓡.returns in let fn = code.function in
    let hs : Stays En.signature.params En.kept = (stay_dropped (plain (λ _. Z)) yes, (stay_dropped (plain (λ _. Handle)) yes, tt)) in
    proved_at 𝓛 En hs c 𝓜 𝓡 (Goes-dropped 𝓛 0 (plain (λ _. Z)) yes (λ κs x f. refl), (Goes-blank 𝓛 0 (plain (λ _. Handle)) yes (λ κs x f. tt), tt)) #self fn (code.unfolded 𝓤 H 𝓜 𝓡 wired) (λ z are.
    let a = z.0.3.0 in let v = z.0.3.1.0 in let Post : Val → SProp 𝓤 = (walk_of 𝓛 En hs c).post z in let Run : List Val → SProp 𝓤 = λ ws. WpFn 𝓤 H 𝓣.C 𝓣.Λ fn ws Post in
    qed 𝓛 ((‵ ftrue ⊛ ‵ (owns (types_at En.signature.params z.0.0) z.0.3 z.0.4)) ∷ raw (fact 𝓤 (InBlock v.at)) ∷ []) ∵
    move ! (1 ∷ []) $ heard ! (InBlock v.at) (λ here. split ! $ move ! (1 ∷ []) $ fsplit ! $
    handle_tells al ! a z.0.4.0 (λ h eh fits. move ! (1 ∷ []) $ fsplit ! $ handle_out ! v z.0.4.1.0 here (λ b o e ws.
    let w : Val = alone (vptr b o) in let typed : T (has_ty (layout Parts) (both (vptr b o) h)) × WT (both (vptr b o) h) = (and_tt (has_ty (layout Z) h) fits.0, (tt, (fits.1, tt))) in
    suffices ! (Run (h ∷ w ∷ [])) (subst (λ (us : List Val). ent 𝓤 (Run (h ∷ w ∷ [])) (Run us)) (sym (λ i. eh i ++ (ws i ++ []))) (id⊢ 𝓤 (Run (h ∷ w ∷ [])))) $
    enter ! 𝓣.C 𝓣.Λ fn (h ∷ w ∷ []) Post $ alloc_all ! (λ l. pass_all ! refl (fits, ((tt, (tt, tt)), tt)) $
    sets ! (of_opd ! (get_in ! (fld ! refl (stop !)) (sub ! 0 refl (whole !)))) refl (tt, tt) $
    sets ! (of_opd ! (get ! refl)) refl (tt, tt) $
    sets ! (agg ! (and_then ! (get ! refl) (and_then ! (get ! refl) (no_more !)))) refl typed $
    -- [the box; what the other parameters own; the allocator; the tokens; what it requires]
    move ! (0 ∷ 2 ∷ []) $ parts_in ! b o h a v.value $ use0 𝓛 (raw (fact 𝓤 (v.value ≡ v.value))) (fact_i 𝓤 (v.value ≡ v.value) (emp 𝓤) refl) $ nothing ! $ nothing ! $ fjoin ! $ nothing ! $ fjoin ! $
    returns ! (look_at ! 0 refl) $ free_all ! refl $ keep ! (4 ∷ 0 ∷ 2 ∷ 1 ∷ []) $ by ! (leaves 𝓛 En hs c z (both (vptr b o) h) (record { ptr = block_ptr b o; alloc = a; value = v.value }) (tt, (tt, tt)) (tt, (tt, tt))))))))
