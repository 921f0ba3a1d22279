-- `looked_at` takes the pointer out of a handle, compares it with null, and makes the handle again.
use Rattle.nb_calls.proofs.Steps.{◌≡◌, Bool, List, [], ◌∷◌, ◌++◌, refl, sym, subst, Val, vbool, SProp, ent, emp, id⊢, ftrue, WpFn, ‵, raw, given, ◌⊛◌, ◌$◌, ◌∵◌, !, qed, by, move, keep, split, fsplit, fjoin, feq_i, suffices, use0, use1, use2, learn, stop, fld, lit, bin, of_opd, no_more, and_then, returns, enter, alloc_all, pass_all, free_all, look_at, get, get_in, is, sets, agg, sub, whole, fact, fact_i, tables, bool, layout, yes, owns, types_at, plain, Ptr, null_ptr, ptr_val, InBlock, Testable, tests_null, nothing, Tuple, Stays, stay_dropped, walk_of, Goes-blank, MatchBool, proved_at, leaves}
use Rattle.std_alloc.proofs.Pairs.{pair_of, pair_val, pair_Typed}
use Rattle.nb_calls.proofs.HandleValues.{alone, Handle, kept_at, alone_typed, ptr_typed, compared, testable, handle_open, handle_made}
use Rattle.nb_calls.specs.contracts.handle.looked_at.{ended, clauses}
use Rattle.nb_calls.specs.contracts.handle.looked_at.Key.{name as #self}
use Rattle.nb_calls.proofs.handle.looked_at.Statement.{statement}
use Rattle.nb_calls.proofs.handle.looked_at.Code as code

pub looked_at_spec : {M : Type 1} → statement M
looked_at_spec 𝓤 𝓛 𝓜 𝓡 wired =
    let H = 𝓛.H in let 𝓣 = tables 𝓤 H 𝓜 𝓡 𝓡.env in let En = ended in let c = clauses 𝓛 𝓜.mem 𝓡.returns in let fn = code.function in
    let hs : Stays En.signature.params En.kept = (stay_dropped (plain (λ _. Handle)) yes, tt) in
    proved_at 𝓛 En hs c 𝓜 𝓡 (Goes-blank 𝓛 0 (plain (λ _. Handle)) yes (λ κs x f. tt), tt) #self fn (code.unfolded 𝓤 H 𝓜 𝓡 wired) (λ z are.
    let v = z.0.3.0 in let p : Ptr = v.at in let y : Bool = (compared p).0 in
    let Post : Val → SProp 𝓤 = (walk_of 𝓛 En hs c).post z in let Run : List Val → SProp 𝓤 = λ ws. WpFn 𝓤 H 𝓣.C 𝓣.Λ fn ws Post in
    let Seen : Type 0 = (p ≡ p) × (v.value ≡ v.value) × MatchBool y (p ≡ null_ptr) (InBlock p) in
    qed 𝓛 ((‵ ftrue ⊛ ‵ (owns (types_at En.signature.params z.0.0) z.0.3 z.0.4)) ∷ raw ((c z.0.0 z.0.3).requires z.1) ∷ []) ∵ split ! $ move ! (1 ∷ []) $ fsplit ! $
    handle_open ! v z.0.4.0 (λ ws. use1 𝓛 (given (Testable p) (‵ (kept_at v.heap v.value p))) (testable 𝓛 v.heap v.value p) $ learn ! (λ may.
    let w : Val = alone (ptr_val p) in
    suffices ! (Run (w ∷ [])) (subst (λ (us : List Val). ent 𝓤 (Run (w ∷ [])) (Run us)) (sym (λ i. ws i ++ [])) (id⊢ 𝓤 (Run (w ∷ [])))) $
    enter ! 𝓣.C 𝓣.Λ fn (w ∷ []) Post $ alloc_all ! (λ l. pass_all ! refl (alone_typed p, tt) $
    sets ! (of_opd ! (get_in ! (fld ! refl (stop !)) (sub ! 0 refl (whole !)))) refl (ptr_typed p) $
    sets ! (is ! (bin ! (get ! refl) (lit ! tt) (tests_null p may)) (compared p).1) refl (tt, tt) $
    sets ! (agg ! (and_then ! (get ! refl) (no_more !))) refl (alone_typed p) $
    sets ! (agg ! (and_then ! (get ! refl) (and_then ! (get ! refl) (no_more !)))) refl (pair_Typed (layout Handle) (layout bool) w (vbool y) (alone_typed p) (tt, tt)) $
    handle_made ! v $ feq_i ! (List Val) (vbool y ∷ []) (vbool y ∷ []) refl $ move ! (1 ∷ 0 ∷ []) $
    use2 𝓛 (‵ ((Tuple (Handle ∷ bool ∷ [])).own_val (v, y) (pair_val w (vbool y) ∷ []))) (pair_of 𝓛 Handle bool v y w (vbool y)) $
    use0 𝓛 (raw (fact 𝓤 Seen)) (fact_i 𝓤 Seen (emp 𝓤) (refl, refl, (compared p).2)) $ nothing ! $ nothing ! $ fjoin ! $
    returns ! (look_at ! 0 refl) $ free_all ! refl $ keep ! (4 ∷ 0 ∷ 2 ∷ 1 ∷ []) $ by ! (leaves 𝓛 En hs c z (pair_val w (vbool y)) (v, y) (tt, tt) (tt, tt))))))
