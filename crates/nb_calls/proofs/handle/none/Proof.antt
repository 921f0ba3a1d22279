-- `none` makes a handle of a null pointer, which owns nothing.
use Rattle.nb_calls.proofs.Steps.{◌≡◌, [], ◌∷◌, refl, lit<, Val, SProp, emp, ftrue, ‵, raw, ◌⊛◌, ◌$◌, ◌∵◌, !, qed, by, keep, split, use0, lit, no_more, and_then, returns, enter, alloc_all, pass_all, free_all, look_at, sets, agg, fact, fact_i, tables, owns, types_at, null_ptr, ptr_val, nothing, walk_of, proved_at, leaves}
use Rattle.nb_calls.proofs.HandleValues.{alone, Handle, nobody, handle_made}
use Rattle.nb_calls.specs.contracts.handle.none.{ended, clauses}
use Rattle.nb_calls.specs.contracts.handle.none.Key.{name as #self}
use Rattle.nb_calls.proofs.handle.none.Statement.{statement}
use Rattle.nb_calls.proofs.handle.none.Code as code

pub none_spec : {M : Type 1} → statement M
none_spec 𝓤 𝓛 𝓜 𝓡 wired =
    let H = 𝓛.H in let 𝓣 = tables 𝓤 H 𝓜 𝓡 𝓡.env in let En = ended in let c = clauses 𝓛 𝓜.mem 𝓡.returns in let fn = code.function in
    proved_at 𝓛 En tt c 𝓜 𝓡 tt #self fn (code.unfolded 𝓤 H 𝓜 𝓡 wired) (λ z are.
    let Post : Val → SProp 𝓤 = (walk_of 𝓛 En tt c).post z in let d : Handle.Denot = nobody in
    qed 𝓛 ((‵ ftrue ⊛ ‵ (owns (types_at En.signature.params z.0.0) z.0.3 z.0.4)) ∷ raw ((c z.0.0 z.0.3).requires z.1) ∷ []) ∵ split ! $
    enter ! 𝓣.C 𝓣.Λ fn [] Post $ alloc_all ! (λ l. pass_all ! refl tt $
    sets ! (agg ! (and_then ! (lit ! tt) (no_more !))) refl (tt, (record { fits = lit< tt }, tt)) $
    returns ! (look_at ! 0 refl) $ free_all ! refl $
    use0 𝓛 (raw (fact 𝓤 (null_ptr ≡ null_ptr))) (fact_i 𝓤 (null_ptr ≡ null_ptr) (emp 𝓤) refl) $ nothing ! $ handle_made ! d $ nothing ! $
    keep ! (3 ∷ 0 ∷ 1 ∷ 2 ∷ []) $ by ! (leaves 𝓛 En tt c z (alone (ptr_val null_ptr)) d tt tt)))
