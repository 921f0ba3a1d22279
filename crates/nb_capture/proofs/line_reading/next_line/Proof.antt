-- `next_line` hands the room on to `next_from`, and says what that says. The borrow checker proves such a clause of a
-- first parameter alone.
use Rattle.std.proofs.Common.{[], ◌∷◌, refl}
use Rattle.std.proofs.raw_atomic.Walks.{proved}
use base.Logic.{id⊢}
use base.Fml.{ftrue, flft}
use mir.Syntax.{named}
use contract.Running.{tables}
use types.Kit.{‵, raw, ◌⊛◌, some, later, ◌$◌, ◌∵◌, !, qed, done, move, keep, use1, use2, split, join, fsplit, fjoin, pick, await, suffices, group}
use types.Run.{enter, addr, stop, no_more, and_then, returns}
use types.ByLocal.{alloc_all, pass_all, free_all, look_at, get, through, sets, lands_as}
use denote.Exit.{no}
use denote.Laws.{Is, shows}
use denote.Ref.{MutRef, mut_vals, mut_Tells}
use denote.Signature.{plain, mut_ref_to, type_at}
use denote.Steps.{nothing, peeks}
use denote.Triple.Call.{calls_at}
use denote.Triple.Clauses.{lasts, Lasts, at_exit}
use denote.Triple.Entry.{Res}
use denote.Triple.Spec.{triple_of}
use denote.Triple.Walked.{Stays, stay_dropped, gave_ref, Goes-gave_ref, Goes-spent_ref, ends_at}
use denote.Triple.Table.{framed}
use mir.MapTy.{inst_fn}
use mir.Syntax.{Dict, Args, a_type, dcons, dnil}
use denote.Param.{bounded, param}
use denote.Param.Laws.{Laws, of_field}
use denote.Param.Shared.{copy_shared}
use denote.RattleType.{RattleType}
use denote.Ref.{NamedLft}
use denote.Struct.Field.{shr_slice_field, u8-field}
use denote.Struct.Laws.{shr_slice_laws, shr_slice_copy, u8-laws, u8-copy}
use denote.Triple.Clauses.{Ended}
use Rattle.std.specs.contracts.option.Option.{the_row as OptionOf}
use Rattle.std.proofs.option.Option.TheLaws.{the_row_laws as option_laws}
use Rattle.std.proofs.result.Result.TheLaws.{the_row_laws as result_laws}
use Rattle.std.specs.declared.io.traits.Read
use Rattle.nb_streams.specs.contracts.counted.Counted.{the_row as Counted}
use Rattle.nb_capture.proofs.fault.LineReadFault.TheLaws.{the_row_laws as fault_laws}
use Rattle.nb_capture.specs.contracts.fault.LineReadFault.{the_row as F}
use Rattle.nb_capture.specs.contracts.line_room.LineRoom.{the_row as Room}
use Rattle.nb_capture.specs.contracts.line_reading.next_line as f
use Rattle.nb_capture.proofs.line_reading.next_line.Statement.{statement}
use Rattle.nb_capture.proofs.line_reading.next_line.Code as code
use Rattle.nb_capture.specs.contracts.line_reading.next_from as g
use Rattle.nb_capture.proofs.line_reading.next_from.Met.{met}

abbrev Line : NamedLft → RattleType
Line ℓ = (shr_slice_field ℓ (u8-field).row tt).row

abbrev line_laws : (ℓ : NamedLft) → Laws (OptionOf (Line ℓ))
line_laws ℓ = option_laws (Line ℓ) (of_field (shr_slice_field ℓ (u8-field).row tt) (shr_slice_laws ℓ (u8-field).row tt) refl (copy_shared (shr_slice_field ℓ (u8-field).row tt)
    (shr_slice_copy ℓ (u8-field).row tt (of_field u8-field u8-laws refl (copy_shared u8-field u8-copy)).shr_laws)))

module _ (R : RattleType) (reads : Read.Ghosts R.Denot) (dict : Dict) where
  abbrev Reader : RattleType
  Reader = Counted (param 0 R)

  abbrev ended : Ended
  ended = f.ended R reads dict

  abbrev stayed : Stays ended.signature.params ended.kept
  stayed = (gave_ref (0 ∷ []) tt (plain (λ _. Reader)), (stay_dropped (mut_ref_to (1 ∷ []) tt (plain (λ _. Room))) no, tt))

pub next_line_spec : {M : Type 1} → statement M
next_line_spec 𝓤 𝓛 𝓜 𝓡 wired R laws reads dict bound =
    let T = ended R reads dict in let hs = stayed R reads dict in let S = T.signature in
    let c = f.clauses R reads dict 𝓛 𝓜.mem 𝓡.returns in
    let args : Args = bounded (a_type ∷ []) (R, tt) (dcons dict dnil) in
    proved 𝓛 T hs c 𝓜 𝓡 (Goes-gave_ref 𝓛 3 0 tt (plain (λ _. Reader R reads dict)), (Goes-spent_ref 𝓛 3 (1 ∷ []) tt (plain (λ _. Room)), tt))
    (f.Key.name args) (inst_fn args code.function) (code.unfolded 𝓤 𝓛.H 𝓜 𝓡 wired (R, tt) dict)
    (λ κs. (mut_vals, (mut_vals, tt))) (λ κs. (mut_Tells (named 0) κs.0 (Reader R reads dict), (mut_Tells (named 1) κs.1.0 Room, tt))) (λ κs qs bounds a _ are.
    let reader = a.0 in let room = a.1.0 in let vc = mut_vals reader in let vr = mut_vals room in
    let A = type_at S.result κs in
    let LA = result_laws (OptionOf (Line (record { mir = named 1; lft = κs.1.0 }))) F (line_laws (record { mir = named 1; lft = κs.1.0 })) fault_laws in
    let G = triple_of 𝓛 (g.signature R) (g.spec R reads dict 𝓛 𝓜.mem 𝓡.returns) in
    let z : G.Ghost = (((κs.1.0, (κs.0, (κs.1.1.0, tt))), (qs.1.0, (qs.0, (qs.1.1.0, tt))), bounds, (room, (reader, tt)), (vr, (vc, tt))), tt) in
    qed 𝓛 (((‵ (flft κs.0 qs.0) ⊛ ‵ (flft κs.1.0 qs.1.0) ⊛ ‵ (flft κs.1.1.0 qs.1.1.0) ⊛ ‵ ftrue) ⊛ ‵ ((MutRef (named 0) κs.0 (Reader R reads dict)).own_val reader vc) ⊛ ‵ ((MutRef (named 1) κs.1.0 Room).own_val room vr) ⊛ ‵ ftrue) ∷ raw ((c κs a).requires tt) ∷ []) ∵
    split ! $ split ! $ move ! (1 ∷ []) $ split ! $ move ! (3 ∷ []) $ split ! $ move ! (1 ∷ []) $ split ! $ keep ! (0 ∷ 2 ∷ 3 ∷ 4 ∷ 5 ∷ 6 ∷ []) $
    -- [room; reader; the tokens of room's lifetime, of R's, and of reader's; the `requires`]
    enter ! _ _ _ _ _ $ alloc_all ! (λ l. pass_all ! refl ((tt, tt), ((tt, tt), tt)) $
    sets ! (addr ! (through ! refl (stop !))) refl (tt, tt) $
    sets ! (addr ! (through ! refl (stop !))) refl (tt, tt) $
    nothing ! $ move ! (2 ∷ 0 ∷ []) $ join ! $ move ! (1 ∷ 0 ∷ []) $ join ! $
    move ! (3 ∷ 2 ∷ []) $ join ! $ move ! (2 ∷ 0 ∷ []) $ join ! $ join ! $ use2 𝓛 (raw (G.pre z)) (id⊢ 𝓤 _) $
    calls_at ! (framed 𝓤 𝓛.H 𝓜 (tables 𝓤 𝓛.H 𝓜 𝓡 𝓡.env)) G (met 𝓤 𝓛 𝓜 𝓡 (code.calls-nb_capture::line_reading::next_from 𝓡.env wired) R laws reads dict bound) z
    (and_then ! (get ! refl) (and_then ! (get ! refl) (no_more !))) (λ v.
    use1 𝓛 (later (some (λ (r : Res (g.signature R) z.0.0). ((‵ (flft κs.1.0 qs.1.0) ⊛ ‵ (flft κs.0 qs.0) ⊛ ‵ (flft κs.1.1.0 qs.1.1.0) ⊛ ‵ ftrue) ⊛ ‵ ((type_at (g.signature R).result z.0.0).own_val r (v ∷ []))) ⊛
    some (λ (ws : Lasts (g.ended R reads dict) z.0.0 z.0.3). ‵ (lasts (g.ended R reads dict) z.0.0 z.0.3 ws) ⊛ raw ((g.clauses R reads dict 𝓛 𝓜.mem 𝓡.returns z.0.0 z.0.3).ensures tt r (at_exit (g.ended R reads dict) z.0.0 z.0.3 ws)))))) (id⊢ 𝓤 _) $
    await ! tt $ pick ! (λ r. split ! $ split ! $ move ! (1 ∷ []) $
    peeks ! A (Is A) (shows 𝓛 A) r (v ∷ []) (λ is. lands_as ! refl refl (((LA.lawful 𝓛).typed r (v ∷ []) is).0) $
    returns ! (look_at ! 0 refl) $ free_all ! refl $ move ! (2 ∷ []) $ pick ! (λ ws. split ! $
    suffices ! _ (ends_at 𝓛 T hs c ((κs, qs, bounds, a, (vc, (vr, tt))), tt) v r (ws.1.0, (tt, tt)) (tt, (tt, tt))) $
    -- [what says the reader's last value; what is ensured; the result; the tokens]
    fsplit ! $ move ! (1 ∷ []) $ fsplit ! $ move ! (1 ∷ 2 ∷ []) $ fjoin ! $ move ! (1 ∷ 0 ∷ []) $ fjoin ! $
    move ! (3 ∷ []) $ split ! $ move ! (1 ∷ []) $ split ! $ move ! (2 ∷ 1 ∷ []) $ join ! $ move ! (1 ∷ 0 ∷ []) $ join ! $
    move ! (0 ∷ 1 ∷ 3 ∷ []) $ group ! 3 $ done !))))))
