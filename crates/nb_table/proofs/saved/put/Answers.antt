use Rattle.nb_table.proofs.Common.{◌≡◌, ◌++◌, ◌-◌, length, rules, arith, ap, ◌∙◌, err_from_is_err_and, length-drop, passes_none}
use Rattle.nb_table.proofs.SavedBytes.{passes_part, breaks_part}
use Rattle.nb_table.proofs.saved.put.Goals as goal

pub parts-init : goal.parts-init
parts-init g c = passes_none g.W.Write.contents _ _

pub returns-in_err-write_out-clause-breaks : goal.returns-in_err-write_out-clause-breaks
returns-in_err-write_out-clause-breaks g c =
    let filled : c.try_extend_from_slice.new.self.items ≡ c.parts.part.items ++ c.split_at.result.0.now = search rules in
    let p = err_from_is_err_and c.from_residual.result c.from_residual.ensures.1 in
    rw p.1 (breaks_part _ _ _ _ _ _ _ _ _ _ c.parts.invariant c.split_at.ensures.front c.split_at.ensures.back filled c.in_err-write_out.ensures.breaks)

pub parts-smaller : goal.parts-smaller
parts-smaller g c =
    let size : length c.split_at.result.1.now ≡ length c.parts.rest.now - c.remaining_capacity-in-parts.result = ap length c.split_at.ensures.back ∙ length-drop _ c.parts.rest.now in
    omega (arith, size, c.remaining_capacity-in-parts.ensures, c.remaining_capacity.ensures, c.parts-test.true, ap length c.in_ok-write_out.ensures.empty)

pub parts-preserved : goal.parts-preserved
parts-preserved g c =
    let filled : c.try_extend_from_slice.new.self.items ≡ c.parts.part.items ++ c.split_at.result.0.now = search rules in
    passes_part _ _ _ _ _ _ _ _ _ _ _ c.parts.invariant c.split_at.ensures.front c.split_at.ensures.back filled c.in_ok-write_out.ensures.passes c.in_ok-write_out.ensures.empty

pub returns-clause-passes : goal.returns-clause-passes
returns-clause-passes g c =
    let filled : c.try_extend_from_slice-2.new.self.items ≡ c.parts.part.items ++ c.parts.rest.now = search rules in
    rw filled c.parts.invariant
