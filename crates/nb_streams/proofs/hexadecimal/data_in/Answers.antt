use Rattle.std.proofs.Common.{◌≢◌, ◌<◌, [], length, sym, ◌∙◌, subst, arith, true≢false}
use Rattle.std.specs.Prelude.{codes}
use Rattle.std.proofs.lemmas.Bool.{eqb-true, eqb-false}
use Rattle.std.proofs.lemmas.Bool.Decides.{Decides-eqb}
use Rattle.std.proofs.lemmas.Slice.Eq.{slice_eq-Decides}
use Rattle.nb_streams.specs.Hexadecimal.{DataText, empty}
use Rattle.nb_streams.proofs.PushingLemmas.{no_text, data_read}
use Rattle.nb_streams.proofs.hexadecimal.data_in.Goals as goal

pub returns-then-eq : goal.returns-then-eq
returns-then-eq c =
    let is = (slice_eq-Decides Decides-eqb c.args.text.now c.as_slice.result.now c.eq.result c.eq.ensures).0 c.if-eq.true in
    subst (λ bytes. DataText bytes c.args.text.now) (sym (c.from_vec.ensures ∙ c.clear.ensures.items))
    (subst (DataText []) (sym (is ∙ c.as_slice.ensures)) empty)

pub returns-then-is_empty : goal.returns-then-is_empty
returns-then-is_empty c =
    λ bytes. no_text c.args.text.now bytes (eqb-true (length c.args.text.now) 0 (sym c.is_empty.ensures ∙ c.if-is_empty.true))

pub returns : goal.returns
returns c =
    let some : 0 < length c.args.text.now = omega (arith, eqb-false (length c.args.text.now) 0 (sym c.is_empty.ensures ∙ c.if-is_empty.false)) in
    let same = slice_eq-Decides Decides-eqb c.args.text.now c.as_slice.result.now c.eq.result c.eq.ensures in
    let differs : c.args.text.now ≢ codes "empty" = λ e.
    true≢false (sym (same.1 (e ∙ sym c.as_slice.ensures)) ∙ c.if-eq.false) in
    data_read c.args.text.now _ some differs c.digits_in.ensures
