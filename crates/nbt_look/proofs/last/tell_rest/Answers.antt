use Rattle.std.proofs.Common.{◌≡◌, ◌∙◌, ◌∷◌, [], ℕ, ap, codes}
use Rattle.std.proofs.lemmas.Result.{on_ok_weaker}
use Rattle.nb_telling.specs.Telling.{Field, FieldTag, Number}
use Rattle.nb_telling.proofs.FoldLemmas.{and_then}
use Rattle.nbt_look.specs.Bare.{bare_tag}
use Rattle.nbt_look.specs.Totals.{all_lacks, lacks_fields}
use Rattle.nbt_look.proofs.last.tell_rest.Goals as goal

one_told : {S : Type 0} (after : S → Field → S) (s0 s1 : S) (t u : FieldTag) (n : ℕ) → t ≡ u → s1 ≡ after s0 (Number t n) → s1 ≡ after s0 (Number u n)
one_told after s0 s1 t u n same told = told ∙ ap (λ (x : FieldTag). after s0 (Number x n)) same

pub returns : goal.returns
returns g c =
    let l = c.args.listing.now in
    on_ok_weaker c.number.result
    (λ told. and_then g.S.Sink.after _ (lacks_fields l.counts all_lacks) (Number (bare_tag (codes "shown")) l.shown ∷ []) c.in_ok-tell_lacks.ensures
    (one_told g.S.Sink.after _ _ _ _ l.shown c.bare.ensures told))
    c.number.ensures.told
