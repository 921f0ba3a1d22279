use Rattle.std.proofs.Common.{◌≡◌, ◌∙◌, sym, ap, subst, List, ◌++◌, ◌∷◌, [], take, ◌+◌}
use Rattle.std.proofs.lemmas.List.{take_more, take_all}
use Rattle.nb_survey.specs.declared.heard.Said.{Said}
use Rattle.nb_survey.specs.Sums.{Takes}
use Rattle.nb_survey.proofs.KeepLemmas.{takes_both, takes_nothing}
use Rattle.nb_survey.proofs.survey.Survey.hear_all.Goals as goal

pub words-init : goal.words-init
words-init c = (takes_nothing c.args.self.now, λ b. b)

pub words-preserved : goal.words-preserved
words-preserved c =
    let xs = c.args.said.now in
    let more : take (c.words.one-index + 1) xs ≡ take c.words.one-index xs ++ c.one-item.result ∷ [] =
    take_more xs c.words.one-index c.one-item.result c.words-test.true ∙ ap (λ y. take c.words.one-index xs ++ y ∷ []) (sym c.one-item.is) in (
      subst (λ (said : List Said). Takes c.args.self.now c.hear.new.self said []) (sym more)
          (takes_both c.args.self.now c.words.self c.hear.new.self (take c.words.one-index xs) (c.one-item.result ∷ []) [] [] c.words.invariant.0 c.in_ok-hear.ensures.heard),
      λ b. c.hear.ensures.bounded (c.words.invariant.1 b),
    )

pub returns-clause-heard : goal.returns-clause-heard
returns-clause-heard c =
    subst (λ (said : List Said). Takes c.args.self.now c.words.self said []) (take_all c.words.one-index c.args.said.now c.words-test.false) c.words.invariant.0
