use Rattle.std.proofs.Common.{◌≡◌, ◌∙◌, ℕ, List, ◌∷◌, [], sym, ap, subst, ◌++◌, filter, fold}
use Rattle.std.proofs.lemmas.Result.{on_ok_weaker}
use Rattle.std.proofs.lemmas.List.Elements.{filter-append}
use Rattle.std.proofs.lemmas.List.Sums.{fold-append}
use Rattle.nb_survey.specs.Code.Kept.{Keeps}
use Rattle.nb_survey.specs.Queries.{is_for, queries_of, step}
use Rattle.nb_survey.specs.Telling.{is_about, told, words_of}
use Rattle.nb_survey.specs.declared.heard.Heard.{Heard}
use Rattle.nb_survey.proofs.KeepLemmas.{takes_both}
use Rattle.nb_survey.proofs.survey.Survey.take.Goals as goal

words-more : (name : List (List ℕ)) (packets : List Heard) (p : Heard)
    → words_of name (packets ++ p ∷ []) ≡ words_of name packets ++ filter (is_about name) (told (words_of name packets) p)
words-more name packets p = fold-append (λ before heard. before ++ filter (is_about name) (told before heard)) [] packets (p ∷ [])

queries-more : (name : List (List ℕ)) (packets : List Heard) (p : Heard)
    → queries_of name (packets ++ p ∷ []) ≡ fold step (queries_of name packets) (filter (is_for name) (p ∷ []))
queries-more name packets p =
    ap (fold step []) (filter-append (is_for name) packets (p ∷ [])) ∙ fold-append step [] (filter (is_for name) packets) (filter (is_for name) (p ∷ []))

pub returns-clause-sums : goal.returns-clause-sums
returns-clause-sums c = on_ok_weaker c.hear_all.result (λ heard packets sums name whole.
    let p = c.args.heard.now in
    let h = (takes_both c.args.self.now c.ask.new.self c.hear_all.new.self [] _ (p ∷ []) [] c.in_ok-ask.ensures.heard heard).hears name whole in
    let k = sums name h.whole in
    let before = words_of name packets in
    let e = ap (filter (is_about name)) c.as_slice.ensures.value ∙ c.in_ok-said.ensures name before k.0 in (
      subst (Keeps c.hear_all.new.self name) (ap (λ xs. before ++ xs) e ∙ sym (words-more name packets p)) (h.keeps before k.0),
      h.queries ∙ (ap (λ qs. fold step qs (filter (is_for name) (p ∷ []))) k.1 ∙ sym (queries-more name packets p)),
    )) c.hear_all.ensures.heard

pub returns-clause-kept : goal.returns-clause-kept
returns-clause-kept c = on_ok_weaker c.hear_all.result (λ heard all. heard.kept (c.in_ok-ask.ensures.heard.kept all)) c.hear_all.ensures.heard
