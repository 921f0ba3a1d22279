use Rattle.nb_building.proofs.Common.{arith, query, status}
use Rattle.nb_building.proofs.ArgumentLemmas.{two_words}
use Rattle.nb_building.proofs.BuiltLemmas.{service_built}
use Rattle.nb_building.proofs.TakenLemmas.{other_count, only_memory, question_form, refused_at, text_refused_at}
use Rattle.nb_building.proofs.service.question.Goals.{in_default-via-then-words-lt2, in_default-via-else-words-lt2+else-words-lt3}
use Rattle.nb_building.proofs.service.question.Goals as goal

pub returns-in-query-clause-built : goal.returns-in-query-clause-built
returns-in-query-clause-built c =
    service_built _ _ _ _ _ c.query.result _ c.encoded.result c.in-query.is
    (two_words (λ w. w.now) _ c.args.words.now c.in-len2.len_at_least c.in-len2.len_below)
    (query c.in_ok-id.id c.in_ok-name.name _ _ c.in_ok-id.ensures c.in_ok-name.ensures.found) c.query.ensures c.encoded.ensures.built

pub returns-in-status-clause-built : goal.returns-in-status-clause-built
returns-in-status-clause-built c =
    service_built _ _ _ _ _ c.node_status_request.result _ c.encoded-in-status.result c.in-status.is
    (two_words (λ w. w.now) _ c.args.words.now c.in-len2.len_at_least c.in-len2.len_below)
    (status c.in_ok-id.id c.in_ok-name.name _ _ c.in_ok-id.ensures c.in_ok-name.ensures.found) c.node_status_request.ensures
    c.encoded-in-status.ensures.built

pub returns-in_err-id-clause-refused : goal.returns-in_err-id-clause-refused
returns-in_err-id-clause-refused c =
    refused_at _ _ _ _ _ _ 0 _ c.from_residual.result (question_form _ c.requires) (two_words (λ w. w.now) _ c.args.words.now c.in-len2.len_at_least c.in-len2.len_below)
    c.from_residual.ensures.1 c.in_err-id.ensures
    (λ none. none)

pub returns-in_err-name-clause-refused : goal.returns-in_err-name-clause-refused
returns-in_err-name-clause-refused c =
    text_refused_at _ _ _ _ _ 1 _ c.from_residual-in_err-name.result (question_form _ c.requires) (two_words (λ w. w.now) _ c.args.words.now c.in-len2.len_at_least c.in-len2.len_below)
    c.from_residual-in_err-name.ensures.1 c.in_err-name.ensures.refused
    (λ none. ((_, c.in_ok-id.ensures), none))

pub returns-in-query-clause-refused : goal.returns-in-query-clause-refused
returns-in-query-clause-refused c = only_memory _ _ _ c.encoded.result c.encoded.ensures.memory

pub returns-in-status-clause-refused : goal.returns-in-status-clause-refused
returns-in-status-clause-refused c = only_memory _ _ _ c.encoded-in-status.result c.encoded-in-status.ensures.memory

pub returns-in_default-clause-refused : goal.returns-in_default-clause-refused
returns-in_default-clause-refused c = other_count _ (λ w. w.now) _ c.args.words.now _ (question_form _ c.requires) (λ is.
    elim c.in_default.branch [ in_default-via-then-words-lt2 w ↦ grind (arith, is) | in_default-via-else-words-lt2+else-words-lt3 w ↦ grind (arith, is) ])
