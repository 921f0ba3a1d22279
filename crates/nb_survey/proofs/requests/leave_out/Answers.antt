use Rattle.std.proofs.Common.{rules, not}
use Rattle.std.proofs.lemmas.Fn.{filter_same}
use Rattle.nb_survey.specs.Requests.{replaces}
use Rattle.nb_survey.proofs.requests.leave_out.Goals as goal

pub returns-clause-kept : goal.returns-clause-kept
returns-clause-kept c = filter_same _ (λ one. not (replaces c.args.request.now one)) _ (λ x b f' k. search rules) _ _ c.retain.ensures.filtered
