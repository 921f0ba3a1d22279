use Rattle.nbt.proofs.Common.{ap₂, refl, ◌∙◌, Keeps-same, takes}
use Rattle.nbt.proofs.EndedLemmas.{lacked_memory, on_some, ran_words}
use Rattle.nbt_usage.specs.Shared.TakenWords.{alone_is_taken, no_usage_for_memory}
use Rattle.nbt_usage.specs.Shared.MisusedWords.{asked_is_help, asked_is_untaken, misused_end, taken_is_no_misuse}
use Rattle.nbt.proofs.program.run_counted.Goals as goal

pub returns-in-Err-try_get_matches_from-clause-alone :
    goal.returns-in-Err-try_get_matches_from-clause-alone
returns-in-Err-try_get_matches_from-clause-alone g c (program, word, words_are, alone) =
    let memory = c.in-Err-try_get_matches_from.ensures.passes
    (ap₂ takes c.in-Ok.ensures words_are ∙ alone_is_taken program word alone) in
    no_usage_for_memory _ _ _ _ memory c.report_unmatched.ensures.reports

pub returns-in-Ok-try_get_matches_from-clause-ran :
    goal.returns-in-Ok-try_get_matches_from-clause-ran
returns-in-Ok-try_get_matches_from-clause-ran g c taken =
    ran_words _ _ c.in-Ok-try_get_matches_from.matches _ c.run_command-outcome.result _ c.in-Ok.ensures c.in-Ok-try_get_matches_from.ensures.matches
    c.run_command-outcome.ensures.ran c.report-in-Ok-try_get_matches_from.ensures.value

pub returns-in-Err-try_get_matches_from-clause-ran :
    goal.returns-in-Err-try_get_matches_from-clause-ran
returns-in-Err-try_get_matches_from-clause-ran g c taken =
    lacked_memory _ _ _ _ (c.in-Err-try_get_matches_from.ensures.passes (ap₂ takes c.in-Ok.ensures refl ∙ taken)) c.report_unmatched.ensures.reports (Keeps-same _)

pub returns-in-Err-try_get_matches_from-clause-misused :
    goal.returns-in-Err-try_get_matches_from-clause-misused
returns-in-Err-try_get_matches_from-clause-misused g c misused =
    let ended = misused_end _ _ c.in-Err-try_get_matches_from.error _ _ _ c.in-Ok.ensures c.in-Err-try_get_matches_from.ensures.kinds misused
    c.report_unmatched.ensures.reports in
    (ended.0, refl, ended.1)

pub returns-in-Ok-try_get_matches_from-clause-misused :
    goal.returns-in-Ok-try_get_matches_from-clause-misused
returns-in-Ok-try_get_matches_from-clause-misused g c misused =
    absurd (taken_is_no_misuse _ _ c.in-Ok.ensures c.in-Ok-try_get_matches_from.ensures.kinds misused)

pub returns-in-Ok-Some-clause-ran : goal.returns-in-Ok-Some-clause-ran
returns-in-Ok-Some-clause-ran g c taken =
    absurd (asked_is_untaken _ (on_some c.in-Ok-Some.field-0 c.in-Ok-Some.refusal c.in-Ok-Some.field-0-is c.in-Ok-Some.ensures.asks) taken)

pub returns-in-Ok-Some-clause-misused : goal.returns-in-Ok-Some-clause-misused
returns-in-Ok-Some-clause-misused g c misused =
    absurd (asked_is_help _ (on_some c.in-Ok-Some.field-0 c.in-Ok-Some.refusal c.in-Ok-Some.field-0-is c.in-Ok-Some.ensures.asks) misused)
