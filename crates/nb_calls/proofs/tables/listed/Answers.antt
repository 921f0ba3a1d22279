use Rattle.nb_calls.specs.Tables.{not_read, read}
use Rattle.std.proofs.lemmas.Result.{err_from_is_err_and}
use Rattle.nb_calls.proofs.AnswerLemmas.{made}
use Rattle.nb_calls.proofs.tables.listed.Goals as goal

pub returns-in_err-table : goal.returns-in_err-table
returns-in_err-table c =
    let p = err_from_is_err_and c.from_residual.result c.from_residual.ensures.1 in rw (p.1, p.2) (not_read _ c.in_err-table.ensures)

pub returns : goal.returns
returns c = rw c.answer_of.ensures (read _ _ c.in_ok-table.ensures (made _ _ c.listed_of.ensures))
