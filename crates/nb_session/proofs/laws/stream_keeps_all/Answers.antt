use Rattle.nb_session.proofs.CuttingLemmas.{kept, lacking_none, failing_none}
use Rattle.nb_session.proofs.laws.stream_keeps_all.Goals as goal

pub returns-clause-kept : goal.returns-clause-kept
returns-clause-kept c fed packets stream history =
    let all = kept fed packets stream history in (all.front, all.there, all.exact)

pub returns-clause-waiting : goal.returns-clause-waiting
returns-clause-waiting c fed packets stream needed history stands =
    let all = kept fed packets stream history in
    record { front = all.front; there = all.there; exact = all.exact; behind = lacking_none stream.held needed stands }

pub returns-clause-failed : goal.returns-clause-failed
returns-clause-failed c fed packets stream fault history stands =
    let all = kept fed packets stream history in
    record { front = all.front; there = all.there; exact = all.exact; behind = failing_none stream.held fault stands }
