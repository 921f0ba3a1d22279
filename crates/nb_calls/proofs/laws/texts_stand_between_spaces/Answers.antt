use Rattle.nb_calls.proofs.StationNameLemmas.{texts_joined, texts_clear}
use Rattle.nb_calls.proofs.laws.texts_stand_between_spaces.Goals as goal

pub returns-clause-joined : goal.returns-clause-joined
returns-clause-joined c bytes = texts_joined bytes

pub returns-clause-apart : goal.returns-clause-apart
returns-clause-apart c bytes = texts_clear bytes
