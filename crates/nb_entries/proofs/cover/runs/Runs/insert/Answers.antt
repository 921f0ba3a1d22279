use Rattle.nb_entries.proofs.Common.{◌∙◌, ap, on_ok_weaker, with_bytes}
use Rattle.nb_entries.proofs.KeptRuns.RunMapLemmas.{agree_from, map_put}
use Rattle.nb_entries.proofs.cover.runs.Runs.insert.Goals as goal

pub insert_bytes-requires-clause-agree : goal.insert_bytes-requires-clause-agree
insert_bytes-requires-clause-agree c = agree_from _ c.args.start c.args.bytes.now (rw c.self.view_is c.requires)

pub returns-clause-ok : goal.returns-clause-ok
returns-clause-ok c =
    on_ok_weaker c.insert_bytes.result (λ p. map_put _ _ c.args.start c.args.bytes.now p ∙ ap (λ m. with_bytes m c.args.start c.args.bytes.now) c.self.view_is) c.insert_bytes.ensures.ok
