use Rattle.std.proofs.lemmas.Result.{on_ok_weaker}
use Rattle.nb_text.proofs.TellsLemmas.{refusal_told}
use Rattle.nb_text.proofs.fields.tell_refusal.Goals as goal

pub returns-clause-told : goal.returns-clause-told
returns-clause-told g c =
    on_ok_weaker c.line_ends.result
    (refusal_told g.S.Sink.after _ _ _ _ (g.F.Display.output c.args.fault) c.args.place c.in_ok-displayed.ensures.told
    c.in_ok-tell_place.ensures.told)
    c.line_ends.ensures.told
