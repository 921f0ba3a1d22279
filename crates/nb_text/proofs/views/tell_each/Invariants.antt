use Rattle.std.proofs.Common.{◌≡◌, take, fold}
use Rattle.std.specs.List.{flat_map}
use Rattle.nb_telling.specs.Telling.{Grows}
use Rattle.nb_text.proofs.views.tell_each.Given as goal

abbrev pub invariant-loop-place : goal.invariant-loop-place
invariant-loop-place g l =
    (g.S.Sink.seen l.sink ≡ fold g.S.Sink.after (g.S.Sink.seen l.fn.sink) (flat_map g.P.Part.ViewPart.fields (take l.place (g.P.ViewParts.parts l.parts))))
    × Grows g.S.Sink.is_front (g.S.Sink.seen l.fn.sink) (g.S.Sink.seen l.sink)
