use Rattle.std.proofs.Common.{◌≡◌, drop, length, ap, ◌∙◌, arith}
use Rattle.std.proofs.lemmas.List.{length-drop}
use Rattle.nb_telling.proofs.json_sink.JsonSink.begin.Goals as goal

pub invariant_of-result : goal.invariant_of-result
invariant_of-result c =
    let room = c.bytes.inside in
    let none : length (drop room.start room.bytes.items) ≡ 0 = ap length (c.bytes.view_is ∙ c.cleared.ensures) in
    let all : length room.bytes.items ≡ room.start = omega (arith, none, length-drop room.start room.bytes.items, c.bytes.invariant) in
    ap length (c.begin_object.ensures.room.0 ∙ c.new-writer.ensures.before) ∙ all
