use Rattle.std.proofs.Common.{◌∷◌, [], fold, sym, ap, ◌∙◌}
use Rattle.std.proofs.lemmas.Result.{on_ok_weaker}
use Rattle.nb_datagram.specs.FaultTexts.{key_text}
use Rattle.nb_telling.specs.Telling.{Digits, LineEnds, Text}
use Rattle.nb_telling.proofs.FoldLemmas.{told_both}
use Rattle.nb_text.specs.FrontFields.{fragment_front_fields, indent, type_field}
use Rattle.nb_text.specs.Tags.{tag_named}
use Rattle.nb_text.specs.Words.{datagram_word}
use Rattle.nb_text.proofs.fronts.tell_datagram_line.Goals as goal

pub returns-clause-told : goal.returns-clause-told
returns-clause-told g c =
    let after = g.S.Sink.after in
    let front = c.args.front.now in
    let header = type_field (datagram_word front.message_type) front.message_type ∷ Digits (tag_named "flags") (front.flags ∷ []) ∷ Text (tag_named "key") (key_text front.key) ∷ [] in
    let parts = fragment_front_fields front.fragment in
    on_ok_weaker c.line_ends.result
    (λ told. told ∙ ap (λ s. after s LineEnds)
    (c.in_ok-tell_fragment.ensures.told ∙ ap (λ s. fold after s parts)
    (c.in_ok-tell_datagram_header.ensures.told ∙ ap (λ s. fold after s header) c.in_ok-words.ensures.told))
    ∙ sym (told_both after (fold after (after (g.S.Sink.seen c.args.sink.now) indent) header) parts (LineEnds ∷ [])))
    c.line_ends.ensures.told
