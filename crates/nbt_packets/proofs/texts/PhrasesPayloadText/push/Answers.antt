use Rattle.nbt_packets.proofs.Common.{◌++◌, ◌∙◌, ap, append_assoc, refl, string_bytes}
use Rattle.nb_text.specs.Lines.{line_end}
use Rattle.nbt_packets.proofs.texts.PhrasesPayloadText.push.Goals as goal

pub returns : goal.returns
returns c =
    let said = c.in_ok-push_brief.ensures.said in
    let bytes = c.in_ok-push_str.ensures.bytes ∙ ap (λ text. text ++ line_end) said.added ∙ append_assoc (string_bytes c.args.text.now) said.text line_end in
    (said.text ++ line_end, record { phrase = said.text; said = said.said; is = refl }, bytes)
