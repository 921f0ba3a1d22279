use Rattle.nbt_command.proofs.ObjectLemmas.{comment_made}
use Rattle.nbt_command.proofs.objects.text_object.Goals as goal

pub returns : goal.returns
returns c =
    comment_made c.args.number c.args.comment.now _ _ _ _ c.in_ok-sink.ensures c.in_ok-tell_text.ensures.told
    c.in_ok-made.ensures.bytes c.in_ok-made.ensures.json c.in_ok-end_line.ensures
