use Rattle.nbt_command.proofs.ObjectLemmas.{line_made}
use Rattle.nbt_command.proofs.objects.line_object.Goals as goal

pub returns : goal.returns
returns g c =
    line_made _ c.args.number c.args.said.now c.args.comment.now _ _ _ _ _ c.in_ok-sink.ensures
    c.in_ok-tell_head.ensures.told c.in_ok-tell.ensures.told c.in_ok-made.ensures.bytes c.in_ok-made.ensures.json c.in_ok-end_line.ensures
