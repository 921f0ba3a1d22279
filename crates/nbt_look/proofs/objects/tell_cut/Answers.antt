use Rattle.std.proofs.Common.{◌∙◌, sym}
use Rattle.std.proofs.lemmas.Result.{on_ok_weaker}
use Rattle.nb_traffic.specs.Brought.{packet_value}
use Rattle.nbt_look.proofs.ObjectLemmas.{cut_left_out, cut_told}
use Rattle.nbt_look.proofs.objects.tell_cut.Goals as goal

pub returns-then-has_nothing : goal.returns-then-has_nothing
returns-then-has_nothing g c =
    on_ok_weaker c.tell_left_out.result
    (λ told. cut_left_out g.S.Sink.after _ _ (packet_value c.args.packet.now) (sym c.has_nothing.ensures ∙ c.if-has_nothing.true) told)
    c.tell_left_out.ensures

pub returns : goal.returns
returns g c =
    on_ok_weaker c.tell_front.result
    (λ told. cut_told g.S.Sink.after _ _ _ (packet_value c.args.packet.now) (sym c.has_nothing.ensures ∙ c.if-has_nothing.false) c.in_ok-tell_cut_len.ensures told)
    c.tell_front.ensures.told
