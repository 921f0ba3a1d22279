use Rattle.std.proofs.Common.{◌∷◌, [], refl, subst, sym}
use Rattle.std.proofs.lemmas.Result.{on_ok_weaker}
use Rattle.nb_traffic.specs.Brought.{packet_value}
use Rattle.nbt_look.specs.declared.standing.Standing.{Standing}
use Rattle.nbt_look.specs.Objects.{TellsStanding, left_out_field}
use Rattle.nbt_look.proofs.objects.tell_standing.Goals as goal

pub returns-in-Whole : goal.returns-in-Whole
returns-in-Whole g c =
    on_ok_weaker c.tell_front.result
    (λ told. (
      told.fields,
      subst (λ (s : Standing). TellsStanding s (packet_value c.args.packet.now) told.fields) (sym c.in-Whole.is) told.tells,
      told.seen,
    ))
    c.tell_front.ensures.told

pub returns-in-Cut : goal.returns-in-Cut
returns-in-Cut g c =
    on_ok_weaker c.tell_cut.result
    (λ told. (told.0, subst (λ (s : Standing). TellsStanding s (packet_value c.args.packet.now) told.0) (sym c.in-Cut.is) told.1, told.2))
    c.tell_cut.ensures

pub returns-in-LeftOut : goal.returns-in-LeftOut
returns-in-LeftOut g c =
    on_ok_weaker c.tell_left_out.result
    (λ told. (
      left_out_field c.in-LeftOut.reason ∷ [],
      subst (λ (s : Standing). TellsStanding s (packet_value c.args.packet.now) (left_out_field c.in-LeftOut.reason ∷ [])) (sym c.in-LeftOut.is) refl,
      told,
    ))
    c.tell_left_out.ensures
