use Rattle.std.proofs.Common.{ℕ, List, ◌≡◌, ap, subst, arith, length}
use Rattle.std.specs.Int.{w16}
use Rattle.nb_streams.specs.Places.{NumberAt}
use Rattle.nb_survey.specs.Hearing.{no_item, no_name, named, typed}
use Rattle.nb_survey.proofs.hearing.first_of.Goals as goal

pub returns-then-header-records-eq0 : goal.returns-then-header-records-eq0
returns-then-header-records-eq0 c = no_item (omega arith)

pub returns-in_default : goal.returns-in_default
returns-in_default c = no_name c.in_default.field-0 (omega arith) c.in_default.ensures.fault

pub returns-then-packet-after-lt2 : goal.returns-then-packet-after-lt2
returns-then-packet-after-lt2 c =
    let long : length c.packet-packet.result.now ≡ length c.args.names.now = ap length c.packet-packet.ensures in
    named c.in-Ok.name c.in-Ok.after (omega arith) c.in-Ok.ensures.found (omega (arith, long, c.in-Ok.ensures.within))

pub returns : goal.returns
returns c =
    typed c.in-Ok.name c.in-Ok.after c.number_16.result (omega arith) c.in-Ok.ensures.found
    (subst (λ (packet : List ℕ). NumberAt packet c.in-Ok.after w16 c.number_16.result) c.packet-packet.ensures c.number_16.ensures)
