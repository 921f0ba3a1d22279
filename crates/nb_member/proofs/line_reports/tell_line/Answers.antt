use Rattle.nb_member.proofs.Common.{ap, inr, sym, ◌∙◌, on_ok_weaker, dropped_fields, passed_fields, result_fields}
use Rattle.nb_capture.specs.declared.line.Line.TheVariants.{Packet}
use Rattle.nb_member.specs.Code.Outcomes.{answer_of}
use Rattle.nb_member.proofs.ReplayLemmas.LineReports.{did_drop, did_pass, did_take, may_take}
use Rattle.nb_member.proofs.line_reports.tell_line.Goals as goal

pub returns-then-port-ne138-clause-told : goal.returns-then-port-ne138-clause-told
returns-then-port-ne138-clause-told g c =
    on_ok_weaker c.text.result
    (λ told. record { fields = passed_fields; are = did_pass c.in-Packet.is c.if-port-ne138.true; told = told })
    c.text.ensures.told

pub returns-in-Tick-clause-told : goal.returns-in-Tick-clause-told
returns-in-Tick-clause-told g c =
    on_ok_weaker c.tell_dropped.result
    (λ told. record {
      fields = dropped_fields c.tick.result.keys;
      are = did_drop c.in-Tick.is c.tick.ensures.dropped c.tick.ensures.count;
      told = told;
    })
    c.tell_dropped.ensures.told

pub returns-in-Tick-clause-acted : goal.returns-in-Tick-clause-acted
returns-in-Tick-clause-acted g c = inr (dropped_fields c.tick.result.keys, did_drop c.in-Tick.is c.tick.ensures.dropped c.tick.ensures.count)

pub returns-else-port-ne138-clause-told : goal.returns-else-port-ne138-clause-told
returns-else-port-ne138-clause-told g c =
    let is = c.in-Packet.is ∙ ap (Packet c.in-Packet.port c.in-Packet.moment) (sym c.as_slice.ensures) in
    on_ok_weaker c.tell_taken.result
    (λ told. record {
      fields = result_fields (answer_of c.take_lent.result);
      are = did_take is c.if-port-ne138.false c.take_lent.ensures told.0;
      told = told.1;
    })
    c.tell_taken.ensures.told

pub returns-else-port-ne138-clause-acted : goal.returns-else-port-ne138-clause-acted
returns-else-port-ne138-clause-acted g c =
    let is = c.in-Packet.is ∙ ap (Packet c.in-Packet.port c.in-Packet.moment) (sym c.as_slice.ensures) in
    may_take (answer_of c.take_lent.result) is c.if-port-ne138.false c.take_lent.ensures
