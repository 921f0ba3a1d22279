use Rattle.std.proofs.Common.{refl, arith}
use Rattle.nb_service.specs.Packet.{RecordAt}
use Rattle.nb_text.specs.ServiceFields.{record_fields}
use Rattle.nb_service.proofs.RowWalks.{walk_begun, walk_item, walk_step, walk_ended}
use Rattle.nb_text.proofs.WalkLemmas.{turn_more, FieldsSeen}
use Rattle.nb_text.proofs.records.tell_records.Goals as goal

pub loop-init : goal.loop-init
loop-init g c = (walk_begun (RecordAt c.args.names.now) c.args.at c.args.count (FieldsSeen g.S.Sink.after (record_fields c.args.lead.now) (g.S.Sink.seen c.args.sink.now) (g.S.Sink.seen c.args.sink.now)) refl, λ front f. f)

pub tell_record_at-requires : goal.tell_record_at-requires
tell_record_at-requires g c =
    let next = walk_item (RecordAt c.args.names.now) _ _ c.loop.counter c.loop.next
    (FieldsSeen g.S.Sink.after (record_fields c.args.lead.now) (g.S.Sink.seen c.args.sink.now) (g.S.Sink.seen c.loop.sink)) c.requires c.loop-test.true c.loop.invariant.0 in
    (next.0, next.1, next.2)

pub loop-preserved : goal.loop-preserved
loop-preserved g c = (
  walk_step (RecordAt c.args.names.now) _ _ c.loop.counter c.loop.next _ (FieldsSeen g.S.Sink.after (record_fields c.args.lead.now) (g.S.Sink.seen c.args.sink.now) (g.S.Sink.seen c.loop.sink))
      (FieldsSeen g.S.Sink.after (record_fields c.args.lead.now) (g.S.Sink.seen c.args.sink.now) (g.S.Sink.seen c.tell_record_at.new.sink)) c.loop-test.true c.loop.invariant.0
      (λ before entry after stands held.
      let told = c.in_ok-next.ensures.told entry after stands in
      (told.0, turn_more g.S.Sink.after (record_fields c.args.lead.now) before entry _ _ _ held told.1)),
  λ front f. c.in_ok-next.ensures.front front (c.loop.invariant.1 front f),
)

pub returns-clause-told : goal.returns-clause-told
returns-clause-told g c = walk_ended (RecordAt c.args.names.now) _ _ c.loop.counter _ (FieldsSeen g.S.Sink.after (record_fields c.args.lead.now) (g.S.Sink.seen c.args.sink.now) (g.S.Sink.seen c.loop.sink)) (omega arith) c.loop.invariant.0
