use Rattle.std.proofs.Common.{◌≡◌, ◌∙◌, List, arith}
use Rattle.nb_service.specs.Record.{ResourceRecord}
use Rattle.nb_service.specs.Packet.{RecordAt}
use Rattle.nb_service.proofs.ItemLemmas.{read_is_ok, read_is}
use Rattle.nb_service.proofs.RowWalks.{walk_begun, walk_item, walk_step, walk_ended}
use Rattle.nb_service.proofs.decoding.list_records.Goals as goal

pub loop-init : goal.loop-init
loop-init c = walk_begun (RecordAt c.args.names.now) c.args.at c.args.count (λ (read : List ResourceRecord). c.new-records.result.items ≡ read) c.new-records.ensures.items

pub unwrap-seen-requires : goal.unwrap-seen-requires
unwrap-seen-requires c =
    let next = walk_item (RecordAt c.args.names.now) _ _ c.loop.counter c.loop.next (λ (read : List ResourceRecord). c.loop.records.items ≡ read) c.requires c.loop-test.true c.loop.invariant in
    read_is_ok c.see_record.result _ (c.see_record.ensures.only next.0 next.1 next.2)

pub loop-preserved : goal.loop-preserved
loop-preserved c =
    walk_step (RecordAt c.args.names.now) _ _ c.loop.counter c.loop.next _ (λ (read : List ResourceRecord). c.loop.records.items ≡ read)
    (λ (read : List ResourceRecord). c.push.new.self.items ≡ read) c.loop-test.true c.loop.invariant
    (λ before item after stands held.
    let read = read_is c.see_record.result _ _ c.unwrap-seen.ensures (c.see_record.ensures.only item after stands) in
    (read.2, cc (c.in_ok-push.ensures.items, held, c.«record».ensures item read.1)))

pub returns : goal.returns
returns c items next row =
    let ended = walk_ended (RecordAt c.args.names.now) _ _ c.loop.counter _ (λ (read : List ResourceRecord). c.loop.records.items ≡ read) (omega arith) c.loop.invariant items next row in
    (c.from_vec.ensures ∙ ended.1, ended.0)
