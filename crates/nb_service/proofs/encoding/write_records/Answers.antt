use Rattle.nb_service.specs.Encoding.{record_bytes, IsRecord}
use Rattle.nb_service.proofs.EncodingLemmas.{turn_written, turn_formed}
use Rattle.nb_service.proofs.encoding.write_records.Goals as goal

pub loop-record-preserved : goal.loop-record-preserved
loop-record-preserved c =
    let place = c.loop-record.record-index in
    record {
      written = turn_written (record_bytes c.args.questions.now) c.args.records.now place c.record-item.result _ _ _ c.loop-record-test.true c.record-item.is c.loop-record.invariant.written c.in_ok-write_record.ensures.written;
      formed = turn_formed IsRecord c.args.records.now place c.record-item.result c.loop-record-test.true c.record-item.is c.loop-record.invariant.formed c.in_ok-write_record.ensures.formed;
    }
