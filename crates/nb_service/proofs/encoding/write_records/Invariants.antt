use Rattle.std.proofs.Common.{◌≡◌, ◌++◌, take}
use Rattle.std.specs.List.{AllByRecursion, flat_map}
use Rattle.nb_service.specs.Encoding.{record_bytes, IsRecord}
use Rattle.nb_service.proofs.encoding.write_records.Given as goal

abbrev pub invariant-loop-record : goal.invariant-loop-record
invariant-loop-record l =
    record {
      written : l.bytes.items ≡ l.fn.bytes.items ++ flat_map (record_bytes l.questions) (take l.record-index l.records);
      formed : AllByRecursion IsRecord (take l.record-index l.records);
    }
