use Rattle.nb_datagram.proofs.Common.{◌+◌, take, arith, take_rest, no_fields, no_data, in_names, in_source, in_destination}
use Rattle.nb_datagram.proofs.ReadingLemmas.{HasFragment, named_there, fragment_there}
use Rattle.nb_datagram.proofs.decoding.read_direct.Goals as goal

pub returns-then-bytes-lt-DIRECT_HEADER_LENGTH-clause-fault : goal.returns-then-bytes-lt-DIRECT_HEADER_LENGTH-clause-fault
returns-then-bytes-lt-DIRECT_HEADER_LENGTH-clause-fault c = no_fields c.if-bytes-lt-DIRECT_HEADER_LENGTH.true

pub returns-then-bytes-end-clause-fault : goal.returns-then-bytes-end-clause-fault
returns-then-bytes-end-clause-fault c = no_data _ c.number_16.ensures (omega arith) c.if-bytes-end.true

pub returns-in-Err-clause-fault : goal.returns-in-Err-clause-fault
returns-in-Err-clause-fault c = in_names _ c.number_16.ensures (omega arith) (in_source _ c.in-Err.ensures.fault)

pub returns-in-Err-read_lent_name-clause-fault : goal.returns-in-Err-read_lent_name-clause-fault
returns-in-Err-read_lent_name-clause-fault c =
    in_names _ c.number_16.ensures (omega arith) (in_destination _ _ _ c.in-Ok.ensures.name.0 c.in-Ok.ensures.found c.in-Err-read_lent_name.ensures.fault)

pub with_parts-fragment-requires : goal.with_parts-fragment-requires
with_parts-fragment-requires c =
    let has : HasFragment c.args.bytes.now c.number_16.result c.number_16-2.result c.in-Ok.read.0 c.in-Ok-read_lent_name.read.0 c.in-Ok.read.1 c.in-Ok-read_lent_name.read.1 = record {
      size_there = c.number_16.ensures;
      offset_there = c.number_16-2.ensures;
      whole = omega arith;
      source_there = c.in-Ok.ensures.found;
      destination_there = c.in-Ok-read_lent_name.ensures.found;
      within = c.in-Ok-read_lent_name.ensures.within;
      source_name = c.in-Ok.ensures.name.0;
      destination_name = c.in-Ok-read_lent_name.ensures.name.0;
    } in
    let count = named_there _ _ _ _ _ _ _ has in
    let small = c.number_16.ensures.fits in
    rw (take_rest (take (14 + c.number_16.result) c.args.bytes.now) c.in-Ok-read_lent_name.read.1) (omega (arith, count, small))

pub returns-clause-found : goal.returns-clause-found
returns-clause-found c =
    let has : HasFragment c.args.bytes.now c.number_16.result c.number_16-2.result c.in-Ok.read.0 c.in-Ok-read_lent_name.read.0 c.in-Ok.read.1 c.in-Ok-read_lent_name.read.1 = record {
      size_there = c.number_16.ensures;
      offset_there = c.number_16-2.ensures;
      whole = omega arith;
      source_there = c.in-Ok.ensures.found;
      destination_there = c.in-Ok-read_lent_name.ensures.found;
      within = c.in-Ok-read_lent_name.ensures.within;
      source_name = c.in-Ok.ensures.name.0;
      destination_name = c.in-Ok-read_lent_name.ensures.name.0;
    } in
    rw (c.with_parts-fragment.ensures, take_rest (take (14 + c.number_16.result) c.args.bytes.now) c.in-Ok-read_lent_name.read.1)
    (fragment_there _ c.args.header.now c.args.kind _ _ _ _ _ _ c.requires.header c.requires.form has)
