use Rattle.std.proofs.Common.{◌≡◌, ℕ, List, length, ap, arith, rules}
use Rattle.nb_session.specs.Header.{body_length}
use Rattle.nb_session.proofs.PacketReadingLemmas.{short_header, short_body, header_refused}
use Rattle.nb_session.proofs.packet_reading.read_lent_packet.Goals as goal

pub returns-in-End-clause-reads : goal.returns-in-End-clause-reads
returns-in-End-clause-reads g c =
    let part = short_header _ _ c.read_full.new.buf c.in-End.count (search rules) c.in-End.ensures.takes.0 in
    (part.bytes, part.consumes, (part.long, omega (arith, c.in-End.count-test), part.lacks, c.in-End.ensures.takes.1))

pub returns-in-Device-clause-reads : goal.returns-in-Device-clause-reads
returns-in-Device-clause-reads g c =
    let part = short_header _ _ c.read_full.new.buf c.in-Device.ensures.takes.0 (search rules) c.in-Device.ensures.takes.1 in
    (part.bytes, part.consumes, part.lacks)

pub returns-in-TooManyInterrupts-clause-reads : goal.returns-in-TooManyInterrupts-clause-reads
returns-in-TooManyInterrupts-clause-reads g c =
    let part = short_header _ _ c.read_full.new.buf c.in-TooManyInterrupts.ensures.takes.0 (search rules) c.in-TooManyInterrupts.ensures.takes.1 in
    (part.bytes, part.consumes, part.lacks)

pub returns-in-Err-clause-reads : goal.returns-in-Err-clause-reads
returns-in-Err-clause-reads g c =
    (c.read_full.new.buf, c.in-Whole.ensures.takes, header_refused c.read_full.new.buf _ _ (search rules) c.read_header-judged.ensures c.in-Err.ensures.fault)

pub returns-in-End-read_full-clause-reads : goal.returns-in-End-read_full-clause-reads
returns-in-End-read_full-clause-reads g c =
    let four : length c.read_full.new.buf ≡ 4 = search rules in
    let size : length c.read_full-2.new.buf ≡ body_length c.read_header-judged.result =
    omega (arith, c.read_full-2.auto.buf, c.deref_mut.ensures.len, ap (λ (b : List ℕ). length b) c.deref_mut.ensures.value, c.in-Ok-begin.ensures.len, c.packet_length.ensures, ap (λ (b : List ℕ). length b) c.room.view_is) in
    let part = short_body _ _ _ c.read_full.new.buf _ _ c.read_full-2.new.buf c.in-End-read_full.count four c.read_header-judged.ensures c.in-Ok.ensures.good size c.in-Whole.ensures.takes c.in-End-read_full.ensures.takes.0 in
    (part.bytes, part.consumes, (part.long, omega arith, part.lacks, c.in-End-read_full.ensures.takes.1))

pub returns-in-Device-read_full-clause-reads : goal.returns-in-Device-read_full-clause-reads
returns-in-Device-read_full-clause-reads g c =
    let four : length c.read_full.new.buf ≡ 4 = search rules in
    let size : length c.read_full-2.new.buf ≡ body_length c.read_header-judged.result =
    omega (arith, c.read_full-2.auto.buf, c.deref_mut.ensures.len, ap (λ (b : List ℕ). length b) c.deref_mut.ensures.value, c.in-Ok-begin.ensures.len, c.packet_length.ensures, ap (λ (b : List ℕ). length b) c.room.view_is) in
    let part = short_body _ _ _ c.read_full.new.buf _ _ c.read_full-2.new.buf c.in-Device-read_full.ensures.takes.0 four c.read_header-judged.ensures c.in-Ok.ensures.good size c.in-Whole.ensures.takes c.in-Device-read_full.ensures.takes.1 in
    (part.bytes, part.consumes, part.lacks)

pub returns-in-TooManyInterrupts-read_full-clause-reads : goal.returns-in-TooManyInterrupts-read_full-clause-reads
returns-in-TooManyInterrupts-read_full-clause-reads g c =
    let four : length c.read_full.new.buf ≡ 4 = search rules in
    let size : length c.read_full-2.new.buf ≡ body_length c.read_header-judged.result =
    omega (arith, c.read_full-2.auto.buf, c.deref_mut.ensures.len, ap (λ (b : List ℕ). length b) c.deref_mut.ensures.value, c.in-Ok-begin.ensures.len, c.packet_length.ensures, ap (λ (b : List ℕ). length b) c.room.view_is) in
    let part = short_body _ _ _ c.read_full.new.buf _ _ c.read_full-2.new.buf c.in-TooManyInterrupts-read_full.ensures.takes.0 four c.read_header-judged.ensures c.in-Ok.ensures.good size c.in-Whole.ensures.takes c.in-TooManyInterrupts-read_full.ensures.takes.1 in
    (part.bytes, part.consumes, part.lacks)
