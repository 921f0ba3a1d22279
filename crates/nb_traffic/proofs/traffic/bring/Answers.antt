use Rattle.std.proofs.Common.{◌∙◌, ap, sym, subst, Option, ℕ}
use Rattle.nb_frames.specs.Services.{service_of}
use Rattle.nb_frames.specs.declared.carried.Carried.{Carried}
use Rattle.nb_traffic.specs.Brings.{BringsPacket, BringsSegment}
use Rattle.nb_traffic.specs.Brought.{Segment}
use Rattle.nb_traffic.proofs.traffic.bring.Goals as goal

pub returns-in_ok-taken-in-Some-service : goal.returns-in_ok-taken-in-Some-service
returns-in_ok-taken-in-Some-service c =
    let s = c.in-Tcp.segment in
    let old = c.args.connections.now in
    let new = c.take.new.self in
    let taken = c.in_ok-taken-in-Some-service.taken in
    let some = ap service_of (sym c.in-Tcp.is) ∙ sym c.service_port-service.ensures ∙ c.in-Some-service.is in
    let brought = Segment (record {
      hosts = s.hosts;
      ports = s.ports;
      wire_length = c.wire_len-in-Some-service.result;
      packets = c.as_slice.result.now;
      left_out = taken.left_out;
      differs = taken.differs;
    }) in
    subst (λ (k : Carried). BringsPacket k old brought new) (sym c.in-Tcp.is)
    (subst (λ (o : Option ℕ). BringsSegment o s old brought new) (sym some) (
      c.take.new.ready.items,
      taken,
      c.in_ok-taken-in-Some-service.ensures.takes,
      c.in_ok-taken-in-Some-service.ensures.lost,
      λ i. Segment (record {
        hosts = s.hosts;
        ports = s.ports;
        wire_length = c.wire_len-in-Some-service.ensures i;
        packets = c.as_slice.ensures.value i;
        left_out = taken.left_out;
        differs = taken.differs;
      }),
    ))
