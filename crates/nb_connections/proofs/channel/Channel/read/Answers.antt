use Rattle.std.proofs.Common.{◌≡◌, ◌+◌, refl, sym, ap, subst, ◌∙◌, arith, rules, false, length, [], inl, Some, None}
use Rattle.nb_session.specs.Cutting.{ArePackets, no_packet}
use Rattle.nb_tcp.specs.Runs.{charge_of}
use Rattle.nb_connections.specs.Channels.{kept_of, reason_of}
use Rattle.nb_connections.specs.Course.{lost}
use Rattle.nb_connections.specs.Reading.{part_of, with_segment}
use Rattle.nb_connections.specs.declared.taken.Reason.TheVariants as why
use Rattle.nb_connections.specs.declared.taken.Taken.{Taken}
use Rattle.nb_connections.proofs.ChannelLemmas.{comes, ends, gap_answer, gives_up, refuses, scarce, took}
use Rattle.nb_connections.proofs.channel.Channel.read.Goals as goal

pub returns-in-Full-clause-reads : goal.returns-in-Full-clause-reads
returns-in-Full-clause-reads c = λ old keeps.
    let part = part_of c.args.piece.now in
    let at = comes c.args.self.now old part c.take-taken.new.self c.take-taken.result keeps c.take-taken.ensures.takes c.take-taken.ensures.known.1 in
    let got = refuses c.args.self.now old c.args.room (length part.bytes) keeps (c.take-taken.ensures.takes.full (c.in-Some.is ∙ ap Some c.in-Full.is)) in
    let up = gives_up c.close.new.self old part c.take-taken.result.place c.take-taken.result.differs got.0 at got.2 c.close.ensures.closed in
    let before : c.len-before.result ≡ length c.args.self.now.held.items = search rules in
    let count : c.len-before.result + length part.bytes ≡ length old.held + length part.bytes = ap (λ n. n + length part.bytes) (before ∙ ap length keeps.held) in (
      gap_answer old part c.take-taken.result.differs got.0,
      subst (ArePackets []) (sym c.clear.ensures.items) no_packet,
      (ap (λ (t : Taken). t.left_out) c.left_out.ensures ∙ ap (lost why.Gap) count, ap (λ (t : Taken). t.differs) c.left_out.ensures, got.1),
      up.0,
      up.1,
      up.2,
    )

pub returns-in-NoMemory-clause-reads : goal.returns-in-NoMemory-clause-reads
returns-in-NoMemory-clause-reads c = λ old keeps.
    let part = part_of c.args.piece.now in
    let at = comes c.args.self.now old part c.take-taken.new.self c.take-taken.result keeps c.take-taken.ensures.takes c.take-taken.ensures.known.1 in
    let up = gives_up c.close.new.self old part c.take-taken.result.place c.take-taken.result.differs false at (inl refl) c.close.ensures.closed in
    (gap_answer old part c.take-taken.result.differs false, subst (ArePackets []) (sym c.clear.ensures.items) no_packet, refl, up.0, up.1, up.2)

pub returns-in_default-hand_on-clause-reads : goal.returns-in_default-hand_on-clause-reads
returns-in_default-hand_on-clause-reads c = λ old keeps.
    let part = part_of c.args.piece.now in
    let at = comes c.args.self.now old part c.take-taken.new.self c.take-taken.result keeps c.take-taken.ensures.takes c.take-taken.ensures.known.1 in
    let up = gives_up c.close-in_default-hand_on.new.self old part c.take-taken.result.place c.take-taken.result.differs false at (inl refl) c.close-in_default-hand_on.ensures.closed in
    (gap_answer old part c.take-taken.result.differs false, subst (ArePackets []) (sym c.clear-in_default-hand_on.ensures.items) no_packet, refl, up.0, up.1, up.2)

pub returns-in_default-closed_by-clause-reads : goal.returns-in_default-closed_by-clause-reads
returns-in_default-closed_by-clause-reads c = λ old keeps.
    let part = part_of c.args.piece.now in
    let place = c.take-taken.result.place in
    let differs = c.take-taken.result.differs in
    let at = comes c.args.self.now old part c.take-taken.new.self c.take-taken.result keeps c.take-taken.ensures.takes c.take-taken.ensures.known.1 in
    let whole = took c.args.self.now (record c.args.self.now { direction = c.take-taken.new.self }) old part c.take-taken.result keeps c.take-taken.ensures.takes (search rules) refl c.take-taken.ensures.first refl in
    let got = c.in-Ok.ensures.hands_on (with_segment old place part) whole in
    let held : c.len-held.result ≡ length c.spare.new.self.held.items = search rules in
    let end = ends c.spare.new.self c.spare.new.self old got.2 part got.0 differs place c.in-Ok.rest c.len-held.result c.ends_at-is_missing.result _ None held at got.3 (c.spare.ensures.reads got.2 got.4) got.5
    c.in_default-closed_by.ensures (λ t. ((c.ends_at-is_missing.ensures.yes t).0, sym c.handed.ensures.value ∙ (c.ends_at-is_missing.ensures.yes t).1))
    (λ f cut is. c.ends_at-is_missing.ensures.no f cut (c.handed.ensures.value ∙ is)) refl in
    let grows = c.take-taken.ensures.takes.grows in (
      record { packets = got.0; left_out = None; differs = differs; fits = end.0 },
      got.1,
      (
        refl,
        refl,
        λ e. scarce c.args.room c.kept.result c.len-held.result (charge_of c.spare.new.self.direction.runs) (charge_of c.take-taken.new.self.runs) (kept_of c.args.self.now) (length part.bytes)
            (end.1 e).0 (omega (arith, c.kept.ensures, held)) (end.1 e).1 (omega (arith, c.spare.ensures.charge, c.in-Ok.ensures.charge)) (omega (arith, grows)),
      ),
      end.2,
      end.3,
      end.4,
    )

pub returns-clause-reads : goal.returns-clause-reads
returns-clause-reads c = λ old keeps.
    let part = part_of c.args.piece.now in
    let place = c.take-taken.result.place in
    let differs = c.take-taken.result.differs in
    let at = comes c.args.self.now old part c.take-taken.new.self c.take-taken.result keeps c.take-taken.ensures.takes c.take-taken.ensures.known.1 in
    let whole = took c.args.self.now (record c.args.self.now { direction = c.take-taken.new.self }) old part c.take-taken.result keeps c.take-taken.ensures.takes (search rules) refl c.take-taken.ensures.first refl in
    let got = c.in-Ok.ensures.hands_on (with_segment old place part) whole in
    let held : c.len-held.result ≡ length c.spare.new.self.held.items = search rules in
    let closed = c.in-Some-closed_by.closed in
    let end = ends c.spare.new.self c.close-2.new.self old got.2 part got.0 differs place c.in-Ok.rest c.len-held.result c.ends_at-is_missing.result _ (Some closed) held at got.3 (c.spare.ensures.reads got.2 got.4) got.5
    c.in-Some-closed_by.ensures (λ t. ((c.ends_at-is_missing.ensures.yes t).0, sym c.handed.ensures.value ∙ (c.ends_at-is_missing.ensures.yes t).1))
    (λ f cut is. c.ends_at-is_missing.ensures.no f cut (c.handed.ensures.value ∙ is)) c.close-2.ensures.closed in
    let grows = c.take-taken.ensures.takes.grows in (
      record { packets = got.0; left_out = lost (reason_of closed) c.len-held.result; differs = differs; fits = end.0 },
      got.1,
      (
        ap (λ (t : Taken). t.left_out) c.left_out-2.ensures ∙ ap (λ r. lost r c.len-held.result) c.reason.ensures,
        ap (λ (t : Taken). t.differs) c.left_out-2.ensures,
        λ e. scarce c.args.room c.kept.result c.len-held.result (charge_of c.spare.new.self.direction.runs) (charge_of c.take-taken.new.self.runs) (kept_of c.args.self.now) (length part.bytes)
            (end.1 e).0 (omega (arith, c.kept.ensures, held)) (end.1 e).1 (omega (arith, c.spare.ensures.charge, c.in-Ok.ensures.charge)) (omega (arith, grows)),
      ),
      end.2,
      end.3,
      end.4,
    )
