use Rattle.nb_member.proofs.Common.{Ok, Err, ap, refl, subst, err_from_is_err_and, IsPacket, Other, MemberValue, with_timed, outcome_of}
use Rattle.nb_datagram.specs.Packet.{Packet}
use Rattle.nb_member.proofs.member.Member.hold.Goals as goal
use Rattle.nb_member.specs.Taking.{fragment, error, query, no_packet}

pub returns-in_ok-insert-in-Ok-Direct-default-clause-taken : goal.returns-in_ok-insert-in-Ok-Direct-default-clause-taken
returns-in_ok-insert-in-Ok-Direct-default-clause-taken c =
    let d = c.in-Ok-Direct-default in
    let found = subst (λ (p : Packet). IsPacket c.args.payload.now p d.field-0-1) d.field-0-0-is d.ensures.found in
    let m : MemberValue = record { settings = c.self.inside.settings; names = c.self.inside.names; timed = c.self.inside.timed } in
    let e = c.in_ok-insert-in-Ok-Direct-default in
    let told = e.ensures.change in
    let outcome = outcome_of m.settings m.names d.fragment.key told.0 in
    rw (← c.self.view_is) (
      outcome,
      fragment d.fragment d.field-0-1 (Ok outcome) found (record {
        takes = e.ensures.taken;
        joined = ap (with_timed m) e.ensures.joined;
        change = told.0;
        changed = told.1;
        answered = refl;
      }),
    )

pub returns-in_err-insert-in-Ok-Direct-default-clause-refused : goal.returns-in_err-insert-in-Ok-Direct-default-clause-refused
returns-in_err-insert-in-Ok-Direct-default-clause-refused c =
    let d = c.in-Ok-Direct-default in
    let found = subst (λ (p : Packet). IsPacket c.args.payload.now p d.field-0-1) d.field-0-0-is d.ensures.found in
    let m : MemberValue = record { settings = c.self.inside.settings; names = c.self.inside.names; timed = c.self.inside.timed } in
    let p = err_from_is_err_and c.from_residual.result c.from_residual.ensures.1 in
    let e = c.in_err-insert-in-Ok-Direct-default in
    rw p.1 (fragment d.fragment d.field-0-1 (Err p.0) found (rw (p.2, ← c.self.view_is) (e.ensures.refused, ap (with_timed m) e.ensures.kept)))

pub returns-in-Ok-Error-default-clause-taken : goal.returns-in-Ok-Error-default-clause-taken
returns-in-Ok-Error-default-clause-taken c =
    let d = c.in-Ok-Error-default in
    let found = subst (λ (p : Packet). IsPacket c.args.payload.now p d.field-0-1) d.field-0-0-is d.ensures.found in
    (Other, error d.field-0-0-0 d.field-0-1 found refl)

pub returns-in-Ok-Query-default-clause-taken : goal.returns-in-Ok-Query-default-clause-taken
returns-in-Ok-Query-default-clause-taken c =
    let d = c.in-Ok-Query-default in
    let found = subst (λ (p : Packet). IsPacket c.args.payload.now p d.field-0-1) d.field-0-0-is d.ensures.found in
    (Other, query d.field-0-0-0 d.field-0-1 found refl)

pub returns-in-Err-clause-refused : goal.returns-in-Err-clause-refused
returns-in-Err-clause-refused c =
    rw c.error_for.ensures (rw (← c.self.view_is) (no_packet c.in-Err.fault c.in-Err.ensures.fault refl))
