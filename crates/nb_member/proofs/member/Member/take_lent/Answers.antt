use Rattle.nb_member.proofs.Common.{refl, subst, ap, ◌∙◌, err_from_is_err_and, IsPacket, MemberValue, with_timed, outcome_of}
use Rattle.nb_datagram.specs.Packet.{Packet}
use Rattle.nb_member.proofs.member.Member.take_lent.Goals as goal
use Rattle.nb_member.specs.Taking.{fragment, error, query, no_packet}

pub returns-in_ok-change-in-Ok-Direct-default : goal.returns-in_ok-change-in-Ok-Direct-default
returns-in_ok-change-in-Ok-Direct-default c =
    let d = c.in-Ok-Direct-default in
    let found = subst (λ (p : Packet). IsPacket c.args.payload.now p d.field-0-1) d.field-0-0-is d.ensures.found in
    let m : MemberValue = record { settings = c.self.inside.settings; names = c.self.inside.names; timed = c.self.inside.timed } in
    let e = c.in_ok-change-in-Ok-Direct-default in
    let told = e.ensures.change in
    fragment d.fragment d.field-0-1 _ found (rw (← c.self.view_is) (record {
      takes = e.ensures.taken;
      joined = ap (with_timed m) e.ensures.joined;
      change = told.0;
      changed = told.1;
      answered = c.outcome_of.ensures ∙ ap (outcome_of m.settings m.names d.fragment.key) told.2;
    }))

pub returns-in_err-change-in-Ok-Direct-default : goal.returns-in_err-change-in-Ok-Direct-default
returns-in_err-change-in-Ok-Direct-default c =
    let d = c.in-Ok-Direct-default in
    let found = subst (λ (p : Packet). IsPacket c.args.payload.now p d.field-0-1) d.field-0-0-is d.ensures.found in
    let m : MemberValue = record { settings = c.self.inside.settings; names = c.self.inside.names; timed = c.self.inside.timed } in
    let p = err_from_is_err_and c.from_residual.result c.from_residual.ensures.1 in
    let e = c.in_err-change-in-Ok-Direct-default in
    fragment d.fragment d.field-0-1 _ found (rw (p.1, p.2, ← c.self.view_is) (e.ensures.refused, ap (with_timed m) e.ensures.kept))

pub returns-in-Ok-Error-default : goal.returns-in-Ok-Error-default
returns-in-Ok-Error-default c =
    let d = c.in-Ok-Error-default in
    let found = subst (λ (p : Packet). IsPacket c.args.payload.now p d.field-0-1) d.field-0-0-is d.ensures.found in
    error d.field-0-0-0 d.field-0-1 found refl

pub returns-in-Ok-Query-default : goal.returns-in-Ok-Query-default
returns-in-Ok-Query-default c =
    let d = c.in-Ok-Query-default in
    let found = subst (λ (p : Packet). IsPacket c.args.payload.now p d.field-0-1) d.field-0-0-is d.ensures.found in
    query d.field-0-0-0 d.field-0-1 found refl

pub returns-in-Err : goal.returns-in-Err
returns-in-Err c =
    rw c.error_for.ensures (rw (← c.self.view_is) (no_packet c.in-Err.fault c.in-Err.ensures.fault refl))
