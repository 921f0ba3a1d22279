use Rattle.nb_member.proofs.Common.{◌≡◌, sym, ap, ◌∙◌, subst, MatchOption, Direct, IsPacket, MemberValue, TableValue, Refuses}
use Rattle.nb_datagram.specs.Packet.{Packet}
use Rattle.nb_table.specs.Insert.{Takes}
use Rattle.nb_member.proofs.TakingLemmas.FullKeys.{begins_by, met_by}
use Rattle.nb_member.proofs.member.Member.limit_met.Goals as goal

pub returns-in-Ok-Direct-default : goal.returns-in-Ok-Direct-default
returns-in-Ok-Direct-default c =
    let m = c.args.self.now in
    let d = c.in-Ok-Direct-default in
    let found = subst (λ (p : Packet). IsPacket c.args.payload.now p d.field-0-1) d.field-0-0-is d.ensures.found in
    let table : c.table.result.now ≡ m.timed.table = c.table.ensures ∙ ap (λ (x : MemberValue). x.timed.table) c.self.view_is in
    let refusal = subst (λ (t : TableValue). MatchOption c.refusal_of_lent.result (Takes t d.fragment) (Refuses t d.fragment)) table c.refusal_of_lent.ensures.refusal in
    begins_by m c.args.payload.now d.fragment d.field-0-1 c.limit_of.result found
    (λ g used p. sym d.field-0-0-is ∙ (d.ensures.only (Direct g) used p).0)
    (rw c.limit_of.ensures (met_by m d.fragment c.refusal_of_lent.result refusal c.refusal_of_lent.ensures.no_memory_needed))

pub returns-in-Err : goal.returns-in-Err
returns-in-Err c = λ stop b. c.in-Err.ensures.only (Direct b.f) b.used b.found
