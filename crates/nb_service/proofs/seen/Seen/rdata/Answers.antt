use Rattle.std.proofs.Common.{◌≡◌, ◌∙◌, ◌-◌, ap, sym, arith}
use Rattle.nb_service.specs.Record.{of_domain}
use Rattle.nb_service.proofs.ItemLemmas.{data_bytes, data_domain, seen_rdata, seen_end, read_is_ok, read_is}
use Rattle.nb_service.proofs.seen.Seen.rdata.Goals as goal

pub returns-then-self-ne-NS : goal.returns-then-self-ne-NS
returns-then-self-ne-NS c entry sees =
    let size : c.args.self.now.fields.extent.next - c.args.self.now.fields.extent.rdata ≡ sees.stands.size = omega (arith, seen_end _ _ _ sees) in
    rw (c.packet-packet.ensures, size) (data_bytes _ _ _ _ _ c.if-self-ne-NS.true (seen_rdata _ _ _ sees))

pub unwrap-domain-requires : goal.unwrap-domain-requires
unwrap-domain-requires c =
    let sees = c.requires.1 in
    let there = data_domain _ _ _ _ _ c.if-self-ne-NS.false (seen_rdata _ _ _ sees) in
    read_is_ok c.read_domain.result _ (c.read_domain.ensures.only there.0 _ there.2)

pub returns : goal.returns
returns c entry sees =
    let there = data_domain _ _ _ _ _ c.if-self-ne-NS.false (seen_rdata _ _ _ sees) in
    let read = read_is c.read_domain.result _ _ c.unwrap-domain.ensures (c.read_domain.ensures.only there.0 _ there.2) in
    ap of_domain read.0 ∙ sym there.1
