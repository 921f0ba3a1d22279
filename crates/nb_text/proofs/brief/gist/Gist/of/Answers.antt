use Rattle.std.proofs.Common.{◌≡◌, List, None, arith}
use Rattle.nb_service.specs.Packet.{RecordAt}
use Rattle.nb_service.specs.Record.{ResourceRecord}
use Rattle.nb_service.proofs.ItemLemmas.{read_is_ok, read_is}
use Rattle.nb_text.specs.ServiceSaid.{gist_of}
use Rattle.nb_text.proofs.HeardLemmas.{told_none}
use Rattle.nb_service.proofs.RowWalks.{walk_begun, walk_item, walk_step, walk_ended}
use Rattle.nb_text.proofs.brief.gist.Gist.of.Goals as goal

pub loop-init : goal.loop-init
loop-init c =
    walk_begun (RecordAt c.args.names.now) c.args.at c.args.count
    (λ (rs : List ResourceRecord). record { ttl = None; flags = None; listed = c.new.result; unit = None; server = None } ≡ gist_of c.args.status rs)
    (told_none c.args.status c.new.result c.new.ensures)

pub unwrap-seen-requires : goal.unwrap-seen-requires
unwrap-seen-requires c =
    let next = walk_item (RecordAt c.args.names.now) _ _ c.loop.counter c.loop.next (λ (rs : List ResourceRecord). c.loop.told ≡ gist_of c.args.status rs)
    c.requires c.loop-test.true c.loop.invariant in
    read_is_ok c.see_record.result _ (c.see_record.ensures.only next.0 next.1 next.2)

pub hear-requires : goal.hear-requires
hear-requires c =
    let next = walk_item (RecordAt c.args.names.now) _ _ c.loop.counter c.loop.next (λ (rs : List ResourceRecord). c.loop.told ≡ gist_of c.args.status rs)
    c.requires c.loop-test.true c.loop.invariant in
    let seen = read_is c.see_record.result _ _ c.unwrap-seen.ensures (c.see_record.ensures.only next.0 next.1 next.2) in
    (next.0, seen.1)

pub loop-preserved : goal.loop-preserved
loop-preserved c =
    walk_step (RecordAt c.args.names.now) _ _ c.loop.counter c.loop.next _ (λ (rs : List ResourceRecord). c.loop.told ≡ gist_of c.args.status rs)
    (λ (rs : List ResourceRecord). c.hear.new.self ≡ gist_of c.args.status rs) c.loop-test.true c.loop.invariant
    (λ before entry after stands held.
    let seen = read_is c.see_record.result _ _ c.unwrap-seen.ensures (c.see_record.ensures.only entry after stands) in
    (seen.2, c.hear.ensures entry before seen.1 held))

pub returns : goal.returns
returns c records next row =
    (walk_ended (RecordAt c.args.names.now) _ _ c.loop.counter _ (λ (rs : List ResourceRecord). c.loop.told ≡ gist_of c.args.status rs) (omega arith) c.loop.invariant
    records next row).1
