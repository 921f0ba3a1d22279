use Rattle.nb_member.proofs.Common.{arith, key_fields}
use Rattle.nb_telling.proofs.ObjectLemmas.{told_object}
use Rattle.nb_member.proofs.listing.key_object.Goals as goal

pub returns : goal.returns
returns c =
    told_object _ _ (key_fields c.args.table.now.contents c.args.key) 1 _ _ c.in_ok-sink.ensures c.in_ok-tell_key.ensures.told
    c.in_ok-made.ensures.bytes (c.fields_are_members.ensures.keys c.args.table.now.contents c.args.key) (omega arith) c.in_ok-made.ensures.json
    c.in_ok-end_line.ensures
