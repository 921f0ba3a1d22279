use Rattle.nb_entries.proofs.Common.{not_from_Decides, datagram_of, IfOk-weaker, newly_never, newly_always}
use Rattle.nb_entries.proofs.entry.joining.Slot+EntryFacts.newly_whole.Goals as goal

pub returns-then-is_whole : goal.returns-then-is_whole
returns-then-is_whole c = newly_never c.args.key c.args.before.now (datagram_of c.args.key c.args.self.now) (c.is_whole.ensures.0 c.if-is_whole.true)

pub returns : goal.returns
returns c =
    IfOk-weaker c.datagram_of.result _ _
    (λ made same. newly_always c.args.key c.args.before.now made (datagram_of c.args.key c.args.self.now) (not_from_Decides c.is_whole.result c.is_whole.ensures c.if-is_whole.false) same)
    c.datagram_of.ensures.value
