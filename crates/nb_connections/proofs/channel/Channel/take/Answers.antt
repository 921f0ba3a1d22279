use Rattle.std.proofs.Common.{sym, subst, ◌∙◌, rules, []}
use Rattle.nb_session.specs.Cutting.{ArePackets, no_packet}
use Rattle.nb_connections.specs.Channels.{kept_of}
use Rattle.nb_connections.specs.Course.{reading_at}
use Rattle.nb_connections.specs.Reading.{part_of}
use Rattle.nb_connections.proofs.ChannelLemmas.{Opens, follows_on, passed_answer, passes}
use Rattle.nb_connections.proofs.channel.Channel.take.Goals as goal

pub returns-in-Some-clause-follows : goal.returns-in-Some-clause-follows
returns-in-Some-clause-follows c = λ direction g.
    let part = part_of c.args.piece.now in
    let closed = c.in-Some.closed in (
      passed_answer closed part,
      subst (ArePackets []) (sym c.clear.ensures.items) no_packet,
      (search rules, search rules, λ e. absurd (cc)),
      passes c.args.self.now c.closed_at.new.self direction part closed
          (λ state keeps. subst (λ r. Opens c.args.self.now c.closed_at.new.self r (reading_at state part.number)) (search rules) (c.closed_at.ensures.reads state keeps)) g,
    )

pub returns-clause-follows : goal.returns-clause-follows
returns-clause-follows c = λ direction g.
    let part = part_of c.args.piece.now in
    follows_on c.args.self.now c.closed_at.new.self c.read.new.self direction part c.read.new.ready.items (kept_of c.closed_at.new.self) (kept_of c.args.self.now) c.args.room c.read.result
    c.closed_at.ensures.kept (c.read.ensures.first ∙ c.closed_at.ensures.first)
    (λ state keeps. subst (λ r. Opens c.args.self.now c.closed_at.new.self r (reading_at state part.number)) (search rules) (c.closed_at.ensures.reads state keeps)) c.read.ensures.reads g
