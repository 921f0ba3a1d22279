use Rattle.std.proofs.lemmas.Result.{on_ok_weaker}
use Rattle.std.proofs.Common.{length}
use Rattle.nb_text.specs.Said.{parsed_said}
use Rattle.nb_text.specs.Made.{session}
use Rattle.nb_text.proofs.SaidLemmas.{adds}
use Rattle.nb_text.proofs.brief.sessions.push_session.Goals as goal

pub returns : goal.returns
returns c port a b = (
  on_ok_weaker c.push_parsed.result
      (λ added. adds c.args.payload.now port (parsed_said c.parse_lent.result (length c.args.payload.now)) _ _ (session port c.parse_lent.result a b c.parse_lent.ensures.stands) added)
      c.push_parsed.ensures.0,
  c.push_parsed.ensures.1,
)
