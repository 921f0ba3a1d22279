use Rattle.nb_building.proofs.Common.{positive, keepalive, refl}
use Rattle.nb_building.proofs.BuiltLemmas.{bare_built}
use Rattle.nb_building.proofs.UnnamedLemmas.{bare_explained}
use Rattle.nb_building.proofs.session.build.Goals as goal

pub returns-in-request-clause-built : goal.returns-in-request-clause-built
returns-in-request-clause-built c = rw c.in-request.is c.request.ensures.built

pub returns-in-message-clause-built : goal.returns-in-message-clause-built
returns-in-message-clause-built c = rw c.in-message.is c.message.ensures.built

pub returns-in-negative-clause-built : goal.returns-in-negative-clause-built
returns-in-negative-clause-built c = rw c.in-negative.is c.negative.ensures.built

pub returns-in-retarget-clause-built : goal.returns-in-retarget-clause-built
returns-in-retarget-clause-built c = rw c.in-retarget.is c.retarget.ensures.built

pub returns-in-positive-clause-built : goal.returns-in-positive-clause-built
returns-in-positive-clause-built c = bare_built (λ w. w.now) _ _ c.args.words.now _ c.bare.result c.in-positive.is positive c.bare.ensures.built

pub returns-in-keepalive-clause-built : goal.returns-in-keepalive-clause-built
returns-in-keepalive-clause-built c =
    bare_built (λ w. w.now) _ _ c.args.words.now _ c.bare-in-keepalive.result c.in-keepalive.is keepalive c.bare-in-keepalive.ensures.built

pub returns-in-positive-clause-refused : goal.returns-in-positive-clause-refused
returns-in-positive-clause-refused c = bare_explained (λ w. w.now) _ _ c.args.words.now c.bare.result c.in-positive.is refl c.bare.ensures.refused

pub returns-in-keepalive-clause-refused : goal.returns-in-keepalive-clause-refused
returns-in-keepalive-clause-refused c =
    bare_explained (λ w. w.now) _ _ c.args.words.now c.bare-in-keepalive.result c.in-keepalive.is refl c.bare-in-keepalive.ensures.refused

pub returns-in-request-clause-refused : goal.returns-in-request-clause-refused
returns-in-request-clause-refused c = rw c.in-request.is c.request.ensures.refused

pub returns-in-message-clause-refused : goal.returns-in-message-clause-refused
returns-in-message-clause-refused c = rw c.in-message.is c.message.ensures.refused

pub returns-in-negative-clause-refused : goal.returns-in-negative-clause-refused
returns-in-negative-clause-refused c = rw c.in-negative.is c.negative.ensures.refused

pub returns-in-retarget-clause-refused : goal.returns-in-retarget-clause-refused
returns-in-retarget-clause-refused c = rw c.in-retarget.is c.retarget.ensures.refused
