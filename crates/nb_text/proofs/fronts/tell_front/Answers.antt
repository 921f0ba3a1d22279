use Rattle.std.proofs.Common.{◌≡◌, ◌++◌, ℕ, List, fold, refl, sym, subst}
use Rattle.std.proofs.lemmas.Result.{on_ok_weaker}
use Rattle.nb_telling.specs.Telling.{Field}
use Rattle.nb_telling.proofs.FoldLemmas.{and_then}
use Rattle.nb_text.specs.Tells.{IsTold}
use Rattle.nb_text.specs.TellsFront.{FrontOf, IsFrontTold}
use Rattle.nb_text.proofs.fronts.tell_front.Goals as goal

-- what a packet tells, and then what still stands
both_told : {S : Type 0} (after : S → Field → S) (payload : List ℕ) (port : ℕ) (old mid new : S) → IsTold after payload port old mid
    → (more : List Field) × FrontOf payload port more × (new ≡ fold after mid more) → IsFrontTold after payload port old new
both_told after payload port old mid new told more = record {
  fields = told.fields ++ more.0;
  tells = record { told = told.fields; more = more.0; tells = told.tells; stands = more.1; are = refl };
  seen = and_then after old told.fields more.0 told.seen more.2;
}

pub returns-clause-told : goal.returns-clause-told
returns-clause-told g c =
    on_ok_weaker c.tell_session_front.result
    (λ more. both_told g.S.Sink.after _ _ _ _ _ c.in_ok-tell_packet.ensures.told (more c.args.port c.if-port-eq137.false c.if-port-eq138.false))
    c.tell_session_front.ensures.told

pub returns-then-port-eq138-clause-told : goal.returns-then-port-eq138-clause-told
returns-then-port-eq138-clause-told g c =
    on_ok_weaker c.tell_datagram_front.result
    (λ more. both_told g.S.Sink.after _ _ _ _ _ c.in_ok-tell_packet.ensures.told
    (more.0, subst (λ (port : ℕ). FrontOf c.args.payload.now port more.0) (sym c.if-port-eq138.true) more.1, more.2))
    c.tell_datagram_front.ensures.told

pub returns-then-port-eq137-clause-told : goal.returns-then-port-eq137-clause-told
returns-then-port-eq137-clause-told g c = rw c.if-port-eq137.true c.tell_service.ensures.told
