use Rattle.std.proofs.Common.{◌≡◌, refl, sym, subst, rules, arith, ◌<◌, false, [], ◌∷◌}
use Rattle.std.proofs.lemmas.Grind.{common_steps}
use Rattle.std.proofs.lemmas.Result.{on_ok_weaker}
use Rattle.nb_survey.specs.declared.limits.TheConstants.{MAX_NAMES}
use Rattle.nb_survey.proofs.KeepLemmas.{bounded_on, packet_apart, passes, takes_both, takes_packet}
use Rattle.nb_survey.proofs.PlaceLemmas.{name_self}
use Rattle.nb_survey.proofs.survey.Survey.ask.Goals as goal

pub returns-clause-heard : goal.returns-clause-heard
returns-clause-heard c =
    let mid = c.admit.new.self in
    let heard = c.args.heard.now in
    let n = c.in-Some.name in
    let kept = c.ask.new.self in
    on_ok_weaker c.ask.result (λ asked. takes_both c.args.self.now mid _ [] [] [] (heard ∷ []) c.in_ok-admit.ensures.admitted
    (takes_packet mid _ heard n _ kept (record {
      named = c.in-Some.is;
      there = sym c.in-Some-get_mut.ensures.value;
      tables = refl;
      names = λ name. grind (arith, common_steps, ((c.get_mut.follows.holds kept).3 (search rules)).0 name);
      others = refl;
      whole = asked.0;
      requests = c.ask.ensures.requests;
      room = λ has. (
        record {
          names = subst (λ n. n < MAX_NAMES) (c.get_mut.follows.holds kept).2 has.names;
          rows = has.rows;
          requests = omega (arith, c.ask.ensures.grows, has.requests);
        },
        asked.1 has.requests,
      );
    }) (name_self n))) c.ask.ensures.asked

pub returns-then-not-branch-clause-heard : goal.returns-then-not-branch-clause-heard
returns-then-not-branch-clause-heard c =
    let mid = c.admit.new.self in
    let heard = c.args.heard.now in
    let off : c.in_ok-admit.field-0 ≡ false = search rules in
    let left = c.in_ok-admit.ensures.left off in
    takes_both c.args.self.now mid mid [] [] [] (heard ∷ []) c.in_ok-admit.ensures.admitted
    (passes mid c.in-Some.name left.0 left.1 [] (heard ∷ []) (λ name apart. refl) (packet_apart heard c.in-Some.name c.in-Some.is))

pub returns-clause-bounded : goal.returns-clause-bounded
returns-clause-bounded c = λ b.
    let kept = c.ask.new.self in
    bounded_on c.admit.new.self _ c.in-Some.name _ kept (sym c.in-Some-get_mut.ensures.value) (c.get_mut.follows.holds kept).0
    c.ask.ensures.counted c.ask.ensures.within (λ names refusals. (names, refusals)) refl (c.admit.ensures.bounded b)
