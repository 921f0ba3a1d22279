use Rattle.std.proofs.Common.{◌≡◌, refl, sym, ap, subst, rules, arith, ◌<◌, false, [], ◌∷◌, cond}
use Rattle.std.proofs.lemmas.Grind.{common_steps}
use Rattle.std.proofs.lemmas.Result.{on_ok_weaker}
use Rattle.nb_survey.specs.declared.limits.TheConstants.{MAX_NAMES}
use Rattle.nb_survey.proofs.KeepLemmas.{bounded_on, passes, takes_both, takes_word}
use Rattle.nb_survey.proofs.PlaceLemmas.{name_self}
use Rattle.nb_survey.proofs.survey.Survey.hear.Goals as goal

pub returns-clause-heard : goal.returns-clause-heard
returns-clause-heard c =
    let mid = c.admit.new.self in
    let s = c.args.said.now in
    let kept = c.hear-2.new.self in
    on_ok_weaker c.hear-2.result (λ heard. takes_both c.args.self.now mid _ [] (s ∷ []) [] [] c.in_ok-admit.ensures.admitted
    (takes_word mid _ s c.in_ok-has_room.has_room _ kept (record {
      there = sym c.in-Some.ensures.value;
      rows = c.in_ok-has_room.ensures.heard.0;
      refusals = c.in_ok-has_room.ensures.heard.1;
      names = λ name. grind (arith, common_steps, ((c.get_mut.follows.holds kept).3 (search rules)).0 name);
      others = refl;
      whole = heard.0;
      queries = c.hear-2.ensures.queries;
      room = λ has.
          let rows = c.in_ok-has_room.ensures.room has.rows in (
            record {
              names = subst (λ n. n < MAX_NAMES) (c.get_mut.follows.holds kept).2 has.names;
              rows = rows.0;
              requests = omega (arith, c.hear-2.ensures.grows, has.requests);
            },
            heard.1 has.requests rows.1,
          );
    }) (name_self s.place.name))) c.hear-2.ensures.heard

pub returns-then-not-branch-clause-heard : goal.returns-then-not-branch-clause-heard
returns-then-not-branch-clause-heard c =
    let mid = c.admit.new.self in
    let s = c.args.said.now in
    let off : c.in_ok-admit.field-0 ≡ false = search rules in
    let left = c.in_ok-admit.ensures.left off in
    takes_both c.args.self.now mid mid [] (s ∷ []) [] [] c.in_ok-admit.ensures.admitted
    (passes mid s.place.name left.0 left.1 (s ∷ []) [] (λ name apart. ap (λ b. cond b (s ∷ []) []) apart) (λ name apart. refl))

pub returns-in_err-has_room-clause-bounded : goal.returns-in_err-has_room-clause-bounded
returns-in_err-has_room-clause-bounded c = λ b.
    let kept = c.in-Some.kept.now in
    bounded_on c.admit.new.self _ c.args.said.now.place.name kept kept (sym c.in-Some.ensures.value) (c.get_mut.follows.holds kept).0
    (omega arith) (λ within. within) c.hear.ensures.bounded refl (c.admit.ensures.bounded b)

pub returns-clause-bounded : goal.returns-clause-bounded
returns-clause-bounded c = λ b.
    let kept = c.hear-2.new.self in
    bounded_on c.admit.new.self _ c.args.said.now.place.name _ kept (sym c.in-Some.ensures.value) (c.get_mut.follows.holds kept).0
    c.hear-2.ensures.counted c.hear-2.ensures.within c.hear.ensures.bounded refl (c.admit.ensures.bounded b)
