use Rattle.std.proofs.Common.{refl, rules}
use Rattle.std.proofs.lemmas.List.{take_rest}
use Rattle.nb_tcp.proofs.PartLemmas.{agreed_rest, contradicts_rest}
use Rattle.nb_tcp.proofs.putting.contradicts.Goals as goal

pub parts-preserved : goal.parts-preserved
parts-preserved c = record {
  within = search rules;
  agreed = agreed_rest _ _ _ _ c.parts.count c.in-Some.more
      (take_rest c.args.bytes.now c.parts.count) c.parts.invariant.agreed c.in-Some.ensures.some;
}

pub returns-in-None-clause-yes : goal.returns-in-None-clause-yes
returns-in-None-clause-yes c = λ _. contradicts_rest _ _ _ _ c.parts.count
    (take_rest c.args.bytes.now c.parts.count) c.parts.invariant.within (c.in-None.ensures.none refl)
