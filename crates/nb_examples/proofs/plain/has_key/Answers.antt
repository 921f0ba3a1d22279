use Rattle.std.proofs.Common.{◌≡◌, ◌∙◌, ap, sym}
use Rattle.std.specs.Cmp.{both_ways}
use Rattle.nb_datagram.specs.declared.key.Key.{Key}
use Rattle.nb_datagram.specs.Key.{same_key, same_key_decides}
use Rattle.nb_datagram.specs.Equality.{key_eq}
use Rattle.nb_datagram.specs.EqualityFacts.{key_eq_decides}
use Rattle.nb_examples.proofs.plain.has_key.Goals as goal

-- the two tests of keys are one, whichever key stands first
same_test : (a b : Key) → key_eq a b ≡ same_key b a
same_test a b =
    both_ways _ _ (λ h. (same_key_decides b a).1 (sym ((key_eq_decides a b).0 h))) (λ h. (key_eq_decides a b).1 (sym ((same_key_decides b a).0 h)))

pub returns : goal.returns
returns c = c.eq.ensures ∙ same_test c.key.result c.args.key.now ∙ ap (same_key c.args.key.now) c.key.ensures
