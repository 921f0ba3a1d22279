use Rattle.std.proofs.Common.{rules, ◌≡◌, ◌<◌, ◌≤◌, ◌+◌, [], ◌∷◌, ◌++◌, length, arith, ap, refl}
use Rattle.std.proofs.lemmas.Bool.Decides.{nat_tests}
use Rattle.nb_names.specs.DomainName.{spelling, IsDomain, IsLabel}
use Rattle.nb_names.specs.Code.Kept.{labels_of}
use Rattle.nb_names.proofs.SpellingLemmas.{length-spelling-snoc, spelling-pushed, IsDomain-pushed, labels_of-spelled, spelled}
use Rattle.nb_names.proofs.domain_name.DomainName.push_within.Goals as goal

pub returns-then-len-label : goal.returns-then-len-label
returns-then-len-label c =
    let size = ap length c.self.invariant.exact in
    let some : 0 < length c.args.label.now = grind (arith, nat_tests) in
    (rw (← c.self.view_is) ((omega arith, omega arith), omega (arith, length-spelling-snoc (labels_of c.self.inside.bytes.items) c.args.label.now)), refl)

label_is : (c : goal.After-push-2) → IsLabel c.args.label.now
label_is c = (grind (arith, nat_tests), omega arith)

room : (c : goal.After-push-2) → length (spelling (labels_of c.self.inside.bytes.items)) + (length c.args.label.now + 1) ≤ c.args.limit
room c = let size = ap length c.self.invariant.exact in omega arith

-- the new bytes spell the labels with the new one
exact : (c : goal.After-push-2) → c.push-2.new.self.items ≡ spelling (labels_of c.self.inside.bytes.items ++ c.args.label.now ∷ [])
exact c =
    let extended : c.try_extend_from_slice.new.self.items ≡ c.push.new.self.items ++ c.args.label.now = search rules in
    spelling-pushed _ c.self.inside.bytes.items c.pop.new.self.items _ _ c.self.invariant.exact c.pop.ensures.rest (cc)

domain : (c : goal.After-push-2) → IsDomain (labels_of c.self.inside.bytes.items ++ c.args.label.now ∷ [])
domain c = IsDomain-pushed _ _ c.self.invariant.domain (label_is c) (omega (arith, room c))

pub invariant_of-self : goal.invariant_of-self
invariant_of-self c = spelled _ _ (domain c) (exact c)

pub returns : goal.returns
returns c =
    rw (← c.self.view_is) (label_is c, omega (arith, room c, length-spelling-snoc (labels_of c.self.inside.bytes.items) c.args.label.now), labels_of-spelled _ _ (domain c) (exact c))
