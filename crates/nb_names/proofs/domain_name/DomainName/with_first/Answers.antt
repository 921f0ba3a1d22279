use Rattle.std.proofs.Common.{◌≡◌, ◌∷◌, rules}
use Rattle.nb_names.specs.DomainName.{spelling, IsDomain}
use Rattle.nb_names.proofs.SpellingLemmas.{labels_of-spelled, spelled}
use Rattle.nb_names.proofs.domain_name.DomainName.with_first.Goals as goal

-- the bytes written are the spelling
exact : (c : goal.After-unwrap-2) → c.try_extend_from_slice-2.new.self.items ≡ spelling (c.args.label.now ∷ c.args.rest.now)
exact c = search rules

domain : (c : goal.After-unwrap-2) → IsDomain (c.args.label.now ∷ c.args.rest.now)
domain c = record { each = (c.requires.label, c.spelling.ensures.domain.each); short = c.requires.short }

pub invariant_of-result : goal.invariant_of-result
invariant_of-result c = spelled _ _ (domain c) (exact c)

pub returns : goal.returns
returns c = labels_of-spelled _ _ (domain c) (exact c)
