use Rattle.std.proofs.Common.{arith}
use Rattle.nb_names.specs.Name.{IsByteName}
use Rattle.nb_names.proofs.name.Name.new.Goals as goal

named : (c : goal.After-as_domain) → IsByteName (record { bytes = c.args.bytes; scope = c.args.scope })
named c = (record { sixteen = omega arith; each = c.each_is_a_byte.ensures; scope = c.as_domain.ensures.scope }, c.as_domain.ensures.labels)

pub invariant_of-result : goal.invariant_of-result
invariant_of-result c = named c

pub returns-clause-name : goal.returns-clause-name
returns-clause-name c = named c
