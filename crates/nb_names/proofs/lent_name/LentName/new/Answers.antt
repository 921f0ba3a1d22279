use Rattle.std.proofs.Common.{arith, subst}
use Rattle.nb_names.specs.Code.Kept.{labels_of}
use Rattle.nb_streams.specs.Places.{AreBytes}
use Rattle.nb_names.specs.Name.{IsByteName}
use Rattle.nb_names.proofs.SpellingLemmas.{AreByteLabels-spelled}
use Rattle.nb_names.proofs.lent_name.LentName.new.Goals as goal

named : (c : goal.After-each_is_a_byte-2) → IsByteName (record { bytes = c.args.bytes; scope = labels_of c.args.scope.now })
named c = (
  record { sixteen = omega arith; each = c.each_is_a_byte.ensures; scope = c.requires.scope },
  AreByteLabels-spelled (labels_of c.args.scope.now) (subst AreBytes c.requires.spelled.exact c.each_is_a_byte-2.ensures),
)

pub invariant_of-result : goal.invariant_of-result
invariant_of-result c = (c.requires.spelled, named c)

pub returns-clause-name : goal.returns-clause-name
returns-clause-name c = named c
