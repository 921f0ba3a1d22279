use Rattle.nb_member.proofs.Common.{◌≡◌, ◌++◌, key_objects, listed_objects}
use Rattle.nb_member.proofs.listing.list_objects.Given as goal

abbrev pub invariant-loop-key : goal.invariant-loop-key
invariant-loop-key l = l.objects.items ++ key_objects l.table.contents l.key-iterator ≡ listed_objects l.table.contents
