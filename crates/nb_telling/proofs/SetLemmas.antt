-- Names of flags, added one after another.
use Rattle.std.proofs.Common.{ℕ, Bool, true, false, List}
use Rattle.nb_telling.specs.Texts.{added_names, joined}

-- set_from none names: what these names add, where no name was added yet, or where one was
abbrev pub set_from : Bool → List (List ℕ) → List ℕ
set_from true names = joined names
set_from false names = added_names names
