-- The texts of the faults of a name's text (our choice). AT is a place in decimal, counted in bytes.
use Rattle.std.specs.Prelude.{ℕ, List, ◌++◌, codes}
use Rattle.std.specs.Fmt.{decimal}
use Rattle.nb_names.specs.declared.fault.TextFault.{TextFault}
use Rattle.nb_names.specs.declared.fault.TextFault.TheVariants.{BadText, TooLong}

-- `bad text AT`, or `too long`
abbrev pub text_fault_text : TextFault → List ℕ
text_fault_text (BadText at) = codes "bad text " ++ decimal at
text_fault_text TooLong = codes "too long"
