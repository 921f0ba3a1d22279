-- The texts of the faults of words (our choice).
use Rattle.std.specs.Prelude.{ℕ, List, codes}
use Rattle.nb_names.specs.TextFaults.{text_fault_text}
use Rattle.nb_building.specs.declared.build_fault.BuildFault.{BuildFault}
use Rattle.nb_building.specs.declared.build_fault.BuildFault.TheVariants.{What, Count, Word, Text, TooLong, ZeroPiece, Memory}

-- the text of a fault
abbrev pub build_fault_text : BuildFault → List ℕ
build_fault_text What = codes "arguments"
build_fault_text Count = codes "arguments"
build_fault_text (Word place) = codes "arguments"
build_fault_text (Text place fault) = text_fault_text fault
build_fault_text TooLong = codes "too long"
build_fault_text ZeroPiece = codes "zero piece"
build_fault_text Memory = codes "memory"
