-- The texts of the faults of saved entries and tables (our choice).
use Rattle.std.specs.Prelude.{ℕ, List, ◌++◌, codes, decimal}
use Rattle.nb_entries.specs.declared.saved.LoadFault.{LoadFault}
use Rattle.nb_entries.specs.declared.saved.LoadFault.TheVariants as loads

-- the text of a fault of a saved table
abbrev pub load_fault_text : LoadFault → List ℕ
load_fault_text loads.BadMagic = codes "bad magic"
load_fault_text loads.Truncated = codes "truncated"
load_fault_text (loads.NotCanonical at) = codes "not canonical " ++ decimal at
load_fault_text loads.TooLong = codes "too long"
load_fault_text loads.FullSource = codes "full source"
load_fault_text loads.Full = codes "full"
load_fault_text loads.NoMemory = codes "memory"
