-- The texts of the faults of tables (our choice).
use Rattle.std.specs.Prelude.{ℕ, List, codes}
use Rattle.nb_table.specs.declared.fault.TableFault.{TableFault}
use Rattle.nb_table.specs.declared.fault.TableFault.TheVariants.{MisplacedFirst, TooLong, FullSource, Full, NoMemory}

-- the text of a fault
abbrev pub table_fault_text : TableFault → List ℕ
table_fault_text MisplacedFirst = codes "misplaced first"
table_fault_text TooLong = codes "too long"
table_fault_text (FullSource k) = codes "full source"
table_fault_text (Full k) = codes "full"
table_fault_text NoMemory = codes "memory"
