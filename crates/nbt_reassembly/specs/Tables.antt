-- The tables that `nbt merge` and `nbt agree` read: a line for each, which is the saved table in hexadecimal
-- (our choice). Lines are numbered from 1.
use Rattle.std.specs.Prelude.{◌≡◌, ◌≢◌, ◌⊎◌, ◌+◌, ◌<◌, ◌≤◌, ℕ, Bool, true, false, List, [], ◌∷◌, ◌++◌, length, map, take, slice_get, Option, Some, Result, Ok, Err, codes}
use Rattle.std.specs.Io.KnownBytes.{Appends, Consumes, IsAtEnd, Keeps}
use Rattle.std.specs.List.{AllZip}
use Rattle.nb_streams.specs.declared.limits.TheConstants.{MAX_INPUT}
use Rattle.nb_streams.specs.Devices.{AppendsFront}
use Rattle.nb_streams.specs.Hexadecimal.{HexText}
use Rattle.nb_streams.specs.Lines.{HasLines}
use Rattle.nb_table.specs.declared.fault.TableFault.{TableFault}
use Rattle.nb_table.specs.declared.fault.TableFault.TheVariants as tables
use Rattle.nb_entries.specs.declared.saved.LoadFault.TheVariants as loads
use Rattle.nb_table.specs.Contents.{Contents}
use Rattle.nb_table.specs.Join.{join, joined_all, AreTaken}
use Rattle.nb_table.specs.Limits.{KeepsLimits, Limits, TableValue}
use Rattle.nb_table.specs.Saved.{IsReadAs, LoadFails}
use Rattle.nb_table.specs.Merging.{Fits, IsRefused}
use Rattle.nbt_reassembly.specs.declared.capacity.Capacity.{Capacity}
use Rattle.nbt_command.specs.declared.fault.Fault.{Fault}
use Rattle.nbt_command.specs.declared.fault.Fault.TheVariants.{Arguments, TooLong, Line, FullSource, Full, Load, NoTables, TwoTablesWanted, Read, Write, Memory}
use Rattle.nbt_command.specs.declared.fault.Status.{Status}
use Rattle.nbt_command.specs.declared.fault.Status.TheVariants.{Done, Refused}
use Rattle.nbt_reassembly.specs.Differences.{differences}
use Rattle.nbt_command.specs.Printing.{PrintsFront, PrintsLine, line}
use Rattle.nbt_reassembly.specs.Capacity.{HasNoCapacity, most_keys}

-- what a table may hold that is read: so many keys, so many of each address, and datagrams of at most 65,535 bytes
abbrev pub reading : Capacity → Limits
reading c = record { keys = c.keys; per_source = c.per_source; longest = 65535 }

-- ---- lines

-- IsTableLine c line t: the line isn't empty, and is bytes in hexadecimal of either case, in which the
-- table t stands; t may hold so much, and keeps to that
pub record IsTableLine (c : Capacity) (line : List ℕ) (t : TableValue) : Type 0 where
  pub bytes : List ℕ
  pub not_empty : 0 < length line
  pub digits : HexText bytes line
  pub stands : IsReadAs bytes t.contents
  pub limits : t.limits ≡ reading c
  pub keeps : KeepsLimits t

-- IsTableFault c number line fault: why line `number` is no table: it is empty or no hexadecimal, or its
-- bytes aren't loaded, for another reason than want of memory
abbrev pub IsTableFault : Capacity → ℕ → List ℕ → Fault → Type 0
IsTableFault c number line (Line n) = (n ≡ number) × ((line ≡ []) ⊎ ((bytes : List ℕ) → ¬ HexText bytes line))
IsTableFault c number line (Load fault) =
    (0 < length line) × (fault ≢ loads.NoMemory) × (bytes : List ℕ) × HexText bytes line × LoadFails bytes (reading c) fault
IsTableFault c number line Memory = Unit {0}
IsTableFault c number line _ = ⊥

-- AreTables c text ts: the lines of the text are the tables, in order
pub record AreTables (c : Capacity) (text : List ℕ) (ts : List TableValue) : Type 0 where
  pub lines : List (List ℕ)
  pub has : HasLines text lines
  pub are : AllZip (IsTableLine c) lines ts

-- TablesFail c text fault: why the first of the text's lines that is no table isn't; those before it are
pub record TablesFail (c : Capacity) (text : List ℕ) (fault : Fault) : Type 0 where
  pub before : List (List ℕ)
  pub line : List ℕ
  pub after : List (List ℕ)
  pub tables : List TableValue
  pub has : HasLines text (before ++ line ∷ after)
  pub are : AllZip (IsTableLine c) before tables
  pub fails : IsTableFault c (length before + 1) line fault

-- ---- what is made of the tables

-- the contents of these tables
abbrev pub contents_of : List TableValue → List Contents
contents_of ts = map (λ t. t.contents) ts

-- what is reported of a table that can't be joined to those before it
abbrev pub fault_of_join : TableFault → Fault
fault_of_join tables.MisplacedFirst = TooLong
fault_of_join tables.TooLong = TooLong
fault_of_join (tables.FullSource key) = FullSource
fault_of_join (tables.Full key) = Full
fault_of_join tables.NoMemory = Memory

-- JoinFails first others fault: why one of the others can't be joined to the first with those before it, each of
-- which was taken in its turn
pub record JoinFails (first : TableValue) (others : List TableValue) (fault : Fault) : Type 0 where
  pub index : ℕ
  pub other : TableValue
  pub why : TableFault
  pub stands : slice_get others index ≡ Some other
  pub before : AreTaken join (Fits first.limits) first.contents (contents_of (take index others))
  pub refused : IsRefused first.limits (joined_all join first.contents (contents_of (take index others))) other.contents why
  pub reported : fault ≡ fault_of_join why

-- the fault is one of a device or of memory, and not of what stands in the input
abbrev pub IsElsewhere : Fault → Type 0
IsElsewhere Read = Unit {0}
IsElsewhere Write = Unit {0}
IsElsewhere Memory = Unit {0}
IsElsewhere _ = ⊥

-- FailsOn Fails old_in new_in fault: the whole input was read, within its limit, and this is a fault of it;
-- nothing is said of faults that lie elsewhere
abbrev pub FailsOn : (List ℕ → Fault → Type 0) → Option (List ℕ) → Option (List ℕ) → Fault → Type 0
FailsOn Fails old_in new_in fault =
    ¬ IsElsewhere fault → (text : List ℕ) × Consumes old_in new_in text × IsAtEnd new_in × (length text ≤ MAX_INPUT) × Fails text fault

-- MergeFails IsGiven text fault: why the lines of the text aren't merged: the first that is no table, there is
-- none, or their tables can't be joined
pub data MergeFails (IsGiven : Capacity → Type 0) (text : List ℕ) (fault : Fault) : Type 0 where
  line_fails : (c : Capacity) → IsGiven c → TablesFail c text fault → MergeFails IsGiven text fault
  no_line : HasLines text [] → fault ≡ NoTables → MergeFails IsGiven text fault
  not_joined : (c : Capacity) (first : TableValue) (others : List TableValue) → IsGiven c
      → AreTables c text (first ∷ others) → JoinFails first others fault → MergeFails IsGiven text fault

-- MergeStops IsGiven old_in new_in fault: why the tables of the input aren't merged: no capacity is given,
-- or it is a fault of the input
pub data MergeStops (IsGiven : Capacity → Type 0) (old_in new_in : Option (List ℕ)) (fault : Fault) : Type 0 where
  no_capacity : HasNoCapacity IsGiven → fault ≡ Arguments → MergeStops IsGiven old_in new_in fault
  input_fails : FailsOn (MergeFails IsGiven) old_in new_in fault → MergeStops IsGiven old_in new_in fault

-- MergesTables IsGiven IsPrinted old_in new_in: the whole input was read, its lines are tables, at least one, each
-- is taken into those before it, and their join was printed, as IsPrinted says of it
pub record MergesTables (IsGiven : Capacity → Type 0) (IsPrinted : Contents → Type 0) (old_in new_in : Option (List ℕ)) : Type 0 where
  pub text : List ℕ
  pub capacity : Capacity
  pub first : TableValue
  pub others : List TableValue
  pub read : Consumes old_in new_in text
  pub ended : IsAtEnd new_in
  pub within : length text ≤ MAX_INPUT
  pub given : IsGiven capacity
  pub tables : AreTables capacity text (first ∷ others)
  pub taken : AreTaken join (Fits first.limits) first.contents (contents_of others)
  pub printed : IsPrinted (joined_all join first.contents (contents_of others))

-- PrintsJoin IsGiven text_of old_in new_in old new result: what a command answers that prints a text of the join of
-- the input's tables, and what that leaves on the output: the text, a front of it where the output failed, or nothing
abbrev pub PrintsJoin : (Capacity → Type 0) → (Contents → List ℕ) → Option (List ℕ) → Option (List ℕ) → Option (List ℕ) → Option (List ℕ) → Result (Unit {0}) Fault → Type 0
PrintsJoin IsGiven text_of old_in new_in old new (Ok done) = MergesTables IsGiven (λ contents. Appends old new (text_of contents)) old_in new_in
PrintsJoin IsGiven text_of old_in new_in old new (Err fault) =
    MergeStops IsGiven old_in new_in fault
    × (fault ≢ Write → Keeps old new)
    × (fault ≡ Write → MergesTables IsGiven (λ contents. AppendsFront old new (text_of contents)) old_in new_in)

-- CompareFails text fault: why the lines of the text aren't compared: they aren't two, or the first that is
-- no table
pub data CompareFails (text : List ℕ) (fault : Fault) : Type 0 where
  not_two : (lines : List (List ℕ)) → HasLines text lines → length lines ≢ 2 → fault ≡ TwoTablesWanted → CompareFails text fault
  one_fails : (lines : List (List ℕ)) → HasLines text lines → length lines ≡ 2 → TablesFail most_keys text fault → CompareFails text fault

-- what is printed of two tables that differ: that they do, and where it is asked for at which keys
abbrev pub difference_text : Bool → Contents → Contents → List ℕ
difference_text false t u = line (codes "different")
difference_text true t u = line (codes "different") ++ differences t u

-- Tells list t u status old new: whether the tables are equal is printed, and the status is that of refused input
-- where they aren't; the keys at which they differ are printed where it is asked for
abbrev pub Tells : Bool → Contents → Contents → Status → Option (List ℕ) → Option (List ℕ) → Type 0
Tells list t u status old new =
    ((t ≡ u) × (status ≡ Done) × PrintsLine old new (codes "equal"))
    ⊎ ((t ≢ u) × (status ≡ Refused) × Appends old new (difference_text list t u))

-- TellsFront list t u old new: a front of what is printed of the two tables is printed
abbrev pub TellsFront : Bool → Contents → Contents → Option (List ℕ) → Option (List ℕ) → Type 0
TellsFront list t u old new =
    ((t ≡ u) × PrintsFront old new (codes "equal")) ⊎ ((t ≢ u) × AppendsFront old new (difference_text list t u))

-- ComparesTables IsPrinted old_in new_in: the whole input was read, its lines are two tables, and whether these
-- are equal was printed, as IsPrinted says of the two
pub record ComparesTables (IsPrinted : Contents → Contents → Type 0) (old_in new_in : Option (List ℕ)) : Type 0 where
  pub text : List ℕ
  pub first : TableValue
  pub second : TableValue
  pub read : Consumes old_in new_in text
  pub ended : IsAtEnd new_in
  pub within : length text ≤ MAX_INPUT
  pub tables : AreTables most_keys text (first ∷ second ∷ [])
  pub printed : IsPrinted first.contents second.contents
