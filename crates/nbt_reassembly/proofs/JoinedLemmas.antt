-- What `nbt merge` and `nbt agree` have done once the tables of the whole input are read.
use Rattle.nbt_reassembly.proofs.Common.{◌⊎◌, inl, inr, ArgMatches, Read, Streams, ◌≡◌, ◌≢◌, ◌≤◌, ◌<◌, ◌+◌, ◌++◌, [], ◌∷◌, ℕ, List, length, take, drop, get_or, slice_get, slice_index_or, Option, Some, refl, sym, ap, ◌∙◌, ap₂, subst, suc, arith, Result, Ok, Err, Appends, Consumes, IsAtEnd, AllZip, AppendsFront, HasLines, TableValue, Capacity, Fault, Memory, NoTables, TwoTablesWanted, Write, Contents, join, joined_all, AreTaken, PrintsText, most_keys, AreTables, contents_of, fault_of_join, FailsOn, IsElsewhere, IsTableLine, JoinFails, MergeFails, input_fails, MergesTables, PrintsJoin, CompareFails, ComparesTables, TablesFail, no_line, not_joined, not_two, one_fails}
use Rattle.std.specs.Io.KnownBytes.{Keeps}
use Rattle.nb_streams.specs.declared.limits.TheConstants.{MAX_INPUT}
use Rattle.nbt_command.specs.Input.{WasCut}
use Rattle.nbt_reassembly.specs.Commands.{AgreeCommand}
use Rattle.nb_table.specs.Merging.{Fits, IsRefused}
use Rattle.nb_table.specs.declared.fault.TableFault.{TableFault}
use Rattle.nbt_reassembly.specs.Tables.{line_fails}

-- one of the tables isn't joined to those before it, and this is reported
pub join_fails : (first : TableValue) (others : List TableValue) (index : ℕ) (why : TableFault) (fault : Fault)
    → (other : TableValue) × (slice_get others index ≡ Some other)
    × IsRefused first.limits (joined_all join first.contents (contents_of (take index others))) other.contents why
    → AreTaken join (Fits first.limits) first.contents (contents_of (take index others)) → fault ≡ fault_of_join why → JoinFails first others fault
join_fails first others index why fault found before reported = record {
  index = index;
  other = found.0;
  why = why;
  stands = found.1;
  before = before;
  refused = found.2;
  reported = reported;
}

pub merges_tables : (IsGiven : Capacity → Type 0) (old_in new_in : Option (List ℕ)) (text read_text : List ℕ) (c : Capacity) (ts : List TableValue)
    (first : TableValue) (others : List TableValue) (t : Contents) → read_text ≡ text → Consumes old_in new_in text → IsAtEnd new_in → length text ≤ MAX_INPUT → IsGiven c → AreTables c read_text ts
    → ts ≡ first ∷ others → AreTaken join (Fits first.limits) first.contents (contents_of others) → t ≡ joined_all join first.contents (contents_of others)
    → MergesTables IsGiven (λ contents. contents ≡ t) old_in new_in
merges_tables IsGiven old_in new_in text read_text c ts first others t same read ended within given tables are taken joined = record {
  text = text;
  capacity = c;
  first = first;
  others = others;
  read = read;
  ended = ended;
  within = within;
  given = given;
  tables = subst (λ (bytes : List ℕ). AreTables c bytes (first ∷ others)) same (subst (λ (us : List TableValue). AreTables c read_text us) are tables);
  taken = taken;
  printed = sym joined;
}

-- the join that was made is printed
pub join_printed : (IsGiven : Capacity → Type 0) (IsPrinted : Contents → Type 0) (old_in new_in : Option (List ℕ)) (t : Contents)
    → MergesTables IsGiven (λ contents. contents ≡ t) old_in new_in → IsPrinted t → MergesTables IsGiven IsPrinted old_in new_in
join_printed IsGiven IsPrinted old_in new_in t m printed = record {
  text = m.text;
  capacity = m.capacity;
  first = m.first;
  others = m.others;
  read = m.read;
  ended = m.ended;
  within = m.within;
  given = m.given;
  tables = m.tables;
  taken = m.taken;
  printed = subst IsPrinted (sym m.printed) printed;
}

pub compares_tables : (IsPrinted : Contents → Contents → Type 0) (old_in new_in : Option (List ℕ)) (text read_text : List ℕ) (ts : List TableValue) (first second : TableValue)
    → read_text ≡ text → Consumes old_in new_in text → IsAtEnd new_in → length text ≤ MAX_INPUT → AreTables most_keys read_text ts → ts ≡ first ∷ second ∷ []
    → IsPrinted first.contents second.contents → ComparesTables IsPrinted old_in new_in
compares_tables IsPrinted old_in new_in text read_text ts first second same read ended within tables are printed = record {
  text = text;
  first = first;
  second = second;
  read = read;
  ended = ended;
  within = within;
  tables = subst (λ (bytes : List ℕ). AreTables most_keys bytes (first ∷ second ∷ [])) same (subst (λ (us : List TableValue). AreTables most_keys read_text us) are tables);
  printed = printed;
}

-- a list of two, by what it has at each place
pub two_items : (ts : List TableValue) (first second : TableValue) → 2 ≤ length ts → length ts < 3 → first ≡ get_or ts 0 first → second ≡ get_or ts 1 second
    → ts ≡ first ∷ second ∷ []
two_items [] first second many few is_first is_second = absurd (omega (arith, many))
two_items (t ∷ []) first second many few is_first is_second = absurd (omega (arith, many))
two_items (t ∷ u ∷ []) first second many few is_first is_second = ap₂ (λ (x y : TableValue). x ∷ y ∷ []) (sym is_first) (sym is_second)
two_items (t ∷ u ∷ v ∷ ts) first second many few is_first is_second = absurd (omega (arith, few))

-- a list of one at least, by its first item and the others
pub first_taken : (ts others : List TableValue) (first : TableValue) → length ts ≡ length others + 1 → first ≡ slice_index_or ts 0 first
    → others ≡ take 0 ts ++ drop 1 ts → ts ≡ first ∷ others
first_taken [] others first size is_first are_others = absurd (omega (arith, size))
first_taken (t ∷ ts) others first size is_first are_others = ap₂ (λ (x : TableValue) (xs : List TableValue). x ∷ xs) (sym is_first) (sym are_others)

-- ---- faults

not_memory : (fault : Fault) → ¬ IsElsewhere fault → fault ≢ Memory
not_memory fault here is = here (subst (λ (f : Fault). IsElsewhere f) (sym is) tt)

-- nothing is said of faults that lie elsewhere
pub elsewhere : (Fails : List ℕ → Fault → Type 0) (old_in new_in : Option (List ℕ)) (fault : Fault) → IsElsewhere fault → FailsOn Fails old_in new_in fault
elsewhere Fails old_in new_in fault is here = absurd (here is)

-- ---- what is printed of the join

pub join_prints : (IsGiven : Capacity → Type 0) (text_of : Contents → List ℕ) (old_in new_in old new : Option (List ℕ)) (t : Contents) (r : Result (Unit {0}) Fault)
    → MergesTables IsGiven (λ contents. contents ≡ t) old_in new_in → PrintsText (text_of t) old new r → PrintsJoin IsGiven text_of old_in new_in old new r
join_prints IsGiven text_of old_in new_in old new t (Ok done) m prints =
    join_printed IsGiven (λ contents. Appends old new (text_of contents)) old_in new_in t m prints
join_prints IsGiven text_of old_in new_in old new t (Err Write) m prints = (
  input_fails (λ here. absurd (here tt)),
  λ other. absurd (other refl),
  λ write. join_printed IsGiven (λ contents. AppendsFront old new (text_of contents)) old_in new_in t m prints,
)
join_prints IsGiven text_of old_in new_in old new t (Err Memory) m prints =
    (input_fails (λ here. absurd (here tt)), λ other. prints, λ write. absurd (cc write))
join_prints IsGiven text_of old_in new_in old new t (Err _) m prints = absurd prints

-- there are as many lines as tables
as_long : (c : Capacity) (lines : List (List ℕ)) (ts : List TableValue) → AllZip (IsTableLine c) lines ts → length lines ≡ length ts
as_long c [] [] are = refl
as_long c [] (t ∷ ts) are = absurd are
as_long c (line ∷ lines) [] are = absurd are
as_long c (line ∷ lines) (t ∷ ts) are = ap suc (as_long c lines ts are.1)

pub as_many : (c : Capacity) (text : List ℕ) (ts : List TableValue) → AreTables c text ts
    → (lines : List (List ℕ)) × HasLines text lines × (length lines ≡ length ts)
as_many c text ts tables = (tables.lines, tables.has, as_long c tables.lines ts tables.are)

no_items : (lines : List (List ℕ)) → length lines ≡ 0 → lines ≡ []
no_items [] empty = refl
no_items (line ∷ lines) empty = absurd (omega (arith, empty))

-- no tables stand in no line
pub none_of_none : (c : Capacity) (text : List ℕ) (ts : List TableValue) → AreTables c text ts → length ts ≡ 0 → HasLines text []
none_of_none c text ts tables empty =
    subst (λ (lines : List (List ℕ)). HasLines text lines) (no_items tables.lines (as_long c tables.lines ts tables.are ∙ empty)) tables.has

pub merge_of_line : (IsGiven : Capacity → Type 0) (old_in new_in : Option (List ℕ)) (text read_text : List ℕ) (c : Capacity) (fault : Fault) → read_text ≡ text
    → Consumes old_in new_in text → IsAtEnd new_in → length text ≤ MAX_INPUT → IsGiven c → (fault ≢ Memory → TablesFail c read_text fault)
    → FailsOn (MergeFails IsGiven) old_in new_in fault
merge_of_line IsGiven old_in new_in text read_text c fault same read ended within given fails here =
    (text, read, ended, within, line_fails c given (subst (λ (bytes : List ℕ). TablesFail c bytes fault) same (fails (not_memory fault here))))

pub merge_of_none : (IsGiven : Capacity → Type 0) (old_in new_in : Option (List ℕ)) (text read_text : List ℕ) (c : Capacity) (ts : List TableValue) → read_text ≡ text
    → Consumes old_in new_in text → IsAtEnd new_in → length text ≤ MAX_INPUT → AreTables c read_text ts → length ts ≡ 0
    → FailsOn (MergeFails IsGiven) old_in new_in NoTables
merge_of_none IsGiven old_in new_in text read_text c ts same read ended within tables empty here =
    (text, read, ended, within, no_line (subst (λ (bytes : List ℕ). HasLines bytes []) same (none_of_none c read_text ts tables empty)) refl)

pub merge_of_join : (IsGiven : Capacity → Type 0) (old_in new_in : Option (List ℕ)) (text read_text : List ℕ) (c : Capacity) (ts : List TableValue)
    (first : TableValue) (others : List TableValue) (fault : Fault) → read_text ≡ text → Consumes old_in new_in text → IsAtEnd new_in → length text ≤ MAX_INPUT → IsGiven c
    → AreTables c read_text ts → ts ≡ first ∷ others → JoinFails first others fault → FailsOn (MergeFails IsGiven) old_in new_in fault
merge_of_join IsGiven old_in new_in text read_text c ts first others fault same read ended within given tables are fails here =
    let split = subst (λ (us : List TableValue). AreTables c read_text us) are tables in
    (text, read, ended, within, not_joined c first others given (subst (λ (bytes : List ℕ). AreTables c bytes (first ∷ others)) same split) fails)

pub compare_of_count : (old_in new_in : Option (List ℕ)) (text read_text : List ℕ) (lines : List (List ℕ)) → read_text ≡ text
    → Consumes old_in new_in text → IsAtEnd new_in → length text ≤ MAX_INPUT → HasLines read_text lines → length lines ≢ 2
    → FailsOn CompareFails old_in new_in TwoTablesWanted
compare_of_count old_in new_in text read_text lines same read ended within has other here =
    (text, read, ended, within, not_two lines (subst (λ (bytes : List ℕ). HasLines bytes lines) same has) other refl)

pub compare_of_line : (old_in new_in : Option (List ℕ)) (text count_text read_text : List ℕ) (n : ℕ) (fault : Fault) → count_text ≡ text → read_text ≡ text
    → Consumes old_in new_in text → IsAtEnd new_in → length text ≤ MAX_INPUT
    → (lines : List (List ℕ)) × HasLines count_text lines × (n ≡ length lines) → n ≡ 2
    → (fault ≢ Memory → TablesFail most_keys read_text fault) → FailsOn CompareFails old_in new_in fault
compare_of_line old_in new_in text count_text read_text n fault counted same read ended within lines two fails here =
    let has = subst (λ (bytes : List ℕ). HasLines bytes lines.0) counted lines.1 in
    (text, read, ended, within, one_fails lines.0 has (sym lines.2 ∙ two) (subst (λ (bytes : List ℕ). TablesFail most_keys bytes fault) same (fails (not_memory fault here))))

-- nothing is told of two tables
pub untold : (matches : ArgMatches) (s : Streams) (fault : Fault) → fault ≢ Write → (fault ≡ Read → WasCut MAX_INPUT s.old_in s.new_in s.reads s.reads_after)
    → Keeps s.old_out s.new_out → FailsOn CompareFails s.old_in s.new_in fault → AgreeCommand matches s (Err fault)
untold matches s fault no_write cut kept fails = record {
  printed = λ list given. tt;
  status = tt;
  err = λ other. kept;
  write = λ list given write. absurd (no_write write);
  fault = fails;
  cut = cut;
  why = λ write. absurd (no_write write);
}

pub is_elsewhere : (fault : Fault) → (fault ≡ Memory) ⊎ (fault ≡ Write) → IsElsewhere fault × (fault ≢ Read)
is_elsewhere fault (inl is) = rw is (tt, λ read. absurd (cc read))
is_elsewhere fault (inr is) = rw is (tt, λ read. absurd (cc read))
