-- What counting lines, and reading the table of each, keeps from turn to turn.
use Rattle.nbt_reassembly.proofs.Common.{◌≡◌, ◌≤◌, ◌<◌, ◌+◌, ◌++◌, [], ◌∷◌, ℕ, List, length, refl, sym, ◌∙◌, ap, subst, append_assoc, arith, AllZip, append-nil, length-append, IsLine, HasLines, TableValue, Capacity, Fault, IsTableLine, IsTableFault, AreTables, TablesFail}
use Rattle.nb_streams.specs.LineFacts.{any_lines, first_line, no_lines, one_line, same_lines}

-- so many lines stand before the rest
pub record IsCounting (text rest : List ℕ) (count : ℕ) : Type 0 where
  pub within : count + length rest ≤ length text
  pub done : List (List ℕ)
  pub counted : count ≡ length done
  pub has : (lines : List (List ℕ)) → HasLines rest lines → HasLines text (done ++ lines)

pub counting_none : (text : List ℕ) → IsCounting text text 0
counting_none text = record {
  within = omega arith;
  done = [];
  counted = refl;
  has = λ lines has. has;
}

pub counted_more : (text rest line after : List ℕ) (count : ℕ) → ((lines : List (List ℕ)) → HasLines after lines → HasLines rest (line ∷ lines))
    → length after < length rest → IsCounting text rest count → IsCounting text after (count + 1)
counted_more text rest line after count first size before = record {
  within = omega (arith, size, before.within);
  done = before.done ++ line ∷ [];
  counted = ap (λ (n : ℕ). n + 1) before.counted ∙ sym (length-append before.done (line ∷ []));
  has = λ lines has.
      subst (λ (all : List (List ℕ)). HasLines text all) (sym (append_assoc before.done (line ∷ []) lines))
      (before.has (line ∷ lines) (first lines has));
}

pub all_lines : (text rest : List ℕ) (count : ℕ) → rest ≡ [] → (before : IsCounting text rest count) → HasLines text before.done
all_lines text rest count none before =
    subst (λ (all : List (List ℕ)). HasLines text all) (append-nil before.done) (before.has [] (no_lines rest none))

pub counted_all : (text rest : List ℕ) (count : ℕ) → rest ≡ [] → IsCounting text rest count
    → (lines : List (List ℕ)) × HasLines text lines × (count ≡ length lines)
counted_all text rest count none before = (before.done, all_lines text rest count none before, before.counted)

-- so many lines stand before the rest, and are these tables
pub record IsReadingTables (c : Capacity) (text rest : List ℕ) (number : ℕ) (ts : List TableValue) : Type 0 where
  pub within : number + length rest ≤ length text
  pub counting : IsCounting text rest number
  pub are : AllZip (IsTableLine c) counting.done ts

pub reading_none : (c : Capacity) (text : List ℕ) (ts : List TableValue) → ts ≡ [] → IsReadingTables c text text 0 ts
unfolding counting_none
reading_none c text ts empty = record {
  within = omega arith;
  counting = counting_none text;
  are = subst (λ (us : List TableValue). AllZip (IsTableLine c) [] us) (sym empty) tt;
}

are_more : (c : Capacity) (lines : List (List ℕ)) (ts : List TableValue) (line : List ℕ) (t : TableValue)
    → AllZip (IsTableLine c) lines ts → IsTableLine c line t → AllZip (IsTableLine c) (lines ++ line ∷ []) (ts ++ t ∷ [])
are_more c [] [] line t are is = (is, tt)
are_more c [] (u ∷ ts) line t are is = absurd are
are_more c (l ∷ lines) [] line t are is = absurd are
are_more c (l ∷ lines) (u ∷ ts) line t are is = (are.0, are_more c lines ts line t are.1 is)

pub read_more : (c : Capacity) (number : ℕ) (text rest line after : List ℕ) (ts new : List TableValue) (t : TableValue)
    → ((lines : List (List ℕ)) → HasLines after lines → HasLines rest (line ∷ lines)) → length after < length rest
    → IsTableLine c line t → new ≡ ts ++ t ∷ []
    → IsReadingTables c text rest number ts → IsReadingTables c text after (number + 1) new
unfolding counted_more
read_more c number text rest line after ts new t first size is_table pushed so_far = record {
  within = omega (arith, size, so_far.within);
  counting = counted_more text rest line after number first size so_far.counting;
  are =
      subst (λ (us : List TableValue). AllZip (IsTableLine c) (so_far.counting.done ++ line ∷ []) us) (sym pushed)
      (are_more c so_far.counting.done ts line t so_far.are is_table);
}

pub read_all : (c : Capacity) (number : ℕ) (text rest : List ℕ) (ts : List TableValue) → rest ≡ [] → IsReadingTables c text rest number ts → AreTables c text ts
read_all c number text rest ts none so_far = record {
  lines = so_far.counting.done;
  has = all_lines text rest number none so_far.counting;
  are = so_far.are;
}

pub fails_here : (c : Capacity) (number : ℕ) (text rest line after : List ℕ) (ts : List TableValue) (fault : Fault)
    → ((lines : List (List ℕ)) → HasLines after lines → HasLines rest (line ∷ lines))
    → IsTableFault c (number + 1) line fault → IsReadingTables c text rest number ts → TablesFail c text fault
fails_here c number text rest line after ts fault first is_fault so_far =
    let later = any_lines after in record {
      before = so_far.counting.done;
      line = line;
      after = later.0;
      tables = ts;
      has = so_far.counting.has (line ∷ later.0) (first later.0 later.1);
      are = so_far.are;
      fails = subst (λ (n : ℕ). IsTableFault c (n + 1) line fault) so_far.counting.counted is_fault;
    }

-- ---- the first line of a text

-- it ends with a line feed
pub first_finished : (text l after : List ℕ) → text ≡ l ++ 10 ∷ after → IsLine l
    → (lines : List (List ℕ)) → HasLines after lines → HasLines text (l ∷ lines)
first_finished text l after parts is_line lines has = first_line text l after lines parts is_line has

-- it is the only one
pub first_alone : (text : List ℕ) → IsLine text → 0 < length text
    → (lines : List (List ℕ)) → HasLines [] lines → HasLines text (text ∷ lines)
first_alone text is_line some lines has =
    subst (λ (all : List (List ℕ)). HasLines text (text ∷ all)) (same_lines [] [] lines (no_lines [] refl) has)
    (one_line text is_line some)
