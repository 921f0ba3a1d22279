-- The steps in which the text of a name is read, a byte at a time (our choice). They are no part of what a
-- name's text is: that stands in NameText.
use Rattle.std.specs.Prelude.{◌==◌, ℕ, List, [], ◌∷◌, ◌++◌, Option, Some, None, option_and_then, if◌then◌else◌, nat_lt}
use Rattle.std.specs.Char.{digit_value}
use Rattle.nb_names.specs.declared.text_steps.Stage.{Stage}
use Rattle.nb_names.specs.declared.text_steps.Stage.TheVariants.{Front, FrontEscape, FrontDigit, Suffix, SuffixDigit, SuffixEnd, Closed, LabelStart, Label, LabelEscape, LabelDigit}
use Rattle.nb_names.specs.declared.text_steps.Added.{Added}
use Rattle.nb_names.specs.declared.text_steps.Added.TheVariants.{Nothing, FrontByte, Last, LabelByte, LabelEnd}
use Rattle.nb_streams.specs.Ascii.{dot, less_than, greater_than, backslash}
use Rattle.nb_names.specs.NameText.{is_plain, Parts}
use Rattle.nb_streams.specs.Hexadecimal.{pair_byte}

-- first_digit byte next: the byte is a hexadecimal digit, which the next stage remembers
abbrev pub first_digit : ℕ → Stage → Option (Stage × Added)
first_digit byte next = if nat_lt (digit_value byte) 16 then Some (next, Nothing) else None

-- the step by which a second digit adds the byte of both
abbrev pub second_digit : Option ℕ → Stage → (ℕ → Added) → Option (Stage × Added)
second_digit (Some byte) next adds = Some (next, adds byte)
second_digit None next adds = None

-- a step before `<`
abbrev pub step_in_front : ℕ → Option (Stage × Added)
step_in_front byte =
    if is_plain byte then Some (Front, FrontByte byte)
    else if byte == backslash then Some (FrontEscape, Nothing)
    else if byte == less_than then Some (Suffix, Nothing)
    else None

-- a step in a label
abbrev pub step_in_label : ℕ → Option (Stage × Added)
step_in_label byte =
    if is_plain byte then Some (Label, LabelByte byte)
    else if byte == backslash then Some (LabelEscape, Nothing)
    else None

-- step stage byte: the stage after a byte, and what the byte adds
abbrev pub step : Stage → ℕ → Option (Stage × Added)
step Front byte = step_in_front byte
step FrontEscape byte = first_digit byte (FrontDigit byte)
step (FrontDigit high) byte = second_digit (pair_byte high byte) Front FrontByte
step Suffix byte = first_digit byte (SuffixDigit byte)
step (SuffixDigit high) byte = second_digit (pair_byte high byte) SuffixEnd Last
step SuffixEnd byte = if byte == greater_than then Some (Closed, Nothing) else None
step Closed byte = if byte == dot then Some (LabelStart, Nothing) else None
step LabelStart byte = step_in_label byte
step Label byte = if byte == dot then Some (LabelStart, LabelEnd) else step_in_label byte
step LabelEscape byte = first_digit byte (LabelDigit byte)
step (LabelDigit high) byte = second_digit (pair_byte high byte) Label LabelByte

-- what a reading has taken: the bytes before `<`, the byte after it, the labels that have ended,
-- and the bytes of the one that hasn't
pub record Taken : Type 0 where
  pub front : List ℕ
  pub last : ℕ
  pub scope : List (List ℕ)
  pub label : List ℕ

-- what is taken before the first byte
abbrev pub nothing_taken : Taken
nothing_taken = record { front = []; last = 0; scope = []; label = [] }

-- what is taken with an added
abbrev pub takes : Taken → Added → Taken
takes t Nothing = t
takes t (FrontByte byte) = record t { front = t.front ++ byte ∷ [] }
takes t (Last byte) = record t { last = byte }
takes t (LabelByte byte) = record t { label = t.label ++ byte ∷ [] }
takes t LabelEnd = record t { scope = t.scope ++ t.label ∷ []; label = [] }

-- the stage and what is taken after a text, from a stage and what is taken before it
abbrev pub steps : Stage → Taken → List ℕ → Option (Stage × Taken)
steps stage t [] = Some (stage, t)
steps stage t (byte ∷ bytes) =
    option_and_then (λ next. steps next.0 (takes t next.1) bytes) (step stage byte)

-- the parts that are taken
abbrev pub parts_of : Taken → Parts
parts_of t = record { front = t.front; last = t.last; scope = t.scope }

-- the parts where a text may end
abbrev pub finish : Stage → Taken → Option Parts
finish Closed t = Some (parts_of t)
finish Label t = Some (parts_of (takes t LabelEnd))
finish _ t = None

-- the parts of a text
abbrev pub parts_read : List ℕ → Option Parts
parts_read text = option_and_then (λ end. finish end.0 end.1) (steps Front nothing_taken text)
