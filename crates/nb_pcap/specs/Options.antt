-- The options of an interface (draft-ietf-opsawg-pcapng): each has a code 2, the length of its value 2, the value, and what pads
-- that to a multiple of four bytes; one of code 0 ends them.
use Rattle.std.specs.Prelude.{ℕ, zero, suc, ◌+◌, ◌-◌, ◌*◌, ◌/◌, cond, nat_eq, nat_lt, nat_le, List, [], ◌∷◌, take, drop, length, slice_index, Option, Some, None, option_map}
use Rattle.std.specs.Borrow.{Bor}
use Rattle.std.specs.Int.{w16, w64}
use Rattle.nb_pcap.specs.declared.limits.TheConstants.{OPTION_LENGTH, MAX_NAME}
use Rattle.nb_pcap.specs.declared.numbers.Order.{Order}
use Rattle.nb_pcap.specs.declared.options.Said.{Said}
use Rattle.nb_pcap.specs.Numbers.{number}

-- an option
pub record OptionValue : Type 0 where
  pub code : ℕ
  pub value : List ℕ

-- how many bytes so many take up with what pads them
abbrev pub padded : ℕ → ℕ
padded size = (size + 3) / 4 * 4

-- the options in bytes, of which so many are looked at; none where one runs past the end
abbrev pub options_within : ℕ → Order → List ℕ → Option (List OptionValue)
options_within zero order bytes = Some []
options_within (suc n) order bytes =
    cond (nat_lt (length bytes) OPTION_LENGTH) (Some [])
    (cond (nat_eq (number order w16 bytes 0) 0) (Some [])
    (cond (nat_lt (length bytes - OPTION_LENGTH) (number order w16 bytes 2)) None
    (option_map (λ others. record { code = number order w16 bytes 0; value = take (number order w16 bytes 2) (drop OPTION_LENGTH bytes) } ∷ others)
    (options_within n order (drop (OPTION_LENGTH + padded (number order w16 bytes 2)) bytes)))))

-- the options in bytes
abbrev pub options_in : Order → List ℕ → Option (List OptionValue)
options_in order bytes = options_within (length bytes) order bytes

-- what options say
pub record SaidValue : Type 0 where
  pub name : Option (List ℕ)
  pub resolution : ℕ
  pub offset : ℕ

-- what is said where no option says more: times are in millionths of a second, from 1970 on
abbrev pub nothing_said : SaidValue
nothing_said = record { name = None; resolution = 6; offset = 0 }

-- what is said after an option: if_name is 2, if_tsresol 9, if_tsoffset 14
abbrev pub noted : Order → SaidValue → ℕ → List ℕ → SaidValue
noted order s code value =
    cond (nat_eq code 2) (record s { name = cond (nat_le (length value) MAX_NAME) (Some value) None })
    (cond (nat_eq code 9) (cond (nat_eq (length value) 1) (record s { resolution = slice_index value 0 }) s)
    (cond (nat_eq code 14) (cond (nat_eq (length value) 8) (record s { offset = number order w64 value 0 }) s) s))

-- what is said after these options, in their order
abbrev pub said_after : Order → SaidValue → List OptionValue → SaidValue
said_after order s [] = s
said_after order s (o ∷ os) = said_after order (noted order s o.code o.value) os

-- what the options in bytes say
abbrev pub options_said : Order → List ℕ → Option SaidValue
options_said order bytes = option_map (said_after order nothing_said) (options_in order bytes)

-- what is said, without where it lies in memory
abbrev pub said_value : Said → SaidValue
said_value s = record { name = option_map (λ (n : Bor (List ℕ)). n.now) s.name; resolution = s.resolution; offset = s.offset }
