-- Lines that are written are read.
use Rattle.nb_capture.proofs.Common.{◌≡◌, ◌≢◌, ℕ, zero, suc, ◌+◌, ◌%◌, ◌<◌, ◌≤◌, ◌^◌, Bool, true, false, List, [], ◌∷◌, ◌++◌, length, refl, sym, subst, arith, inl, inr, Contains, flat_map, codes, digit_value, Contains-append_cases, nat_tests, length-append, Packet, Tick, PortText, names, datagrams, sessions, MomentText, HasValue, SaysNothing, byte_text, comment, packet, tick, DataText, HexText, digits, empty}
use Rattle.std.specs.Prelude.{◌/◌, ◌*◌, if◌then◌else◌}
use Rattle.std.specs.Fmt.{decimal}
use Rattle.std.specs.Char.{digit_char}
use Rattle.std.proofs.lemmas.Fmt.{decimal_is_IsNumeral, length-decimal-le}
use Rattle.std.proofs.lemmas.Str.{digit_value-digit_char}
use Rattle.nb_streams.specs.Places.{AreBytes}
use Rattle.nb_streams.specs.Hexadecimal.{byte_of, data_text, digits_of, digits_text, no_byte, one_more}
use Rattle.nb_streams.specs.HexadecimalFacts.{length-HexText}
use Rattle.nb_streams.specs.Ascii.{backslash}
use Rattle.nb_capture.specs.Capture.{comment_line, is_printable, packet_line, tick_line}
use Rattle.nb_capture.proofs.CaptureLemmas.Words.{Contains-behind}

-- ---- words

-- the digits of bytes are theirs
digits_read : (bytes : List ℕ) → AreBytes bytes → HexText bytes (digits_text bytes)
digits_read [] small = no_byte
digits_read (b ∷ bytes) small =
    let byte : b < 2 ^ 8 = small.0 in
    let high : digit_value (digit_char (b / 16)) ≡ b / 16 = digit_value-digit_char (b / 16) (omega (arith, byte)) in
    let low : digit_value (digit_char (b % 16)) ≡ b % 16 = digit_value-digit_char (b % 16) (omega arith) in
    let same : byte_of (digit_char (b / 16)) (digit_char (b % 16)) ≡ b = omega (arith, high, low) in
    subst (λ (x : ℕ). HexText (x ∷ bytes) (digits_text (b ∷ bytes))) same
    (one_more (digit_char (b / 16)) (digit_char (b % 16)) bytes (digits_text bytes) (omega (arith, high, byte)) (omega (arith, low))
    (digits_read bytes small.1))

-- what is written of data is theirs, and short
data_read : (bytes : List ℕ) → AreBytes bytes → DataText bytes (data_text bytes)
data_read [] small = empty
data_read (b ∷ bytes) small = digits (b ∷ bytes) (digits_text (b ∷ bytes)) (omega arith) (digits_read (b ∷ bytes) small)

data_short : (bytes : List ℕ) → AreBytes bytes → length (data_text bytes) ≤ 2 * length bytes + 5
data_short [] small = omega arith
data_short (b ∷ bytes) small =
    let size = length-HexText (b ∷ bytes) (digits_text (b ∷ bytes)) (digits_read (b ∷ bytes) small) in omega (arith, size)

moment_read : (moment : ℕ) → moment < 2 ^ 64 → MomentText moment (decimal moment)
moment_read moment fits =
    let numeral = decimal_is_IsNumeral moment fits in record {
      digits = numeral.0;
      most = length-decimal-le 20 moment (omega arith) (omega (arith, fits)) fits;
      value = sym numeral.1;
      fits = fits;
    }

port_short : (port : ℕ) (text : List ℕ) → PortText port text → length text ≡ 3
port_short _ _ names = refl
port_short _ _ datagrams = refl
port_short _ _ sessions = refl

-- ---- lines

pub packet_read : (port moment : ℕ) (payload : List ℕ) → PortText port (decimal port) → moment < 2 ^ 64 → AreBytes payload
    → length payload ≤ 131075 → HasValue (packet_line port moment payload) (Packet port moment payload)
packet_read port moment payload service fits small short =
    let at = moment_read moment fits in
    let front = length-append (decimal port) (32 ∷ (decimal moment ++ 32 ∷ data_text payload)) in
    let behind = length-append (decimal moment) (32 ∷ data_text payload) in
    let most = at.most in record {
      says = packet port moment payload (decimal port) (decimal moment) (data_text payload) service at (data_read payload small);
      length = omega (arith, short, front, behind, most, port_short port (decimal port) service, data_short payload small);
    }

pub tick_read : (now : ℕ) → now < 2 ^ 64 → HasValue (tick_line now) (Tick now)
tick_read now fits =
    let at = moment_read now fits in
    let most = at.most in record { says = tick now (decimal now) at; length = omega (arith, most) }

-- a line feed isn't printed of a byte, nor of a comment
not_single : (c : ℕ) → c ≢ 10 → ¬ Contains (c ∷ []) 10
not_single c other (zero, below, is) = other is
not_single c other (suc k, below, is) = absurd (omega arith)

no_digit_feed : (d : ℕ) → digit_char d ≢ 10
no_digit_feed d is = grind (arith, nat_tests, is)

no_byte_feed : (byte : ℕ) (printable : Bool) → is_printable byte ≡ printable
    → ¬ Contains (if printable then byte ∷ [] else backslash ∷ digits_of byte) 10
no_byte_feed byte true is has = not_single byte (λ feed. grind (arith, nat_tests, is, feed)) has
no_byte_feed byte false is has =
    not_single (digit_char (byte % 16)) (no_digit_feed (byte % 16))
    (Contains-behind (digit_char (byte / 16)) 10 (digit_char (byte % 16) ∷ []) (no_digit_feed (byte / 16))
    (Contains-behind 92 10 (digits_of byte) (λ e. absurd (omega (arith, e))) has))

no_feed : (text : List ℕ) → ¬ Contains (flat_map byte_text text) 10
no_feed [] has = absurd (omega (arith, has.1))
no_feed (byte ∷ text) has =
    elim (Contains-append_cases (byte_text byte) (flat_map byte_text text) 10 has) [
      | inl here ↦ no_byte_feed byte (is_printable byte) refl here
      | inr behind ↦ no_feed text behind
    ]

pub comment_read : (text : List ℕ) → length (comment_line (35 ∷ text)) ≤ 262200 → SaysNothing (comment_line (35 ∷ text))
comment_read text short = record { blank = comment (flat_map byte_text text) (no_feed text); length = short }
