-- The numbers that the matches hold for the options on capacity.
use Rattle.std.proofs.Common.{◌≡◌, ◌⊎◌, ◌<◌, ◌^◌, ℕ, List, Option, None, Some, Result, Ok, Err, inl, inr, refl, sym, subst}
use Rattle.std.specs.Prelude.{unwrap_or}
use Rattle.std.specs.Str.Parse.{IsNumeral, ParsesUnsigned, digits_value, without_leading_plus}
use Rattle.clap.specs.Words.{ReadsOne, found_of, one_text}
use Rattle.clap.specs.declared.parser.matches.ArgMatches.{ArgMatches}
use Rattle.nbt_command.specs.Options.{HasNoNumber, IsNumberOf}

-- the text is a decimal number of so many bits
abbrev pub IsNumber : ℕ → List ℕ → Type 0
IsNumber width text = IsNumeral 10 (without_leading_plus text) × (digits_value 10 (without_leading_plus text) < 2 ^ width)

-- IsGot width text got: what was got of the text: its number, or none where it isn't one
abbrev pub IsGot : ℕ → List ℕ → Option ℕ → Type 0
IsGot width text (Some n) = IsNumber width text × (n ≡ digits_value 10 (without_leading_plus text))
IsGot width text None = ¬ IsNumber width text

-- Parses width gives: what reads so reads decimal numbers of so many bits
abbrev pub Parses : {E : Type 0} → ℕ → (List ℕ → Result ℕ E → Type 0) → Type 0
Parses {E} width gives = (text : List ℕ) (r : Result ℕ E) → gives text r → ParsesUnsigned width 10 text r

is_got : {E : Type 0} (width : ℕ) (gives : List ℕ → Result ℕ E → Type 0) → Parses width gives → (text : List ℕ) (got : Option ℕ)
    → ReadsOne gives text got → IsGot width text got
is_got width gives parses text (Some n) read = parses text (Ok n) read
is_got width gives parses text None (e, read) = parses text (Err e) read

given_by : (width : ℕ) (matches : ArgMatches) (option : List ℕ) (n : ℕ) (held : Option (List ℕ)) → one_text (found_of matches) option ≡ held
    → (one_text (found_of matches) option ≡ None → Some n ≡ None)
    → ((text : List ℕ) → one_text (found_of matches) option ≡ Some text → IsGot width text (Some n))
    → IsNumberOf width matches option n
given_by width matches option n None is none value = absurd (let clash = none is in cc)
given_by width matches option n (Some text) is none value =
    let read = value text is in
    record {
      text = text;
      held = is;
      digits = read.0.0;
      is = read.1;
      fits = subst (λ (m : ℕ). m < 2 ^ width) (sym read.1) read.0.1;
    }

-- a number that was got is the one of the text that is held
pub number_given : (width : ℕ) (matches : ArgMatches) (option : List ℕ) (n : ℕ) → (one_text (found_of matches) option ≡ None → Some n ≡ None)
    → ((text : List ℕ) → one_text (found_of matches) option ≡ Some text → IsGot width text (Some n))
    → IsNumberOf width matches option n
number_given width matches option n none value = given_by width matches option n (one_text (found_of matches) option) refl none value

-- where none was got, none is held
pub no_number_given : (width : ℕ) (matches : ArgMatches) (option : List ℕ)
    → ((text : List ℕ) → one_text (found_of matches) option ≡ Some text → ¬ IsNumber width text)
    → HasNoNumber width matches option
no_number_given width matches option value n number =
    value number.text number.held (number.digits, subst (λ (m : ℕ). m < 2 ^ width) number.is number.fits)

-- the number that was got for an option, or another where none was got
pub number_or : {E : Type 0} (width other : ℕ) (option : List ℕ) (gives : List ℕ → Result ℕ E → Type 0) → Parses width gives
    → (matches : ArgMatches) (got : Option ℕ) → (one_text (found_of matches) option ≡ None → got ≡ None)
    → ((text : List ℕ) → one_text (found_of matches) option ≡ Some text → ReadsOne gives text got)
    → IsNumberOf width matches option (unwrap_or got other) ⊎ (HasNoNumber width matches option × (unwrap_or got other ≡ other))
number_or width other option gives parses matches (Some n) none value =
    inl (number_given width matches option n none (λ text is. is_got width gives parses text (Some n) (value text is)))
number_or width other option gives parses matches None none value =
    inr (no_number_given width matches option (λ text is. is_got width gives parses text None (value text is)), refl)
