-- What the options of a command ask, by what clap's matches hold for them (our choice).
use Rattle.std.specs.Prelude.{◌≡◌, ◌⊎◌, ◌<◌, ◌^◌, ℕ, Bool, true, false, List, Some, None, codes}
use Rattle.std.specs.Str.Parse.{IsNumeral, digits_value, without_leading_plus}
use Rattle.clap.specs.Words.{found_of, one_text}
use Rattle.clap.specs.declared.parser.matches.ArgMatches.{ArgMatches}
use Rattle.nb_streams.specs.declared.limits.TheConstants.{MAX_INPUT}
use Rattle.nb_capture.specs.declared.comment_writing.Comments.{Comments}
use Rattle.nb_capture.specs.declared.comment_writing.Comments.TheVariants.{LeftOut, Printed}
use Rattle.nb_capture.specs.declared.options.CaptureOptions.{CaptureOptions}

-- IsNumberOf width matches option n: the number is the one that the matches hold for the option: a decimal one of
-- so many bits
pub record IsNumberOf (width : ℕ) (matches : ArgMatches) (option : List ℕ) (n : ℕ) : Type 0 where
  pub text : List ℕ
  pub held : one_text (found_of matches) option ≡ Some text
  pub digits : IsNumeral 10 (without_leading_plus text)
  pub is : n ≡ digits_value 10 (without_leading_plus text)
  pub fits : n < 2 ^ width

-- the matches hold no number of so many bits for the option
abbrev pub HasNoNumber : ℕ → ArgMatches → List ℕ → Type 0
HasNoNumber width matches option = (n : ℕ) → ¬ IsNumberOf width matches option n

-- IsInputLimit matches n: how many bytes the input may have: the number of `--input-limit`, or the usual limit where
-- none is held
abbrev pub IsInputLimit : ArgMatches → ℕ → Type 0
IsInputLimit matches n =
    IsNumberOf 64 matches (codes "input-limit") n ⊎ (HasNoNumber 64 matches (codes "input-limit") × (n ≡ MAX_INPUT))

-- IsGiven matches option given: the matches hold this for an option that has no value
abbrev pub IsGiven : ArgMatches → List ℕ → Bool → Type 0
IsGiven matches option true = one_text (found_of matches) option ≡ Some (codes "true")
IsGiven matches option false = one_text (found_of matches) option ≡ Some (codes "false")

-- AreComments matches comments: comments are printed where the matches hold `true` for `--comments`, and left out where
-- they hold `false` or nothing
pub record AreComments (matches : ArgMatches) (comments : Comments) : Type 0 where
  pub given : one_text (found_of matches) (codes "comments") ≡ Some (codes "true") → comments ≡ Printed
  pub not_given : one_text (found_of matches) (codes "comments") ≡ Some (codes "false") → comments ≡ LeftOut
  pub not_held : one_text (found_of matches) (codes "comments") ≡ None → comments ≡ LeftOut

-- AreOptions matches options: what the matches ask of a call that reads a capture
pub record AreOptions (matches : ArgMatches) (options : CaptureOptions) : Type 0 where
  pub limited : IsInputLimit matches options.most
  pub comments : AreComments matches options.comments
