-- What words of the command line mean (our choice).
use Rattle.std.specs.Prelude.{◌≡◌, ℕ, ◌≤◌, Bool, not, List, ◌∷◌, ◌++◌, bytes_eq, codes, cond, Option, None, Some}
use Rattle.core.specs.Str.Parse.{digits_value, without_leading_plus}
use Rattle.std.specs.Net.Grammar.{IsIpText}
use Rattle.std.specs.declared.net.ip_addr.IpAddr.{IpAddr}
use Rattle.std.specs.declared.net.ip_addr.IpAddr.TheVariants.{V4, V6}
use Rattle.nbt_look.specs.declared.asked.Asked.{Asked}
use Rattle.nbt_look.specs.declared.asked.Form.{Form}
use Rattle.nbt_look.specs.declared.asked.Form.TheVariants.{Lines, Colours}
use Rattle.nbt_look.specs.declared.asked.Times.TheVariants.{Utc}
use Rattle.nbt_look.specs.declared.wanted.Filter.{Filter}
use Rattle.nbt_look.specs.declared.wanted.Prefix.{Prefix}

-- the byte of `/`
abbrev pub slash : ℕ
slash = 47

-- how many bits an address of this version has
abbrev pub width_of : IpAddr → ℕ
width_of (V4 address) = 32
width_of (V6 address) = 128

-- MeansPrefix word prefix: the word is an address, or one, a slash, and the decimal number of its first bits that are meant
pub data MeansPrefix (word : List ℕ) (prefix : Prefix) : Type 0 where
  alone : IsIpText word prefix.start → prefix.bits ≡ width_of prefix.start → MeansPrefix word prefix
  first_bits : (address digits : List ℕ) → word ≡ address ++ slash ∷ digits → IsIpText address prefix.start
      → digits_value 10 (without_leading_plus digits) ≡ prefix.bits → prefix.bits ≤ width_of prefix.start → MeansPrefix word prefix

-- in_utc wanted form is_quiet: what is asked where packets are shown in a form whose times are in UTC
abbrev pub in_utc : Filter → Form → Bool → Asked
in_utc wanted form is_quiet = record { wanted = wanted; times = Utc; form = form; has_counts = not is_quiet }

-- form_of word is_plain: how lines are shown where `--color` has this word, on an output that is plain, or isn't
abbrev pub form_of : List ℕ → Bool → Option Form
form_of word is_plain =
    cond (bytes_eq word (codes "auto")) (Some (cond is_plain Lines Colours))
    (cond (bytes_eq word (codes "always")) (Some Colours)
    (cond (bytes_eq word (codes "never")) (Some Lines)
    None))
