-- What an input is that is no capture file, by its first two bytes, as far as it has them (our choice; gzip: RFC 1952 section 2.3.1).
use Rattle.std.specs.Prelude.{ℕ, ◌&&◌, Option, Some, None, cond, nat_eq}
use Rattle.nbt_look.specs.declared.signature.Sort.{Sort}
use Rattle.nbt_look.specs.declared.signature.Sort.TheVariants.{Empty, Gzip, Other}

-- sort_of first second: files of gzip begin with 1f 8b
abbrev pub sort_of : Option ℕ → Option ℕ → Sort
sort_of None second = Empty
sort_of (Some first) None = Other
sort_of (Some first) (Some second) = cond (nat_eq first 0x1f && nat_eq second 0x8b) Gzip Other
