-- Fragments of datagrams, and what counts of them when they are put together again (RFC 1002 sections
-- 4.4.1, 4.4.2 and 5.3).
--
-- Places count from the first byte of the datagram's data, names not counted.
-- Our choice, and other than section 5.3: each fragment carries both names, and its offset is a place so
-- counted. M alone of the flags counts when fragments are put together; F takes no part.
use Rattle.std.specs.Prelude.{◌≡◌, ◌==◌, ℕ, ◌+◌, ◌-◌, ◌≤◌, Bool, false, cond, not, List, map, length, slice_get, bit_and, nat_le, Option, Some, None}
use Rattle.nb_names.specs.DomainName.{spelling}
use Rattle.nb_names.specs.Name.{NetbiosName, labels_of_name}
use Rattle.nb_datagram.specs.declared.key.Key.{Key}
use Rattle.nb_datagram.specs.declared.key.Kind.{Kind}

-- the parts of a fragment: what its packet says
pub record FragmentParts : Type 0 where
  pub kind : Kind
  pub flags : ℕ
  pub key : Key
  pub offset : ℕ
  pub source : NetbiosName
  pub destination : NetbiosName
  pub bytes : List ℕ

-- named_length source destination bytes: the bytes of both names, spelled plainly, and of the data
abbrev pub named_length : NetbiosName → NetbiosName → List ℕ → ℕ
named_length source destination bytes =
    length (spelling (labels_of_name source)) + length (spelling (labels_of_name destination)) + length bytes

-- the flag M, bit 01: more fragments follow
abbrev pub has_more : ℕ → Bool
has_more flags = not (bit_and flags 1 == 0)

-- the flag F, bit 02: this is the first fragment
abbrev pub is_first : ℕ → Bool
is_first flags = not (bit_and flags 2 == 0)

-- the core of a fragment: all of it that counts when fragments are put together
pub record Core : Type 0 where
  pub key : Key
  pub kind : Kind
  pub source : NetbiosName
  pub destination : NetbiosName
  pub offset : ℕ
  pub bytes : List ℕ
  pub more : Bool

-- the core of a fragment with these parts
abbrev pub core_of : FragmentParts → Core
core_of f = record {
  key = f.key;
  kind = f.kind;
  source = f.source;
  destination = f.destination;
  offset = f.offset;
  bytes = f.bytes;
  more = has_more f.flags;
}

-- the place after its last byte
abbrev pub reach : Core → ℕ
reach f = f.offset + length f.bytes

-- Covers f i x: f has the byte x at place i
abbrev pub Covers : Core → ℕ → ℕ → Type 0
Covers f i x = (f.offset ≤ i) × (slice_get f.bytes (i - f.offset) ≡ Some x)

-- f ends at n: no more follows, and n is the place after its last byte
abbrev pub EndsAt : Core → ℕ → Type 0
EndsAt f n = (f.more ≡ false) × (reach f ≡ n)

-- the byte that f has at a place, if it covers it
abbrev pub byte_of : Core → ℕ → Option ℕ
byte_of f i = cond (nat_le f.offset i) (slice_get f.bytes (i - f.offset)) None

-- where f ends, if it does
abbrev pub end_of_one : Core → Option ℕ
end_of_one f = cond f.more None (Some (reach f))

-- the cores of fragments, in order
abbrev pub cores_of : List FragmentParts → List Core
cores_of = map core_of

-- ---- whole datagrams

-- the parts of a datagram; a place in it counts from the first of its bytes
pub record DatagramParts : Type 0 where
  pub key : Key
  pub kind : Kind
  pub source : NetbiosName
  pub destination : NetbiosName
  pub bytes : List ℕ

-- datagram_by f bytes: the datagram that the fragment f is of, if its data is these bytes
abbrev pub datagram_by : FragmentParts → List ℕ → DatagramParts
datagram_by f bytes = record { key = f.key; kind = f.kind; source = f.source; destination = f.destination; bytes = bytes }
