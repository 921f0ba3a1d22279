-- What a table takes in of another under its limits, and the datagrams that this gives (our choice).
use Rattle.std.specs.Prelude.{◌≡◌, ◌≢◌, ◌&&◌, ◌-◌, ℕ, Bool, List, filter, slice_get, is_none, Option, Some, None}
use Rattle.std.specs.List.{filter_map}
use Rattle.std.specs.declared.cmp.Ordering.TheVariants.{Greater}
use Rattle.std.specs.FinMap as maps
use Rattle.nb_datagram.specs.declared.key.Key.{Key}
use Rattle.nb_datagram.specs.Key.{key_cmp}
use Rattle.nb_datagram.specs.Fragment.{DatagramParts}
use Rattle.nb_table.specs.declared.fault.TableFault.{TableFault}
use Rattle.nb_table.specs.declared.fault.TableFault.TheVariants.{MisplacedFirst, TooLong, FullSource, Full, NoMemory}
use Rattle.nb_entries.specs.Entry.{EntryValue, IsShort}
use Rattle.nb_table.specs.Contents.{Contents, newly_whole}
use Rattle.nb_table.specs.Limits.{every_key, held_keys, of_source, Limits}

-- AllShort n t: each entry of t is spoilt, or has its bytes below n, and ends and promises at most there
abbrev pub AllShort : ℕ → Contents → Type 0
AllShort n t = (k : Key) (e : EntryValue) → maps.get t k ≡ Some e → IsShort n e

-- new_keys p s t: the keys of t that are in the group p and that s lacks, ascending
abbrev pub new_keys : (Key → Bool) → Contents → Contents → List Key
new_keys p s t = filter (λ k. p k && is_none (maps.get s k)) (maps.keys t)

-- first_unfit n p s t: where at most n keys of the group p may be held, the least key of t that doesn't
-- fit when the keys of t are added to s, ascending: the one at which n are held
abbrev pub first_unfit : ℕ → (Key → Bool) → Contents → Contents → Option Key
first_unfit n p s t = slice_get (new_keys p s t) (n - held_keys p s)

-- SourcesFit n s t: each key of t fits where at most n keys of one address may be held
abbrev pub SourcesFit : ℕ → Contents → Contents → Type 0
SourcesFit n s t = (ip : List ℕ) → first_unfit n (of_source ip) s t ≡ None

-- IsUnfitSource n s t k: where at most n keys of one address may be held, k is the least key of t that doesn't
-- fit among those of its own address
pub record IsUnfitSource (n : ℕ) (s t : Contents) (k : Key) : Type 0 where
  pub unfit : first_unfit n (of_source k.ip) s t ≡ Some k
  pub least : (q : Key) → first_unfit n (of_source q.ip) s t ≡ Some q → key_cmp k q ≢ Greater

-- Fits l s t: the table s takes in t under the limits l: each entry of t is short, and each key fits
pub record Fits (l : Limits) (s t : Contents) : Type 0 where
  pub short : AllShort l.longest t
  pub sources : SourcesFit l.per_source s t
  pub room : first_unfit l.keys every_key s t ≡ None

-- IsRefused l s t fault: the table s doesn't take in t under the limits l, for this reason; for want of
-- memory only what fits
abbrev pub IsRefused : Limits → Contents → Contents → TableFault → Type 0
IsRefused l s t MisplacedFirst = ⊥
IsRefused l s t TooLong = AllShort l.longest t → ⊥
IsRefused l s t (FullSource k) = AllShort l.longest t × IsUnfitSource l.per_source s t k
IsRefused l s t (Full k) = AllShort l.longest t × (first_unfit l.keys every_key s t ≡ Some k) × SourcesFit l.per_source s t
IsRefused l s t NoMemory = Fits l s t

-- newly_handed before after: the datagrams of the keys that are whole in the table after, and weren't in
-- the one before, by ascending key
abbrev pub newly_handed : Contents → Contents → List DatagramParts
newly_handed before after = filter_map (newly_whole before after) (maps.keys after)
