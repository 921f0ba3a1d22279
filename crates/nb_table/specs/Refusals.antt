-- What refusals come to, in other words than those in which they are defined (our choice). Laws cite these.
use Rattle.std.specs.Prelude.{◌≡◌, Bool, true, None}
use Rattle.std.specs.Ordering.{is_lt}
use Rattle.std.specs.FinMap as maps
use Rattle.nb_datagram.specs.declared.key.Key.{Key}
use Rattle.nb_datagram.specs.Key.{key_cmp}
use Rattle.nb_table.specs.Contents.{Contents}

-- is_lesser k q: the key q is less than the key k, as a test
abbrev pub is_lesser : Key → Key → Bool
is_lesser k q = is_lt (key_cmp q k)

-- below k t: what the table t has at keys less than k
abbrev pub below : Key → Contents → Contents
below k t = maps.retain_keys t (is_lesser k)

-- IsNew s t k: the table t holds the key k, and s doesn't
pub record IsNew (s t : Contents) (k : Key) : Type 0 where
  pub lacks : maps.get s k ≡ None
  pub held : maps.contains_key t k ≡ true
