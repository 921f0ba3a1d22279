-- The fragments that are live after events (RFC 1002 section 5.3).
--
-- Our choice: the first fragment of a key starts the timer, at its own moment, and later ones leave it alone,
-- whatever their moments. Only a look at the clock drops a key. Moments and times are in milliseconds.
use Rattle.std.specs.Prelude.{ℕ, List, map, cond, [], ◌∷◌, Option, Some, None, ◌+◌, Bool, false, nat_le, not, ◌&&◌, ◌||◌, ◌++◌, filter, fold, ◌≡◌}
use Rattle.std.specs.FinMap as maps
use Rattle.nb_datagram.specs.declared.key.Key.{Key}
use Rattle.nb_datagram.specs.Fragment.{FragmentParts, Core, core_of}
use Rattle.nb_datagram.specs.Key.{same_key}
use Rattle.nb_table.specs.Contents.{Contents, table_of}
use Rattle.nb_table.specs.Limits.{held_keys, of_source}
use Rattle.nb_member.specs.declared.limits.TheConstants.{FRAGMENT_TIMEOUT}
use Rattle.nb_member.specs.declared.settings.Settings.{Settings}
use Rattle.nb_member.specs.Events.{Saying, came, refused, another, clock}

-- ---- live fragments

-- a fragment, and the moment at which it came
pub record Timed : Type 0 where
  pub moment : ℕ
  pub fragment : FragmentParts

-- the cores of the fragments, in order
abbrev pub cores : List Timed → List Core
cores = map (λ t. core_of t.fragment)

-- the table of the fragments
abbrev pub table_from : List Timed → Contents
table_from L = table_of (cores L)

-- start_at L k: the moment of the first of the fragments with key k, if there is one
abbrev pub start_at : List Timed → Key → Option ℕ
start_at [] k = None
start_at (t ∷ L) k = cond (same_key k t.fragment.key) (Some t.moment) (start_at L k)

-- is_over now start: the timer of a key with this start has run out
abbrev pub is_over : ℕ → Option ℕ → Bool
is_over now None = false
is_over now (Some start) = nat_le (start + FRAGMENT_TIMEOUT) now

-- outlives L now k: the key k isn't dropped where the clock shows now
abbrev pub outlives : List Timed → ℕ → Key → Bool
outlives L now k = not (is_over now (start_at L k))

-- is_source_full settings L k: as many keys of the address of k are live as may be
abbrev pub is_source_full : Settings → List Timed → Key → Bool
is_source_full settings L k = nat_le settings.per_source (held_keys (of_source k.ip) (table_from L))

-- is_full settings L k: a fragment of key k is not taken in, since the key is new and as many keys are live
-- as may be, of its address or in all
abbrev pub is_full : Settings → List Timed → Key → Bool
is_full settings L k =
    not (maps.contains_key (table_from L) k)
    && (is_source_full settings L k || nat_le settings.keys (maps.len (table_from L)))

-- live_after settings L s: the fragments that are live after an event that says s, where L were before
abbrev pub live_after : Settings → List Timed → Saying → List Timed
live_after settings L (came moment f) =
    cond (is_full settings L f.key) L (L ++ record { moment = moment; fragment = f } ∷ [])
live_after settings L (refused fault) = L
live_after settings L another = L
live_after settings L (clock now) = filter (λ t. outlives L now t.fragment.key) L

-- live_from settings L S: the fragments that are live after events that say S, where L were before
abbrev pub live_from : Settings → List Timed → List Saying → List Timed
live_from settings L S = fold (live_after settings) L S

-- live settings S: the fragments that are live after events that say S
abbrev pub live : Settings → List Saying → List Timed
live settings S = live_from settings [] S

-- ---- the limits on keys

-- HasRoom settings L s: it is no fragment that meets a limit on keys, where L are live
abbrev pub HasRoom : Settings → List Timed → Saying → Type 0
HasRoom settings L (came moment f) = is_full settings L f.key ≡ false
HasRoom settings L (refused fault) = Unit {0}
HasRoom settings L another = Unit {0}
HasRoom settings L (clock now) = Unit {0}

-- NoneFull settings L S: no fragment among S meets a limit on keys, where L are live before them
abbrev pub NoneFull : Settings → List Timed → List Saying → Type 0
NoneFull settings L [] = Unit {0}
NoneFull settings L (s ∷ S) = HasRoom settings L s × NoneFull settings (live_after settings L s) S
