-- What a member is, its table and the timers of its keys (RFC 1002 section 5.3, FRAGMENT_TO), and the events for
-- which it stands. Moments are in milliseconds.
use Rattle.std.specs.Prelude.{ℕ, cond, Bool, not, List, ◌≡◌}
use Rattle.std.specs.FinMap as maps
use Rattle.nb_names.specs.Name.{NetbiosName}
use Rattle.nb_datagram.specs.declared.key.Key.{Key}
use Rattle.nb_datagram.specs.Key.{key_cmp}
use Rattle.nb_datagram.specs.Fragment.{FragmentParts}
use Rattle.nb_table.specs.Limits.{Limits, TableValue}
use Rattle.nb_table.specs.Insert.{with_fragment}
use Rattle.nb_table.specs.Contents.{Contents}
use Rattle.nb_member.specs.declared.settings.Settings.{Settings}
use Rattle.nb_member.specs.declared.outcome.Event.{Event}
use Rattle.nb_member.specs.Live.{is_over, Timed, table_from, start_at, live}
use Rattle.nb_member.specs.Events.{limits_of, Saying, Say}

-- ---- the table and its timers

-- the moment at which each key came
abbrev pub Moments : Type 0
Moments = maps.FinMap key_cmp ℕ

-- begun moments k moment: the moments, with this one for the key k if it has none
abbrev pub begun : Moments → Key → ℕ → Moments
begun moments k moment = cond (maps.contains_key moments k) moments (maps.insert moments k moment)

-- lasts moments now k: the timer of the key k hasn't run out
abbrev pub lasts : Moments → ℕ → Key → Bool
lasts moments now k = not (is_over now (maps.get moments k))

-- a table, and the moments of its keys
pub record TimedValue : Type 0 where
  pub table : TableValue
  pub moments : Moments

-- after_fragment t moment f: the table with the fragment f, which came at this moment
abbrev pub after_fragment : TimedValue → ℕ → FragmentParts → TimedValue
after_fragment t moment f = record { table = with_fragment t.table f; moments = begun t.moments f.key moment }

-- after_clock t now: the table without the keys whose timers have run out where the clock shows now
abbrev pub after_clock : TimedValue → ℕ → TimedValue
after_clock t now = record {
  table = record {
    contents = maps.retain_keys t.table.contents (lasts t.moments now);
    limits = t.table.limits;
  };
  moments = maps.retain_keys t.moments (lasts t.moments now);
}

-- an empty table with these limits
abbrev pub empty_timed : Limits → TimedValue
empty_timed limits = record { table = record { contents = maps.empty; limits = limits }; moments = maps.empty }

-- ---- members

-- a member: its settings, its names, and its table with the moments of its keys
pub record MemberValue : Type 0 where
  pub settings : Settings
  pub names : List NetbiosName
  pub timed : TimedValue

-- what the member's table holds
abbrev pub contents : MemberValue → Contents
contents m = m.timed.table.contents

-- new_member settings names: a member with these settings and names, whose table is empty
abbrev pub new_member : Settings → List NetbiosName → MemberValue
new_member settings names = record {
  settings = settings;
  names = names;
  timed = record {
    table = record { contents = maps.empty; limits = limits_of settings };
    moments = maps.empty;
  };
}

-- with_timed m t: the member with another table; its settings and names stay
abbrev pub with_timed : MemberValue → TimedValue → MemberValue
with_timed m t = record { settings = m.settings; names = m.names; timed = t }

-- ---- the events for which a member stands

-- StandsOver m L: the member's table is that of the fragments L, with the limits of its settings, and each
-- key's moment is that of its first fragment among them
pub record StandsOver (m : MemberValue) (L : List Timed) : Type 0 where
  pub table_is : contents m ≡ table_from L
  pub limits_are : m.timed.table.limits ≡ limits_of m.settings
  pub moments_are : (k : Key) → maps.get m.timed.moments k ≡ start_at L k

-- Stands m H: the member m stands for the events H: its table, and the moments of its keys, are those of
-- the fragments that are live after H
pub record Stands (m : MemberValue) (H : List Event) : Type 0 where
  pub sayings : List Saying
  pub said : Say m.settings H sayings
  pub over : StandsOver m (live m.settings sayings)
