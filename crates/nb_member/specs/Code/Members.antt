-- How a member is kept, what no call changes of it, and how it finds a payload for whose key there is no room
-- (our choice).
use Rattle.std.specs.Prelude.{ℕ, List, refl, ◌≡◌, Option, Some, None, [], ◌∷◌}
use Rattle.std.specs.Coded.{Coded, code_by, coded×, coded_ℕ, coded_list}
use Rattle.nb_names.specs.Name.{NetbiosName, name_code}
use Rattle.nb_datagram.specs.declared.key.Key.{Key}
use Rattle.nb_datagram.specs.declared.packet.Packet.TheVariants.{Direct}
use Rattle.nb_datagram.specs.Fragment.{FragmentParts}
use Rattle.nb_datagram.specs.Packet.{IsPacket}
use Rattle.nb_table.specs.declared.fault.TableFault.{TableFault}
use Rattle.nb_table.specs.declared.fault.TableFault.TheVariants as table_fault
use Rattle.nb_table.specs.Limits.{IsFull, IsFullSource, TableValue}
use Rattle.nb_table.specs.Insert.{Passes}
use Rattle.nb_member.specs.declared.event_taking.RunStop.{RunStop}
use Rattle.nb_member.specs.declared.event_taking.RunStop.TheVariants.{Full, FullSource, NoMemory}
use Rattle.nb_member.specs.declared.settings.Settings.{Settings}
use Rattle.nb_member.specs.Member.{TimedValue, MemberValue, contents, Moments, begun}
use Rattle.std.specs.FinMap as maps
use Rattle.nb_datagram.specs.Key.{key_code, key_cmp}
use Rattle.nb_table.specs.Codes.{table_code}
use Rattle.nb_table.specs.Contents.{Contents}

-- ---- how a table and the timers of its keys are kept (our choice)

-- the moments as the list of them with their keys
abbrev pub moments_code : Coded Moments
moments_code = maps.code key_code coded_ℕ

-- the two as a pair
abbrev pub timed_code : Coded TimedValue
timed_code =
    code_by (TableValue × Moments) (coded× table_code moments_code) (λ t. (t.table, t.moments))
    (λ p. record { table = p.0; moments = p.1 }) (λ _. refl)

-- the two have the same keys
abbrev pub HaveOneSetOfKeys : Contents → Moments → Type 0
HaveOneSetOfKeys t m = (k : Key) → maps.contains_key m k ≡ maps.contains_key t k

-- each key stands once in the list
abbrev pub StandOnce : List (Key × ℕ) → Type 0
StandOnce [] = Unit {0}
StandOnce (e ∷ es) = (maps.find key_cmp e.0 es ≡ None) × StandOnce es

-- begun_each moments ks moment: the moments, with this one for each of the keys ks that has none
abbrev pub begun_each : Moments → List Key → ℕ → Moments
begun_each moments [] moment = moments
begun_each moments (k ∷ ks) moment = begun_each (begun moments k moment) ks moment

-- settings as the tuple of their fields
abbrev pub settings_code : Coded Settings
settings_code =
    code_by (List ℕ × (ℕ × (ℕ × (ℕ × ℕ))))
    (coded× (coded_list coded_ℕ) (coded× coded_ℕ (coded× coded_ℕ (coded× coded_ℕ coded_ℕ))))
    (λ s. (s.ip, (s.port, (s.keys, (s.per_source, s.longest)))))
    (λ p. record { ip = p.0; port = p.1.0; keys = p.1.1.0; per_source = p.1.1.1.0; longest = p.1.1.1.1 }) (λ _. refl)

-- a member as the tuple of its parts
abbrev pub member_code : Coded MemberValue
member_code =
    code_by (Settings × (List NetbiosName × TimedValue))
    (coded× settings_code (coded× (coded_list name_code) timed_code))
    (λ m. (m.settings, (m.names, m.timed))) (λ p. record { settings = p.0; names = p.1.0; timed = p.1.1 })
    (λ _. refl)

-- KeepsSetup m new: the settings and the names are those that the member m had
abbrev pub KeepsSetup : MemberValue → MemberValue → Type 0
KeepsSetup m new = (new.settings ≡ m.settings) × (new.names ≡ m.names)

-- ---- payloads for which there is no room

-- IsFullAs m k stop: the member's table has no room for the key k, by this of its limits
abbrev pub IsFullAs : MemberValue → Key → RunStop → Type 0
IsFullAs m k (Full q) =
    (q ≡ k) × IsFull m.timed.table.limits (contents m) k × (IsFullSource m.timed.table.limits (contents m) k → ⊥)
IsFullAs m k NoMemory = ⊥
IsFullAs m k (FullSource q) = (q ≡ k) × IsFullSource m.timed.table.limits (contents m) k

-- MeetsFull m f stop: the fragment f passes, and the member m has no room for its key, by this of its limits
pub record MeetsFull (m : MemberValue) (f : FragmentParts) (stop : RunStop) : Type 0 where
  pub passes : Passes m.timed.table.limits f
  pub full : IsFullAs m f.key stop

-- BeginsFull m payload stop: the payload begins with such a fragment
pub record BeginsFull (m : MemberValue) (payload : List ℕ) (stop : RunStop) : Type 0 where
  pub f : FragmentParts
  pub used : ℕ
  pub found : IsPacket payload (Direct f) used
  pub meets : MeetsFull m f stop

-- limit_of refusal: the limit on keys for which a table refuses a fragment, if it refuses it for one
abbrev pub limit_of : Option TableFault → Option RunStop
limit_of None = None
limit_of (Some table_fault.MisplacedFirst) = None
limit_of (Some table_fault.TooLong) = None
limit_of (Some (table_fault.FullSource k)) = Some (FullSource k)
limit_of (Some (table_fault.Full k)) = Some (Full k)
limit_of (Some table_fault.NoMemory) = None
