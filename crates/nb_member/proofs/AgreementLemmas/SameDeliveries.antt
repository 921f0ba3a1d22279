-- What members hand over that are given the same fragments.
use Rattle.nb_member.proofs.Common.{◌≡◌, ◌↔◌, Bool, cond, List, [], ◌∷◌, Option, Some, None, sym, ap, ◌∙◌, inl, inr, subst, cases_Bool, option_to_list, NetbiosName, Key, Core, DatagramParts, IsSpoilt, Contents, table_of, IsWholeAt, datagram_at, Settings, hears, Hears, Saying, table_from, live, cores, deliveries, of_key, heard, whole_of, HandsOverOnce, HandOverTheSame, HandsOverTheSenders, valid, NoneDropped, GiveTheSame, Event, Pair, none_from}
use Rattle.std.specs.FinMap as maps
use Rattle.nb_entries.specs.declared.slot.Slot.TheVariants.{Spoilt}
use Rattle.nb_table.specs.Sender.{HasPartsAlone, HasAll, Gives}
use Rattle.nb_member.proofs.HearingLemmas.{Hears-from_test, test-from_Hears}
use Rattle.nb_member.proofs.LiveLemmas.{TablesKnown, live_is_valid, rooms, same_live}
use Rattle.nb_member.proofs.DeliveryLemmas.WholeKeys.{DatagramsKnown, filters_swap, all_heard_from_none}
use Rattle.nb_member.proofs.AgreementLemmas.SameTable.{BothDid}

-- a table has a key spoilt where its fragments disagree about it
abbrev pub SpoiltKnown : Type 0
SpoiltKnown = (L : List Core) (k : Key) → (maps.get (table_of L) k ≡ Some Spoilt) ↔ IsSpoilt L k

-- ---- each key once

once_of : DatagramsKnown → SpoiltKnown → (settings : Settings) (names : List NetbiosName) (S : List Saying) (L : List Core)
    → NoneDropped settings [] S → table_from (live settings S) ≡ table_of L
    → HandsOverOnce names L (deliveries settings names [] S)
once_of known spoilt settings names S L kept e k sound =
    all_heard_from_none known settings names S k kept
    (λ s. sound ((spoilt L k).0 (ap (λ (t : Contents). maps.get t k) (sym e) ∙ s)))
    ∙ ap (λ (t : Contents). heard names (option_to_list (datagram_at t k))) e

-- what is live after the first events is what both are given
first_table : TablesKnown → (settings : Settings) (S T : List Saying) → GiveTheSame settings S T
    → table_from (live settings S) ≡ table_of (cores (valid S))
first_table known settings S T h = ap table_of (live_is_valid settings [] S h.none_dropped (rooms known settings S T h).0)

pub first_once : TablesKnown → DatagramsKnown → SpoiltKnown → (settings : Settings) (S T : List Saying) → GiveTheSame settings S T
    → (names : List NetbiosName) → HandsOverOnce names (cores (valid S)) (deliveries settings names [] S)
first_once tables known spoilt settings S T h names =
    once_of known spoilt settings names S (cores (valid S)) h.none_dropped (first_table tables settings S T h)

pub second_once : TablesKnown → DatagramsKnown → SpoiltKnown → (settings : Settings) (S T : List Saying) → GiveTheSame settings S T
    → (names : List NetbiosName) → HandsOverOnce names (cores (valid S)) (deliveries settings names [] T)
second_once tables known spoilt settings S T h names =
    once_of known spoilt settings names T (cores (valid S)) h.none_dropped_there
    (sym (same_live tables settings S T h) ∙ first_table tables settings S T h)

-- ---- the same of what both hear

pub the_same : (names others : List NetbiosName) (L : List Core) (ds es : List DatagramParts) → HandsOverOnce names L ds
    → HandsOverOnce others L es → HandOverTheSame names others L ds es
the_same names others L ds es first second k sound =
    ap (heard others) (first k sound)
    ∙ (filters_swap (hears others) (hears names) (whole_of L k)
    ∙ sym (ap (heard names) (second k sound)))

-- ---- what is heard of one datagram

pub heard_is : (names : List NetbiosName) (d : DatagramParts) → Hears names d → heard names (d ∷ []) ≡ d ∷ []
heard_is names d h = ap (λ (b : Bool). cond b (d ∷ []) []) (test-from_Hears names d.kind d.destination h)

pub unheard_is : (names : List NetbiosName) (d : DatagramParts) → (Hears names d → ⊥) → heard names (d ∷ []) ≡ []
unheard_is names d h =
    elim (cases_Bool (hears names d)) [
      | inl hearing ↦ absurd (h (Hears-from_test names d.kind d.destination hearing))
      | inr deaf ↦ ap (λ (b : Bool). cond b (d ∷ []) []) deaf
    ]

-- what is handed over of a key, by its datagram
pub once_is : (names : List NetbiosName) (L : List Core) (ds : List DatagramParts) → HandsOverOnce names L ds → (k : Key)
    → (IsSpoilt L k → ⊥) → (o : Option DatagramParts) → datagram_at (table_of L) k ≡ o → of_key k ds ≡ heard names (option_to_list o)
once_is names L ds once k sound o e = once k sound ∙ ap (λ o. heard names (option_to_list o)) e

-- a key that isn't whole has no datagram
pub not_whole : ((t : Contents) (k : Key) → IsWholeAt t k ↔ ((d : DatagramParts) × (datagram_at t k ≡ Some d)))
    → (L : List Core) (k : Key) → (IsWholeAt (table_of L) k → ⊥) → datagram_at (table_of L) k ≡ None
not_whole whole L k part = none_from (datagram_at (table_of L) k) (λ d e. part ((whole (table_of L) k).1 (d, e)))

-- ---- what a sender cut

pub senders : ((L : List Core) (d : DatagramParts) → HasPartsAlone L d → IsSpoilt L d.key → ⊥)
    → ((L : List Core) (d : DatagramParts) → HasPartsAlone L d → HasAll L d → Gives (table_of L) d)
    → (names : List NetbiosName) (L : List Core) (ds : List DatagramParts) → HandsOverOnce names L ds → HandsOverTheSenders names L ds
senders sound gives names L ds once d parts all hears =
    once_is names L ds once d.key (sound L d parts) (Some d) (gives L d parts all) ∙ heard_is names d hears

-- ---- what two members hand over that are given the same fragments

-- what holds of what each makes holds of what each hands over
pub of_each : {settings : Settings} {names_a names_b : List NetbiosName} {events_a events_b : List Event} {pair : Pair} {S T : List Saying}
    → (P : List NetbiosName → List DatagramParts → Type 0) → BothDid settings names_a names_b events_a events_b pair S T
    → P names_a (deliveries settings names_a [] S) → P names_b (deliveries settings names_b [] T)
    → P names_a pair.report_a.deliveries × P names_b pair.report_b.deliveries
of_each {names_a = names_a} {names_b = names_b} P did here there =
    (subst (P names_a) (sym did.a.deliveries_are) here, subst (P names_b) (sym did.b.deliveries_are) there)

-- what both hear is the same
pub both_same : {settings : Settings} {names_a names_b : List NetbiosName} {events_a events_b : List Event} {pair : Pair} {S T : List Saying}
    → BothDid settings names_a names_b events_a events_b pair S T
    → HandOverTheSame names_a names_b (cores (valid S)) (deliveries settings names_a [] S) (deliveries settings names_b [] T)
    → HandOverTheSame names_a names_b (cores (valid S)) pair.report_a.deliveries pair.report_b.deliveries
both_same {settings = settings} {names_a = names_a} {names_b = names_b} {pair = pair} {S = S} did same =
    subst (λ (ds : List DatagramParts). HandOverTheSame names_a names_b (cores (valid S)) ds pair.report_b.deliveries)
    (sym did.a.deliveries_are)
    (subst (HandOverTheSame names_a names_b (cores (valid S)) (deliveries settings names_a [] S)) (sym did.b.deliveries_are) same)
