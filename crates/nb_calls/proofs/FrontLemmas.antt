-- The names at the front of a payload of port 138 stand at the places that are answered.
use Rattle.nb_calls.proofs.Common.{◌≡◌, ◌∙◌, ℕ, ◌+◌, ◌-◌, ◌≤◌, List, length, take, drop, Option, Some, ap, sym, subst, arith, length-take, take-take, drop-take, Refused, StandsAt, NameAt, NetbiosName, labels_of_name, name_bytes, next_within, spelled_there, front_places, places_after}
use Rattle.nb_datagram.specs.declared.front.FragmentFront.{FragmentFront}
use Rattle.nb_datagram.specs.declared.front.Front.{Front}
use Rattle.nb_datagram.specs.Fronts.{FragmentStands, HasFront, NamesStand, RestStands, of_fragment, of_another, no_name, source_alone, both_names}
use Rattle.nb_calls.specs.Datagrams.{numbers}

-- a name that stands in the first bytes of a payload stands in all of it, and is followed there
stands_whole : (payload : List ℕ) (size at : ℕ) (name : NetbiosName) (next : ℕ)
    → NameAt (take size payload) Refused at (labels_of_name name) next
    → StandsAt payload at (name_bytes name) × (next ≡ at + length (name_bytes name))
stands_whole payload size at name next there =
    let spelled = spelled_there (take size payload) at at (labels_of_name name) next there in
    let fits = (next_within (take size payload) Refused at at (labels_of_name name) next there).1 in
    let split : size ≡ at + (size - at) = omega (arith, fits, spelled.1, length-take size payload) in
    let within : length (name_bytes name) ≤ size - at = omega (arith, fits, spelled.1, length-take size payload) in (
      sym (take-take (length (name_bytes name)) (size - at) (drop at payload) within)
          ∙ ap (λ (rest : List ℕ). take (length (name_bytes name)) rest) (sym (ap (λ (n : ℕ). drop at (take n payload)) split ∙ drop-take at (size - at) payload))
          ∙ spelled.0,
      spelled.1,
    )

module _ (payload : List ℕ) (front : Front) (size : ℕ) where
  source_there : (offset : ℕ) (source destination : Option NetbiosName) (name : NetbiosName)
      → NamesStand (take size payload) source destination → source ≡ Some name
      → StandsAt payload (numbers front offset source destination).source (name_bytes name)
  source_there offset _ _ name (no_name fault fails) is = absurd (cc is)
  source_there offset _ _ name (source_alone other next fault named there fails) is =
      subst (λ (n : NetbiosName). StandsAt payload 14 (name_bytes n)) (cc is) (stands_whole payload size 14 other next there).0
  source_there offset _ _ name (both_names other to next end named also there behind) is =
      subst (λ (n : NetbiosName). StandsAt payload 14 (name_bytes n)) (cc is) (stands_whole payload size 14 other next there).0

  destination_there : (offset : ℕ) (source destination : Option NetbiosName) (name : NetbiosName)
      → NamesStand (take size payload) source destination → destination ≡ Some name
      → StandsAt payload (numbers front offset source destination).destination (name_bytes name)
  destination_there offset _ _ name (no_name fault fails) is = absurd (cc is)
  destination_there offset _ _ name (source_alone other next fault named there fails) is = absurd (cc is)
  destination_there offset _ _ name (both_names from other next end named also there behind) is =
      let place = (stands_whole payload size 14 from next there).1 in
      subst (λ (n : NetbiosName). StandsAt payload (14 + length (name_bytes from)) (name_bytes n)) (cc is)
      (subst (λ (n : ℕ). StandsAt payload n (name_bytes other)) place (stands_whole payload size next other end behind).0)

fragment_there : (payload : List ℕ) (type : ℕ) (rest : Option FragmentFront) (fragment : FragmentFront) → RestStands payload type rest
    → rest ≡ Some fragment → FragmentStands payload fragment
fragment_there payload type _ fragment (of_fragment other is stands) e = subst (λ (f : FragmentFront). FragmentStands payload f) (cc e) stands
fragment_there payload type _ fragment (of_another not) e = absurd (cc e)

module _ (payload : List ℕ) (front : Front) (fragment : FragmentFront) (name : NetbiosName) (there : HasFront payload front) (is : front.fragment ≡ Some fragment) where
  stands : FragmentStands payload fragment
  stands = fragment_there payload front.message_type front.fragment fragment there.rest is

  pub source_stands : fragment.source ≡ Some name → StandsAt payload (front_places front).source (name_bytes name)
  source_stands named =
      subst (λ (r : Option FragmentFront). StandsAt payload (places_after front r).source (name_bytes name)) (sym is)
      (source_there payload front (14 + stands.size) fragment.offset fragment.source fragment.destination name stands.names named)

  pub destination_stands : fragment.destination ≡ Some name → StandsAt payload (front_places front).destination (name_bytes name)
  destination_stands named =
      subst (λ (r : Option FragmentFront). StandsAt payload (places_after front r).destination (name_bytes name)) (sym is)
      (destination_there payload front (14 + stands.size) fragment.offset fragment.source fragment.destination name stands.names named)

pub ruleset fronts = (source_stands, destination_stands)
