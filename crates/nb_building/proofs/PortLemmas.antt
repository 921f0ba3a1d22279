-- Which port the packets that words name are of, by the first word.
use Rattle.nb_building.proofs.Common.{◌≡◌, inl, inr, ap, Bool, ℕ, List, get_or, Result, refl, sym, ◌∙◌, arith, ◌==◌, if◌then◌else◌, IfErr, ServicePacket, IsServiceBuilt, IsSessionBuilt, Names, NamesDatagrams, NamesService, NamesSession, query, request, fragments, error, queries, of_service, of_session, of_datagrams, Kind, Unique, QueryKind, kind_text, query_word, BuildFault, Explains, IsDatagramWord, IsServiceWord, IsSessionWord}
use Rattle.nb_session.specs.Packet as session
use Rattle.nb_datagram.specs.declared.packet.QueryKind.TheVariants as query_kind
use Rattle.nb_building.proofs.TakenLemmas.{explained_wider}

-- the port, by the first letter of the word, or the third of those that begin with `r`, or the second of those with `m`
abbrev pub port_of : List ℕ → ℕ
port_of what =
    if get_or what 0 0 == 113 then 137
    else if get_or what 0 0 == 115 then 137
    else if get_or what 0 0 == 112 then 139
    else if get_or what 0 0 == 110 then 139
    else if get_or what 0 0 == 107 then 139
    else if get_or what 0 0 == 109 then (if get_or what 1 0 == 101 then 139 else 138)
    else if get_or what 0 0 == 114 then (if get_or what 2 0 == 113 then 139 else if get_or what 2 0 == 116 then 139 else 137)
    else 138

service_port : (broadcast : Bool) (what : List ℕ) (texts : List (List ℕ)) (packet : ServicePacket) → NamesService broadcast what texts packet
    → port_of what ≡ 137
service_port broadcast _ _ _ (query id name a b is_a is_b) = refl
service_port broadcast _ _ _ others = refl

session_port : (what : List ℕ) (texts : List (List ℕ)) (packet : session.Packet) → NamesSession what texts packet → port_of what ≡ 139
session_port _ _ _ (request called calling a b is_a is_b) = refl
session_port _ _ _ others = refl

kind_port : (kind : Kind) → port_of (kind_text kind) ≡ 138
kind_port Unique = refl
kind_port others = refl

query_port : (kind : QueryKind) → port_of (query_word kind) ≡ 138
query_port query_kind.Request = refl
query_port others = refl

datagram_port : (what : List ℕ) (texts payloads : List (List ℕ)) → NamesDatagrams what texts payloads → port_of what ≡ 138
datagram_port _ _ _ (fragments d most a b c e f is_a is_b is_c is_e is_f some short fit) = kind_port d.kind
datagram_port _ _ _ (error key code a b is_a is_b) = refl
datagram_port _ _ _ (queries kind key name a b is_a is_b) = query_port kind

service_only : (broadcast : Bool) (what : List ℕ) (texts : List (List ℕ)) → port_of what ≡ 137
    → ((bytes : List ℕ) → ¬ IsServiceBuilt broadcast what texts bytes) → (port : ℕ) (payloads : List (List ℕ))
    → ¬ Names broadcast what texts port payloads
service_only broadcast what texts is none _ _ (of_service bytes h) = none bytes h
service_only broadcast what texts is none _ _ (of_session bytes h) =
    let clash = sym is ∙ session_port what texts h.packet h.named in absurd (omega (arith, clash))
service_only broadcast what texts is none _ _ (of_datagrams payloads h) =
    let clash = sym is ∙ datagram_port what texts payloads h in absurd (omega (arith, clash))

session_only : (broadcast : Bool) (what : List ℕ) (texts : List (List ℕ)) → port_of what ≡ 139
    → ((bytes : List ℕ) → ¬ IsSessionBuilt what texts bytes) → (port : ℕ) (payloads : List (List ℕ))
    → ¬ Names broadcast what texts port payloads
session_only broadcast what texts is none _ _ (of_service bytes h) =
    let clash = sym is ∙ service_port broadcast what texts h.packet h.named in absurd (omega (arith, clash))
session_only broadcast what texts is none _ _ (of_session bytes h) = none bytes h
session_only broadcast what texts is none _ _ (of_datagrams payloads h) =
    let clash = sym is ∙ datagram_port what texts payloads h in absurd (omega (arith, clash))

datagram_only : (broadcast : Bool) (what : List ℕ) (texts : List (List ℕ)) → port_of what ≡ 138
    → ((payloads : List (List ℕ)) → ¬ NamesDatagrams what texts payloads) → (port : ℕ) (payloads : List (List ℕ))
    → ¬ Names broadcast what texts port payloads
datagram_only broadcast what texts is none _ _ (of_service bytes h) =
    let clash = sym is ∙ service_port broadcast what texts h.packet h.named in absurd (omega (arith, clash))
datagram_only broadcast what texts is none _ _ (of_session bytes h) =
    let clash = sym is ∙ session_port what texts h.packet h.named in absurd (omega (arith, clash))
datagram_only broadcast what texts is none _ _ (of_datagrams payloads h) = none payloads h

-- ---- what one port's words don't name, those of the others don't either

pub service_explained : {T : Type 0} (broadcast : Bool) (what : List ℕ) (texts : List (List ℕ)) (r : Result T BuildFault)
    → port_of what ≡ 137 → IfErr r (Explains (IsServiceBuilt broadcast what texts) what texts)
    → IfErr r (Explains (λ (packets : ℕ × List (List ℕ)). Names broadcast what texts packets.0 packets.1) what texts)
service_explained broadcast what texts r is =
    explained_wider (IsServiceBuilt broadcast what texts) (λ (packets : ℕ × List (List ℕ)). Names broadcast what texts packets.0 packets.1) what texts r
    (λ none packets. service_only broadcast what texts is none packets.0 packets.1)

pub session_explained : {T : Type 0} (broadcast : Bool) (what : List ℕ) (texts : List (List ℕ)) (r : Result T BuildFault)
    → port_of what ≡ 139 → IfErr r (Explains (IsSessionBuilt what texts) what texts)
    → IfErr r (Explains (λ (packets : ℕ × List (List ℕ)). Names broadcast what texts packets.0 packets.1) what texts)
session_explained broadcast what texts r is =
    explained_wider (IsSessionBuilt what texts) (λ (packets : ℕ × List (List ℕ)). Names broadcast what texts packets.0 packets.1) what texts r
    (λ none packets. session_only broadcast what texts is none packets.0 packets.1)

pub datagram_explained : {T : Type 0} (broadcast : Bool) (what : List ℕ) (texts : List (List ℕ)) (r : Result T BuildFault)
    → port_of what ≡ 138 → IfErr r (Explains (NamesDatagrams what texts) what texts)
    → IfErr r (Explains (λ (packets : ℕ × List (List ℕ)). Names broadcast what texts packets.0 packets.1) what texts)
datagram_explained broadcast what texts r is =
    explained_wider (NamesDatagrams what texts) (λ (packets : ℕ × List (List ℕ)). Names broadcast what texts packets.0 packets.1) what texts r
    (λ none packets. datagram_only broadcast what texts is none packets.0 packets.1)

-- ---- the first words of each port

pub service_word : (what : List ℕ) → IsServiceWord what → port_of what ≡ 137
service_word what (inl is) = ap port_of is
service_word what (inr (inl is)) = ap port_of is
service_word what (inr (inr (inl is))) = ap port_of is
service_word what (inr (inr (inr (inl is)))) = ap port_of is
service_word what (inr (inr (inr (inr (inl is))))) = ap port_of is
service_word what (inr (inr (inr (inr (inr is))))) = ap port_of is

pub session_word : (what : List ℕ) → IsSessionWord what → port_of what ≡ 139
session_word what (inl is) = ap port_of is
session_word what (inr (inl is)) = ap port_of is
session_word what (inr (inr (inl is))) = ap port_of is
session_word what (inr (inr (inr (inl is)))) = ap port_of is
session_word what (inr (inr (inr (inr (inl is))))) = ap port_of is
session_word what (inr (inr (inr (inr (inr is))))) = ap port_of is

pub datagram_word : (what : List ℕ) → IsDatagramWord what → port_of what ≡ 138
datagram_word what (inl is) = ap port_of is
datagram_word what (inr (inl is)) = ap port_of is
datagram_word what (inr (inr (inl is))) = ap port_of is
datagram_word what (inr (inr (inr (inl is)))) = ap port_of is
datagram_word what (inr (inr (inr (inr (inl is))))) = ap port_of is
datagram_word what (inr (inr (inr (inr (inr (inl is)))))) = ap port_of is
datagram_word what (inr (inr (inr (inr (inr (inr is)))))) = ap port_of is
