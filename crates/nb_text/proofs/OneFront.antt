-- What still stands at the front of a payload is one list of fields.
use Rattle.std.proofs.Common.{◌≡◌, inl, inr, ℕ, ◌<◌, ◌≤◌, List, [], ◌∷◌, ◌++◌, length, map, None, refl, sym, ap, ap₂, ◌∙◌, arith}
use Rattle.nb_service.specs.declared.fault.ServiceFault.{ServiceFault}
use Rattle.nb_service.specs.Header.{PacketHeader, HasHeader}
use Rattle.nb_service.specs.declared.record.Question.{Question}
use Rattle.nb_service.specs.declared.packet.Section.TheVariants.{Answer, Authority, Additional}
use Rattle.nb_service.specs.Items.{PacketItem, HasItems, asked, told, items_of}
use Rattle.nb_service.specs.Packet as service
use Rattle.nb_service.specs.Packet.{ServicePacket}
use Rattle.nb_service.specs.Record.{ResourceRecord}
use Rattle.nb_service.specs.ServiceFaults as service_faults
use Rattle.nb_datagram.specs.declared.fault.DatagramFault.{DatagramFault}
use Rattle.nb_datagram.specs.declared.front.Front.{Front}
use Rattle.nb_datagram.specs.DatagramFaults as datagram_faults
use Rattle.nb_datagram.specs.Fronts.{HasFront, LacksHeader}
use Rattle.nb_datagram.specs.Packet as datagrams
use Rattle.nb_session.specs.declared.parsing.Header.{Header}
use Rattle.nb_session.specs.Packet.{Packet as SessionPacket}
use Rattle.nb_session.specs.declared.parsing.Parsed.TheVariants.{Whole}
use Rattle.nb_session.specs.Header as sessions
use Rattle.nb_session.specs.Parsing.{Parsed, Parses, taken_by}
use Rattle.nb_telling.specs.Telling.{Field}
use Rattle.nb_text.specs.FrontFields.{names_header_fields, names_front_fields, datagram_front_fields, session_front_fields}
use Rattle.nb_text.specs.ServiceFields.{lists_fields}
use Rattle.nb_text.specs.TellsFront as fronts
use Rattle.nb_text.specs.TellsFront.{FrontOf, TellsFront}
use Rattle.nb_service.proofs.PacketLemmas as service_lemmas
use Rattle.nb_service.proofs.NumberedLemmas.{one_items}
use Rattle.nb_datagram.proofs.FaultLemmas as datagram_lemmas
use Rattle.nb_datagram.proofs.FrontLemmas.{one_front}
use Rattle.nb_session.proofs.HeaderLemmas.{header_within, one_header}
use Rattle.nb_session.proofs.ParsingLemmas.{one_answer}
use Rattle.nb_text.specs.Tells.{fields_made}
use Rattle.nb_text.proofs.ShownLemmas.{ByPort, one_by_port, one_made}

-- ---- items

-- the questions and the records of each section
abbrev Lists : Type 0
Lists = List Question × List ResourceRecord × List ResourceRecord × List ResourceRecord

abbrev put : PacketItem → Lists → Lists
put (asked q) lists = (q ∷ lists.0, lists.1, lists.2, lists.3)
put (told Answer e) lists = (lists.0, e ∷ lists.1, lists.2, lists.3)
put (told Authority e) lists = (lists.0, lists.1, e ∷ lists.2, lists.3)
put (told Additional e) lists = (lists.0, lists.1, lists.2, e ∷ lists.3)

abbrev gather : List PacketItem → Lists
gather [] = ([], [], [], [])
gather (item ∷ items) = put item (gather items)

gathered : (qs : List Question) (a b c : List ResourceRecord)
    → gather (map asked qs ++ (map (told Answer) a ++ (map (told Authority) b ++ map (told Additional) c))) ≡ (qs, a, b, c)
gathered (q ∷ qs) a b c = ap (put (asked q)) (gathered qs a b c)
gathered [] (e ∷ a) b c = ap (put (told Answer e)) (gathered [] a b c)
gathered [] [] (e ∷ b) c = ap (put (told Authority e)) (gathered [] [] b c)
gathered [] [] [] (e ∷ c) = ap (put (told Additional e)) (gathered [] [] [] c)
gathered [] [] [] [] = refl

-- packets of the same items have the same lists
same_lists : (p q : ServicePacket) → items_of p ≡ items_of q → lists_fields p ≡ lists_fields q
same_lists p q e =
    ap (λ (l : Lists). lists_fields (record { id = 0; word = 0; questions = l.0; answers = l.1; authorities = l.2; additional = l.3 }))
    (sym (gathered p.questions p.answers p.authorities p.additional) ∙ ap gather e
    ∙ gathered q.questions q.answers q.authorities q.additional)

-- ---- by ports

data NamesFront (payload : List ℕ) : List Field → Type 0 where
  names_whole : (packet : service.ServicePacket) (used : ℕ) → service.IsPacket payload packet used → NamesFront payload []
  names_short : length payload < 12 → NamesFront payload []
  names_part : (fault : ServiceFault) (header : PacketHeader) (part : service.ServicePacket) (next : ℕ)
      → service_faults.PacketFails payload fault → HasItems payload header (items_of part) next → NamesFront payload (names_front_fields header part)

data DatagramFront (payload : List ℕ) : List Field → Type 0 where
  datagram_whole : (packet : datagrams.Packet) (used : ℕ) → datagrams.IsPacket payload packet used → DatagramFront payload []
  datagram_short : LacksHeader payload → DatagramFront payload []
  datagram_part : (fault : DatagramFault) (front : Front) → datagram_faults.PacketFails payload fault → HasFront payload front
      → DatagramFront payload (datagram_front_fields front)

data SessionFront (payload : List ℕ) : List Field → Type 0 where
  session_whole : (packet : SessionPacket) (used : ℕ) → Parses payload (Whole packet used) → SessionFront payload []
  session_short : length payload < 4 → SessionFront payload []
  session_part : (parsed : Parsed) (header : Header) → Parses payload parsed → taken_by parsed ≡ None → sessions.HasHeader payload header
      → SessionFront payload (session_front_fields header)

abbrev FrontBy : List ℕ → ℕ → List Field → Type 0
FrontBy payload = ByPort (NamesFront payload) (DatagramFront payload) (SessionFront payload)

by_port : (payload : List ℕ) (port : ℕ) (more : List Field) → FrontOf payload port more → FrontBy payload port more
by_port payload _ _ (fronts.names packet used h) = inl (refl, names_whole packet used h)
by_port payload _ _ (fronts.no_names_header fault fails low) = inl (refl, names_short low)
by_port payload _ _ (fronts.names_front fault header part next fails h) = inl (refl, names_part fault header part next fails h)
by_port payload _ _ (fronts.datagram packet used h) = inr (inl (refl, datagram_whole packet used h))
by_port payload _ _ (fronts.no_datagram_header fault fails lacks) = inr (inl (refl, datagram_short lacks))
by_port payload _ _ (fronts.datagram_front fault front fails h) = inr (inl (refl, datagram_part fault front fails h))
by_port payload _ _ (fronts.session port packet used a b h) = inr (inr (a, b, session_whole packet used h))
by_port payload _ _ (fronts.no_session_header port a b low) = inr (inr (a, b, session_short low))
by_port payload _ _ (fronts.session_front port parsed header a b h none there) = inr (inr (a, b, session_part parsed header h none there))

-- ---- one for each

module _ (payload : List ℕ) (lacks : (front : Front) → LacksHeader payload → ¬ HasFront payload front) where
  one_names : (x y : List Field) → NamesFront payload x → NamesFront payload y → x ≡ y
  one_names _ _ (names_whole p u h) (names_whole q v g) = refl
  one_names _ _ (names_whole p u h) (names_short low) = refl
  one_names _ _ (names_whole p u h) (names_part f k part next fails g) = absurd (service_lemmas.no_packet payload p u f h fails)
  one_names _ _ (names_short low) (names_whole q v g) = refl
  one_names _ _ (names_short low) (names_short few) = refl
  one_names _ _ (names_short low) (names_part f k part next fails g) = let long = service_lemmas.header_within payload k g.header_there in absurd (omega (arith, low, long))
  one_names _ _ (names_part f k part next fails g) (names_whole q v h) = absurd (service_lemmas.no_packet payload q v f h fails)
  one_names _ _ (names_part f k part next fails g) (names_short low) = let long = service_lemmas.header_within payload k g.header_there in absurd (omega (arith, low, long))
  one_names _ _ (names_part f k part next fails g) (names_part e l other after fail h) =
      let same = one_items payload k l (items_of part) (items_of other) next after g h in
      ap₂ (λ (header : PacketHeader) (fields : List Field). names_header_fields header ++ fields) same.0 (same_lists part other same.1)

  one_datagram : (x y : List Field) → DatagramFront payload x → DatagramFront payload y → x ≡ y
  one_datagram _ _ (datagram_whole p u h) (datagram_whole q v g) = refl
  one_datagram _ _ (datagram_whole p u h) (datagram_short low) = refl
  one_datagram _ _ (datagram_whole p u h) (datagram_part f front fails g) = absurd (datagram_lemmas.no_packet payload p u f h fails)
  one_datagram _ _ (datagram_short low) (datagram_whole q v g) = refl
  one_datagram _ _ (datagram_short low) (datagram_short few) = refl
  one_datagram _ _ (datagram_short low) (datagram_part f front fails g) = absurd (lacks front low g)
  one_datagram _ _ (datagram_part f front fails g) (datagram_whole q v h) = absurd (datagram_lemmas.no_packet payload q v f h fails)
  one_datagram _ _ (datagram_part f front fails g) (datagram_short low) = absurd (lacks front low g)
  one_datagram _ _ (datagram_part f front fails g) (datagram_part e other fail h) = ap datagram_front_fields (one_front payload front other g h)

  not_whole : (packet : SessionPacket) (used : ℕ) (parsed : Parsed) → Parses payload (Whole packet used) → Parses payload parsed → taken_by parsed ≡ None → ⊥
  not_whole packet used parsed h g none = let same = ap taken_by (one_answer payload (Whole packet used) parsed h g) in absurd (cc (same, none))

  one_session : (x y : List Field) → SessionFront payload x → SessionFront payload y → x ≡ y
  one_session _ _ (session_whole p u h) (session_whole q v g) = refl
  one_session _ _ (session_whole p u h) (session_short low) = refl
  one_session _ _ (session_whole p u h) (session_part parsed header g none there) = absurd (not_whole p u parsed h g none)
  one_session _ _ (session_short low) (session_whole q v g) = refl
  one_session _ _ (session_short low) (session_short few) = refl
  one_session _ _ (session_short low) (session_part parsed header g none there) = let long = header_within payload header there in absurd (omega (arith, low, long))
  one_session _ _ (session_part parsed header g none there) (session_whole q v h) = absurd (not_whole q v parsed h g none)
  one_session _ _ (session_part parsed header g none there) (session_short low) = let long = header_within payload header there in absurd (omega (arith, low, long))
  one_session _ _ (session_part parsed header g none there) (session_part other again h void stands) =
      ap session_front_fields (one_header payload header again there stands)

  pub one_told_front : (port : ℕ) (fields others : List Field) → TellsFront payload port fields → TellsFront payload port others
      → fields ≡ others
  one_told_front port fields others a b =
      let first = one_made fields_made payload port a.told b.told a.tells b.tells in
      let more = one_by_port (NamesFront payload) (DatagramFront payload) (SessionFront payload) one_names one_datagram one_session port
      a.more b.more (by_port payload port a.more a.stands) (by_port payload port b.more b.stands) in
      a.are ∙ ap₂ (λ (x y : List Field). x ++ y) first more ∙ sym b.are
