-- The fields of payloads that were told, and their text.
use Rattle.std.proofs.Common.{◌≡◌, ◌≢◌, ℕ, List, [], ◌∷◌, ◌++◌, Option, Some, None, Result, Ok, Err, ◌≤◌, fold, subst, sym, ◌∙◌, ap, arith, ◌<◌, Bool, true, false, length, refl, append-nil}
use Rattle.std.specs.Prelude.{OnOk, IfOk, IfSome}
use Rattle.std.proofs.lemmas.Result.{on_ok_weaker}
use Rattle.nb_service.specs.FaultTexts.{service_fault_place, service_fault_text}
use Rattle.nb_datagram.specs.declared.fault.DatagramFault.{DatagramFault}
use Rattle.nb_datagram.specs.Packet.{Packet}
use Rattle.nb_datagram.specs.FaultTexts.{datagram_fault_place, datagram_fault_text}
use Rattle.nb_datagram.specs.Packet as datagrams
use Rattle.nb_datagram.specs.DatagramFaults as datagram_faults
use Rattle.nb_session.specs.Parsing.{Parsed, Parses}
use Rattle.nb_telling.specs.Telling.{Field, Text, LineEnds, place_fields}
use Rattle.json.specs.Token.{Token, begin_object, end_object}
use Rattle.json.specs.Print.{print}
use Rattle.nb_telling.specs.Members.{AreMembers, IsJson}
use Rattle.nb_telling.specs.Texts.{field_text, text_of}
use Rattle.nb_telling.specs.Tokens.{field_tokens, tokens_of}
use Rattle.nb_telling.proofs.FoldLemmas.{appended, told_both, and_then}
use Rattle.nb_text.specs.DatagramFields.{datagram_fields}
use Rattle.nb_text.specs.Tags.{refused_tag}
use Rattle.nb_text.specs.Fields.{refused_fields}
use Rattle.nb_text.specs.SessionFields.{session_fields}
use Rattle.nb_text.specs.Shown.{Shown, AddsShown}
use Rattle.nb_text.specs.Made.{names, no_names, datagram, no_datagram, session}
use Rattle.nb_text.specs.Tells.{Tells, IsTold, IsObject, no_service_fields}
use Rattle.nb_text.proofs.FormFields.{fields_members, service_says, datagram_says, session_says, refused_says}
use Rattle.nb_service.specs.declared.fault.ServiceFault.{ServiceFault}
use Rattle.nb_service.specs.Header.{PacketHeader}
use Rattle.nb_service.specs.Items.{HasItems, items_of}
use Rattle.nb_service.specs.Packet.{ServicePacket, IsPacket}
use Rattle.nb_service.specs.ServiceFaults.{PacketFails}
use Rattle.nb_text.specs.FrontFields.{names_front_fields}
use Rattle.nb_text.specs.ServiceFields.{service_fields}
use Rattle.nb_text.specs.Made as tells
use Rattle.nb_text.specs.TellsFront as fronts
use Rattle.nb_text.specs.TellsFront.{FrontOf, TellsFront, ServiceTold}

-- ---- what was told

module _ {S E : Type 0} (after : S → Field → S) (payload : List ℕ) (old new : S) (r : Result (Unit {0}) E) where
  pub datagram_told : (packet : Packet) (used : ℕ) → datagrams.IsPacket payload packet used
      → OnOk r (new ≡ fold after old (datagram_fields packet used)) → OnOk r (IsTold after payload 138 old new)
  datagram_told packet used stands told =
      on_ok_weaker r (λ e. record { fields = datagram_fields packet used; tells = datagram packet used stands; seen = e }) told

  pub no_datagram_told : (fault : DatagramFault) → datagram_faults.PacketFails payload fault
      → OnOk r (new ≡ fold after old (refused_fields (datagram_fault_text fault) (datagram_fault_place fault)))
      → OnOk r (IsTold after payload 138 old new)
  no_datagram_told fault fails told =
      on_ok_weaker r (λ e. record {
        fields = refused_fields (datagram_fault_text fault) (datagram_fault_place fault);
        tells = no_datagram fault fails;
        seen = e;
      }) told

  pub session_told : (parsed : Parsed) → Parses payload parsed → OnOk r (new ≡ fold after old (session_fields parsed))
      → OnOk r ((port : ℕ) → port ≢ 137 → port ≢ 138 → IsTold after payload port old new)
  session_told parsed stands told =
      on_ok_weaker r (λ e port a b. record { fields = session_fields parsed; tells = session port parsed a b stands; seen = e }) told

-- why there is no packet, by the fault's text where it has one
pub refusal_told : {S : Type 0} (after : S → Field → S) (old first second new : S) (output : Option (List ℕ)) (place : Option ℕ)
    → IfSome output (λ fault. first ≡ after old (Text refused_tag fault)) → second ≡ fold after first (place_fields place)
    → new ≡ after second LineEnds → IfSome output (λ fault. new ≡ fold after old (refused_fields fault place))
refusal_told after old first second new None place said at ended = tt
refusal_told {S} after old first second new (Some fault) place said at ended =
    ended ∙ ap (λ (s : S). after s LineEnds) (at ∙ ap (λ (s : S). fold after s (place_fields place)) said)
    ∙ sym (told_both after (after old (Text refused_tag fault)) (place_fields place) (LineEnds ∷ []))

-- ---- its text

-- the fields of a payload have its text
fields_shown : (payload : List ℕ) (port : ℕ) (fields : List Field) → Tells payload port fields → Shown payload port (text_of fields)
fields_shown payload _ _ (names packet used h) =
    subst (Shown payload 137) (sym (service_says packet used).same) (tells.names packet used h)
fields_shown payload _ _ (no_names fault h) =
    subst (Shown payload 137) (sym (refused_says {depth = 0} (service_fault_text fault) (service_fault_place fault)).same) (tells.no_names fault h)
fields_shown payload _ _ (datagram packet used h) =
    subst (Shown payload 138) (sym (datagram_says {depth = 0} packet used).same) (tells.datagram packet used h)
fields_shown payload _ _ (no_datagram fault h) =
    subst (Shown payload 138) (sym (refused_says {depth = 0} (datagram_fault_text fault) (datagram_fault_place fault)).same) (tells.no_datagram fault h)
fields_shown payload _ _ (session port parsed a b h) =
    subst (Shown payload port) (sym (session_says {depth = 0} parsed).same) (tells.session port parsed a b h)

-- a payload that was told to a text
pub told_shown : (payload : List ℕ) (port : ℕ) (old new : List ℕ)
    → IsTold (λ text field. text ++ field_text field) payload port old new → AddsShown payload port old new
told_shown payload port old new told = record {
  text = text_of told.fields;
  shown = fields_shown payload port told.fields told.tells;
  added = told.seen ∙ appended field_text old told.fields;
}

-- ---- its object

-- the tokens of a payload that was told to an object
told_tokens : (payload : List ℕ) (port : ℕ) (old new : List Token)
    → (told : IsTold (λ tokens field. tokens ++ field_tokens field) payload port old new) → old ≡ begin_object ∷ []
    → new ≡ begin_object ∷ tokens_of told.fields
told_tokens payload port old new told begun =
    told.seen ∙ appended field_tokens old told.fields ∙ ap (λ (ts : List Token). ts ++ tokens_of told.fields) begun

pub told_object : {E : Type 0} (payload : List ℕ) (port : ℕ) (old new : List Token) (r : Result (List ℕ) E)
    → IsTold (λ tokens field. tokens ++ field_tokens field) payload port old new → old ≡ begin_object ∷ []
    → IfOk r (λ made. made ≡ print (new ++ end_object ∷ [])) → IfOk r (IsObject payload port)
told_object payload port old new (Ok made) told begun is = record {
  fields = told.fields;
  tells = told.tells;
  is = is ∙ ap (λ (ts : List Token). print (ts ++ end_object ∷ [])) (told_tokens payload port old new told begun);
}
told_object payload port old new (Err e) told begun is = tt

pub told_json : {E : Type 0} (payload : List ℕ) (port : ℕ) (old new : List Token) (r : Result (List ℕ) E)
    → IsTold (λ tokens field. tokens ++ field_tokens field) payload port old new → old ≡ begin_object ∷ []
    → IfOk r (λ made. (depth : ℕ) (fields : List Field) → AreMembers depth fields → depth ≤ 60
    → new ≡ begin_object ∷ tokens_of fields → IsJson made)
    → IfOk r IsJson
told_json payload port old new (Ok made) told begun is =
    is 2 told.fields (fields_members payload port told.fields told.tells) (omega arith) (told_tokens payload port old new told begun)
told_json payload port old new (Err e) told begun is = tt

pub front_alone : (payload : List ℕ) (port : ℕ) (fields : List Field) → Tells payload port fields → FrontOf payload port [] → TellsFront payload port fields
front_alone payload port fields tells none = record { told = fields; more = []; tells = tells; stands = none; are = sym (append-nil fields) }

module _ {S : Type 0} (after : S → Field → S) (payload : List ℕ) (old new : S) where
  -- fields after which no more stands at the front
  pub alone_told : (more : Bool) (fields : List Field) → Tells payload 137 fields → FrontOf payload 137 [] → new ≡ fold after old fields →
      ServiceTold after payload more old new
  alone_told false fields tells none told = record { fields = fields; tells = tells; seen = told }
  alone_told true fields tells none told = record { fields = fields; tells = front_alone payload 137 fields tells none; seen = told }

  pub front_told : (fault : ServiceFault) (header : PacketHeader) (part : ServicePacket) (next : ℕ) (mid : S) → PacketFails payload fault → HasItems payload header (items_of part) next →
      mid ≡ fold after old (no_service_fields fault) → new ≡ fold after mid (names_front_fields header part) →
      ServiceTold after payload true old new
  front_told fault header part next mid fails items first rest = record {
    fields = no_service_fields fault ++ names_front_fields header part;
    tells = record {
      told = no_service_fields fault;
      more = names_front_fields header part;
      tells = tells.no_names fault fails;
      stands = fronts.names_front fault header part next fails items;
      are = refl;
    };
    seen = and_then after old (no_service_fields fault) (names_front_fields header part) first rest;
  }
