-- What is told of a line that is shown.
use Rattle.nbt_packets.proofs.Common.{◌≡◌, ℕ, List, [], ◌∷◌, ap, sym, subst, ◌∙◌, arith, codes, Packet, Tick}
use Rattle.std.proofs.Common.{fold}
use Rattle.nb_telling.specs.Telling.{Field, Text}
use Rattle.nb_telling.specs.Members.{AreMembers, member, both}
use Rattle.nb_text.specs.Tags.{kind_tag}
use Rattle.nb_text.specs.SaysPacket.{IsSaid}
use Rattle.nb_text.specs.Tells.{IsTold, Tells}
use Rattle.nb_text.specs.TellsFront.{TellsFront, IsFrontTold}
use Rattle.nb_capture.specs.declared.line.Line as capture
use Rattle.nbt_packets.specs.ShowingFields.{BriefFields, FieldsBy, FrontFields, PacketFields, TellsBrief, brief_tag, packet, phrased, tick}
use Rattle.nbt_command.specs.Objects.{TellsFields}

payload_told : {A : Type 0} (OfPayload : List ℕ → ℕ → List Field → Type 0) (after : A → Field → A) (value : capture.Line) (s t : Unit {0}) (port moment : ℕ) (payload : List ℕ)
    (fields : List Field) (old new : A) → value ≡ Packet port moment payload → OfPayload payload port fields → AreMembers 2 fields → new ≡ fold after old fields
    → TellsFields (FieldsBy OfPayload value s t) after old new
payload_told OfPayload after value s t port moment payload fields old new said told members seen = record {
  fields = fields;
  are = subst (λ (v : capture.Line). FieldsBy OfPayload v s t fields) (sym said) (packet port moment payload s t fields told);
  depth = 2;
  low = omega arith;
  members = members;
  seen = seen;
}

pub tick_told : {A : Type 0} {OfPayload : List ℕ → ℕ → List Field → Type 0} (after : A → Field → A) (value : capture.Line) (s t : Unit {0}) (now : ℕ) (old new : A)
    → value ≡ Tick now → new ≡ after old (Text kind_tag (codes "tick")) → TellsFields (FieldsBy OfPayload value s t) after old new
tick_told {OfPayload = OfPayload} after value s t now old new said told = record {
  fields = Text kind_tag (codes "tick") ∷ [];
  are = subst (λ (v : capture.Line). FieldsBy OfPayload v s t (Text kind_tag (codes "tick") ∷ [])) (sym said) (tick now s t);
  depth = 2;
  low = omega arith;
  members = member _ tt;
  seen = told;
}

pub packet_told : {A : Type 0} (after : A → Field → A) (value : capture.Line) (s t : Unit {0}) (port moment : ℕ) (payload : List ℕ) (old new : A)
    → value ≡ Packet port moment payload
    → ((p : List ℕ) (n : ℕ) (fields : List Field) → Tells p n fields → AreMembers 2 fields)
    → IsTold after payload port old new → TellsFields (PacketFields value s t) after old new
packet_told after value s t port moment payload old new said are told =
    payload_told Tells after value s t port moment payload told.fields old new said told.tells (are payload port told.fields told.tells) told.seen

pub phrased_told : {A : Type 0} (after : A → Field → A) (value : capture.Line) (s t : Unit {0}) (port moment : ℕ) (payload phrase : List ℕ) (old mid new : A)
    → value ≡ Packet port moment payload → ((p : List ℕ) (n : ℕ) (fields : List Field) → Tells p n fields → AreMembers 2 fields) → IsSaid payload port phrase
    → mid ≡ after old (Text brief_tag phrase) → IsTold after payload port mid new → TellsFields (BriefFields value s t) after old new
phrased_told after value s t port moment payload phrase old mid new said are is first told =
    payload_told TellsBrief after value s t port moment payload (Text brief_tag phrase ∷ told.fields) old new said (phrased phrase told.fields is told.tells)
    (both (Text brief_tag phrase ∷ []) told.fields (member _ tt) (are payload port told.fields told.tells))
    (told.seen ∙ ap (λ (a : _). fold after a told.fields) first)

pub front_told : {A : Type 0} (after : A → Field → A) (value : capture.Line) (s t : Unit {0}) (port moment : ℕ) (payload : List ℕ) (old new : A)
    → value ≡ Packet port moment payload
    → ((p : List ℕ) (n : ℕ) (fields : List Field) → TellsFront p n fields → AreMembers 2 fields)
    → IsFrontTold after payload port old new → TellsFields (FrontFields value s t) after old new
front_told after value s t port moment payload old new said are told =
    payload_told TellsFront after value s t port moment payload told.fields old new said told.tells (are payload port told.fields told.tells) told.seen
