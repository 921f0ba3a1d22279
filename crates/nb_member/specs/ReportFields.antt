-- The fields of what a member makes of a line of a capture (our choice). Their texts are those of the report.
use Rattle.std.specs.Prelude.{◌≡◌, ◌≢◌, ◌+◌, ◌⊎◌, ℕ, List, [], ◌∷◌, ◌++◌, codes, fold, Option, Some, None, Result, Ok, Err}
use Rattle.std.specs.FinMap as maps
use Rattle.nb_names.specs.NameText.{written}
use Rattle.nb_datagram.specs.declared.packet.ErrorPacket.{ErrorPacket}
use Rattle.nb_datagram.specs.declared.packet.Packet.TheVariants.{Error}
use Rattle.nb_datagram.specs.Fragment.{DatagramParts}
use Rattle.nb_datagram.specs.FaultTexts.{key_text, kind_text}
use Rattle.nb_datagram.specs.Packet.{packet_bytes}
use Rattle.nb_table.specs.declared.fault.TableFault.TheVariants.{NoMemory}
use Rattle.nb_telling.specs.Telling.{Field, Text, Number, Digits, Data, place_fields}
use Rattle.nb_member.specs.declared.outcome.Outcome.{Outcome}
use Rattle.nb_member.specs.declared.outcome.Outcome.TheVariants.{Kept, Spoilt, Delivered, Unheard, Other}
use Rattle.nb_telling.specs.Texts.{text_of}
use Rattle.nb_capture.specs.declared.comment_writing.Comments.{Comments}
use Rattle.nb_capture.specs.declared.line.Line as capture
use Rattle.nb_capture.specs.declared.line.Line.TheVariants.{Packet, Tick}
use Rattle.nb_capture.specs.Capture.{blank_text}
use Rattle.nb_member.specs.declared.outcome.MemberFault.{MemberFault}
use Rattle.nb_member.specs.declared.outcome.MemberFault.TheVariants.{Table}
use Rattle.nb_member.specs.FaultTexts.{member_fault_place, member_fault_text}
use Rattle.nb_member.specs.Deliveries.{error_of}
use Rattle.nb_member.specs.Member.{MemberValue, after_clock, contents, with_timed}
use Rattle.nb_member.specs.Report.{numbered}
use Rattle.nb_member.specs.Taking.{Takes}
use Rattle.nb_member.specs.Tags.{outcome_tag, count_tag, refused_tag, error_tag, key_tag, kind_tag, source_tag, destination_tag, data_tag}

-- a datagram's kind, source, destination and data
abbrev pub parts_fields : DatagramParts → List Field
parts_fields d =
    Text kind_tag (kind_text d.kind) ∷ Text source_tag (written d.source) ∷ Text destination_tag (written d.destination)
    ∷ Data data_tag d.bytes ∷ []

-- the bytes of the error packet that is answered, if there is one
abbrev pub error_fields : Option ErrorPacket → List Field
error_fields None = []
error_fields (Some e) = Digits error_tag (packet_bytes (Error e)) ∷ []

-- what became of a payload that was taken
abbrev pub outcome_fields : Outcome → List Field
outcome_fields (Kept k) = Text outcome_tag (codes "kept") ∷ Text key_tag (key_text k) ∷ []
outcome_fields (Spoilt k) = Text outcome_tag (codes "spoilt") ∷ Text key_tag (key_text k) ∷ []
outcome_fields (Delivered d) = Text outcome_tag (codes "delivered") ∷ Text key_tag (key_text d.key) ∷ parts_fields d
outcome_fields (Unheard k error) = Text outcome_tag (codes "unheard") ∷ Text key_tag (key_text k) ∷ error_fields error
outcome_fields Other = Text outcome_tag (codes "other") ∷ []

-- why it was refused, with the error packet that is answered
abbrev pub refused_fields : MemberFault → List Field
refused_fields fault =
    Text refused_tag (member_fault_text fault) ∷ (place_fields (member_fault_place fault) ++ error_fields (error_of fault))

-- what became of a payload of port 138
abbrev pub result_fields : Result Outcome MemberFault → List Field
result_fields (Ok outcome) = outcome_fields outcome
result_fields (Err fault) = refused_fields fault

-- a payload of another port
abbrev pub passed_fields : List Field
passed_fields = Text outcome_tag (codes "passed") ∷ []

-- a look at the clock, which dropped so many keys
abbrev pub dropped_fields : ℕ → List Field
dropped_fields keys = Text outcome_tag (codes "dropped") ∷ Number count_tag keys ∷ []

-- ---- a line

-- OutcomeFields value m new fields: what a line says makes the member m the member new, and these are the fields of what became
-- of it. That memory ran out in it isn't told
pub data OutcomeFields : capture.Line → MemberValue → MemberValue → List Field → Type 0 where
  dropped : (now keys : ℕ) (m new : MemberValue) → new ≡ with_timed m (after_clock m.timed now)
      → keys + maps.len (contents new) ≡ maps.len (contents m) → OutcomeFields (Tick now) m new (dropped_fields keys)
  passed : (port moment : ℕ) (payload : List ℕ) (m new : MemberValue) → port ≢ 138 → new ≡ m
      → OutcomeFields (Packet port moment payload) m new passed_fields
  taken : (port moment : ℕ) (payload : List ℕ) (m new : MemberValue) (result : Result Outcome MemberFault) → port ≡ 138
      → result ≢ Err (Table NoMemory) → Takes m moment payload new result → OutcomeFields (Packet port moment payload) m new (result_fields result)

-- TellsOutcome after value m new old seen: the member m did what a line says and became new, and a sink that showed old was
-- told what became of it
pub record TellsOutcome {A : Type 0} (after : A → Field → A) (value : capture.Line) (m new : MemberValue) (old seen : A) : Type 0 where
  pub fields : List Field
  pub are : OutcomeFields value m new fields
  pub told : seen ≡ fold after old fields

-- MayAct value m new: the member m did what a line says and became new, or it stayed as it was
abbrev pub MayAct : capture.Line → MemberValue → MemberValue → Type 0
MayAct value m new = (new ≡ m) ⊎ ((fields : List Field) × OutcomeFields value m new fields)

-- ---- the report of a line

-- ReportsOutcome n value m new text: the member m did what line n says and became new, and text is the line of the report about it
pub record ReportsOutcome (n : ℕ) (value : capture.Line) (m new : MemberValue) (text : List ℕ) : Type 0 where
  pub fields : List Field
  pub are : OutcomeFields value m new fields
  pub written : text ≡ numbered n (text_of fields)

-- ReportSaid comments n line said m new text: the report of line n, which says this, or nothing: what the member m made of it and
-- became; or the comment, where comments are printed
abbrev pub ReportSaid : Comments → ℕ → List ℕ → Option capture.Line → MemberValue → MemberValue → List ℕ → Type 0
ReportSaid comments n line None m new text = (text ≡ blank_text comments line) × (new ≡ m)
ReportSaid comments n line (Some value) m new text = ReportsOutcome n value m new text

-- MayLeave said m new: what may become of the member m where memory ran out in such a line
abbrev pub MayLeave : Option capture.Line → MemberValue → MemberValue → Type 0
MayLeave None m new = new ≡ m
MayLeave (Some value) m new = MayAct value m new
