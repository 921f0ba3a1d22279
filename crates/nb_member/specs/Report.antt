-- What the lines of a capture have happen to a member, and the report of them (our choice).
--
-- A payload of port 138 and a look at the clock are events of the member. Payloads of the other ports pass
-- it by. Empty lines and comments are counted; the report has comments where they are printed. Numbers are decimal,
-- bytes are hexadecimal in lower case.
use Rattle.std.specs.Prelude.{ℕ, List, ◌++◌, codes, [], ◌∷◌, Option, Some, None, Result, Ok, Err, ◌-◌, ◌≢◌, ◌+◌}
use Rattle.std.specs.Fmt.{decimal}
use Rattle.std.specs.FinMap as maps
use Rattle.nb_streams.specs.Hexadecimal.{data_text, digits_text}
use Rattle.nb_names.specs.NameText.{written}
use Rattle.nb_names.specs.Name.{NetbiosName}
use Rattle.nb_datagram.specs.declared.packet.ErrorPacket.{ErrorPacket}
use Rattle.nb_datagram.specs.declared.packet.Packet.TheVariants.{Error}
use Rattle.nb_datagram.specs.Fragment.{DatagramParts}
use Rattle.nb_datagram.specs.FaultTexts.{key_text, kind_text}
use Rattle.nb_datagram.specs.Packet.{packet_bytes}
use Rattle.nb_capture.specs.declared.comment_writing.Comments.{Comments}
use Rattle.nb_member.specs.declared.outcome.Outcome.{Outcome}
use Rattle.nb_member.specs.declared.outcome.Outcome.TheVariants.{Kept, Spoilt, Delivered, Unheard, Other}
use Rattle.nb_member.specs.declared.outcome.MemberFault.{MemberFault}
use Rattle.nb_member.specs.declared.settings.Settings.{Settings}
use Rattle.nb_member.specs.declared.outcome.Event.{Event}
use Rattle.nb_member.specs.declared.outcome.Event.TheVariants as event
use Rattle.nb_capture.specs.declared.line.Line.TheVariants.{Packet, Tick}
use Rattle.nb_member.specs.FaultTexts.{member_fault_text}
use Rattle.nb_member.specs.Deliveries.{error_of}
use Rattle.nb_member.specs.Events.{clock, Saying, Says}
use Rattle.nb_member.specs.Live.{Timed, table_from, live_after}
use Rattle.nb_member.specs.Taking.{Answers}
use Rattle.nb_capture.specs.Capture.{blank_text, line_feed, space, HasValue, SaysNothing}

-- ---- texts of values

-- a datagram's kind, source, destination and data, each after a space
abbrev pub parts_text : DatagramParts → List ℕ
parts_text d =
    codes " " ++ (kind_text d.kind ++ (codes " " ++ (written d.source
    ++ (codes " " ++ (written d.destination ++ (codes " " ++ data_text d.bytes))))))

-- a datagram: its key and its parts
abbrev pub datagram_text : DatagramParts → List ℕ
datagram_text d = key_text d.key ++ parts_text d

-- what is said of the error packet that is answered, if there is one: its bytes
abbrev pub error_text : Option ErrorPacket → List ℕ
error_text None = []
error_text (Some e) = codes " error " ++ digits_text (packet_bytes (Error e))

-- ---- what became of a payload

-- what became of a payload that was taken
abbrev pub outcome_text : Outcome → List ℕ
outcome_text (Kept k) = codes "kept " ++ key_text k
outcome_text (Spoilt k) = codes "spoilt " ++ key_text k
outcome_text (Delivered d) = codes "delivered " ++ datagram_text d
outcome_text (Unheard k error) = codes "unheard " ++ (key_text k ++ error_text error)
outcome_text Other = codes "other"

-- the same, or why it was refused, with the error packet that is answered
abbrev pub result_text : Result Outcome MemberFault → List ℕ
result_text (Ok outcome) = outcome_text outcome
result_text (Err fault) = codes "refused " ++ (member_fault_text fault ++ error_text (error_of fault))

-- ---- lines and their report

-- numbered n text: the line of the report about line n of the capture
abbrev pub numbered : ℕ → List ℕ → List ℕ
numbered n text = decimal n ++ space ∷ (text ++ line_feed ∷ [])

-- dropped settings L now: how many keys a look at the clock drops, where L are live
abbrev pub dropped : Settings → List Timed → ℕ → ℕ
dropped settings L now = maps.len (table_from L) - maps.len (table_from (live_after settings L (clock now)))

-- ReportOfLine comments settings names n L line events text after: where L are live in a member with these names, line n
-- of the capture is these events of the member, text is its line in the report, if it has one, and after
-- it these are live
pub data ReportOfLine (comments : Comments) (settings : Settings) (names : List NetbiosName) (n : ℕ) (L : List Timed) : List ℕ → List Event → List ℕ → List Timed → Type 0 where
  nothing : (line : List ℕ) → SaysNothing line → ReportOfLine comments settings names n L line [] (blank_text comments line) L
  passed : (line payload : List ℕ) (port moment : ℕ) → HasValue line (Packet port moment payload) → port ≢ 138
      → ReportOfLine comments settings names n L line [] (numbered n (codes "passed")) L
  taken : (line payload : List ℕ) (moment : ℕ) (said : Saying) (result : Result Outcome MemberFault)
      → HasValue line (Packet 138 moment payload) → Says settings (event.Packet moment payload) said
      → Answers settings names L said result
      → ReportOfLine comments settings names n L line (event.Packet moment payload ∷ []) (numbered n (result_text result))
      (live_after settings L said)
  tick : (line : List ℕ) (now : ℕ) → HasValue line (Tick now)
      → ReportOfLine comments settings names n L line (event.Tick now ∷ [])
      (numbered n (codes "dropped " ++ decimal (dropped settings L now)))
      (live_after settings L (clock now))

-- ReportOf comments settings names n L lines events text: where L are live, these lines of the capture, the first of
-- which is line n, are these events, and text is their report
pub data ReportOf (comments : Comments) (settings : Settings) (names : List NetbiosName) : ℕ → List Timed → List (List ℕ) → List Event → List ℕ → Type 0 where
  none : (n : ℕ) (L : List Timed) → ReportOf comments settings names n L [] [] []
  more : (n : ℕ) (L after : List Timed) (line : List ℕ) (lines : List (List ℕ)) (events others : List Event)
      (text report : List ℕ) → ReportOfLine comments settings names n L line events text after
      → ReportOf comments settings names (n + 1) after lines others report
      → ReportOf comments settings names n L (line ∷ lines) (events ++ others) (text ++ report)
