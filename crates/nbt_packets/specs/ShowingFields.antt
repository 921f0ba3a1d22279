-- The fields that `nbt show --json` tells of a line of a capture (our choice).
use Rattle.std.specs.Prelude.{ℕ, List, [], ◌∷◌, codes}
use Rattle.nb_telling.specs.Telling.{Field, FieldTag, Text}
use Rattle.nb_text.specs.Tags.{kind_tag}
use Rattle.nb_text.specs.SaysPacket.{IsSaid}
use Rattle.nb_text.specs.Tells.{Tells}
use Rattle.nb_text.specs.TellsFront.{TellsFront}
use Rattle.nb_capture.specs.declared.line.Line as capture
use Rattle.nb_capture.specs.declared.line.Line.TheVariants.{Packet, Tick}
use Rattle.nbt_command.specs.Objects.{bare_tag}

-- FieldsBy OfPayload said old new fields: those of a payload, which are such, or that of a tick; nothing is left from line to line
pub data FieldsBy (OfPayload : List ℕ → ℕ → List Field → Type 0) : capture.Line → Unit {0} → Unit {0} → List Field → Type 0 where
  packet : (port moment : ℕ) (payload : List ℕ) (s t : Unit {0}) (fields : List Field) → OfPayload payload port fields
      → FieldsBy OfPayload (Packet port moment payload) s t fields
  tick : (now : ℕ) (s t : Unit {0}) → FieldsBy OfPayload (Tick now) s t (Text kind_tag (codes "tick") ∷ [])

-- the fields that `show` tells
abbrev pub PacketFields : capture.Line → Unit {0} → Unit {0} → List Field → Type 0
PacketFields = FieldsBy Tells

-- the phrase of a payload
abbrev pub brief_tag : FieldTag
brief_tag = bare_tag (codes "brief")

-- TellsBrief payload port fields: the phrase of a payload stands before its fields
pub data TellsBrief (payload : List ℕ) (port : ℕ) : List Field → Type 0 where
  phrased : (phrase : List ℕ) (fields : List Field) → IsSaid payload port phrase → Tells payload port fields
      → TellsBrief payload port (Text brief_tag phrase ∷ fields)

-- the fields that `show` tells with the phrase of a payload before them
abbrev pub BriefFields : capture.Line → Unit {0} → Unit {0} → List Field → Type 0
BriefFields = FieldsBy TellsBrief

-- the fields that `show` tells with what still stands at the fronts of payloads
abbrev pub FrontFields : capture.Line → Unit {0} → Unit {0} → List Field → Type 0
FrontFields = FieldsBy TellsFront
