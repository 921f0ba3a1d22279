-- What is said of a packet: its phrase, that not all of it is there, or why it is left out (our choice).
use Rattle.std.specs.Prelude.{◌≡◌, ℕ, List, [], ◌++◌, length, take, codes, bytes_eq, nat_eq, nat_lt, cond}
use Rattle.std.specs.Fmt.{decimal}
use Rattle.nb_pcap.specs.Frame.{FrameValue}
use Rattle.nb_text.specs.SaysPacket.{IsSaid}
use Rattle.nb_traffic.specs.Brought.{PacketValue}
use Rattle.nbt_look.specs.declared.standing.Standing.{Standing}
use Rattle.nbt_look.specs.declared.standing.Standing.TheVariants.{Whole, Cut, LeftOut}
use Rattle.nbt_look.specs.declared.counting.Outcome.{Outcome}
use Rattle.nbt_look.specs.declared.counting.Outcome.TheVariants as outcome
use Rattle.nbt_look.specs.declared.counting.LeftOut.{LeftOut as Why}
use Rattle.nbt_look.specs.declared.counting.LeftOut.TheVariants as why
use Rattle.nbt_look.specs.Totals.{plural_text, words_of}

-- standing_of f p: how much of a packet there is in its frame
abbrev pub standing_of : FrameValue → PacketValue → Standing
standing_of f p =
    cond (nat_lt (length p.bytes) p.wire_length) (cond (nat_lt (length f.bytes) f.original) Cut (LeftOut why.BadLength 0)) Whole

-- part_text what some all: so many bytes of so many
abbrev pub part_text : List ℕ → ℕ → ℕ → List ℕ
part_text what some all = what ++ (decimal some ++ (codes " of " ++ (decimal all ++ codes " bytes")))

-- cut_text captured original held wire: what is said of a packet that the snap length cut: how many of its bytes are held, or where none
-- is how many of its frame are captured
abbrev pub cut_text : ℕ → ℕ → ℕ → ℕ → List ℕ
cut_text captured original held wire =
    cond (nat_eq held 0) (part_text (codes "left out: cut by the snap length, ") captured original) (part_text (codes "cut: ") held wire)

-- so many bytes after why they are left out, where they are counted
abbrev pub bytes_text : ℕ → List ℕ
bytes_text count = cond (nat_eq count 0) [] (codes ", " ++ plural_text count (codes "byte"))

-- left_out_said w count: what is said of so many bytes that are left out
abbrev pub left_out_said : Why → ℕ → List ℕ
left_out_said w count = codes "left out: " ++ (words_of w ++ bytes_text count)

-- SaysStanding standing f p said: what is said of a packet that stands so
abbrev pub SaysStanding : Standing → FrameValue → PacketValue → List ℕ → Type 0
SaysStanding Whole f p said = IsSaid p.bytes p.service said
SaysStanding Cut f p said = said ≡ cut_text (length f.bytes) f.original (length p.bytes) p.wire_length
SaysStanding (LeftOut w count) f p said = said ≡ left_out_said w count

-- what a phrase begins with that says why a packet isn't read
abbrev pub refusal : List ℕ
refusal = codes "refused: "

-- outcome_in standing said: how a packet is counted of which this is said
abbrev pub outcome_in : Standing → List ℕ → Outcome
outcome_in Whole said = cond (bytes_eq (take (length refusal) said) refusal) outcome.Malformed outcome.Packet
outcome_in Cut said = outcome.LeftOut why.Cut
outcome_in (LeftOut w count) said = outcome.LeftOut w
