-- The list as the text of a capture (our choice): of each packet a comment with its frame, and its line, and before them the ticks of a clock.
use Rattle.std.specs.Prelude.{ℕ, ◌+◌, ◌-◌, ◌*◌, ◌/◌, Bool, false, not, ◌&&◌, List, [], ◌++◌, ◌∷◌, codes, cond, nat_lt}
use Rattle.nb_capture.specs.Capture.{comment_text, line_feed, packet_line, tick_line}
use Rattle.nb_traffic.specs.Brought.{PacketValue}
use Rattle.nbt_look.specs.declared.asked.Layout.{Layout}
use Rattle.nbt_look.specs.declared.counting.LeftOut.{LeftOut as Why}
use Rattle.nbt_look.specs.declared.counting.LeftOut.TheVariants as why
use Rattle.nbt_look.specs.declared.counting.Outcome.{Outcome}
use Rattle.nbt_look.specs.declared.counting.Outcome.TheVariants.{Packet, Malformed, LeftOut, Without}
use Rattle.nbt_look.specs.Columns.{CellTexts}
use Rattle.nbt_look.specs.Ends.{with_port}
use Rattle.nbt_look.specs.Wanted.{is_any}

-- ---- the clock

-- the tick of a second
abbrev pub tick_text : ℕ → List ℕ
tick_text second = tick_line (second * 1_000) ++ line_feed ∷ []

-- tick_in last more second: the tick of the second that begins so many after the last one, where it begins before this one
abbrev pub tick_in : ℕ → ℕ → ℕ → List ℕ
tick_in last more second = cond (nat_lt more (second - last)) (tick_text (last + more)) []

-- ticks_text last second: the ticks after the last second and until this one: those of the next three, in which the last key is dropped, and
-- its own
abbrev pub ticks_text : ℕ → ℕ → List ℕ
ticks_text last second =
    tick_in last 1 second ++ (tick_in last 2 second ++ (tick_in last 3 second ++ cond (nat_lt last second) (tick_text second) []))

-- ---- comments

-- frame_comment cells p: the comment on the frame of a payload: its number and time, from where and to where it goes
abbrev pub frame_comment : CellTexts → PacketValue → List ℕ
frame_comment cells p =
    comment_text (codes "# frame " ++ (cells.number ++ (codes " " ++ (cells.time ++ (codes " "
    ++ (with_port p.hosts.source p.ports.source ++ (codes " > " ++ with_port p.hosts.destination p.ports.destination)))))))

-- phrase_comment cells phrase: the comment on a frame of which something is left out, and this is said
abbrev pub phrase_comment : CellTexts → List ℕ → List ℕ
phrase_comment cells phrase = comment_text (codes "# frame " ++ (cells.number ++ (codes " " ++ phrase)))

-- ---- packets

-- payload_text layout moment cells p: the line of a payload, after the comment on its frame, where that is wanted
abbrev pub payload_text : Layout → ℕ → CellTexts → PacketValue → List ℕ
payload_text layout moment cells p =
    cond layout.is_bare [] (frame_comment cells p) ++ (packet_line p.service moment p.bytes ++ line_feed ∷ [])

-- passes layout w bytes: whether these bytes of a payload come too that is left out for this reason
abbrev pub passes : Layout → Why → List ℕ → Bool
passes layout why.Cut bytes = layout.has_cut && not (is_any bytes)
passes layout w bytes = false

-- item_text layout moment cells p o phrase: what stands of a packet that counts so, and of which this is said
abbrev pub item_text : Layout → ℕ → CellTexts → PacketValue → Outcome → List ℕ → List ℕ
item_text layout moment cells p Packet phrase = payload_text layout moment cells p
item_text layout moment cells p Malformed phrase = payload_text layout moment cells p
item_text layout moment cells p (LeftOut w) phrase =
    phrase_comment cells phrase ++ cond (passes layout w p.bytes) (payload_text layout moment cells p) []
item_text layout moment cells p (Without l) phrase = []

-- capture_text layout last moment cells p o phrase: the same, and before it the ticks since the last moment
abbrev pub capture_text : Layout → ℕ → ℕ → CellTexts → PacketValue → Outcome → List ℕ → List ℕ
capture_text layout last moment cells p o phrase =
    cond layout.has_ticks (ticks_text (last / 1_000) (moment / 1_000)) [] ++ item_text layout moment cells p o phrase
