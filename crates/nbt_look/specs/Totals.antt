-- What the last lines say: how many frames there are, what they have, and how many packets are shown (our choice).
use Rattle.std.specs.Prelude.{ℕ, ◌&&◌, ◌||◌, Bool, true, false, not, List, [], ◌∷◌, ◌++◌, codes, cond, flat_map, map, nat_eq}
use Rattle.std.specs.Fmt.{decimal}
use Rattle.nbt_look.specs.declared.counting.Lack.{Lack}
use Rattle.nbt_look.specs.declared.counting.Lack.TheVariants as lack
use Rattle.nbt_look.specs.declared.counting.LeftOut.{LeftOut as Why}
use Rattle.nbt_look.specs.declared.counting.LeftOut.TheVariants as why
use Rattle.nbt_look.specs.declared.counting.Counts.{Counts}
use Rattle.nbt_look.specs.declared.listing.Listing.{Listing}
use Rattle.nb_telling.specs.Telling.{Begins, Ends, Field, Number, Part, PartEnds, Text}
use Rattle.nb_telling.specs.ObjectLines.{object_line}
use Rattle.nbt_look.specs.declared.asked.Form.{Form}
use Rattle.nbt_look.specs.declared.asked.Form.TheVariants.{Lines, Colours, Objects, Capture}
use Rattle.nbt_look.specs.Counting.{count_of, lack_count}
use Rattle.nbt_look.specs.Bare.{bare_tag}
use Rattle.nbt_look.specs.Wanted.{wants_all}

-- a reason, in words that go with any number
abbrev pub words_of : Why → List ℕ
words_of why.Cut = codes "cut by the snap length"
words_of why.BadLength = codes "a length that the packet lacks"
words_of why.AfterGap = codes "after a gap in TCP"
words_of why.AfterBadHeader = codes "after a bad header"
words_of why.NoStart = codes "of a TCP stream whose start is missing"
words_of why.Reset = codes "with RST"
words_of why.Directions = codes "TCP: too many directions"
words_of why.Differs = codes "sent again with other bytes"
words_of why.Disagree = codes "fragments of IP that disagree"
words_of why.CutFragment = codes "fragments of IP that are cut themselves"
words_of why.TooLong = codes "fragments of IP too long"
words_of why.TooMany = codes "fragments of IP: too many"
words_of why.NoRest = codes "a session packet whose rest is missing"
words_of why.NoOthers = codes "fragments of IP whose others are missing"
words_of why.CutHeader = codes "with a header that is cut"
words_of why.BadHeader = codes "with a bad header"
words_of why.Ppp = codes "in PPP over Ethernet"
words_of why.Mpls = codes "in MPLS"
words_of why.Llc = codes "in LLC"
words_of why.Tags = codes "with more than four VLAN tags"
words_of why.Link = codes "of an unknown link type"

-- all reasons, in the order in which they are said
abbrev pub all_reasons : List Why
all_reasons =
    why.Cut ∷ why.BadLength ∷ why.AfterGap ∷ why.AfterBadHeader ∷ why.NoStart ∷ why.Reset ∷ why.Directions ∷ why.Differs ∷ why.Disagree
    ∷ why.CutFragment ∷ why.TooLong ∷ why.TooMany ∷ why.NoRest ∷ why.NoOthers ∷ why.CutHeader ∷ why.BadHeader ∷ why.Ppp ∷ why.Mpls ∷ why.Llc
    ∷ why.Tags ∷ why.Link ∷ []

-- reason_text begun count w: how often a reason left something out, where others stand before it or none
abbrev pub reason_text : Bool → ℕ → Why → List ℕ
reason_text begun count w = cond begun (codes ", ") (codes ": ") ++ (decimal count ++ (codes " " ++ words_of w))

-- said_text c begun w: the same, where it did
abbrev pub said_text : Counts → Bool → Why → List ℕ
said_text c begun w = cond (nat_eq (count_of w c) 0) [] (reason_text begun (count_of w c) w)

-- reasons_text c begun reasons: how often each of them did, where it did
abbrev pub reasons_text : Counts → Bool → List Why → List ℕ
reasons_text c begun [] = []
reasons_text c begun (w ∷ ws) = said_text c begun w ++ reasons_text c (not (nat_eq (count_of w c) 0) || begun) ws

-- so many of something, whose plural has an s
abbrev pub plural_text : ℕ → List ℕ → List ℕ
plural_text count what = decimal count ++ (codes " " ++ (what ++ cond (nat_eq count 1) [] (codes "s")))

-- how many frames and packets there are
abbrev pub packets_text : Counts → List ℕ
packets_text c =
    plural_text c.frames (codes "frame")
    ++ (codes ", " ++ (plural_text c.packets (codes "packet") ++ (codes ", " ++ (decimal c.malformed ++ codes " malformed, "))))

-- how many are left out, and why
abbrev pub left_out_text : Counts → List ℕ
left_out_text c = decimal c.left_out ++ (codes " left out" ++ reasons_text c false all_reasons)

-- shown_text all shown: the end of that line: how many packets have a line, where not all are wanted
abbrev pub shown_text : Bool → ℕ → List ℕ
shown_text true shown = codes "\n"
shown_text false shown = codes "; " ++ (decimal shown ++ codes " shown\n")

-- what a frame without a packet has, whose plural has an s
abbrev pub noun_of : Lack → List ℕ
noun_of lack.Fragment = codes "fragment"
noun_of lack.Empty = codes "TCP segment"
noun_of lack.Part = codes "TCP segment"
noun_of lack.Other = codes "frame"

-- and what follows that
abbrev pub rest_of : Lack → List ℕ
rest_of lack.Fragment = codes " of IP"
rest_of lack.Empty = codes " without data"
rest_of lack.Part = codes " of a packet that another frame completes"
rest_of lack.Other = codes " of other ports and protocols"

-- all of these, in the order in which they are said
abbrev pub all_lacks : List Lack
all_lacks = lack.Fragment ∷ lack.Empty ∷ lack.Part ∷ lack.Other ∷ []

-- lack_text begun count l: how many frames without a packet have this, where others stand before it or none
abbrev pub lack_text : Bool → ℕ → Lack → List ℕ
lack_text begun count l = cond begun (codes ", ") (codes ": ") ++ (plural_text count (noun_of l) ++ rest_of l)

-- lacks_text c begun lacks: how many have each of these, where some have
abbrev pub lacks_text : Counts → Bool → List Lack → List ℕ
lacks_text c begun [] = []
lacks_text c begun (l ∷ ls) =
    cond (nat_eq (lack_count l c) 0) (lacks_text c begun ls)
    (lack_text begun (lack_count l c) l ++ lacks_text c true ls)

-- how many frames have neither a packet nor something that is left out, and what they have
abbrev pub lacking_text : Counts → List ℕ
lacking_text c = plural_text c.without (codes "frame") ++ (codes " without a packet" ++ (lacks_text c false all_lacks ++ codes "\n"))

-- without_text all c: that no frame is of the ports; else how many have no packet, where all packets are wanted, and some have none
abbrev pub without_text : Bool → Counts → List ℕ
without_text all c =
    cond (nat_eq c.of_ports 0) (codes "no frame has UDP of port 137 or 138, or TCP of port 139\n")
    (cond (all && not (nat_eq c.without 0)) (lacking_text c) [])

-- the line of counts
abbrev pub counts_line : Listing → List ℕ
counts_line l = packets_text l.counts ++ (left_out_text l.counts ++ shown_text (wants_all l.asked.wanted) l.shown)

-- the last lines
abbrev pub last_lines : Listing → List ℕ
last_lines l = counts_line l ++ without_text (wants_all l.asked.wanted) l.counts

-- ---- the same as an object

-- how often a reason left something out, as a part of a list
abbrev pub reason_fields : ℕ → Why → List Field
reason_fields count w = Part [] ∷ Text (bare_tag (codes "reason")) (words_of w) ∷ Number (bare_tag (codes "frames")) count ∷ PartEnds ∷ []

-- the same, where it did
abbrev pub said_fields : Counts → Why → List Field
said_fields c w = cond (nat_eq (count_of w c) 0) [] (reason_fields (count_of w c) w)

-- how often each of these reasons did, where it did
abbrev pub reasons_fields : Counts → List Why → List Field
reasons_fields c ws = flat_map (said_fields c) ws

-- how many frames and packets there are
abbrev pub packets_fields : Counts → List Field
packets_fields c =
    Number (bare_tag (codes "frames")) c.frames ∷ Number (bare_tag (codes "packets")) c.packets
    ∷ Number (bare_tag (codes "malformed")) c.malformed ∷ []

-- the list of the reasons that left something out
abbrev pub left_out_fields : Counts → List Field
left_out_fields c = Begins (codes "left_out") ∷ (reasons_fields c all_reasons ++ Ends ∷ [])

-- what frames have that have no packet, as the name of a member
abbrev pub member_of : Lack → List ℕ
member_of lack.Fragment = codes "fragments"
member_of lack.Empty = codes "empty_segments"
member_of lack.Part = codes "partial_segments"
member_of lack.Other = codes "others"

-- how many have each of these
abbrev pub lacks_fields : Counts → List Lack → List Field
lacks_fields c lacks = map (λ l. Number (bare_tag (member_of l)) (lack_count l c)) lacks

-- how many frames have no packet, and how many lines there are
abbrev pub rest_fields : Listing → List Field
rest_fields l = lacks_fields l.counts all_lacks ++ Number (bare_tag (codes "shown")) l.shown ∷ []

-- how many frames and packets there are, and what they have
abbrev pub counts_fields : Listing → List Field
counts_fields l = packets_fields l.counts ++ (left_out_fields l.counts ++ rest_fields l)

-- what stands after the list in this form
abbrev pub last_in : Form → Listing → List ℕ
last_in Lines l = last_lines l
last_in Colours l = last_lines l
last_in Objects l = object_line (counts_fields l)
last_in (Capture layout) l = codes "# " ++ counts_line l

-- the same in the form that is asked for, where counts are
abbrev pub last_text : Listing → List ℕ
last_text l = cond l.asked.has_counts (last_in l.asked.form l) []
