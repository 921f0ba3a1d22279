-- The objects that are printed of packets and counts.
use Rattle.std.proofs.Common.{◌≡◌, ◌≤◌, ℕ, Bool, true, false, List, [], ◌∷◌, ◌++◌, Option, None, Some, cond, fold, flat_map, nat_eq, length, ap, arith, codes, refl, subst, sym, ◌∙◌}
use Rattle.json.specs.Token.{Token, begin_object, end_object}
use Rattle.json.specs.Print.{print}
use Rattle.nb_frames.specs.declared.contents.Mac.{Mac}
use Rattle.nb_frames.specs.Link.{link_of, receiver_of, sender_of, vlans_of}
use Rattle.nb_pcap.specs.Frame.{FrameValue}
use Rattle.nb_telling.specs.Telling.{Field, Number, Text}
use Rattle.nb_telling.specs.Members.{AreMembers, AreParts, IsJson, IsMember, both, list, member, no_part, part, parts}
use Rattle.nb_telling.specs.ObjectLines.{IsObject}
use Rattle.nb_telling.specs.Tokens.{tokens_of}
use Rattle.nb_telling.proofs.FoldLemmas.{and_then}
use Rattle.nb_telling.proofs.ObjectLemmas.{adds, told_object}
use Rattle.nb_text.specs.TellsFront.{IsFrontTold, TellsFront}
use Rattle.nb_text.proofs.SaysLemmas.{singles}
use Rattle.nb_traffic.specs.Brought.{PacketValue}
use Rattle.nbt_look.specs.declared.counting.Counts.{Counts}
use Rattle.nbt_look.specs.declared.counting.LeftOut.{LeftOut as Why}
use Rattle.nbt_look.specs.declared.counting.LeftOut.TheVariants as why
use Rattle.nbt_look.specs.declared.listing.Listing.{Listing}
use Rattle.nbt_look.specs.declared.standing.Standing.{Standing}
use Rattle.nbt_look.specs.declared.standing.Standing.TheVariants.{Whole, Cut, LeftOut}
use Rattle.nbt_look.specs.Bare.{bare_tag}
use Rattle.nbt_look.specs.Counting.{count_of}
use Rattle.nbt_look.specs.Ends.{is_no_name, shown_byte}
use Rattle.nbt_look.specs.Entries.{EntryValue}
use Rattle.nbt_look.specs.Objects.{IsPacketObject, TellsCut, TellsStanding, arrival_fields, column_fields, cut_field, end_fields, frame_fields, head_fields, interface_field, left_out_field, link_fields, mac_field, moment_of, size_fields, time_field, unknown, vlan_fields, vlans_fields}
use Rattle.nbt_look.specs.Totals.{all_reasons, counts_fields, left_out_fields, packets_fields, reason_fields, reasons_fields, rest_fields, words_of}

time_members : {depth : ℕ} (at : Option ℕ) (shown : List ℕ) → AreMembers depth (time_field at shown ∷ [])
time_members None shown = singles (time_field None shown ∷ []) _
time_members (Some at) shown = singles (time_field (Some at) shown ∷ []) _

either_member : {depth : ℕ} (first : Bool) (x y : Field) → IsMember x → IsMember y → AreMembers depth (cond first x y ∷ [])
either_member true x y a b = member x a
either_member false x y a b = member y b

interface_members : {depth : ℕ} (name : Option (List ℕ)) → AreMembers depth (interface_field name ∷ [])
interface_members None = singles (interface_field None ∷ []) _
interface_members (Some name) =
    either_member (is_no_name name) (unknown (codes "interface")) (Text (bare_tag (codes "interface")) (flat_map shown_byte name)) _ _

mac_members : {depth : ℕ} (name : List ℕ) (mac : Option Mac) → AreMembers depth (mac_field name mac ∷ [])
mac_members name None = singles (mac_field name None ∷ []) _
mac_members name (Some mac) = singles (mac_field name (Some mac) ∷ []) _

vlans_are : {depth : ℕ} (ids : List ℕ) → AreParts depth (flat_map vlan_fields ids)
vlans_are [] = no_part
vlans_are (id ∷ ids) =
    let number = Number (bare_tag (codes "id")) id in
    parts (vlan_fields id) (flat_map vlan_fields ids) (part [] (number ∷ []) (singles (number ∷ []) _)) (vlans_are ids)

link_members : (f : FrameValue) → AreMembers 2 (link_fields f)
link_members f =
    let ids = vlans_of (link_of f.link) f.bytes in
    let from = mac_field (codes "from_mac") (sender_of (link_of f.link) f.bytes) in
    let to = mac_field (codes "to_mac") (receiver_of (link_of f.link) f.bytes) in
    both (vlans_fields ids) (from ∷ to ∷ []) (list (codes "vlans") (flat_map vlan_fields ids) (vlans_are ids))
    (both (from ∷ []) (to ∷ []) (mac_members (codes "from_mac") (sender_of (link_of f.link) f.bytes))
    (mac_members (codes "to_mac") (receiver_of (link_of f.link) f.bytes)))

column_members : {depth : ℕ} (n : ℕ) (f : FrameValue) (shown : List ℕ) (p : PacketValue) → AreMembers depth (column_fields n f shown p)
column_members n f shown p =
    let number = Number (bare_tag (codes "frame")) n in
    let ends = end_fields p ++ interface_field f.name ∷ [] in
    both (number ∷ []) (time_field f.time shown ∷ ends) (singles (number ∷ []) _)
    (both (time_field f.time shown ∷ []) ends (time_members f.time shown)
    (both (end_fields p) (interface_field f.name ∷ []) (singles (end_fields p) _) (interface_members f.name)))

head_members : (n : ℕ) (f : FrameValue) (p : PacketValue) (first : Option ℕ) (shown phrase : List ℕ)
    → AreMembers 2 (head_fields n f p first shown phrase)
head_members n f p first shown phrase =
    let arrival = arrival_fields p.service (moment_of first f.time) phrase in
    both (frame_fields n f shown p) arrival
    (both (column_fields n f shown p) (link_fields f ++ size_fields f) (column_members n f shown p)
    (both (link_fields f) (size_fields f) (link_members f) (singles (size_fields f) _)))
    (singles arrival _)

cut_members : (is_empty : Bool) (p : PacketValue) (fields : List Field)
    → ((b : List ℕ) (n : ℕ) (fs : List Field) → TellsFront b n fs → AreMembers 2 fs) → TellsCut is_empty p fields → AreMembers 2 fields
cut_members true p fields law is = rw is (singles (left_out_field why.Cut ∷ []) _)
cut_members false p fields law t =
    rw t.2 (both (cut_field p ∷ []) t.0 (singles (cut_field p ∷ []) _) (law p.bytes p.service t.0 t.1))

standing_members : (standing : Standing) (p : PacketValue) (fields : List Field)
    → ((b : List ℕ) (n : ℕ) (fs : List Field) → TellsFront b n fs → AreMembers 2 fs) → TellsStanding standing p fields → AreMembers 2 fields
standing_members Whole p fields law t = law p.bytes p.service fields t
standing_members Cut p fields law t = cut_members (nat_eq (length p.bytes) 0) p fields law t
standing_members (LeftOut w count) p fields law is = rw is (singles (left_out_field w ∷ []) _)

-- ---- what is told

-- what the link layer says
pub link_told : {S : Type 0} (after : S → Field → S) (s0 s1 s2 s3 : S) (f : FrameValue) (ids : List ℕ) (from to : Option Mac)
    → ids ≡ vlans_of (link_of f.link) f.bytes → from ≡ sender_of (link_of f.link) f.bytes → to ≡ receiver_of (link_of f.link) f.bytes
    → s1 ≡ fold after s0 (vlans_fields ids) → s2 ≡ after s1 (mac_field (codes "from_mac") from) → s3 ≡ after s2 (mac_field (codes "to_mac") to)
    → s3 ≡ fold after s0 (link_fields f)
link_told {S} after s0 s1 s2 s3 f ids from to ids_are from_is to_is first second third =
    let macs : List Field = mac_field (codes "from_mac") from ∷ mac_field (codes "to_mac") to ∷ [] in
    let both_macs : s3 ≡ fold after s1 macs = third ∙ ap (λ (s : S). after s (mac_field (codes "to_mac") to)) second in
    and_then after s0 (vlans_fields ids) macs first both_macs
    ∙ ap (λ (xs : List ℕ). fold after s0 (vlans_fields xs ++ macs)) ids_are
    ∙ ap (λ (m : Option Mac). fold after s0 (vlans_fields (vlans_of (link_of f.link) f.bytes) ++ mac_field (codes "from_mac") m ∷ mac_field (codes "to_mac") to ∷ [])) from_is
    ∙ ap (λ (m : Option Mac). fold after s0 (vlans_fields (vlans_of (link_of f.link) f.bytes)
    ++ mac_field (codes "from_mac") (sender_of (link_of f.link) f.bytes) ∷ mac_field (codes "to_mac") m ∷ [])) to_is

-- of a packet that is cut, where no byte of it is held, or some are
pub cut_left_out : {S : Type 0} (after : S → Field → S) (old new : S) (p : PacketValue) → nat_eq (length p.bytes) 0 ≡ true
    → new ≡ after old (left_out_field why.Cut) → (fields : List Field) × TellsStanding Cut p fields × (new ≡ fold after old fields)
cut_left_out after old new p nothing is = (
  left_out_field why.Cut ∷ [],
  subst (λ (b : Bool). TellsCut b p (left_out_field why.Cut ∷ [])) (sym nothing) refl,
  is,
)

pub cut_told : {S : Type 0} (after : S → Field → S) (old mid new : S) (p : PacketValue) → nat_eq (length p.bytes) 0 ≡ false
    → mid ≡ after old (cut_field p) → IsFrontTold after p.bytes p.service mid new
    → (fields : List Field) × TellsStanding Cut p fields × (new ≡ fold after old fields)
cut_told {S} after old mid new p some first told = (
  cut_field p ∷ told.fields,
  subst (λ (b : Bool). TellsCut b p (cut_field p ∷ told.fields)) (sym some) (told.fields, told.tells, refl),
  told.seen ∙ ap (λ (s : S). fold after s told.fields) first,
)

-- the object of a packet
pub object_made : (n : ℕ) (f : FrameValue) (e : EntryValue) (first : Option ℕ) (shown phrase : List ℕ) (begun framed arrived told : List Token)
    (ended made : List ℕ) → ((b : List ℕ) (m : ℕ) (fs : List Field) → TellsFront b m fs → AreMembers 2 fs) → begun ≡ begin_object ∷ []
    → framed ≡ fold adds begun (frame_fields n f shown e.packet)
    → arrived ≡ fold adds framed (arrival_fields e.packet.service (moment_of first f.time) phrase)
    → (fields : List Field) × TellsStanding e.standing e.packet fields × (told ≡ fold adds arrived fields)
    → ended ≡ print (told ++ end_object ∷ [])
    → ((depth : ℕ) (fs : List Field) → AreMembers depth fs → depth ≤ 60 → told ≡ begin_object ∷ tokens_of fs → IsJson ended)
    → made ≡ ended ++ 10 ∷ [] → IsPacketObject n f e first shown phrase made
object_made n f e first shown phrase begun framed arrived told ended made law begins frame arrival t is json line =
    let p = e.packet in
    let front = head_fields n f p first shown phrase in
    let head = and_then adds begun (frame_fields n f shown p) (arrival_fields p.service (moment_of first f.time) phrase) frame arrival in
    let seen = and_then adds begun front t.0 head t.2 in record {
      fields = t.0;
      tells = t.1;
      object = told_object begun told (front ++ t.0) 2 ended made begins seen is
          (both front t.0 (head_members n f p first shown phrase) (standing_members e.standing p t.0 law t.1))
          (omega arith) json line;
    }

-- ---- the counts

reason_part : {depth : ℕ} (count : ℕ) (w : Why) → AreParts depth (reason_fields count w)
reason_part count w =
    let members = Text (bare_tag (codes "reason")) (words_of w) ∷ Number (bare_tag (codes "frames")) count ∷ [] in part [] members (singles members _)

reason_parts : {depth : ℕ} (none : Bool) (c : Counts) (w : Why) (others : List Field) → AreParts depth others
    → AreParts depth (cond none [] (reason_fields (count_of w c) w) ++ others)
reason_parts true c w others are = are
reason_parts false c w others are = parts (reason_fields (count_of w c) w) others (reason_part (count_of w c) w) are

reasons_parts : {depth : ℕ} (c : Counts) (ws : List Why) → AreParts depth (reasons_fields c ws)
reasons_parts c [] = no_part
reasons_parts c (w ∷ ws) = reason_parts (nat_eq (count_of w c) 0) c w (reasons_fields c ws) (reasons_parts c ws)

counts_members : (l : Listing) → AreMembers 1 (counts_fields l)
counts_members l =
    both (packets_fields l.counts) (left_out_fields l.counts ++ rest_fields l) (singles (packets_fields l.counts) _)
    (both (left_out_fields l.counts) (rest_fields l)
    (list (codes "left_out") (reasons_fields l.counts all_reasons) (reasons_parts l.counts all_reasons)) (singles (rest_fields l) _))

pub counts_made : (l : Listing) (begun told : List Token) (ended made : List ℕ) → begun ≡ begin_object ∷ [] → told ≡ fold adds begun (counts_fields l)
    → ended ≡ print (told ++ end_object ∷ [])
    → ((depth : ℕ) (fs : List Field) → AreMembers depth fs → depth ≤ 60 → told ≡ begin_object ∷ tokens_of fs → IsJson ended)
    → made ≡ ended ++ 10 ∷ [] → IsObject (counts_fields l) made
counts_made l begun told ended made begins seen is json line =
    told_object begun told (counts_fields l) 1 ended made begins seen is (counts_members l) (omega arith) json line
