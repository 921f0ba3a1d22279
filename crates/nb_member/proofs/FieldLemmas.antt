-- Fields of reports and listings.
use Rattle.nb_member.proofs.Common.{◌≡◌, ℕ, List, [], ◌∷◌, ◌++◌, map, codes, Option, Some, None, Result, Ok, Err, refl, subst, sym, ap, ◌∙◌, AllByRecursion, Key, ErrorPacket, Error, DatagramParts, packet_bytes, FragmentParts, Contents, outline_at, ranges_at, datagram_at, Field, Ends, LineEnds, place_fields, fold, NetbiosName, Text, Range, field_text, text_of, Outcome, Kept, Delivered, Unheard, Other, MemberFault, error_of, further_range, key_fields, known_fields, more_fields, outline_fields, places_fields, ranges_fields, error_text, parts_text, result_text, dropped_fields, error_fields, parts_fields, result_fields, outcome_fields, passed_fields}
use Rattle.std.specs.Fmt.{decimal}
use Rattle.std.proofs.lemmas.Grind.{flat_map-append}
use Rattle.std.proofs.lemmas.List.{append_assoc, append-nil}
use Rattle.nb_streams.specs.Hexadecimal.{digits_text}
use Rattle.nb_names.specs.NameText.{written}
use Rattle.nb_datagram.specs.FaultTexts.{key_text, kind_text}
use Rattle.nb_entries.specs.declared.outline.Outline.{Outline}
use Rattle.nb_entries.specs.declared.ranges.PlaceRange.{PlaceRange}
use Rattle.nb_datagram.specs.declared.key.Kind.{Kind}
use Rattle.nb_datagram.specs.Fragment.{datagram_by}
use Rattle.nb_telling.specs.Telling.{Begins, Data}
use Rattle.nb_telling.specs.Members.{AreMembers, AreParts, IsMember, nothing, member, list, both, no_part, range, words, parts}
use Rattle.nb_member.specs.declared.outcome.Outcome.TheVariants.{Spoilt}
use Rattle.nb_member.specs.FaultTexts.{member_fault_place, member_fault_text}
use Rattle.nb_member.specs.Listing.{end_text, key_line, known_text, more_ranges_text, more_text, partial_text, range_text, ranges_text}
use Rattle.nb_member.specs.Tags.{data_tag, destination_tag, kind_tag, listed_tag, refused_tag, source_tag, state_tag, outcome_tag, key_tag}
use Rattle.nb_telling.specs.Texts as telling

-- ---- the text of the fields of a report and of a listing is that of the report and of the listing

-- ---- a report

pub parts_same : (d : DatagramParts) → text_of (parts_fields d) ≡ parts_text d
parts_same d = simp append-nil

errors_same : (e : Option ErrorPacket) → text_of (error_fields e) ≡ error_text e
errors_same None = refl
errors_same (Some e) = append-nil (codes " error " ++ digits_text (packet_bytes (Error e)))

-- a place isn't in the text
places_aside : (place : Option ℕ) (fields : List Field) → text_of (place_fields place ++ fields) ≡ text_of fields
places_aside None fields = refl
places_aside (Some place) fields = refl

pub result_same : (taken : Result Outcome MemberFault) → text_of (result_fields taken) ≡ result_text taken
result_same (Ok (Kept k)) = append-nil (codes "kept " ++ key_text k)
result_same (Ok (Spoilt k)) = append-nil (codes "spoilt " ++ key_text k)
result_same (Ok (Delivered d)) = ap (λ (t : List ℕ). codes "delivered " ++ (key_text d.key ++ t)) (parts_same d)
result_same (Ok (Unheard k e)) = ap (λ (t : List ℕ). codes "unheard " ++ (key_text k ++ t)) (errors_same e)
result_same (Ok Other) = refl
result_same (Err fault) =
    ap (λ (t : List ℕ). codes "refused " ++ (member_fault_text fault ++ t))
    (places_aside (member_fault_place fault) (error_fields (error_of fault)) ∙ errors_same (error_of fault))

pub dropped_same : (keys : ℕ) → text_of (dropped_fields keys) ≡ codes "dropped " ++ decimal keys
dropped_same keys = append-nil (codes "dropped " ++ decimal keys)

-- ---- a listing

further_same : (rs : List PlaceRange) → text_of (map further_range rs) ≡ more_ranges_text rs
further_same [] = refl
further_same (r ∷ rs) = ap (λ (t : List ℕ). codes "," ++ (range_text r ++ t)) (further_same rs)

ranges_same : (rs : List PlaceRange) → text_of (ranges_fields rs) ≡ codes " " ++ ranges_text rs
ranges_same [] = refl
ranges_same (r ∷ rs) = ap (λ (t : List ℕ). codes " " ++ (range_text r ++ t)) (further_same rs)

more_same : (place : Option ℕ) → text_of (more_fields place) ≡ more_text place
more_same None = refl
more_same (Some place) = append-nil (codes " more " ++ decimal place)

end_same : (n : Option ℕ) → telling.known_text n ≡ end_text n
end_same None = refl
end_same (Some n) = refl

-- the pieces of what is known of a key that isn't whole
pieces : (kind source destination held end runs rest : List ℕ)
    → codes " " ++ (kind ++ (codes " " ++ (source ++ (codes " " ++ (destination ++ (codes " " ++ (held ++ (codes "/" ++ (end
    ++ (codes " " ++ (runs ++ (codes " " ++ rest))))))))))))
    ≡ codes " " ++ ((kind ++ (codes " " ++ (source ++ (codes " " ++ (destination ++ (codes " " ++ (held ++ (codes "/" ++ (end
    ++ (codes " " ++ runs)))))))))) ++ (codes " " ++ rest))
pieces kind source destination held end runs rest = simp append_assoc

after_outline : (o : Outline) (rs : List PlaceRange)
    → text_of (places_fields rs o.awaited) ≡ codes " " ++ (ranges_text rs ++ more_text o.awaited)
after_outline o rs =
    flat_map-append field_text (ranges_fields rs) (Ends ∷ more_fields o.awaited)
    ∙ ap (λ (t : List ℕ). t ++ text_of (more_fields o.awaited)) (ranges_same rs)
    ∙ ap (λ (t : List ℕ). codes " " ++ (ranges_text rs ++ t)) (more_same o.awaited)

-- the outline's text before another
abbrev with_outline : (o : Outline) (end rest : List ℕ) → List ℕ
with_outline o end rest =
    codes " " ++ (kind_text o.kind ++ (codes " " ++ (written o.source ++ (codes " " ++ (written o.destination ++ (codes " "
    ++ (decimal o.held ++ (codes "/" ++ (end ++ (codes " " ++ (decimal o.runs ++ rest)))))))))))

partial_same : (o : Outline) (rs : List PlaceRange)
    → text_of (outline_fields o ++ places_fields rs o.awaited) ≡ codes " " ++ partial_text o rs
partial_same o rs =
    ap (λ (end : List ℕ). with_outline o end (text_of (places_fields rs o.awaited))) (end_same o.end)
    ∙ ap (λ (rest : List ℕ). with_outline o (end_text o.end) rest) (after_outline o rs)
    ∙ pieces (kind_text o.kind) (written o.source) (written o.destination) (decimal o.held) (end_text o.end) (decimal o.runs)
    (ranges_text rs ++ more_text o.awaited)

known_same : (d : Option DatagramParts) (o : Option Outline) (rs : List PlaceRange)
    → text_of (known_fields d o rs) ≡ known_text d o rs
known_same (Some d) o rs = ap (λ (t : List ℕ). codes " whole" ++ t) (parts_same d)
known_same None (Some o) rs = ap (λ (t : List ℕ). codes " partial" ++ t) (partial_same o rs)
known_same None None rs = refl

pub key_same : (t : Contents) (k : Key) → text_of (key_fields t k) ≡ key_line t k
key_same t k =
    let known = known_fields (datagram_at t k) (outline_at t k) (ranges_at t k) in
    let text = known_text (datagram_at t k) (outline_at t k) (ranges_at t k) in
    let same = known_same (datagram_at t k) (outline_at t k) (ranges_at t k) in
    ap (λ (s : List ℕ). key_text k ++ s) (flat_map-append field_text known (LineEnds ∷ []) ∙ ap (λ (s : List ℕ). s ++ 10 ∷ []) same)
    ∙ sym (append_assoc (key_text k) text (10 ∷ []))

-- ---- the fields of a report and of a listing are members of an object

-- fields each of which is a member
all_members : {depth : ℕ} (fields : List Field) → AllByRecursion IsMember fields → AreMembers depth fields
all_members [] h = nothing
all_members (field ∷ fields) h = both (field ∷ []) fields (member field h.0) (all_members fields h.1)

-- ---- a report

error_members : {depth : ℕ} (e : Option ErrorPacket) → AreMembers depth (error_fields e)
error_members None = nothing
error_members (Some e) = all_members (error_fields (Some e)) (tt, tt)

place_members : {depth : ℕ} (place : Option ℕ) → AreMembers depth (place_fields place)
place_members None = nothing
place_members (Some place) = all_members (place_fields (Some place)) (tt, tt)

pub result_members : {depth : ℕ} (taken : Result Outcome MemberFault) → AreMembers depth (result_fields taken)
result_members (Ok (Kept k)) = all_members (outcome_fields (Kept k)) (tt, (tt, tt))
result_members (Ok (Spoilt k)) = all_members (outcome_fields (Spoilt k)) (tt, (tt, tt))
result_members (Ok (Delivered d)) = all_members (outcome_fields (Delivered d)) (tt, (tt, (tt, (tt, (tt, (tt, tt))))))
result_members (Ok (Unheard k e)) =
    both (Text outcome_tag (codes "unheard") ∷ Text key_tag (key_text k) ∷ []) (error_fields e)
    (all_members _ (tt, (tt, tt))) (error_members e)
result_members (Ok Other) = all_members (outcome_fields Other) (tt, tt)
result_members (Err fault) =
    both (Text refused_tag (member_fault_text fault) ∷ []) _ (all_members _ (tt, tt))
    (both (place_fields (member_fault_place fault)) (error_fields (error_of fault))
    (place_members (member_fault_place fault)) (error_members (error_of fault)))

pub passed_members : {depth : ℕ} → AreMembers depth passed_fields
passed_members = all_members passed_fields (tt, tt)

pub dropped_members : {depth : ℕ} (keys : ℕ) → AreMembers depth (dropped_fields keys)
dropped_members keys = all_members (dropped_fields keys) (tt, (tt, tt))

-- ---- a listing

further_parts : {depth : ℕ} (rs : List PlaceRange) → AreParts depth (map further_range rs)
further_parts [] = no_part
further_parts (r ∷ rs) = parts (further_range r ∷ []) (map further_range rs) (range (codes ",") r.from r.to) (further_parts rs)

ranges_parts : {depth : ℕ} (rs : List PlaceRange) → AreParts depth (ranges_fields rs)
ranges_parts [] = words (codes " -")
ranges_parts (r ∷ rs) =
    parts (Range (codes " ") r.from r.to ∷ []) (map further_range rs) (range (codes " ") r.from r.to) (further_parts rs)

more_members : {depth : ℕ} (place : Option ℕ) → AreMembers depth (more_fields place)
more_members None = nothing
more_members (Some place) = all_members (more_fields (Some place)) (tt, tt)

known_members : (d : Option DatagramParts) (o : Option Outline) (rs : List PlaceRange) → AreMembers 1 (known_fields d o rs)
known_members (Some d) o rs = all_members (known_fields (Some d) o rs) (tt, (tt, (tt, (tt, (tt, tt)))))
known_members None (Some o) rs =
    both (Text state_tag (codes "partial") ∷ outline_fields o) (places_fields rs o.awaited)
    (all_members _ (tt, (tt, (tt, (tt, (tt, (tt, (tt, tt))))))))
    (subst (λ (fields : List Field). AreMembers 1 (Begins (codes "places") ∷ fields)) (append_assoc (ranges_fields rs) (Ends ∷ []) (more_fields o.awaited))
    (both (Begins (codes "places") ∷ (ranges_fields rs ++ Ends ∷ [])) (more_fields o.awaited) (list (codes "places") (ranges_fields rs) (ranges_parts rs)) (more_members o.awaited)))
known_members None None rs = all_members (known_fields None None rs) (tt, tt)

pub key_members : (t : Contents) (k : Key) → AreMembers 1 (key_fields t k)
key_members t k =
    both (Text listed_tag (key_text k) ∷ []) _ (all_members _ (tt, tt))
    (both (known_fields (datagram_at t k) (outline_at t k) (ranges_at t k)) (LineEnds ∷ [])
    (known_members (datagram_at t k) (outline_at t k) (ranges_at t k)) (all_members (LineEnds ∷ []) (tt, tt)))

-- ---- what was told part by part

-- what is told of the datagram of the fragment f with this data
pub told_delivered : {A : Type 0} (after : A → Field → A) (old : A) (f : FragmentParts) (sent : List ℕ) {key : Key} {kind : Kind}
    {source destination : NetbiosName} {bytes : List ℕ} {mid new : A} → key ≡ f.key → kind ≡ f.kind → source ≡ f.source
    → destination ≡ f.destination → bytes ≡ sent
    → mid ≡ fold after old (Text outcome_tag (codes "delivered") ∷ Text key_tag (key_text key) ∷ [])
    → new ≡ fold after mid (Text kind_tag (kind_text kind) ∷ Text source_tag (written source) ∷ Text destination_tag (written destination)
    ∷ Data data_tag bytes ∷ [])
    → new ≡ fold after old (outcome_fields (Delivered (datagram_by f sent)))
told_delivered after old f sent a b c d e first more = cc (a, b, c, d, e, first, more)
