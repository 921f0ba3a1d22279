-- What is laid out is what is read.
use Rattle.std.proofs.Common.{◌≡◌, ℕ, ◌+◌, ◌*◌, ◌/◌, ◌%◌, ◌<◌, ◌≤◌, ◌^◌, ◌==◌, ◌&&◌, true, false, List, [], ◌∷◌, ◌++◌, length, take, drop, Some, None, Ok, refl, ap, sym, subst, ◌∙◌, append_assoc, append-nil, length-append, arith, nat_le}
use Rattle.std.proofs.Math.Seq.{take-append_seam, drop-append_seam}
use Rattle.std.proofs.lemmas.Bool.{le-leb}
use Rattle.std.proofs.lemmas.Bool.Decides.{nat_tests}
use Rattle.std.proofs.lemmas.Nat.{from_be_bytes-to_be_bytes_2}
use Rattle.std.specs.Int.{w16, to_be_bytes}
use Rattle.std.specs.Prelude.{if◌then◌else◌}
use Rattle.std.specs.declared.net.ip_addr.IpAddr.TheVariants.{V4}
use Rattle.nb_frames.specs.declared.carried.Carried.{Carried}
use Rattle.nb_frames.specs.declared.carried.Carried.TheVariants.{Udp}
use Rattle.nb_frames.specs.declared.carried.Hosts.{Hosts}
use Rattle.nb_frames.specs.declared.carried.Place.{Place}
use Rattle.nb_frames.specs.declared.carried.Ports.{Ports}
use Rattle.nb_frames.specs.declared.link.Link.TheVariants.{Ethernet}
use Rattle.nb_frames.specs.Fields.{byte_at, word_at, bytes_at}
use Rattle.nb_frames.specs.Payload.{PayloadValue, rest_after, whole}
use Rattle.nb_frames.specs.Ipv4.{header_4, wire_4, place_4, packet_4}
use Rattle.nb_frames.specs.Carried.{ip_in, version_of}
use Rattle.nb_frames.specs.Contents.{Carries, HasContents, udp}
use Rattle.nb_frames.specs.Layout.{TaggedDatagram, six, four, udp_bytes, ipv4_bytes, frame_bytes, IsLaidOut, contents_written}
use Rattle.nb_frames.specs.Link.{mac_at, network_of}
use Rattle.nb_frames.specs.Tags.{is_tag, follows, vlans_at}
use Rattle.nb_frames.specs.Transport.{udp_in}
use Rattle.nb_frames.proofs.TagsLemmas.{no_vlans, whole_tag, no_tag, not_before, tag_passed, type_there}

-- ---- what stands between a header and padding

same_payload : (bytes other : List ℕ) (wire size : ℕ) → bytes ≡ other → wire ≡ size
    → let a : PayloadValue = record { bytes = bytes; wire_length = wire } in
    let b : PayloadValue = record { bytes = other; wire_length = size } in a ≡ b
same_payload bytes other wire size x y = λ i. record { bytes = x i; wire_length = y i }

pub between : (front body padding : List ℕ) (wire header : ℕ) → header ≡ length front → wire ≡ header + length body
    → rest_after (front ++ (body ++ padding)) wire header ≡ whole body
between front body padding wire header is size =
    let all : List ℕ = front ++ body in
    let long : wire ≡ length all = omega (arith, is, size, length-append front body) in
    let taken : take wire (front ++ (body ++ padding)) ≡ all =
    ap (take wire) (sym (append_assoc front body padding)) ∙ ap (λ (n : ℕ). take n (all ++ padding)) long ∙ take-append_seam all padding in
    let left : drop header (take wire (front ++ (body ++ padding))) ≡ body =
    ap (drop header) taken ∙ ap (λ (n : ℕ). drop n all) is ∙ drop-append_seam front body in
    same_payload _ _ _ _ left (omega (arith, size))

-- ---- IPv4

not_zero : (total there : ℕ) → 0 < total → (if total == 0 then there else total) ≡ total
not_zero total there some = grind (arith, nat_tests)

no_place : (field : ℕ) (place : Place) → field ≡ 0 → (if field == 0 then None else Some place) ≡ None
no_place field place is = rw is refl

is_4 : (n : ℕ) → n ≡ 4 → (n == 4) ≡ true
is_4 n is = rw is refl

whole_4 : (packet : List ℕ) → 20 ≤ header_4 packet → header_4 packet ≤ wire_4 packet → header_4 packet ≤ length packet → version_of packet ≡ 4
    → ip_in packet ≡ Ok (packet_4 packet)
whole_4 packet least fits there is =
    rw (
      not_before (length packet) 20 (omega (arith, least, there)),
      is_4 (version_of packet) is,
      not_before (header_4 packet) 20 least,
      not_before (wire_4 packet) (header_4 packet) fits,
      not_before (length packet) (header_4 packet) there,
    ) refl

pub laid_4 : (packet front options body padding : List ℕ) (words total : ℕ) → packet ≡ (front ++ options) ++ (body ++ padding) → length front ≡ 20
    → length options ≡ 4 * words → words ≤ 10 → byte_at packet 0 ≡ 64 + (5 + words) → word_at packet 2 ≡ total → total ≡ 20 + length options + length body
    → word_at packet 6 % 0x4000 ≡ 0 → (ip_in packet ≡ Ok (packet_4 packet)) × (place_4 packet ≡ None) × (rest_after packet (wire_4 packet) (header_4 packet) ≡ whole body)
laid_4 packet front options body padding words total is front_is options_are few first counted sum field =
    let size : wire_4 packet ≡ total = not_zero (word_at packet 2) (length packet) (omega (arith, counted, sum)) ∙ counted in
    let header : header_4 packet ≡ length (front ++ options) = omega (arith, first, length-append front options) in
    let there : length packet ≡ length (front ++ options) + (length body + length padding) =
    ap length is ∙ length-append (front ++ options) (body ++ padding) ∙ ap (λ (n : ℕ). length (front ++ options) + n) (length-append body padding) in (
      whole_4 packet (omega (arith, header, length-append front options)) (omega (arith, header, size, sum, length-append front options)) (omega (arith, header, there))
          (omega (arith, first)),
      no_place (word_at packet 6 % 0x4000) _ field,
      ap (λ (b : List ℕ). rest_after b (wire_4 packet) (header_4 packet)) is
          ∙ between (front ++ options) body padding (wire_4 packet) (header_4 packet) header (omega (arith, size, sum, header, length-append front options)),
    )

-- ---- UDP

whole_udp : (hosts : Hosts) (body : List ℕ) → 8 ≤ length body → 8 ≤ word_at body 4
    → udp_in hosts (whole body) ≡ Udp (record { hosts = hosts; ports = record { source = word_at body 0; destination = word_at body 2 }; payload = rest_after body (word_at body 4) 8 })
whole_udp hosts body there some = rw (not_before (length body) 8 there, not_before (word_at body 4) 8 some) refl

pub laid_udp : (hosts : Hosts) (body front payload : List ℕ) (ports : Ports) → body ≡ front ++ payload → length front ≡ 8 → word_at body 4 ≡ 8 + length payload
    → record { source = word_at body 0; destination = word_at body 2 } ≡ ports
    → udp_in hosts (whole body) ≡ Udp (record { hosts = hosts; ports = ports; payload = whole payload })
laid_udp hosts body front payload ports is eight counted same =
    let there : length body ≡ 8 + length payload = ap length is ∙ length-append front payload ∙ ap (λ (n : ℕ). n + length payload) eight in
    let bare : front ++ (payload ++ []) ≡ body = ap (λ (r : List ℕ). front ++ r) (append-nil payload) ∙ sym is in
    let rest : rest_after body (word_at body 4) 8 ≡ whole payload =
    ap (λ (b : List ℕ). rest_after b (word_at body 4) 8) (sym bare) ∙ between front payload [] (word_at body 4) 8 (sym eight) counted in
    whole_udp hosts body (omega (arith, there)) (omega (arith, counted)) ∙ (λ i. Udp (record { hosts = hosts; ports = same i; payload = rest i }))

-- ---- the frame

some_mac : (frame mac : List ℕ) (at : ℕ) → at + 6 ≤ length frame → bytes_at 6 frame at ≡ mac → Some (record { octets = mac }) ≡ mac_at frame at
some_mac frame mac at fits is = rw (le-leb (at + 6) (length frame) fits, is) refl

one_vlan : (frame : List ℕ) (control : ℕ) → 18 ≤ length frame → is_tag (word_at frame 12) ≡ true → word_at frame 14 ≡ control
    → is_tag (word_at frame 16) ≡ false → vlans_at 4 frame 12 14 ≡ control % 2 ^ 12 ∷ []
unfolding vlans_at
one_vlan frame control fits tag is none =
    let here : (nat_le 16 (length frame) && is_tag (word_at frame 12)) ≡ true = whole_tag (length frame) 14 (is_tag (word_at frame 12)) (omega (arith, fits)) tag in
    rw (here, is, no_vlans frame 3 16 18 (no_tag (length frame) 18 (is_tag (word_at frame 16)) none)) refl

behind_one : (frame : List ℕ) → 18 ≤ length frame → is_tag (word_at frame 12) ≡ true → is_tag (word_at frame 16) ≡ false
    → network_of Ethernet frame ≡ follows frame (word_at frame 16) 18
behind_one frame fits tag none = tag_passed frame 4 12 14 (λ h. absurd (omega (arith, h))) (omega (arith, fits)) tag ∙ type_there frame 3 16 18 fits none

carried_written : (frame packet body : List ℕ) (hosts : Hosts) (carried : Carried) → network_of Ethernet frame ≡ Ok 18 → drop 18 frame ≡ packet
    → ip_in packet ≡ Ok (packet_4 packet) → (packet_4 packet).hosts ≡ hosts → byte_at packet 9 ≡ 17 → place_4 packet ≡ None
    → rest_after packet (wire_4 packet) (header_4 packet) ≡ whole body → udp_in hosts (whole body) ≡ carried → Carries Ethernet frame carried
carried_written frame packet body hosts carried begins there reads from is none rest same =
    subst (λ (c : Carried). Carries Ethernet frame c) ((λ i. udp_in (from i) (rest i)) ∙ same)
    (udp (packet_4 packet) (record { at = 18; begins = begins; reads = ap ip_in there ∙ reads }) none is)

pub laid_out_read : (f : TaggedDatagram) → IsLaidOut f → HasContents 1 (frame_bytes f) (contents_written f)
laid_out_read f laid =
    let frame : List ℕ = frame_bytes f in
    let body : List ℕ = udp_bytes f in
    let packet : List ℕ = ipv4_bytes f ++ f.padding in
    let total : ℕ = 20 + length f.options + length body in
    let front : List ℕ =
    (64 + (5 + length f.options / 4)) ∷ f.service ∷ (to_be_bytes w16 total ++ (to_be_bytes w16 f.identification ++ (to_be_bytes w16 0x4000 ++ (f.lifetime ∷ 17
    ∷ (to_be_bytes w16 f.checksum ++ (four f.source ++ four f.destination)))))) in
    let hosts : Hosts = record { source = V4 (record { octets = four f.source }); destination = V4 (record { octets = four f.destination }) } in
    let long : 18 ≤ length frame = omega arith in
    let split : packet ≡ (front ++ f.options) ++ (body ++ f.padding) = ap (λ (r : List ℕ). front ++ r) (append_assoc f.options body f.padding) in
    let size : word_at packet 2 ≡ total = from_be_bytes-to_be_bytes_2 total (omega (arith, laid.fits)) in
    let ip = laid_4 packet front f.options body f.padding laid.words total split refl laid.options laid.few (omega (arith, laid.options)) size refl refl in
    let datagram =
    laid_udp hosts body (take 8 body) f.payload (record { source = f.source_port; destination = f.destination_port }) refl refl
    (from_be_bytes-to_be_bytes_2 (8 + length f.payload) (omega (arith, laid.fits)))
    (λ i. record { source = from_be_bytes-to_be_bytes_2 f.source_port laid.source_port i; destination = from_be_bytes-to_be_bytes_2 f.destination_port laid.destination_port i }) in
    record {
      sender = some_mac frame (six f.sender) 6 (omega (arith, long)) refl;
      receiver = some_mac frame (six f.receiver) 0 (omega (arith, long)) refl;
      vlans = sym (one_vlan frame f.control long refl (from_be_bytes-to_be_bytes_2 f.control laid.control) refl);
      carried = carried_written frame packet body hosts _ (behind_one frame long refl refl) refl ip.0 refl refl ip.1 ip.2 datagram;
    }
