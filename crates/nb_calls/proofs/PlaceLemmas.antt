-- The parts of a packet stand at the places that are answered of them.
use Rattle.nb_calls.proofs.Common.{◌≡◌, ◌∙◌, ℕ, List, [], ◌∷◌, ◌++◌, length, refl, sym, ap, subst, arith, append_assoc, length-append, StandsAt, FragmentParts, named_length, type_of, QueryPacket, IsPacket, name_bytes, stands_at_seam, header_bytes, error_type, query_type, fragment_places, error_places, query_places}
use Rattle.std.specs.Int.{w16, to_be_bytes}
use Rattle.nb_datagram.specs.declared.packet.Packet.TheVariants.{Direct, Error, Query}
use Rattle.nb_datagram.specs.declared.packet.ErrorPacket.{ErrorPacket}

stands : (whole front bytes rest : List ℕ) (at : ℕ) → whole ≡ front ++ (bytes ++ rest) → at ≡ length front → StandsAt whole at bytes
stands whole front bytes rest at w e =
    subst (λ (p : List ℕ). StandsAt p at bytes) (sym w) (subst (λ (n : ℕ). StandsAt (front ++ (bytes ++ rest)) n bytes) (sym e)
    (stands_at_seam front bytes rest))

to_source : (h s d b r : List ℕ) → (h ++ (s ++ (d ++ b))) ++ r ≡ h ++ (s ++ ((d ++ b) ++ r))
to_source h s d b r = simp append_assoc refl

to_destination : (h s d b r : List ℕ) → (h ++ (s ++ (d ++ b))) ++ r ≡ (h ++ s) ++ (d ++ (b ++ r))
to_destination h s d b r = simp append_assoc refl

to_bytes : (h s d b r : List ℕ) → (h ++ (s ++ (d ++ b))) ++ r ≡ (h ++ (s ++ d)) ++ (b ++ r)
to_bytes h s d b r = simp append_assoc refl

together : (h l o x : List ℕ) → h ++ (l ++ (o ++ x)) ≡ (h ++ (l ++ o)) ++ x
together h l o x = simp append_assoc refl

module _ (payload : List ℕ) (f : FragmentParts) (used : ℕ) (is : IsPacket payload (Direct f) used) where
  -- what stands before the names
  before : List ℕ
  before = header_bytes (type_of f.kind) f.flags f.key ++ (to_be_bytes w16 (named_length f.source f.destination f.bytes) ++ to_be_bytes w16 f.offset)

  before_length : 14 ≡ length before
  unfolding before
  before_length = grind (arith, length-append, is.fits.key.ip)

  whole : payload ≡ (before ++ (name_bytes f.source ++ (name_bytes f.destination ++ f.bytes))) ++ is.rest
  unfolding before
  whole = is.whole ∙ ap (λ (packet : List ℕ). packet ++ is.rest) (together (header_bytes (type_of f.kind) f.flags f.key) (to_be_bytes w16 (named_length f.source f.destination f.bytes))
      (to_be_bytes w16 f.offset) (name_bytes f.source ++ (name_bytes f.destination ++ f.bytes)))

  pub source_stands : StandsAt payload (fragment_places f used).source (name_bytes f.source)
  source_stands =
      stands payload before (name_bytes f.source) ((name_bytes f.destination ++ f.bytes) ++ is.rest) (fragment_places f used).source
      (whole ∙ to_source before (name_bytes f.source) (name_bytes f.destination) f.bytes is.rest) before_length

  pub destination_stands : StandsAt payload (fragment_places f used).destination (name_bytes f.destination)
  destination_stands =
      stands payload (before ++ name_bytes f.source) (name_bytes f.destination) (f.bytes ++ is.rest) (fragment_places f used).destination
      (whole ∙ to_destination before (name_bytes f.source) (name_bytes f.destination) f.bytes is.rest)
      (grind (arith, length-append before (name_bytes f.source), before_length))

  pub bytes_stand : StandsAt payload (fragment_places f used).contents f.bytes
  bytes_stand =
      stands payload (before ++ (name_bytes f.source ++ name_bytes f.destination)) f.bytes is.rest (fragment_places f used).contents
      (whole ∙ to_bytes before (name_bytes f.source) (name_bytes f.destination) f.bytes is.rest)
      (grind (
        arith,
        length-append before (name_bytes f.source ++ name_bytes f.destination),
        length-append (name_bytes f.source) (name_bytes f.destination),
        before_length,
      ))

-- the code of an error packet stands behind its header
pub code_stands : (payload : List ℕ) (e : ErrorPacket) (used : ℕ) → IsPacket payload (Error e) used → StandsAt payload (error_places e used).contents (e.code ∷ [])
code_stands payload e used is =
    let header : List ℕ = header_bytes error_type e.flags e.key in
    stands payload header (e.code ∷ []) is.rest (error_places e used).contents
    (is.whole ∙ append_assoc header (e.code ∷ []) is.rest) (grind (arith, length-append, is.fits.ip))

-- and so does the name of a query
pub name_stands : (payload : List ℕ) (q : QueryPacket) (used : ℕ) → IsPacket payload (Query q) used
    → StandsAt payload (query_places q used).destination (name_bytes q.destination)
name_stands payload q used is =
    let header : List ℕ = header_bytes (query_type q.kind) q.flags q.key in
    stands payload header (name_bytes q.destination) is.rest (query_places q used).destination
    (is.whole ∙ append_assoc header (name_bytes q.destination) is.rest) (grind (arith, length-append, is.fits.0.ip))
