-- Words that name no packets of port 138.
use Rattle.nb_building.proofs.Common.{◌≡◌, ◌⊎◌, inl, inr, ◌<◌, ◌≤◌, ℕ, ◌+◌, ◌*◌, List, [], ◌∷◌, length, get_or, sym, ap, ◌∙◌, subst, arith, Result, Ok, Err, slice_range, IfErr, range_with_len, length-map, get_or-map, DataText, NetbiosName, IsText, KeyText, NamesDatagrams, NumberText, fragments, AreTooLong, piece_count, decimal_injective, BuildFault, Memory, TooLong, ZeroPiece, Explains, GiveTooMuch, no_memory, too_long, zero_piece}
use Rattle.nb_datagram.specs.declared.limits.TheConstants.{MAX_LENGTH}
use Rattle.nb_datagram.specs.Fragment.{DatagramParts, FragmentParts, named_length}
use Rattle.nb_datagram.specs.Pieces.{piece}
use Rattle.nb_building.proofs.UnnamedLemmas.{one_data}

-- ---- the words of each packet

pub record FragmentWords (a b c e f : List ℕ) : Type 0 where
  pub whole : DatagramParts
  pub most : ℕ
  pub key : KeyText whole.key a
  pub source : IsText whole.source b
  pub destination : IsText whole.destination c
  pub bytes : DataText whole.bytes e
  pub number : NumberText 65535 most f
  pub some : 1 ≤ most
  pub short : length whole.bytes ≤ 65535
  pub fit : ¬ AreTooLong whole most

pub fragment_words : (what : List ℕ) (texts payloads : List (List ℕ)) (a b c e f : List ℕ) → texts ≡ a ∷ b ∷ c ∷ e ∷ f ∷ []
    → NamesDatagrams what texts payloads → FragmentWords a b c e f
fragment_words _ _ _ a b c e f are (fragments d most a' b' c' e' f' is_a is_b is_c is_e is_f some short fit) =
    record {
      whole = d;
      most = most;
      key = subst (KeyText d.key) (ap (λ l. get_or l 0 []) are) is_a;
      source = subst (IsText d.source) (ap (λ l. get_or l 1 []) are) is_b;
      destination = subst (IsText d.destination) (ap (λ l. get_or l 2 []) are) is_c;
      bytes = subst (DataText d.bytes) (ap (λ l. get_or l 3 []) are) is_e;
      number = subst (NumberText 65535 most) (ap (λ l. get_or l 4 []) are) is_f;
      some = some;
      short = short;
      fit = fit;
    }
fragment_words _ _ _ a b c e f are others = absurd (cc are)

-- ---- a datagram is too long whatever its key

pub too_long_anyhow : (d e : DatagramParts) (m : ℕ) → d.source ≡ e.source → d.destination ≡ e.destination → d.bytes ≡ e.bytes
    → AreTooLong d m → AreTooLong e m
too_long_anyhow d e m source destination bytes (f, has, long) =
    let places : List ℕ = range_with_len 0 (piece_count (length d.bytes) m) in
    let same : range_with_len 0 (piece_count (length e.bytes) m) ≡ places =
    ap (λ (l : List ℕ). range_with_len 0 (piece_count (length l) m)) (sym bytes) in
    let within : has.0 < length places = omega (arith, has.1, length-map places (piece d m)) in
    let is : piece d m (get_or places has.0 0) ≡ f = sym (get_or-map (piece d m) places has.0 0 f within) ∙ has.2 in
    let g : FragmentParts = piece e m (get_or places has.0 0) in (
      g,
      rw same (has.0, omega (arith, within, length-map places (piece e m)), get_or-map (piece e m) places has.0 0 g within),
      subst (λ (n : ℕ). MAX_LENGTH < n)
          (ap (λ (p : FragmentParts). named_length p.source p.destination p.bytes) (sym is)
          ∙ (λ i. named_length (source i) (destination i) (slice_range (bytes i) (get_or places has.0 0 * m) ((get_or places has.0 0 + 1) * m))))
          long,
    )

-- words of parts that give a packet more data than it may have
pub no_fragments : (texts payloads : List (List ℕ)) (a b c e f : List ℕ) (what : List ℕ) (d : DatagramParts) (most : ℕ)
    → texts ≡ a ∷ b ∷ c ∷ e ∷ f ∷ [] → ((name : NetbiosName) → IsText name b → d.source ≡ name)
    → ((name : NetbiosName) → IsText name c → d.destination ≡ name) → DataText d.bytes e → NumberText 65535 most f
    → (1 ≤ most → AreTooLong d most) → ¬ NamesDatagrams what texts payloads
no_fragments texts payloads a b c e f what d most are is_source is_destination is_bytes is_most long names =
    let h = fragment_words what texts payloads a b c e f are names in
    let same : h.most ≡ most = decimal_injective h.most most (omega (arith, h.number.0)) (omega (arith, is_most.0)) (sym h.number.1 ∙ is_most.1) in
    h.fit (subst (AreTooLong h.whole) (sym same) (too_long_anyhow d h.whole most (is_source h.whole.source h.source)
    (is_destination h.whole.destination h.destination) (one_data d.bytes h.whole.bytes e is_bytes h.bytes) (long (subst (λ (n : ℕ). 1 ≤ n) same h.some))))

pub fragments_explained : {T : Type 0} (what : List ℕ) (texts : List (List ℕ)) (a b c e f : List ℕ) (d : DatagramParts) (most : ℕ)
    (r : Result T BuildFault) → texts ≡ a ∷ b ∷ c ∷ e ∷ f ∷ []
    → ((name : NetbiosName) → IsText name b → d.source ≡ name)
    → ((name : NetbiosName) → IsText name c → d.destination ≡ name) → DataText d.bytes e
    → NumberText 65535 most f → (1 ≤ most → AreTooLong d most → GiveTooMuch what (a ∷ b ∷ c ∷ e ∷ f ∷ []))
    → IfErr r (λ fault. fault ≡ TooLong → (1 ≤ most) × AreTooLong d most)
    → IfErr r (λ fault. (fault ≡ Memory) ⊎ (((fault ≡ TooLong) ⊎ (fault ≡ ZeroPiece)) × (1 ≤ most → AreTooLong d most)))
    → IfErr r (Explains (NamesDatagrams what texts) what texts)
fragments_explained what texts a b c e f d most (Ok x) are is_source is_destination is_bytes is_most much far long = tt
fragments_explained what texts a b c e f d most (Err fault) are is_source is_destination is_bytes is_most much far (inl memory) = rw memory no_memory
fragments_explained what texts a b c e f d most (Err fault) are is_source is_destination is_bytes is_most much far (inr (inl is, long)) =
    rw is (too_long (λ payloads. no_fragments texts payloads a b c e f what d most are is_source is_destination is_bytes is_most long)
    (let h = far is in rw are (much h.0 h.1)))
fragments_explained what texts a b c e f d most (Err fault) are is_source is_destination is_bytes is_most much far (inr (inr is, long)) =
    rw is (zero_piece (λ payloads. no_fragments texts payloads a b c e f what d most are is_source is_destination is_bytes is_most long))
