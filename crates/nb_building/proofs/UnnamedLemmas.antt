-- Words that name nothing, from their parts.
use Rattle.nb_building.proofs.Common.{Some, ◌≡◌, ◌<◌, ◌⊎◌, inl, inr, ℕ, List, [], ◌∷◌, length, map, get_or, Result, Ok, Err, refl, sym, ap, ◌∙◌, subst, arith, codes, length-map, DataText, HexText, no_byte, one_more, empty, digits, byte_of, IsSessionBuilt, NamesSession, message, negative, length-HexText, IsPacket, BuildFault, Count, Memory, Explains, miscounted, no_memory, kinds_of}
use Rattle.std.specs.Prelude.{IfErr}
use Rattle.nb_session.specs.Packet as session

-- a text stands for data of one length
data_cases : (bytes text : List ℕ) → DataText bytes text → ((bytes ≡ []) × (text ≡ codes "empty")) ⊎ HexText bytes text
data_cases _ _ empty = inl (refl, refl)
data_cases _ _ (digits bytes text some h) = inr h

pub one_hex : (bytes other text : List ℕ) → HexText bytes text → HexText other text → bytes ≡ other
one_hex _ _ _ no_byte no_byte = refl
one_hex _ _ _ (one_more high low bytes text h l rest) (one_more _ _ other _ h' l' rest') = ap (λ (b : List ℕ). byte_of high low ∷ b) (one_hex bytes other text rest rest')

empty_is_no_hex : (bytes text : List ℕ) → text ≡ codes "empty" → ¬ HexText bytes text
empty_is_no_hex bytes text is h = absurd (omega (arith, length-HexText bytes text h, ap length is))

pub one_data : (bytes other text : List ℕ) → DataText bytes text → DataText other text → bytes ≡ other
one_data bytes other text h k = of_cases (data_cases bytes text h) (data_cases other text k) where
  of_cases : ((bytes ≡ []) × (text ≡ codes "empty")) ⊎ HexText bytes text → ((other ≡ []) × (text ≡ codes "empty")) ⊎ HexText other text → bytes ≡ other
  of_cases (inl x) (inl y) = x.0 ∙ sym y.0
  of_cases (inl x) (inr y) = absurd (empty_is_no_hex other text x.1 y)
  of_cases (inr x) (inl y) = absurd (empty_is_no_hex bytes text y.1 x)
  of_cases (inr x) (inr y) = one_hex bytes other text x y

-- a message of so many bytes is no packet
pub no_message : (what : List ℕ) (texts : List (List ℕ)) (a given : List ℕ) → what ≡ codes "message" → texts ≡ a ∷ [] → DataText given a
    → 131071 < length given → (bytes : List ℕ) → ¬ IsSessionBuilt what texts bytes
no_message what texts a given is are is_data long bytes built = of_packet what texts built.packet is are built.named built.exact where
  of_packet : (what : List ℕ) (texts : List (List ℕ)) (packet : session.Packet) → what ≡ codes "message" → texts ≡ a ∷ [] → NamesSession what texts packet
      → ¬ IsPacket packet bytes
  of_packet _ _ _ is are (message other d h) exact =
      absurd (omega (arith, long, exact.formed, ap length (one_data given other a is_data (subst (DataText other) (ap (λ l. get_or l 0 []) are) h))))
  of_packet _ _ _ is are (negative code d h) exact = absurd (cc is)
  of_packet _ _ _ is are others exact = absurd (cc are)

pub bare_explained : {A T : Type 0} (f : A → List ℕ) (what word : List ℕ) (words : List A) (r : Result T BuildFault) → what ≡ word → kinds_of word ≡ Some []
    → IfErr r (λ fault. (fault ≡ Memory) ⊎ ((fault ≡ Count) × ¬ (length words ≡ 0)))
    → IfErr r (Explains (IsSessionBuilt what (map f words)) what (map f words))
bare_explained f what word words (Ok x) is form h = tt
bare_explained f what word words (Err fault) is form (inl memory) = rw memory no_memory
bare_explained f what word words (Err fault) is form (inr (count, some)) =
    rw count (miscounted [] (ap kinds_of is ∙ form) (λ none. some (sym (length-map words f) ∙ none)))
