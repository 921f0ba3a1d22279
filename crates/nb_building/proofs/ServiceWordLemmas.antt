-- Why the words of a response name none, where its answer couldn't be made.
use Rattle.nb_building.proofs.Common.{◌≡◌, ◌≢◌, ◌⊎◌, inl, inr, ◌<◌, Bool, ℕ, List, [], ◌∷◌, get_or, length, Result, Ok, Err, refl, ap, ◌∙◌, subst, arith, codes, IfErr, DataText, IsErrAnd, NamesNone, NetbiosName, IsText, ServicePacket, ResourceData, ResourceRecord, IsServiceBuilt, NamesService, NumberText, WordText, response, HasRdata, plain, domain, Refused, NameAt, NS, Explains, IsUnanswered, no_memory, rdata as much_rdata, too_long, BuildFault, Memory}
use Rattle.nb_building.proofs.TakenLemmas.{explained_word, one_word_text}
use Rattle.nb_building.proofs.UnnamedLemmas.{one_data}

-- the answer of a response that is named
response_answer : (broadcast : Bool) (what : List ℕ) (texts : List (List ℕ)) (packet : ServicePacket) (a b c d e f : List ℕ)
    → texts ≡ a ∷ b ∷ c ∷ d ∷ e ∷ f ∷ [] → NamesService broadcast what texts packet
    → (kind : ℕ) × (bytes : List ℕ) × (rdata : ResourceData) × WordText kind d × DataText bytes f × HasRdata kind bytes rdata
response_answer broadcast _ _ _ a b c d e f are (response id word kind ttl name bytes rdata g h i j k l is_g is_h is_i is_j is_k is_l has) =
    (kind, bytes, rdata, subst (WordText kind) (ap (λ t. get_or t 3 []) are) is_j, subst (DataText bytes) (ap (λ t. get_or t 5 []) are) is_l, has)
response_answer broadcast _ _ _ a b c d e f are others = absurd (cc are)

no_response : (broadcast : Bool) (texts : List (List ℕ)) (a b c d e f bytes : List ℕ) (kind : ℕ) → texts ≡ a ∷ b ∷ c ∷ d ∷ e ∷ f ∷ []
    → WordText kind d → DataText bytes f → kind ≢ NS → 65535 < length bytes
    → (out : List ℕ) → ¬ IsServiceBuilt broadcast (codes "response") texts out
no_response broadcast texts a b c d e f bytes kind are is_kind is_bytes other far out built =
    of_rdata h.0 h.1 h.2 (one_word_text h.0 kind d h.3 is_kind) (one_data h.1 bytes f h.4 is_bytes) h.5 where
      h : (kind : ℕ) × (bytes : List ℕ) × (rdata : ResourceData) × WordText kind d × DataText bytes f × HasRdata kind bytes rdata
      h = response_answer broadcast _ texts built.packet a b c d e f are built.named

      of_rdata : (k : ℕ) (l : List ℕ) (rdata : ResourceData) → k ≡ kind → l ≡ bytes → ¬ HasRdata k l rdata
      of_rdata k l _ is are (plain no_ns short) = absurd (omega (arith, far, short, ap length are))
      of_rdata k l _ is are (domain labels ns at) = absurd (other (rw (← is) ns))

pub response_explained : {T : Type 0} (broadcast : Bool) (texts : List (List ℕ)) (a b c d e f bytes : List ℕ) (kind : ℕ)
    (answer : Result ResourceRecord BuildFault) (r : Result T BuildFault) → texts ≡ a ∷ b ∷ c ∷ d ∷ e ∷ f ∷ []
    → (id : ℕ) × WordText id a → (word : ℕ) × WordText word b → (name : NetbiosName) × IsText name c → WordText kind d
    → (ttl : ℕ) × NumberText 4294967295 ttl e → DataText bytes f
    → IfErr answer (IsUnanswered 5 kind bytes)
    → IfErr r (λ fault. (fault ≡ Memory) ⊎ (answer ≡ Err fault))
    → IfErr r (Explains (IsServiceBuilt broadcast (codes "response") texts) (codes "response") texts)
response_explained broadcast texts a b c d e f bytes kind answer (Ok x) are is_id is_word is_name is_kind is_ttl is_bytes refused told = tt
response_explained broadcast texts a b c d e f bytes kind answer (Err fault) are is_id is_word is_name is_kind is_ttl is_bytes refused (inl memory) =
    rw memory no_memory
response_explained broadcast texts a b c d e f bytes kind answer (Err fault) are is_id is_word is_name is_kind is_ttl is_bytes refused (inr told) =
    of_answer (rw told at refused) where
      of_answer : IsUnanswered 5 kind bytes fault → Explains (IsServiceBuilt broadcast (codes "response") texts) (codes "response") texts fault
      of_answer (inl (is, other, far)) = rw is (too_long (no_response broadcast texts a b c d e f bytes kind are is_kind is_bytes other far)
          (rw are (much_rdata kind a b c d e f is_kind other (bytes, is_bytes, far))))
      of_answer (inr (is, ns, none)) =
          rw is (explained_word _ _ _ _ _ 5 refl are (
            is_id,
            (
              is_word,
              (
                is_name,
                (
                  (kind, is_kind),
                  (
                    is_ttl,
                    λ h.
                        let named = h.2 (subst (λ n. WordText n d) ns is_kind) in
                        none named.0 (subst (λ l. NameAt l Refused 0 named.0 (length l)) (one_data h.0 bytes f h.1 is_bytes) named.1),
                  ),
                ),
              ),
            ),
          ))

-- data of a record of type NS that spells no name
pub no_domain : {T : Type 0} (place kind : ℕ) (bytes : List ℕ) (fault : BuildFault) (r : Result T BuildFault) → kind ≡ NS
    → IsErrAnd r (λ made. made ≡ fault) → NamesNone place (λ labels. NameAt bytes Refused 0 labels (length bytes)) fault
    → IfErr r (IsUnanswered place kind bytes)
no_domain place kind bytes fault (Ok x) ns h none = tt
no_domain place kind bytes fault (Err made) ns h none = inr (h ∙ none.0, ns, none.1)
