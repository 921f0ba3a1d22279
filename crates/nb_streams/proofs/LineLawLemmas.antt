-- The lines of a text, each with a line feed after it, make the text.
use Rattle.std.proofs.Common.{◌≡◌, ◌⊎◌, ◌++◌, ℕ, List, [], ◌∷◌, refl, sym, ap, ◌∙◌, append_assoc, inl, inr}
use Rattle.std.specs.List.{flat_map}
use Rattle.std.proofs.lemmas.List.{append-nil}
use Rattle.std.proofs.lemmas.List.Concat.{flat_map-cons}
use Rattle.std.proofs.lemmas.Grind.{flat_map-append}
use Rattle.nb_streams.specs.Lines.{CutInto, rest, line, with_rest, HasLines}

-- a line with its line feed
abbrev pub fed : List ℕ → List ℕ
fed l = l ++ 10 ∷ []

one_fed : (l : List ℕ) → flat_map fed (l ∷ []) ≡ l ++ 10 ∷ []
one_fed l = flat_map-cons fed l [] ∙ append-nil (l ++ 10 ∷ [])

cut_joined : (bytes left : List ℕ) (lines : List (List ℕ)) → CutInto bytes lines left → flat_map fed lines ++ left ≡ bytes
cut_joined _ _ _ (rest left clear) = refl
cut_joined _ _ _ (line l bytes left lines clear c) =
    ap (λ (bs : List ℕ). bs ++ left) (flat_map-cons fed l lines)
    ∙ append_assoc (l ++ 10 ∷ []) (flat_map fed lines) left
    ∙ append_assoc l (10 ∷ []) (flat_map fed lines ++ left)
    ∙ ap (λ (bs : List ℕ). l ++ 10 ∷ bs) (cut_joined bytes left lines c)

joined_of : (text last : List ℕ) (finished lines : List (List ℕ)) → CutInto text finished last → lines ≡ with_rest finished last
    → (flat_map fed lines ≡ text) ⊎ (flat_map fed lines ≡ text ++ 10 ∷ [])
joined_of text [] finished lines cut are =
    inl (ap (flat_map fed) are ∙ sym (append-nil (flat_map fed finished)) ∙ cut_joined text [] finished cut)
joined_of text (b ∷ last) finished lines cut are =
    inr (ap (flat_map fed) are ∙ flat_map-append fed finished ((b ∷ last) ∷ [])
    ∙ ap (λ (bs : List ℕ). flat_map fed finished ++ bs) (one_fed (b ∷ last))
    ∙ sym (append_assoc (flat_map fed finished) (b ∷ last) (10 ∷ []))
    ∙ ap (λ (bs : List ℕ). bs ++ 10 ∷ []) (cut_joined text (b ∷ last) finished cut))

pub joined : (text : List ℕ) (lines : List (List ℕ)) → HasLines text lines
    → (flat_map fed lines ≡ text) ⊎ (flat_map fed lines ≡ text ++ 10 ∷ [])
joined text lines h = joined_of text h.last h.finished lines h.cut h.are
