-- Covers agree by what look-ups find, and their union is one in the sense of SlotLemmas.
use Rattle.std.proofs.Common.{◌≡◌, inl, inr, ℕ, true, Option, Some, None, refl, sym, ◌∙◌, ap, subst, nat_lt, Decides}
use Rattle.std.proofs.lemmas.Bool.{ltb-true, lt-ltb, and_from, and_parts}
use Rattle.std.specs.Cmp.{nat_cmp_total}
use Rattle.std.specs.Ordering.{nat_cmp}
use Rattle.std.proofs.lemmas.Option.{none-some, same_Some}
use Rattle.std.specs.FinMap as map
use Rattle.std.specs.FinMap.{nat_cmp-IsAntisymmetric}
use Rattle.nb_entries.specs.Maps.{first_of}
use Rattle.nb_entries.specs.Marks.{same_where}
use Rattle.nb_entries.specs.Cover.{CoverFacts, CoversFit, BytesBelow, LiesBelow, bytes_lie_below, lies_below, is_below_end, covers_agree, covers_together, AreCoverFacts}
use Rattle.nb_entries.specs.Shared.MapsLemmas.{get-union, all_entries_found, all_entries_from}
use Rattle.nb_entries.specs.Code.CoverFacts.{Holds}
use Rattle.nb_entries.specs.Shared.MarksLemmas.{same_at, at_same, first_left, first_right, first_either, either_first, first_of_three, first_itself, first_held, one_value, end_right, marks_fit_decides, marks_below_decides, marks_left, marks_right, marks_both, marks_turned, marks_below_left, marks_below_right, marks_below_both, marks_comm, marks_assoc, marks_idem}
use Rattle.nb_entries.specs.Shared.SlotLemmas.{Unites}

pub bytes_below_decides : (n : ℕ) (m : map.FinMap nat_cmp ℕ) → Decides (bytes_lie_below n m) (BytesBelow n m)
bytes_below_decides n m = (
  λ h q x f. ltb-true q n (all_entries_found nat_cmp-IsAntisymmetric (λ i _. nat_lt i n) m h q x f),
  λ h. all_entries_from nat_cmp_total nat_cmp-IsAntisymmetric (λ i _. nat_lt i n) m (λ q x f. lt-ltb q n (h q x f)),
)

below_is : (n : ℕ) (c : CoverFacts) → lies_below n c ≡ true → LiesBelow n c
below_is n c h = record { bytes = (bytes_below_decides n c.bytes).0 (and_parts _ _ h).0; marks = (marks_below_decides n c.marks).0 (and_parts _ _ h).1 }

is_below : (n : ℕ) (c : CoverFacts) → LiesBelow n c → lies_below n c ≡ true
is_below n c h = and_from _ _ ((bytes_below_decides n c.bytes).1 h.bytes) ((marks_below_decides n c.marks).1 h.marks)

pub below_end_is : (o : Option ℕ) (c : CoverFacts) → is_below_end o c ≡ true → (n : ℕ) → o ≡ Some n → LiesBelow n c
below_end_is None c h n e = absurd (none-some n e)
below_end_is (Some k) c h n e = subst (λ n. LiesBelow n c) (same_Some k n e) (below_is k c h)

pub below_end_from : (o : Option ℕ) (c : CoverFacts) → ((n : ℕ) → o ≡ Some n → LiesBelow n c) → is_below_end o c ≡ true
below_end_from None c h = refl
below_end_from (Some k) c h = is_below k c (h k refl)

pub fit_of : (a b : CoverFacts) → covers_agree a b ≡ true → CoversFit a b
fit_of a b h =
    let t1 = (and_parts _ _ h).1 in let t2 = (and_parts _ _ t1).1 in
    record {
      bytes = λ q x y e f. same_at (map.get b.bytes q) x y (all_entries_found nat_cmp-IsAntisymmetric (λ i v. same_where (map.get b.bytes i) v) a.bytes (and_parts _ _ h).0 q x e) f;
      marks = (marks_fit_decides a.marks b.marks).0 (and_parts _ _ t1).0;
      own_below = below_end_is b.marks.end a (and_parts _ _ t2).0;
      other_below = below_end_is a.marks.end b (and_parts _ _ t2).1;
    }

pub agree_of : (a b : CoverFacts) → CoversFit a b → covers_agree a b ≡ true
agree_of a b f =
    and_from _ _
    (all_entries_from nat_cmp_total nat_cmp-IsAntisymmetric (λ i v. same_where (map.get b.bytes i) v) a.bytes (λ q x e. at_same (map.get b.bytes q) x (λ y g. f.bytes q x y e g)))
    (and_from _ _ ((marks_fit_decides a.marks b.marks).1 f.marks) (and_from _ _ (below_end_from b.marks.end a f.own_below) (below_end_from a.marks.end b f.other_below)))

-- ---- what fits with the union of two

pub in_union : (a b : CoverFacts) (q : ℕ) → map.get (covers_together a b).bytes q ≡ first_of (map.get a.bytes q) (map.get b.bytes q)
in_union a b q = get-union nat_cmp_total nat_cmp-IsAntisymmetric a.bytes b.bytes q

-- what lies below a place with the union of two does so each by itself, and the other way round
below_left : (n : ℕ) (a b : CoverFacts) → LiesBelow n (covers_together a b) → LiesBelow n a
below_left n a b h = record {
  bytes = λ q x g. h.bytes q x (in_union a b q ∙ first_left _ _ x g);
  marks = marks_below_left n a.marks b.marks h.marks;
}

below_right : (n : ℕ) (a b : CoverFacts) → CoversFit a b → LiesBelow n (covers_together a b) → LiesBelow n b
below_right n a b ab h = record {
  bytes = λ q x g. h.bytes q x (in_union a b q ∙ first_right _ _ (ab.bytes q) x g);
  marks = marks_below_right n a.marks b.marks h.marks;
}

pub bytes_below_both : (n : ℕ) (a b : CoverFacts) → BytesBelow n a.bytes → BytesBelow n b.bytes → BytesBelow n (covers_together a b).bytes
bytes_below_both n a b h k q x g = elim (first_either _ _ x (sym (in_union a b q) ∙ g)) [ inl f ↦ h q x f | inr f ↦ k q x f ]

below_both : (n : ℕ) (a b : CoverFacts) → LiesBelow n a → LiesBelow n b → LiesBelow n (covers_together a b)
below_both n a b h k = record {
  bytes = bytes_below_both n a b h.bytes k.bytes;
  marks = marks_below_both n a.marks b.marks h.marks k.marks;
}

pub fit_left : (a b c : CoverFacts) → CoversFit (covers_together a b) c → CoversFit a c
fit_left a b c f = record {
  bytes = λ q x y e g. f.bytes q x y (in_union a b q ∙ first_left _ _ x e) g;
  marks = marks_left a.marks b.marks c.marks f.marks;
  own_below = λ n e. below_left n a b (f.own_below n e);
  other_below = λ n e. f.other_below n (first_left _ _ n e);
}

pub fit_right : (a b c : CoverFacts) → CoversFit a b → CoversFit (covers_together a b) c → CoversFit b c
fit_right a b c ab f = record {
  bytes = λ q x y e g. f.bytes q x y (in_union a b q ∙ first_right _ _ (ab.bytes q) x e) g;
  marks = marks_right a.marks b.marks c.marks ab.marks f.marks;
  own_below = λ n e. below_right n a b ab (f.own_below n e);
  other_below = λ n e. f.other_below n (end_right a.marks b.marks ab.marks n e);
}

pub fit_both : (a b c : CoverFacts) → CoversFit a c → CoversFit b c → CoversFit (covers_together a b) c
fit_both a b c ac bc = record {
  bytes = λ q x y e g. elim (first_either _ _ x (sym (in_union a b q) ∙ e)) [ inl h ↦ ac.bytes q x y h g | inr h ↦ bc.bytes q x y h g ];
  marks = marks_both a.marks b.marks c.marks ac.marks bc.marks;
  own_below = λ n e. below_both n a b (ac.own_below n e) (bc.own_below n e);
  other_below = λ n e. elim (first_either _ _ n e) [ inl h ↦ ac.other_below n h | inr h ↦ bc.other_below n h ];
}

pub fit_turned : (a b : CoverFacts) → CoversFit a b → CoversFit b a
fit_turned a b f = record {
  bytes = λ q x y e g. sym (f.bytes q y x g e);
  marks = marks_turned a.marks b.marks f.marks;
  own_below = f.other_below;
  other_below = f.own_below;
}

-- ---- the laws of the union

-- covers with the same look-ups are one
pub same_cover : (a b : CoverFacts) → ((q : ℕ) → map.get a.bytes q ≡ map.get b.bytes q) → a.marks ≡ b.marks → a ≡ b
same_cover a b m e = let bytes = map.same_map nat_cmp_total nat_cmp-IsAntisymmetric a.bytes b.bytes m in λ i. record { bytes = bytes i; marks = e i }

pub together-comm : (a b : CoverFacts) → CoversFit a b → covers_together a b ≡ covers_together b a
together-comm a b f = same_cover _ _ (λ q. in_union a b q ∙ either_first _ _ (f.bytes q) ∙ sym (in_union b a q)) (marks_comm a.marks b.marks f.marks)

together-assoc : (a b c : CoverFacts) → covers_together (covers_together a b) c ≡ covers_together a (covers_together b c)
together-assoc a b c = same_cover _ _
    (λ q. in_union (covers_together a b) c q ∙ ap (λ o. first_of o (map.get c.bytes q)) (in_union a b q)
    ∙ first_of_three (map.get a.bytes q) (map.get b.bytes q) (map.get c.bytes q)
    ∙ sym (in_union a (covers_together b c) q ∙ ap (first_of (map.get a.bytes q)) (in_union b c q)))
    (marks_assoc a.marks b.marks c.marks)

together-idem : (a : CoverFacts) → covers_together a a ≡ a
together-idem a = same_cover _ _ (λ q. in_union a a q ∙ first_itself (map.get a.bytes q)) (marks_idem a.marks)

pub covers_unite : Unites covers_agree covers_together
covers_unite = record {
  turned = λ a b h. agree_of b a (fit_turned a b (fit_of a b h));
  same = λ a b h. together-comm a b (fit_of a b h);
  regroup = together-assoc;
  once = together-idem;
  left = λ a b c ab h. agree_of a c (fit_left a b c (fit_of _ _ h));
  right = λ a b c ab h. agree_of b c (fit_right a b c (fit_of a b ab) (fit_of _ _ h));
  both = λ a b c ac bc. agree_of _ _ (fit_both a b c (fit_of a c ac) (fit_of b c bc));
}

-- ---- well formed is to agree with oneself

pub formed_agrees : (a : CoverFacts) → AreCoverFacts a → covers_agree a a ≡ true
formed_agrees a h = agree_of a a (record {
  bytes = λ q x y e f. one_value (map.get a.bytes q) x y e f;
  marks = one_value a.marks.end;
  own_below = h;
  other_below = h;
})

pub agrees_formed : (a : CoverFacts) → covers_agree a a ≡ true → AreCoverFacts a
agrees_formed a h = (fit_of a a h).own_below

-- a union with facts that are held already adds nothing
pub together_held : (a b : CoverFacts) → Holds a b → covers_together a b ≡ a
together_held a b h = same_cover _ _ (λ i. in_union a b i ∙ first_held (map.get a.bytes i) (map.get b.bytes i) (h.bytes i)) h.marks
