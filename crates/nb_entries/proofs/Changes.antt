-- What facts that grow change at their key.
use Rattle.nb_entries.proofs.Common.{◌≡◌, ◌≢◌, ◌≤◌, ℕ, List, length, Option, Some, None, refl, sym, ◌∙◌, ap, arith, cond, DatagramParts, FragmentParts, Spoilt, Held, CoverFacts, EntryFacts, EntryValue, FactsFit, facts_together, join_entry, facts_agree_of, Holds, bytes_to, datagram_with, datagram_of, newly, together_held, below_found}
use Rattle.nb_datagram.specs.declared.key.Key.{Key}
use Rattle.nb_entries.specs.declared.outline.Handing.{Handing}
use Rattle.nb_entries.specs.declared.outline.Handing.TheVariants.{Over, Kept}
use Rattle.nb_entries.specs.declared.outline.Change.TheVariants.{Whole}
use Rattle.nb_entries.specs.Change.{KeyChange, made_by, grown_to, handed_by, told_by}
use Rattle.nb_entries.proofs.Covers.{together_holds}

-- facts that are held add nothing
pub facts_held : (a b : EntryFacts) → Holds a.cover b.cover → a ≡ facts_together a b
facts_held a b h =
    let cover = together_held a.cover b.cover h in
    λ i. record { kind = a.kind; source = a.source; destination = a.destination; cover = sym cover i }

-- the bytes up to the end are as many as it says
pub whole_size : (m : CoverFacts) (xs : List ℕ) (most : ℕ) → ((n : ℕ) → m.marks.end ≡ Some n → n ≤ most) → Some xs ≡ bytes_to m.bytes m.marks.end → length xs ≤ most
whole_size m xs most short h = at m.marks.end refl h
  where
    at : (o : Option ℕ) → m.marks.end ≡ o → Some xs ≡ bytes_to m.bytes o → length xs ≤ most
    at None e h = absurd (cc)
    at (Some n) e h = let size = (below_found m.bytes n xs (sym h)).count in let end = short n e in omega (arith, size, end)

-- a datagram takes the kind and the names alone from the facts
pub with_together : (k : Key) (a b : EntryFacts) (o : Option (List ℕ)) → datagram_with k a o ≡ datagram_with k (facts_together a b) o
with_together k a b None = refl
with_together k a b (Some xs) = refl

-- facts that agree with others and don't hold them grow to both together
pub key_grown : (k : Key) (a b : EntryFacts) → FactsFit a b → (Holds a.cover b.cover → ⊥) →
    KeyChange k (Some (Held a)) (Some (Held (facts_together a b))) (grown_to (newly (datagram_of k (Held a)) (datagram_of k (Held (facts_together a b)))))
key_grown k a b fit more = at (newly (datagram_of k (Held a)) (datagram_of k (Held (facts_together a b)))) refl
  where
    at : (o : Option DatagramParts) → newly (datagram_of k (Held a)) (datagram_of k (Held (facts_together a b))) ≡ o → KeyChange k (Some (Held a)) (Some (Held (facts_together a b))) (grown_to o)
    at None e = (
      λ same. (let one : facts_together a b ≡ a = cc same in more (together_holds a.cover b.cover fit.cover (ap (λ (x : EntryFacts). x.cover) one))),
      (λ s. (let clash = s.1 in absurd (cc))),
      e,
    )
    at (Some d) e = e

-- the facts of a new key grow
pub key_first : (k : Key) (e : EntryFacts) → KeyChange k None (Some (Held e)) (grown_to (datagram_of k (Held e)))
key_first k e = at (datagram_of k (Held e)) refl
  where
    at : (o : Option DatagramParts) → datagram_of k (Held e) ≡ o → KeyChange k None (Some (Held e)) (grown_to o)
    at None h = (λ same. absurd (cc same), (λ s. (let clash = s.1 in absurd (cc))), h)
    at (Some d) h = h

-- what a fragment made of facts of its kind and names that grow
pub made_grown : (f : FragmentParts) (a : EntryFacts) (o : Option (List ℕ)) → a.kind ≡ f.kind → a.source ≡ f.source → a.destination ≡ f.destination
    → made_by f (grown_to o) ≡ grown_to (datagram_with f.key a o)
made_grown f a None kind source destination = refl
made_grown f a (Some xs) kind source destination = λ i. Whole (record {
  key = f.key;
  kind = sym kind i;
  source = sym source i;
  destination = sym destination i;
  bytes = xs;
})

-- the datagram is handed over where the data is
pub with_handed : (h : Handing) (k : Key) (e : EntryFacts) (o : Option (List ℕ)) → datagram_with k e (handed_by h o) ≡ handed_by h (datagram_with k e o)
with_handed Over k e o = refl
with_handed Kept k e o = refl

-- what is told of facts that grow, whose datagram is handed over or not
pub told_grown : (h : Handing) (d : Option DatagramParts) → grown_to (handed_by h d) ≡ told_by h (grown_to d)
told_grown Over d = refl
told_grown Kept None = refl
told_grown Kept (Some d) = refl

-- facts that agree with others and don't hold them aren't their join
pub join_differs : (s : EntryValue) (a b : EntryFacts) → Held a ≡ s → FactsFit a b → (Holds a.cover b.cover → ⊥) → join_entry s (Held b) ≢ s
join_differs s a b at fit more same =
    let joined : ◌≡◌ {A = EntryValue} (join_entry (Held a) (Held b)) (Held (facts_together a b)) = ap (λ t. cond t (Held (facts_together a b)) Spoilt) (facts_agree_of a b fit) in
    let one : facts_together a b ≡ a = cc (sym joined ∙ ap (λ x. join_entry x (Held b)) at ∙ same ∙ sym at) in
    more (together_holds a.cover b.cover fit.cover (ap (λ (x : EntryFacts). x.cover) one))
