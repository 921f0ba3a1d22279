-- Lemmas on what calls of a reader or a writer, made one after another, do together, for proofs here and in the
-- crates above.
use Rattle.std.proofs.Common.{◌+◌, ◌++◌, inl, inr, ℕ, List, [], Option, Some, None, length, take, refl, sym, subst, ◌∙◌, ap, append_assoc, arith}
use Rattle.std.specs.Io.KnownBytes.{Appends, Consumes, Keeps}
use Rattle.std.proofs.Math.Seq.{take-append-add}
use Rattle.std.proofs.lemmas.List.{append-nil, length-append, take-append-le}
use Rattle.nb_streams.specs.Counted.{Counts}
use Rattle.nb_streams.specs.Devices.{AppendsFront, GrowTo, ShowsReadFault, ShowsWriteFault}

-- ---- bytes

pub Keeps-same : (known : Option (List ℕ)) → Keeps known known
Keeps-same None = tt
Keeps-same (Some xs) = refl

pub Appends-nil : (known : Option (List ℕ)) → Appends known known []
Appends-nil None = tt
Appends-nil (Some xs) = sym (append-nil xs)

pub Appends-more : (a b c : Option (List ℕ)) (xs ys : List ℕ) → Appends a b xs → Appends b c ys → Appends a c (xs ++ ys)
Appends-more None b c xs ys p q = tt
Appends-more (Some a) None c xs ys p q = absurd p
Appends-more (Some a) (Some b) None xs ys p q = absurd q
Appends-more (Some a) (Some b) (Some c) xs ys p q = q ∙ ap (λ r. r ++ ys) p ∙ append_assoc a xs ys

pub Appends-kept : (a b c : Option (List ℕ)) (xs : List ℕ) → Appends a b xs → Keeps b c → Appends a c xs
Appends-kept None b c xs p q = tt
Appends-kept (Some a) None c xs p q = absurd p
Appends-kept (Some a) (Some b) None xs p q = absurd q
Appends-kept (Some a) (Some b) (Some c) xs p q = q ∙ p

pub Consumes-nil : (known : Option (List ℕ)) → Consumes known known []
Consumes-nil None = tt
Consumes-nil (Some xs) = refl

pub Consumes-more : (a b c : Option (List ℕ)) (xs ys : List ℕ) → Consumes a b xs → Consumes b c ys → Consumes a c (xs ++ ys)
Consumes-more None b c xs ys p q = tt
Consumes-more (Some a) None c xs ys p q = absurd p
Consumes-more (Some a) (Some b) None xs ys p q = absurd q
Consumes-more (Some a) (Some b) (Some c) xs ys p q = p ∙ ap (λ r. xs ++ r) q ∙ sym (append_assoc xs ys c)

pub Consumes-kept : (a b c : Option (List ℕ)) (xs : List ℕ) → Consumes a b xs → Keeps b c → Consumes a c xs
Consumes-kept None b c xs p q = tt
Consumes-kept (Some a) None c xs p q = absurd p
Consumes-kept (Some a) (Some b) None xs p q = absurd q
Consumes-kept (Some a) (Some b) (Some c) xs p q = p ∙ ap (λ r. xs ++ r) (sym q)

-- a front of some bytes is one of those bytes and more
pub front_wider : (before now : Option (List ℕ)) (xs ys : List ℕ) → AppendsFront before now xs → AppendsFront before now (xs ++ ys)
front_wider before now xs ys (count, within, appends) =
    (count, omega (arith, within, length-append xs ys), subst (Appends before now) (sym (take-append-le count xs ys within)) appends)

-- bytes, and then a front of others
pub front_after : (before mid now : Option (List ℕ)) (xs ys : List ℕ) → Appends before mid xs → AppendsFront mid now ys → AppendsFront before now (xs ++ ys)
front_after before mid now xs ys whole (count, within, appends) = (
  length xs + count,
  omega (arith, within, length-append xs ys),
  subst (Appends before now) (sym (take-append-add xs ys count)) (Appends-more before mid now xs (take count ys) whole appends),
)

-- ---- counts

pub grows_on : (old mid new : Counts) → GrowTo old mid → GrowTo mid new → GrowTo old new
grows_on old mid new g h = record {
  empty = omega (arith, g.empty, h.empty);
  interrupted = omega (arith, g.interrupted, h.interrupted);
  failed = omega (arith, g.failed, h.failed);
}

-- what failed after some calls failed after those before them too
pub cut_from : (old mid new : Counts) → GrowTo old mid → ShowsReadFault mid new → ShowsReadFault old new
cut_from old mid new g (inl h) = inl (omega (arith, g.failed))
cut_from old mid new g (inr h) = inr (omega (arith, g.interrupted))

pub fails_from : (old mid new : Counts) → GrowTo old mid → ShowsWriteFault mid new → ShowsWriteFault old new
fails_from old mid new g (inl h) = inl (omega (arith, g.failed))
fails_from old mid new g (inr (inl h)) = inr (inl (omega (arith, g.empty)))
fails_from old mid new g (inr (inr h)) = inr (inr (omega (arith, g.interrupted)))
