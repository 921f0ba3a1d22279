-- Bytes that are put into a sink, one after the other.
use Rattle.std.proofs.Common.{◌≡◌, ◌++◌, ℕ, List, Result, Ok, Err, subst}
use Rattle.std.specs.Prelude.{IsErrAnd}
use Rattle.nb_entries.specs.Sinks.{SinkLaws, Puts, ToPut}

module _ {S : Type 0} {takes breaks : S → S → List ℕ → Type 0} where
  -- all are left
  pub begun : SinkLaws takes breaks → (old : S) (whole : List ℕ) → ToPut takes breaks old whole old whole
  begun laws old whole = record { all = λ new p. p; cut = λ new p. p }

  -- those that are left are the same
  pub told : SinkLaws takes breaks → {old now : S} {whole : List ℕ} (bytes same : List ℕ) → bytes ≡ same → ToPut takes breaks old whole now bytes
      → ToPut takes breaks old whole now same
  told laws {old} {now} {whole} bytes same e p = subst (λ (bs : List ℕ). ToPut takes breaks old whole now bs) e p

  -- the first of those that are left are put
  pub turn : SinkLaws takes breaks → {old now new : S} {whole given : List ℕ} (first next : List ℕ)
      → ToPut takes breaks old whole now (first ++ next) → given ≡ first → takes now new given → ToPut takes breaks old whole new next
  turn laws {old} {now} {new} {whole} {given} first next p e took =
      let put = subst (takes now new) e took in
      record {
        all = λ last q. p.all last (laws.more now new last first next put q);
        cut = λ last q. p.cut last (laws.later now new last first next put q);
      }

  -- or break, and the function answers what broke
  pub stop : SinkLaws takes breaks → {T F : Type 0} {old now new : S} {whole given : List ℕ} (first next : List ℕ)
      → ToPut takes breaks old whole now (first ++ next) → given ≡ first → breaks now new given
      → (Q : F → Type 0) (result : Result T F) → IsErrAnd result Q → Puts takes breaks old new whole result
  stop laws first next p e broke Q (Ok x) err = absurd err
  stop laws {T} {F} {old} {now} {new} {whole} {given} first next p e broke Q (Err f) err =
      p.cut new (laws.wider now new first next (subst (breaks now new) e broke))

  -- the last of them are put, or break
  pub done : SinkLaws takes breaks → {T F : Type 0} {old now : S} {whole given : List ℕ} (new : S) (last : List ℕ)
      → ToPut takes breaks old whole now last → given ≡ last
      → (result : Result T F) → Puts takes breaks now new given result → Puts takes breaks old new whole result
  done laws {T} {F} {old} {now} {whole} {given} new last p e (Ok x) took = p.all new (subst (takes now new) e took)
  done laws {T} {F} {old} {now} {whole} {given} new last p e (Err f) broke = p.cut new (subst (breaks now new) e broke)

  -- bytes are put, and then others, or not all of these
  pub after : SinkLaws takes breaks → {T F : Type 0} {old now : S} {given first : List ℕ} (new : S) (next : List ℕ)
      → given ≡ first → takes old now given → (result : Result T F) → Puts takes breaks now new next result → Puts takes breaks old new (first ++ next) result
  after laws {T} {F} {old} {now} {given} {first} new next e took (Ok x) rest = laws.more old now new first next (subst (takes old now) e took) rest
  after laws {T} {F} {old} {now} {given} {first} new next e took (Err f) rest = laws.later old now new first next (subst (takes old now) e took) rest

  -- bytes break, and the function answers what broke
  pub broken : SinkLaws takes breaks → {T F : Type 0} {old new : S} {given first : List ℕ} (next : List ℕ)
      → given ≡ first → breaks old new given → (Q : F → Type 0) (result : Result T F) → IsErrAnd result Q → Puts takes breaks old new (first ++ next) result
  broken laws next e broke Q (Ok x) err = absurd err
  broken laws {T} {F} {old} {new} {given} {first} next e broke Q (Err f) err = laws.wider old new first next (subst (breaks old new) e broke)
