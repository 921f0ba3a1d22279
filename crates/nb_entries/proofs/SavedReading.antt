-- Rows of runs, read one after the other.
use Rattle.nb_entries.proofs.Common.{◌≡◌, ◌+◌, ◌-◌, ◌<◌, ℕ, suc, List, Option, Some, [], ◌∷◌, ◌++◌, Ok, Err, refl, sym, subst, arith, append_assoc, same_Some, err_from_is_err_and, RunValue, run_end, Outcome, Then, cut, whole, is_0, is_1, is_neither, gives, stops, goes_on, good, bad, PromisesBelow, end_at, promise_at, row_at, append-nil}
use Rattle.std.specs.Result.{IsErrAnd}
use Rattle.nb_names.proofs.LabelsLemmas.{stands_one}
use Rattle.nb_entries.specs.declared.saved.LoadFault.{LoadFault}
use Rattle.nb_entries.specs.declared.saved.LoadFault.TheVariants.{NotCanonical}
use Rattle.nb_entries.specs.declared.saved.SavedForm.TheVariants.{Second}
use Rattle.nb_entries.specs.SavedReading.{run_at}

-- ---- how readings end

-- whether a field is whole
pub ruleset fields = (cut, whole, stands_one)

-- a fault of the first reading, as `?` hands it on
pub stopped : {X Y : Type 0} {first : Outcome X → Type 0} {rest : X → ℕ → Outcome Y → Type 0} (f : LoadFault) (r : Outcome Y) → IsErrAnd r (λ g. g ≡ f) → first (Err f) → Then first rest r
stopped f r e h = let p = err_from_is_err_and r e in rw (p.1, p.2) (stops f h)

-- ---- promises

-- a promise is read as an end is, and then judged
pub promise_good : (input : List ℕ) (end promise : Option ℕ) (at next : ℕ) → end_at input at (Ok (promise, next)) → ((r : ℕ) → promise ≡ Some r → PromisesBelow end r) → promise_at Second input end at (Ok (promise, next))
promise_good input end promise at next (goes_on mark n h (is_0 e gives)) below = goes_on mark n h (is_0 e gives)
promise_good input end promise at next (goes_on mark n h (is_1 e (goes_on m l k gives))) below = goes_on mark n h (is_1 e (goes_on m l (goes_on m l k (good (below m refl))) gives))

pub promise_bad : (input : List ℕ) (end promise : Option ℕ) (at next : ℕ) → end_at input at (Ok (promise, next)) → (((r : ℕ) → promise ≡ Some r → PromisesBelow end r) → ⊥) → promise_at Second input end at (Err (NotCanonical at))
promise_bad input end promise at next (goes_on mark n h (is_0 e gives)) high = absurd (high (λ r none. absurd (cc)))
promise_bad input end promise at next (goes_on mark n h (is_1 e (goes_on m l k gives))) high =
    goes_on mark n h (is_1 e (stops _ (goes_on m l k (bad (λ below. high (λ r same. subst (PromisesBelow end) (same_Some m r same) below))))))

pub promise_ill : (input : List ℕ) (end : Option ℕ) (at : ℕ) (f : LoadFault) → end_at input at (Err f) → promise_at Second input end at (Err f)
promise_ill input end at f (stops g h) = stops g h
promise_ill input end at f (goes_on mark n h (is_1 e (stops g k))) = goes_on mark n h (is_1 e (stops g (stops g k)))
promise_ill input end at f (goes_on mark n h (is_0 e s)) = elim s [ ]
promise_ill input end at f (goes_on mark n h (is_1 e (goes_on m l k s))) = elim s [ ]
promise_ill input end at f (goes_on mark n h (is_neither e)) = goes_on mark n h (is_neither e)

-- ---- runs

-- so many runs have been read of a row of `total`, which begins at `at`; the next one stands at `here`
pub record RowSoFar (input : List ℕ) (most total at counter least here : ℕ) : Type 0 where
  pub done : List RunValue
  pub fault : (left : ℕ) (f : LoadFault) → counter + left ≡ total → row_at input most left least here (Err f) → row_at input most total 0 at (Err f)
  pub found : (left next : ℕ) (rs : List RunValue) → counter + left ≡ total → row_at input most left least here (Ok (rs, next)) → row_at input most total 0 at (Ok (done ++ rs, next))

pub row_turn : (input : List ℕ) (most total at counter least here next : ℕ) (r : RunValue) → RowSoFar input most total at counter least here → run_at input most least here (Ok (r, next)) → RowSoFar input most total at (counter + 1) (run_end r + 1) next
row_turn input most total at counter least here next r s h = record {
  done = s.done ++ r ∷ [];
  fault = λ left f e k. s.fault (suc left) f (omega (arith, e)) (goes_on r next h (stops f k));
  found = λ left last rs e k.
      subst (λ (ss : List RunValue). row_at input most total 0 at (Ok (ss, last))) (sym (append_assoc s.done (r ∷ []) rs))
      (s.found (suc left) last (r ∷ rs) (omega (arith, e)) (goes_on r next h (goes_on rs last k gives)));
}

pub row_stopped : (input : List ℕ) (most total at counter least here : ℕ) (f : LoadFault) (o : Outcome (List RunValue)) → RowSoFar input most total at counter least here → counter < total → IsErrAnd o (λ g. g ≡ f) → run_at input most least here (Err f) → row_at input most total 0 at o
row_stopped input most total at counter least here f o s below e h =
    let p = err_from_is_err_and o e in rw (p.1, p.2) (s.fault (suc (total - (counter + 1))) f (omega arith) (stops f h))

pub row_ended : (input : List ℕ) (most total at counter least here : ℕ) (s : RowSoFar input most total at counter least here) → counter ≡ total → row_at input most total 0 at (Ok (s.done, here))
row_ended input most total at counter least here s all =
    subst (λ (rs : List RunValue). row_at input most total 0 at (Ok (rs, here))) (append-nil s.done) (s.found 0 here [] (omega (arith, all)) gives)
