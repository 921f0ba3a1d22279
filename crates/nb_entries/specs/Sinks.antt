-- What bytes are put into, one after the other.
use Rattle.std.specs.Prelude.{List, ℕ, [], ◌++◌, Result, MatchResult}

-- SinkLaws takes breaks: takes a b bytes says that b is a sink a into which these bytes were put, and breaks a b bytes
-- that it took no more before the last of them
pub record SinkLaws {S : Type 0} (takes breaks : S → S → List ℕ → Type 0) : Type 0 where
  -- no byte was put
  pub none : (a : S) → takes a a []
  -- some bytes, and then others
  pub more : (a b c : S) (xs ys : List ℕ) → takes a b xs → takes b c ys → takes a c (xs ++ ys)
  -- some bytes, of which not all were put, and others
  pub wider : (a b : S) (xs ys : List ℕ) → breaks a b xs → breaks a b (xs ++ ys)
  -- some bytes, and then others, of which not all were put
  pub later : (a b c : S) (xs ys : List ℕ) → takes a b xs → breaks b c ys → breaks a c (xs ++ ys)

-- Puts takes breaks old new bytes result: these bytes were put into the sink, or it took no more before the last of them
abbrev pub Puts : {S T F : Type 0} → (S → S → List ℕ → Type 0) → (S → S → List ℕ → Type 0) → S → S → List ℕ → Result T F → Type 0
Puts takes breaks old new bytes result = MatchResult result (λ _. takes old new bytes) (λ _. breaks old new bytes)

-- ToPut takes breaks old whole now left: what was put into the sink so far, from `old` to `now`, and what is left are
-- the whole
pub record ToPut {S : Type 0} (takes breaks : S → S → List ℕ → Type 0) (old : S) (whole : List ℕ) (now : S) (left : List ℕ) : Type 0 where
  pub all : (new : S) → takes now new left → takes old new whole
  pub cut : (new : S) → breaks now new left → breaks old new whole
