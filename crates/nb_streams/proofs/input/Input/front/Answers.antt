use Rattle.std.proofs.Common.{◌≡◌, ◌≤◌, ◌∙◌, ℕ, List, ap, sym, take, length, arith}
use Rattle.std.proofs.lemmas.List.{take_all, length-take-le}
use Rattle.nb_streams.proofs.input.Input.front.Goals as goal

front_length : (bytes : List ℕ) → 16777216 ≤ length bytes → length (take 16777216 bytes) ≡ 16777216
front_length bytes h = length-take-le 16777216 bytes h

pub slice_bounds-result-end : goal.slice_bounds-result-end
slice_bounds-result-end c = sym (front_length c.as_slice-bytes.result.now (omega arith))

pub returns-then-bytes-le-MAX_INPUT-clause-value :
    goal.returns-then-bytes-le-MAX_INPUT-clause-value
returns-then-bytes-le-MAX_INPUT-clause-value c =
    sym (take_all 16777216 c.as_slice-bytes.result.now c.if-bytes-le-MAX_INPUT.true) ∙ ap (take 16777216) c.as_slice-bytes.ensures.value

pub returns-else-bytes-le-MAX_INPUT-clause-within :
    goal.returns-else-bytes-le-MAX_INPUT-clause-within
returns-else-bytes-le-MAX_INPUT-clause-within c =
    let size = front_length c.as_slice-bytes.result.now (omega arith) in omega (arith, size)
