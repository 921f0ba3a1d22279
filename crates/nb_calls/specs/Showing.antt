-- What the calls on a payload's text, its phrase and its object answer.
use Rattle.std.specs.Prelude.{◌≡◌, ℕ, List, Result, Ok, Err}
use Rattle.nb_calls.specs.Common.{IsSaid, Shown, Refusal, Memory}
use Rattle.nb_text.specs.Tells.{IsObject}

-- Made Is answer: a value is answered of which this holds, or memory ran out
abbrev pub Made : (List ℕ → Type 0) → Result (List ℕ) Refusal → Type 0
Made Is (Ok value) = Is value
Made Is (Err refusal) = refusal ≡ Memory

-- Shows payload port answer: this is the text of a payload that came to the port
abbrev pub Shows : List ℕ → ℕ → Result (List ℕ) Refusal → Type 0
Shows payload port = Made (Shown payload port)

-- Phrases payload port answer: this is the phrase of a payload that came to the port
abbrev pub Phrases : List ℕ → ℕ → Result (List ℕ) Refusal → Type 0
Phrases payload port = Made (IsSaid payload port)

-- Objects payload port answer: this is the JSON object of a payload that came to the port
abbrev pub Objects : List ℕ → ℕ → Result (List ℕ) Refusal → Type 0
Objects payload port = Made (IsObject payload port)
