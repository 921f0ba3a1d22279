-- The packets that words name, as a line of a capture for each (our choice).
use Rattle.std.specs.Prelude.{◌≡◌, ℕ, Bool, List, [], ◌∷◌, ◌++◌, codes}
use Rattle.std.specs.Fmt.{decimal}
use Rattle.nb_streams.specs.Hexadecimal.{digits_text}
use Rattle.nb_building.specs.Built.{Names}

-- payload_line port payload: the line of a capture for the payload, at moment 0
abbrev pub payload_line : ℕ → List ℕ → List ℕ
payload_line port payload = (decimal port ++ codes " 0 " ++ digits_text payload) ++ 10 ∷ []

-- payload_lines port payloads: the same of each payload, in order
abbrev pub payload_lines : ℕ → List (List ℕ) → List ℕ
payload_lines port [] = []
payload_lines port (payload ∷ payloads) = payload_line port payload ++ payload_lines port payloads

-- AreLinesOf broadcast what words bytes: these words name packets, and the bytes are their lines
pub record AreLinesOf (broadcast : Bool) (what : List ℕ) (words : List (List ℕ)) (bytes : List ℕ) : Type 0 where
  pub port : ℕ
  pub payloads : List (List ℕ)
  pub named : Names broadcast what words port payloads
  pub lines : bytes ≡ payload_lines port payloads
