use Rattle.nbt_reassembly.proofs.Common.{◌≡◌, ◌<◌, ℕ, List, [], ◌∷◌, length, false, sym, ◌∙◌, arith, ◌==◌}
use Rattle.nbt_reassembly.proofs.TableTurns.{first_alone, first_finished}
use Rattle.nbt_reassembly.proofs.tables.first_line.Goals as goal

some_bytes : (bytes : List ℕ) → (length bytes == 0) ≡ false → 0 < length bytes
some_bytes [] h = absurd (cc)
some_bytes (b ∷ bytes) h = omega arith

pub returns-in-Some-clause-found : goal.returns-in-Some-clause-found
returns-in-Some-clause-found c = first_finished _ _ _ c.in-Some.ensures.found c.in-Some.ensures.first

pub returns-in-None-clause-found : goal.returns-in-None-clause-found
returns-in-None-clause-found c =
    first_alone c.args.text.now c.in-None.ensures.none (some_bytes c.args.text.now (sym c.is_empty.ensures ∙ c.if-is_empty.false))
