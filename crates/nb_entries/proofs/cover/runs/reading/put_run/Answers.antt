use Rattle.nb_entries.proofs.Common.{◌≡◌, ◌++◌, ◌∷◌, [], List, ℕ, length, get_or, ap₂, value_of, begun, turn, stop, done}
use Rattle.std.specs.Int.{w16, w32, w64, to_be_bytes}
use Rattle.nb_entries.specs.Saved.{run_bytes}
use Rattle.nb_entries.proofs.cover.runs.reading.put_run.Goals as goal

-- the low halves of a start and of a size
halves : (start size : List ℕ) (m n : ℕ) → start ≡ to_be_bytes w32 m → size ≡ to_be_bytes w64 n → get_or start 2 0 ∷ get_or start 3 0 ∷ get_or size 6 0 ∷ get_or size 7 0 ∷ [] ≡ to_be_bytes w16 m ++ to_be_bytes w16 n
halves start size m n e d = ap₂ (λ s n. get_or s 2 0 ∷ get_or s 3 0 ∷ get_or n 6 0 ∷ get_or n 7 0 ∷ []) e d

pub returns-in_err-put : goal.returns-in_err-put
returns-in_err-put g c =
    let run = value_of c.args.run.now in
    let same = halves _ _ run.start (length run.bytes) (rw c.start.ensures at c.to_be_bytes-start.ensures) (rw c.bytes.ensures at c.to_be_bytes-size.ensures) in
    stop g.met.S.ByteSink.laws _ run.bytes (begun g.met.S.ByteSink.laws c.args.sink.now (run_bytes run)) same c.in_err-put.ensures _ c.from_residual.result c.from_residual.ensures.1

pub returns : goal.returns
returns g c =
    let run = value_of c.args.run.now in
    let same = halves _ _ run.start (length run.bytes) (rw c.start.ensures at c.to_be_bytes-start.ensures) (rw c.bytes.ensures at c.to_be_bytes-size.ensures) in
    done g.met.S.ByteSink.laws _ run.bytes (turn g.met.S.ByteSink.laws _ run.bytes (begun g.met.S.ByteSink.laws c.args.sink.now (run_bytes run)) same c.in_ok-put.ensures) c.bytes-2.ensures c.put-2.result c.put-2.ensures
