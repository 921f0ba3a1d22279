use Rattle.nb_entries.proofs.Common.{◌≡◌, ◌∷◌, [], ap, arith, on_ok_weaker, value_of, run_at, grown, kept_values}
use Rattle.nb_entries.proofs.KeptRuns.RunPutLemmas.{put_one}
use Rattle.nb_entries.proofs.cover.runs.inserting.insert_bytes.Goals as goal

pub returns-then-place-end-clause-ok : goal.returns-then-place-end-clause-ok
returns-then-place-end-clause-ok c =
    let run = value_of c.in-One.run' in
    let f = run_at c.args.start c.args.bytes.now in
    let one : kept_values c.args.kept.now ≡ run ∷ [] = ap kept_values c.in-One.is in
    on_ok_weaker c.join.result (λ (e : value_of c.join.new.run ≡ grown run f). rw (one, e) (put_one run f (rw one at c.requires.apart).0 (record { before = omega arith; after = omega arith }) (rw one at c.requires.agree))) c.join.ensures.ok
