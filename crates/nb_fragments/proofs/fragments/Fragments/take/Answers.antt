use Rattle.std.proofs.Common.{◌≡◌, sym, subst, ap, length}
use Rattle.std.proofs.lemmas.Bool.Decides.{not_from_Decides}
use Rattle.nb_fragments.specs.Taking.{came_now}
use Rattle.nb_fragments.specs.Code.Kept.{IsFull, came_at, clock_of}
use Rattle.nb_entries.specs.Piece.{PieceParts}
use Rattle.nb_fragments.proofs.TakeLemmas.{not_long, take_answer, take_err, take_live}
use Rattle.nb_fragments.proofs.fragments.Fragments.take.Goals as goal

came : (c : goal.After-join) → came_at c.advance.new.self c.of.result c.in-Some.piece ≡ came_now (clock_of c.join.new.self) c.args.fragment.now
came c =
    let clock = sym c.join.ensures.counts.0 in
    let key = c.of.ensures in
    let piece = c.in-Some.ensures.0 in
    λ i. record { time = clock i; key = key i; piece = piece i }

pub returns-in-Some-clause-live : goal.returns-in-Some-clause-live
returns-in-Some-clause-live c = take_live c.args.self.now c.advance.new.self c.join.new.self _ _ c.join.result (came c) c.join.ensures.counts.0 c.advance.ensures.live c.join.ensures.live

pub returns-in-Some-clause-answer : goal.returns-in-Some-clause-answer
returns-in-Some-clause-answer c =
    take_answer c.args.self.now c.advance.new.self c.join.new.self c.args.fragment.now _ _ c.join.result (came c) c.join.ensures.counts.0 c.advance.ensures.live
    (not_from_Decides c.is_cut.result c.is_cut.ensures c.if-is_cut.false) (not_long c.args.fragment.now c.in-Some.piece c.in-Some.ensures.0 c.in-Some.ensures.1) c.join.ensures.answer

pub returns-in-Some-clause-err : goal.returns-in-Some-clause-err
returns-in-Some-clause-err c = take_err c.args.self.now c.advance.new.self c.join.new.self c.join.result c.join.ensures.counts.0 c.advance.ensures.live c.join.ensures.err

pub returns-in-Some-clause-full : goal.returns-in-Some-clause-full
returns-in-Some-clause-full c = λ left.
    let bytes = ap (λ (p : PieceParts). length p.bytes) c.in-Some.ensures.0 in
    subst (λ k. IsFull c.join.new.self k (length c.args.fragment.now.payload.bytes)) c.of.ensures
    (subst (λ n. IsFull c.join.new.self c.of.result n) bytes (c.join.ensures.full left))
