use Rattle.std.proofs.Common.{◌≤◌, ◌-◌, ◌∙◌, inl, refl, ap, arith, length}
use Rattle.nb_fragments.specs.declared.limits.TheConstants.{ROOM}
use Rattle.nb_fragments.proofs.JoinLemmas.{any_err, live_joined, live_kept, makes_joined}
use Rattle.nb_fragments.proofs.fragments.Fragments.join.Goals as goal

pub returns-in_err-taken-clause-err : goal.returns-in_err-taken-clause-err
returns-in_err-taken-clause-err c = any_err c.from_residual.result (λ live h. live_kept c.args.self.now _ live h c.in_err-taken.ensures.err c.in_err-taken.ensures.few refl c.in_err-taken.ensures.less c.in_err-taken.ensures.unused)

fits_of : (c : goal.After-self-1) → length c.args.piece.now.bytes ≤ ROOM - c.args.self.now.used
fits_of c = omega (arith, c.if-saturating_sub-bytes.false, c.saturating_sub.ensures, ap length c.bytes.ensures)

pub returns-clause-live : goal.returns-clause-live
returns-clause-live c = λ live h. live_joined c.args.self.now _ c.args.key c.args.piece.now live c.in_ok-taken.taken h c.in_ok-taken.ensures.ok c.min-self.ensures
    (let less = h.charge in let most = h.room in let fits = fits_of c in let grown = c.in_ok-taken.ensures.charge (omega (arith, most, fits)) in omega (arith, less, grown))
    (let most = h.room in let fits = fits_of c in let grown = c.in_ok-taken.ensures.most in omega (arith, most, fits, grown))

pub returns-clause-answer : goal.returns-clause-answer
returns-clause-answer c = λ live h. makes_joined c.args.self.now _ c.args.key c.args.piece.now live c.in_ok-taken.taken h c.in_ok-taken.ensures.ok

pub returns-clause-full : goal.returns-clause-full
returns-clause-full c = λ left. inl (c.join_in.ensures.full (c.in_ok-taken.was ∙ left))
