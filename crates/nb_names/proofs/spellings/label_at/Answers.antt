use Rattle.std.proofs.Common.{◌≡◌, arith, sym, ◌∙◌, ap, refl, drop, add-one}
use Rattle.nb_names.specs.DomainName.{spelling}
use Rattle.nb_streams.specs.PacketFacts.{All-drop}
use Rattle.nb_names.proofs.SpellingLemmas.{none_left, some_left}
use Rattle.nb_names.proofs.spellings.label_at.Goals as goal

pub returns-in_err-rest : goal.returns-in_err-rest
returns-in_err-rest c ls a e =
    let left = c.in_err-rest.ensures.split (drop c.loop.counter ls) (All-drop _ _ ls a) (c.loop.invariant ls a e).1 in
    rw (c.from_residual.ensures, none_left ls c.loop.counter c.args.place left (omega arith)) refl

pub loop-preserved : goal.loop-preserved
loop-preserved c ls a e =
    let split = c.in_ok-rest.ensures.split (drop c.loop.counter ls) (All-drop _ _ ls a) (c.loop.invariant ls a e).1 in
    let next = some_left ls _ _ _ split.1 in
    (omega (arith, next.2), split.2 ∙ ap spelling (rw add-one (sym next.1)))

pub returns-in_err-label : goal.returns-in_err-label
returns-in_err-label c ls a e =
    let left = c.in_err-label.ensures.split (drop c.loop.counter ls) (All-drop _ _ ls a) (c.loop.invariant ls a e).1 in
    rw (c.from_residual-in_err-label.ensures, none_left ls c.loop.counter c.args.place left (omega arith)) refl

pub returns : goal.returns
returns c ls a e =
    let split = c.in_ok-label.ensures.split (drop c.loop.counter ls) (All-drop _ _ ls a) (c.loop.invariant ls a e).1 in
    let next = some_left ls _ _ _ split.1 in
    let there : c.loop.counter ≡ c.args.place = omega arith in
    rw (← there) (sym next.0)
