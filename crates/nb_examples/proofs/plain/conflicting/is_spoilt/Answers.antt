use Rattle.std.proofs.Common.{◌≡◌, true, refl, sym, ◌∙◌}
use Rattle.nb_datagram.specs.Fragment.{cores_of}
use Rattle.nb_table.specs.Conflict.{is_spoilt}
use Rattle.std.proofs.lemmas.Bool.Decides.{not_from_Decides}
use Rattle.std.proofs.lemmas.Bool.{or_left}
use Rattle.nb_table.specs.Shared.ConflictLemmas.{is_spoilt_decides}
use Rattle.nb_examples.proofs.PlainProgram.{spoilt_turn, spoilt_end}
use Rattle.nb_examples.proofs.plain.conflicting.is_spoilt.Goals as goal

pub returns-then-spoils : goal.returns-then-spoils
returns-then-spoils c =
    let turn = spoilt_turn c.args.key.now c.args.fragments.now c.loop-index.index c.index-fragments-index.result c.spoils.result c.loop-index-test.true c.index-fragments-index.is c.spoils.ensures in
    let spoilt : is_spoilt (cores_of c.args.fragments.now) c.args.key.now ≡ true = sym c.loop-index.invariant ∙ turn ∙ or_left c.spoils.result _ c.if-spoils.true in
    (λ _. (is_spoilt_decides (cores_of c.args.fragments.now) c.args.key.now).0 spoilt, λ _. refl)

pub returns : goal.returns
returns c =
    let free = spoilt_end c.args.key.now c.args.fragments.now c.loop-index.index c.loop-index-test.false c.loop-index.invariant in
    (λ h. absurd (cc h), λ s. absurd (not_from_Decides (is_spoilt (cores_of c.args.fragments.now) c.args.key.now) (is_spoilt_decides (cores_of c.args.fragments.now) c.args.key.now) free s))
