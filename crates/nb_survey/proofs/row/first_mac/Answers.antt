use Rattle.std.proofs.Common.{◌∙◌, ap}
use Rattle.std.specs.Option.{option_or}
use Rattle.nb_survey.specs.Rows.{standing_mac}
use Rattle.nb_survey.proofs.HearingLemmas.{first_of-turn}
use Rattle.nb_survey.proofs.row.first_mac.Goals as goal

pub rows-preserved : goal.rows-preserved
rows-preserved c =
    c.or-first.ensures
    ∙ (ap (option_or c.rows.first) c.standing_mac.ensures
    ∙ first_of-turn standing_mac c.args.rows.now c.rows.row-index _ c.rows.first c.rows.invariant c.rows-test.true)
