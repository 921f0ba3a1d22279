use Rattle.nb_table.proofs.Common.{arith, cut, whole}
use Rattle.nb_table.proofs.SavedReading.LoadedLemmas.{key_there}
use Rattle.nb_table.proofs.saved.any_key.Goals as goal

pub returns-then-saturating_sub-lt8 : goal.returns-then-saturating_sub-lt8
returns-then-saturating_sub-lt8 c = cut (omega (arith, c.saturating_sub.ensures))

pub returns : goal.returns
returns c =
    let inside = c.saturating_sub.ensures in
    whole _ (omega (arith, inside)) (key_there c.args.input.now c.args.at _ _ (omega (arith, inside)) c.number_16.ensures c.number_16-2.ensures)
