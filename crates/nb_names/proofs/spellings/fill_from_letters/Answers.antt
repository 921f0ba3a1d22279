use Rattle.std.proofs.Common.{◌<◌, length, refl, arith}
use Rattle.nb_names.proofs.FirstLevelLemmas.{no_pair, pair_more}
use Rattle.nb_names.proofs.spellings.fill_from_letters.Goals as goal

pub pairs-init : goal.pairs-init
pairs-init c =
    let sixteen = c.requires.bytes in
    let letters = c.requires.letters in
    no_pair c.args.letters.now c.args.bytes.now (omega (arith, sixteen, letters))

pub pairs-preserved : goal.pairs-preserved
pairs-preserved c =
    let before = c.pairs-test.true in
    let same = c.pairs.auto.bytes in
    let fits : c.pairs.place < length c.pairs.bytes = omega (arith, same, before) in
    pair_more _ _ _ c.split_at.result.0.now c.split_at.result.1.now _ _ _ _ c.pairs.invariant fits
    (λ k. (c.type_inv.letters k).fits) c.split_at.ensures.front c.split_at.ensures.back refl refl
