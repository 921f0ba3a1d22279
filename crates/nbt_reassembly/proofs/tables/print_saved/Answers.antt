use Rattle.nbt_reassembly.proofs.Common.{[], ◌∷◌, refl, saved_digits, cut_in_front, prints_rest, prints_text}
use Rattle.nbt_reassembly.proofs.tables.print_saved.Goals as goal

pub returns-in-Ok-clause-prints : goal.returns-in-Ok-clause-prints
returns-in-Ok-clause-prints g c =
    prints_rest (saved_digits c.args.table.now.contents) (10 ∷ []) _ _ _ c.print.result c.in-Ok.ensures.written
    (prints_text (10 ∷ []) _ _ c.print.result c.print.ensures.printed c.print.ensures.fault c.print.ensures.err) c.print.ensures.fault

pub returns-in-Err-clause-prints : goal.returns-in-Err-clause-prints
returns-in-Err-clause-prints g c =
    cut_in_front (saved_digits c.args.table.now.contents) (10 ∷ []) _ _ _ c.in-Err.ensures.err refl
