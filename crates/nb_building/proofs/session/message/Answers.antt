use Rattle.nb_building.proofs.Common.{arith, refl, message, much_message, too_long}
use Rattle.nb_building.proofs.ArgumentLemmas.{one_word}
use Rattle.nb_building.proofs.BuiltLemmas.{session_built, too_much}
use Rattle.nb_building.proofs.UnnamedLemmas.{no_message}
use Rattle.nb_building.proofs.TakenLemmas.{other_count, only_memory, refused_at}
use Rattle.nb_building.proofs.session.message.Goals.{in_default-via-then-words-lt1, in_default-via-else-words-lt1+else-words-lt2}
use Rattle.nb_building.proofs.session.message.Goals as goal

pub returns-in-Ok-clause-built : goal.returns-in-Ok-clause-built
returns-in-Ok-clause-built c =
    session_built _ _ _ _ _ c.encoded.result refl
    (one_word (λ w. w.now) _ c.args.words.now c.in-len1.len_at_least c.in-len1.len_below)
    (message _ _ c.in_ok-bytes.ensures) (rw (c.in-Ok.ensures.0, c.as_slice.ensures) at c.encoded.ensures.built)

pub returns-clause-refused : goal.returns-clause-refused
returns-clause-refused c =
    too_long (no_message _ _ _ _ refl (one_word (λ w. w.now) _ c.args.words.now c.in-len1.len_at_least c.in-len1.len_below)
    c.in_ok-bytes.ensures (rw c.as_slice.ensures at c.in-Err.ensures))
    (too_much _ _ _ _ refl (one_word (λ w. w.now) _ c.args.words.now c.in-len1.len_at_least c.in-len1.len_below)
    (much_message _ (_, c.in_ok-bytes.ensures, rw c.as_slice.ensures at c.in-Err.ensures)))

pub returns-in_err-bytes-clause-refused : goal.returns-in_err-bytes-clause-refused
returns-in_err-bytes-clause-refused c =
    refused_at _ _ _ _ _ _ 0 _ c.from_residual.result refl (one_word (λ w. w.now) _ c.args.words.now c.in-len1.len_at_least c.in-len1.len_below)
    c.from_residual.ensures.1 c.in_err-bytes.ensures
    (λ none. none)

pub returns-in-Ok-clause-refused : goal.returns-in-Ok-clause-refused
returns-in-Ok-clause-refused c = only_memory _ _ _ c.encoded.result c.encoded.ensures.memory

pub returns-in_default-clause-refused : goal.returns-in_default-clause-refused
returns-in_default-clause-refused c = other_count _ (λ w. w.now) _ c.args.words.now _ refl (λ is.
    elim c.in_default.branch [ in_default-via-then-words-lt1 w ↦ grind (arith, is) | in_default-via-else-words-lt1+else-words-lt2 w ↦ grind (arith, is) ])
