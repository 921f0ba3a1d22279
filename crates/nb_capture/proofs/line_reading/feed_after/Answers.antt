use Rattle.nb_capture.proofs.Common.{ℕ, List, subst, Contains, take_rest, IsFeedAt}
use Rattle.nb_capture.proofs.LineLemmas.Ending.{clear_both, feed_from}
use Rattle.nb_capture.proofs.line_reading.feed_after.Goals as goal

pub returns-in-Some : goal.returns-in-Some
returns-in-Some c =
    feed_from c.args.seen c.in-Some.at c.args.bytes.now c.requires.within c.requires.clear
    (subst (λ (bs : List ℕ). IsFeedAt bs c.in-Some.at) (take_rest c.args.bytes.now c.args.seen) c.in-Some.ensures)

pub returns-in-None : goal.returns-in-None
returns-in-None c =
    clear_both c.args.seen c.args.bytes.now c.requires.clear
    (subst (λ (bs : List ℕ). ¬ Contains bs 10) (take_rest c.args.bytes.now c.args.seen) c.in-None.ensures)
