use Rattle.std.proofs.Common.{◌∙◌, ◌++◌, ℕ, List, ap, subst, sym}
use Rattle.std.proofs.lemmas.Result.{on_ok_weaker}
use Rattle.nb_pcap.specs.Frame.{value_of}
use Rattle.nbt_look.specs.Entries.{entry_value}
use Rattle.nbt_look.specs.Standing.{SaysStanding, outcome_in}
use Rattle.nbt_look.proofs.ListerLemmas.{lists_line, passes}
use Rattle.nbt_look.proofs.lister.Lister.add.Goals as goal

pub returns-then-branch : goal.returns-then-branch
returns-then-branch c =
    let said = c.in_ok-push_said.ensures in
    let is = said.2 ∙ ap (λ (t : List ℕ). t ++ said.0) c.clear.ensures.bytes in
    on_ok_weaker c.add_line.result
    (λ line. lists_line _ (value_of c.args.frame.now) (entry_value c.args.entry.now) c.args.self.now.listing c.add_line.new.self.listing _ _ _
    c.outcome_in-outcome.result (subst (SaysStanding c.args.entry.now.standing (value_of c.args.frame.now) (entry_value c.args.entry.now).packet) (sym is) said.1)
    (c.outcome_in-outcome.ensures ∙ ap (outcome_in c.args.entry.now.standing) c.as_str.ensures.value) (rw c.if-branch.true at c.in_ok-is_wanted.ensures) line)
    c.add_line.ensures

pub returns : goal.returns
returns c =
    let said = c.in_ok-push_said.ensures in
    passes _ (value_of c.args.frame.now) (entry_value c.args.entry.now) c.args.self.now.listing c.count.new.self _ said.0 c.outcome_in-outcome.result said.1
    (c.outcome_in-outcome.ensures
    ∙ ap (outcome_in c.args.entry.now.standing) (c.as_str.ensures.value ∙ said.2 ∙ ap (λ (t : List ℕ). t ++ said.0) c.clear.ensures.bytes))
    (rw c.if-branch.false at c.in_ok-is_wanted.ensures) c.count.ensures
