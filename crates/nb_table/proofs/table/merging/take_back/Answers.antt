use Rattle.nb_table.proofs.Common.{◌∙◌, sym, ap, nil_from_length, taken_back}
use Rattle.nb_table.proofs.Joins.{taken_back-more}
use Rattle.nb_table.proofs.table.merging.take_back.Goals as goal

pub loop-key-preserved : goal.loop-key-preserved
loop-key-preserved c =
    let t = c.loop-key.entries in
    ap (λ m. taken_back m c.pop.new.self.items) c.put_back.ensures
    ∙ sym (taken_back-more t c.pop.new.self.items c.in-Some.key c.in-Some.before)
    ∙ sym (ap (taken_back t) c.in-Some.ensures.items)
    ∙ c.loop-key.invariant

pub returns : goal.returns
returns c =
    let none = nil_from_length c.loop-key.changes.items (sym c.loop-key.changes.ok.0 ∙ c.in_default.ensures.cases.0) in
    sym (ap (taken_back c.loop-key.entries) none) ∙ c.loop-key.invariant
