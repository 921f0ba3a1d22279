use Rattle.nbt_reassembly.proofs.Common.{◌∙◌, ap, sym, err_from_is_err_and, new_member}
use Rattle.nbt_reassembly.proofs.ReplayingTurns.{names_fail}
use Rattle.nbt_reassembly.proofs.replay.member_of.Goals as goal

pub returns-clause-made : goal.returns-clause-made
returns-clause-made c = record {
  capacity = c.in_ok-capacity.capacity;
  given = c.in_ok-capacity.ensures.given;
  words = _;
  said = sym c.in-Some.ensures;
  names = c.in_ok-names.names;
  named = c.in_ok-names.ensures.named;
  is = c.new.ensures ∙ ap (λ settings. new_member settings c.in_ok-names.names) c.settings_with.ensures;
}

pub returns-in_err-names-clause-fault : goal.returns-in_err-names-clause-fault
returns-in_err-names-clause-fault c =
    let p = err_from_is_err_and c.from_residual-in_err-names.result c.from_residual-in_err-names.ensures.1 in
    rw (p.1, p.2) (names_fail _ _ _ _ (sym c.in-Some.ensures) c.in_err-names.ensures.fault)
