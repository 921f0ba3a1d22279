use Rattle.nb_member.proofs.Common.{◌≡◌, sym, ◌∙◌, rules, holds_scope}
use Rattle.nb_member.proofs.HearingLemmas.{HoldsScope-from_test, test-from_HoldsScope}
use Rattle.nb_member.proofs.local_names.LocalNames.holds_scope.Goals as goal

pub returns-clause-held : goal.returns-clause-held
returns-clause-held c =
    let is : c.is_scope_among.result ≡ holds_scope c.args.self.now c.args.scope.now = search rules in (
      λ t. HoldsScope-from_test c.args.self.now c.args.scope.now (sym is ∙ t),
      λ h. is ∙ test-from_HoldsScope c.args.self.now c.args.scope.now h,
    )
