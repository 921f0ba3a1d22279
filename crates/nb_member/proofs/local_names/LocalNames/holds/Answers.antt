use Rattle.nb_member.proofs.Common.{◌≡◌, sym, ◌∙◌, rules, holds}
use Rattle.nb_member.proofs.HearingLemmas.{Contains-from_holds, holds-from_Contains}
use Rattle.nb_member.proofs.local_names.LocalNames.holds.Goals as goal

pub returns-clause-held : goal.returns-clause-held
returns-clause-held c =
    let is : c.is_among.result ≡ holds c.args.self.now c.args.name.now = search rules in (
      λ t. Contains-from_holds c.args.self.now c.args.name.now (sym is ∙ t),
      λ h. is ∙ holds-from_Contains c.args.self.now c.args.name.now h,
    )
