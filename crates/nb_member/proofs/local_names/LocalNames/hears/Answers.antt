use Rattle.nb_member.proofs.Common.{◌≡◌, sym, ◌∙◌, rules, hears}
use Rattle.nb_member.proofs.HearingLemmas.{Hears-from_test, test-from_Hears}
use Rattle.nb_member.proofs.local_names.LocalNames.hears.Goals as goal

pub returns-clause-heard : goal.returns-clause-heard
returns-clause-heard c =
    let datagram = c.args.datagram.now in
    let is : c.hears_as.result ≡ hears c.args.self.now datagram = search rules in (
      λ t. Hears-from_test c.args.self.now datagram.kind datagram.destination (sym is ∙ t),
      λ h. is ∙ test-from_Hears c.args.self.now datagram.kind datagram.destination h,
    )
