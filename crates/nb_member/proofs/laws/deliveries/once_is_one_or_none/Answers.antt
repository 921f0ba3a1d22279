use Rattle.std.proofs.Common.{◌∙◌, Some, None}
use Rattle.nb_member.proofs.AgreementLemmas.SameDeliveries.{heard_is, unheard_is, once_is, not_whole}
use Rattle.nb_member.proofs.laws.deliveries.once_is_one_or_none.Goals as goal

pub returns-clause-where_heard : goal.returns-clause-where_heard
returns-clause-where_heard c = λ names L ds once d sound whole hears.
    once_is names L ds once d.key sound (Some d) whole ∙ heard_is names d hears

pub returns-clause-where_unheard : goal.returns-clause-where_unheard
returns-clause-where_unheard c = λ names L ds once d sound whole deaf.
    once_is names L ds once d.key sound (Some d) whole ∙ unheard_is names d deaf

pub returns-clause-where_in_part : goal.returns-clause-where_in_part
returns-clause-where_in_part c = λ names L ds once k sound part.
    once_is names L ds once k sound None (not_whole c.whole_keys_have_a_datagram.ensures L k part)
