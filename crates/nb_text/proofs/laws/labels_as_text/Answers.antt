use Rattle.nb_text.proofs.LabelLemmas.{name_written, domain_as_it_is, domain_dotted}
use Rattle.nb_text.proofs.laws.labels_as_text.Goals as goal

pub returns-clause-names : goal.returns-clause-names
returns-clause-names c = name_written

pub returns-clause-domains : goal.returns-clause-domains
returns-clause-domains c = domain_as_it_is

pub returns-clause-dotted : goal.returns-clause-dotted
returns-clause-dotted c = domain_dotted
