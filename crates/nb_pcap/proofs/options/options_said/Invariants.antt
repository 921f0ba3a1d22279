use Rattle.std.proofs.Common.{length}
use Rattle.nb_pcap.specs.Options.{said_value}
use Rattle.nb_pcap.proofs.OptionsLemmas.{IsWalking}
use Rattle.nb_pcap.proofs.options.options_said.Given as goal

abbrev pub invariant-options : goal.invariant-options
invariant-options l = IsWalking l.order l.bytes l.left (said_value l.said)

abbrev pub decreases-options : goal.decreases-options
decreases-options l = length l.left
