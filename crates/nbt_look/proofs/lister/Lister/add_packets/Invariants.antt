use Rattle.std.proofs.Common.{length}
use Rattle.nb_pcap.specs.Frame.{value_of}
use Rattle.nb_traffic.specs.Brought.{segment_value}
use Rattle.nbt_look.specs.Listing.{text_in}
use Rattle.nbt_look.proofs.ListerLemmas.{IsAdding}
use Rattle.nbt_look.proofs.lister.Lister.add_packets.Given as goal

abbrev pub invariant-packets : goal.invariant-packets
invariant-packets l =
    IsAdding l.frame.number (value_of l.frame) (segment_value l.segment) l.fn.self.listing l.self.listing (text_in l.fn.self) (text_in l.self) l.rest

abbrev pub decreases-packets : goal.decreases-packets
decreases-packets l = length l.rest
