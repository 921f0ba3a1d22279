use Rattle.std.proofs.Common.{ap, length}
use Rattle.nb_session.specs.declared.parsing.Parsed.TheVariants.{Whole}
use Rattle.nb_session.specs.Parsing.{taken_by}
use Rattle.nb_session.proofs.ParsingLemmas.{packet_parses_alone}
use Rattle.nb_session.proofs.packet_bytes.PacketBytes.of.Goals as goal

pub invariant_of-result : goal.invariant_of-result
invariant_of-result c = record {
  whole = λ parsed stands.
      ap taken_by (c.one_answer.ensures.one c.args.bytes.now parsed (Whole c.requires.0 (length c.args.bytes.now)) stands (packet_parses_alone c.requires.0 c.args.bytes.now c.requires.1));
}
