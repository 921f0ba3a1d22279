use Rattle.std.proofs.Common.{length}
use Rattle.nb_text.specs.SaysPacket.{phrases}
use Rattle.nb_text.specs.Shown.{texts}
use Rattle.nb_text.specs.Tells.{fields_made}
use Rattle.nb_text.proofs.ShownLemmas.{one_made}
use Rattle.nb_text.proofs.laws.one_telling.Goals as goal

pub returns : goal.returns
returns c = record { text = one_made texts; fields = one_made fields_made; phrase = λ payload. one_made (phrases (length payload)) payload }
