use Rattle.nb_datagram.proofs.Common.{ap, length, ◌++◌, ◌∙◌}
use Rattle.nb_datagram.proofs.encoding.encode.Goals as goal

pub returns-clause-read_again : goal.returns-clause-read_again
returns-clause-read_again c rest =
    let is = c.from_vec.ensures ∙ c.in_ok-write_packet.ensures.written in
    record {
      fits = c.in_ok-write_packet.ensures.fits;
      rest = rest;
      whole = ap (λ bytes. bytes ++ rest) is;
      counted = ap length is;
    }
