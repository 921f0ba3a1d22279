use Rattle.std.proofs.Common.{◌∙◌, sym}
use Rattle.std.proofs.lemmas.Result.{err_from_is_err_and}
use Rattle.nb_pcap.specs.Classic.{form_of}
use Rattle.nb_pcap.proofs.ContextLemmas.{in_file, first_given, first_refused}
use Rattle.nb_pcap.proofs.context.take_in.Goals as goal

pub returns-in_err-found-in-None : goal.returns-in_err-found-in-None
returns-in_err-found-in-None c =
    let e = err_from_is_err_and c.from_residual.result c.from_residual.ensures.1 in
    rw (e.1, e.2, c.in-Beginning.is) (first_refused (form_of c.args.part.now) _ _ _ _ (sym c.form_of.ensures ∙ c.in-None.is) (c.from_vec.ensures ∙ c.new.ensures.items) c.in_err-found-in-None.ensures)

pub returns-in_ok-found-in-None : goal.returns-in_ok-found-in-None
returns-in_ok-found-in-None c =
    rw c.in-Beginning.is (first_given (form_of c.args.part.now) _ _ _ _ (sym c.form_of.ensures ∙ c.in-None.is) (c.from_vec.ensures ∙ c.new.ensures.items) c.in_ok-found-in-None.ensures)

pub returns-in-Blocks : goal.returns-in-Blocks
returns-in-Blocks c = rw c.in-Blocks.is (in_file _ _ _ _ c.take_block-in-Blocks.ensures)
