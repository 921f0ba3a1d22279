use Rattle.std.proofs.lemmas.Result.{on_ok_weaker}
use Rattle.nb_pcap.specs.Frame.{value_of}
use Rattle.nbt_look.proofs.ListerLemmas.{adds_none, adds_one}
use Rattle.nbt_look.proofs.lister.Lister.add_some.Goals as goal

pub returns-in-Some : goal.returns-in-Some
returns-in-Some c = rw c.in-Some.is (on_ok_weaker c.add.result (adds_one _ (value_of c.args.frame.now) _ _ _ _ _) c.add.ensures)

pub returns-in-None : goal.returns-in-None
returns-in-None c = rw c.in-None.is (adds_none _ (value_of c.args.frame.now) _ _)
