use Rattle.nb_table.proofs.Common.{◌++◌, refl, Second, key_bytes, entry_bytes}
use Rattle.nb_entries.specs.Shared.PuttingLemmas.{begun, turn, stop, done}
use Rattle.nb_table.proofs.saved.entries.put_entry.Goals as goal

pub returns-in_err-put_key-clause-puts : goal.returns-in_err-put_key-clause-puts
returns-in_err-put_key-clause-puts g c =
    let key = key_bytes c.args.key in
    let entry = entry_bytes Second c.args.entry.now in
    let laws = g.met.S.ByteSink.laws in
    let none = begun laws c.args.sink.now (key ++ entry) in
    stop laws key entry none refl c.in_err-put_key.ensures.puts _ c.from_residual.result c.from_residual.ensures.1

pub returns-clause-puts : goal.returns-clause-puts
returns-clause-puts g c =
    let key = key_bytes c.args.key in
    let entry = entry_bytes Second c.args.entry.now in
    let laws = g.met.S.ByteSink.laws in
    let none = begun laws c.args.sink.now (key ++ entry) in
    let one = turn laws key entry none refl c.in_ok-put_key.ensures.puts in
    done laws _ entry one refl c.put_to.result c.put_to.ensures.puts
