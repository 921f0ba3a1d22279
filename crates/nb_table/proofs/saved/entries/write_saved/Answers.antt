use Rattle.nb_table.proofs.Common.{◌≡◌, [], rules, err_from_is_err_and, on_err_weaker, on_ok_weaker, key_cmp, Passes, Breaks, saved, passes_on, breaks_on}
use Rattle.std.specs.FinMap as maps
use Rattle.nb_table.proofs.saved.entries.write_saved.Goals as goal

pub returns-in_err-put_table-clause-breaks : goal.returns-in_err-put_table-clause-breaks
returns-in_err-put_table-clause-breaks g c =
    let empty : c.new.result.items ≡ [] = c.new.ensures in
    let contents = maps.from_entries {R = key_cmp} c.args.entries.now.entries in
    let broke : Breaks g.W.Write.contents c.args.writer.now c.put_table.new.sink.writer.now (saved contents) = rw empty at c.in_err-put_table.ensures.puts.0 in
    let kept = c.in_err-put_table.ensures.puts.1 in
    let p = err_from_is_err_and c.from_residual.result c.from_residual.ensures.1 in
    rw p.1 (search rules)

pub returns-clause-passes : goal.returns-clause-passes
returns-clause-passes g c =
    let empty : c.new.result.items ≡ [] = c.new.ensures in
    let contents = maps.from_entries {R = key_cmp} c.args.entries.now.entries in
    let put : Passes g.W.Write.contents c.args.writer.now c.put_table.new.sink.writer.now (saved contents) c.put_table.new.sink.part.items =
    rw empty at c.in_ok-put_table.ensures.puts.0 in
    let all = on_ok_weaker c.write_out.result (passes_on _ _ c.write_out.new.self.writer.now _ _ [] put) c.write_out.ensures.passes in
    let kept = c.in_ok-put_table.ensures.puts.1 in
    let same = c.write_out.ensures.same in
    search rules

pub returns-clause-breaks : goal.returns-clause-breaks
returns-clause-breaks g c =
    let empty : c.new.result.items ≡ [] = c.new.ensures in
    let contents = maps.from_entries {R = key_cmp} c.args.entries.now.entries in
    let put : Passes g.W.Write.contents c.args.writer.now c.put_table.new.sink.writer.now (saved contents) c.put_table.new.sink.part.items =
    rw empty at c.in_ok-put_table.ensures.puts.0 in
    let all = on_err_weaker c.write_out.result (breaks_on _ _ c.write_out.new.self.writer.now _ _ put) c.write_out.ensures.breaks in
    let kept = c.in_ok-put_table.ensures.puts.1 in
    let same = c.write_out.ensures.same in
    search rules
