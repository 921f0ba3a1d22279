use Rattle.nb_table.proofs.Common.{◌++◌, refl, sym, ap, subst, ◌∙◌, AllByRecursion, w32, to_be_bytes, on_ok_weaker, key_cmp, key_cmp_total, key_cmp_exact, entries_are, len_is, Second, HasNames, magic, entries_bytes, saved}
use Rattle.std.specs.FinMap as maps
use Rattle.nb_entries.specs.Shared.PuttingLemmas.{begun, turn, stop, done}
use Rattle.nb_table.proofs.saved.entries.put_table.Goals as goal

pub returns-in_err-put-clause-puts : goal.returns-in_err-put-clause-puts
returns-in_err-put-clause-puts g c =
    let contents = maps.from_entries {R = key_cmp} c.args.entries.now.entries in
    let laws = g.met.S.ByteSink.laws in
    let count = to_be_bytes w32 (maps.len contents) in
    let entries = entries_bytes Second (maps.entries contents) in
    let none = begun laws c.args.sink.now (saved contents) in
    stop laws (magic Second) (count ++ entries) none refl c.in_err-put.ensures _ c.from_residual.result c.from_residual.ensures.1

pub returns-in_err-put_four_bytes-clause-puts : goal.returns-in_err-put_four_bytes-clause-puts
returns-in_err-put_four_bytes-clause-puts g c =
    let m = c.args.entries.now in
    let contents = maps.from_entries {R = key_cmp} m.entries in
    let laws = g.met.S.ByteSink.laws in
    let count = to_be_bytes w32 (maps.len contents) in
    let entries = entries_bytes Second (maps.entries contents) in
    let none = begun laws c.args.sink.now (saved contents) in
    let one = turn laws (magic Second) (count ++ entries) none refl c.in_ok-put.ensures in
    let counted = c.len.ensures.len ∙ sym (len_is key_cmp_total key_cmp_exact m c.len.ensures.ordered) in
    stop laws count entries one (ap (to_be_bytes w32) counted)
    c.in_err-put_four_bytes.ensures _ c.from_residual-in_err-put_four_bytes.result c.from_residual-in_err-put_four_bytes.ensures.1

pub returns-clause-puts : goal.returns-clause-puts
returns-clause-puts g c =
    let m = c.args.entries.now in
    let contents = maps.from_entries {R = key_cmp} m.entries in
    let laws = g.met.S.ByteSink.laws in
    let count = to_be_bytes w32 (maps.len contents) in
    let entries = entries_bytes Second (maps.entries contents) in
    let none = begun laws c.args.sink.now (saved contents) in
    let one = turn laws (magic Second) (count ++ entries) none refl c.in_ok-put.ensures in
    let counted = c.len.ensures.len ∙ sym (len_is key_cmp_total key_cmp_exact m c.len.ensures.ordered) in
    let two = turn laws count entries one (ap (to_be_bytes w32) counted) c.in_ok-put_four_bytes.ensures in
    let same = ap (entries_bytes Second) (sym (entries_are key_cmp_total key_cmp_exact m c.put_entries.ensures.ordered)) in
    done laws _ entries two same c.put_entries.result c.put_entries.ensures.puts

pub returns-clause-named : goal.returns-clause-named
returns-clause-named g c =
    on_ok_weaker c.put_entries.result
    (subst (AllByRecursion HasNames) (sym (entries_are key_cmp_total key_cmp_exact c.args.entries.now c.put_entries.ensures.ordered))) c.put_entries.ensures.named
