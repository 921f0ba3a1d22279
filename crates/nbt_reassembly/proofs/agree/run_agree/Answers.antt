use Rattle.nbt_reassembly.proofs.Common.{sym, ap, ◌∙◌, length, arith, IfErr-weaker, IfOk-weaker, err_from_is_err_and, most_keys, Keeps-same}
use Rattle.nbt_reassembly.specs.Tables.{CompareFails}
use Rattle.nbt_reassembly.proofs.JoinedLemmas.{as_many, compare_of_count, compare_of_line, compares_tables, elsewhere, is_elsewhere, two_items, untold}
use Rattle.nbt_reassembly.proofs.agree.run_agree.Goals as goal
use Rattle.nbt_reassembly.proofs.agree.run_agree.Goals.{in_default, in_default-2}

pub returns-in_err-text : goal.returns-in_err-text
returns-in_err-text g c =
    let p = err_from_is_err_and c.from_residual.result c.from_residual.ensures.1 in
    let why = c.in_err-text.ensures in
    rw (p.1, p.2) (untold _ _ _ why.fault why.cut (Keeps-same _) (elsewhere CompareFails _ _ _ why.elsewhere))

pub returns-then-count_lines-ne2 : goal.returns-then-count_lines-ne2
returns-then-count_lines-ne2 g c =
    let text = c.in_ok-text.ensures in
    let count = c.count_lines.ensures in
    untold _ _ _ (λ write. absurd (cc write)) (λ read. absurd (cc read)) (Keeps-same _)
    (compare_of_count _ _ _ _ count.0 c.as_slice.ensures.value text.read text.ended text.within count.1 (λ two. c.if-count_lines-ne2.true (count.2 ∙ two)))

pub returns-in_err-tables : goal.returns-in_err-tables
returns-in_err-tables g c =
    let text = c.in_ok-text.ensures in
    let why = c.in_err-tables.ensures in
    let p = err_from_is_err_and c.from_residual-in_err-tables.result c.from_residual-in_err-tables.ensures.1 in
    rw (p.1, p.2) (untold _ _ _ why.no_write (λ read. absurd (why.no_read read)) (Keeps-same _)
    (compare_of_line _ _ _ _ _ _ _ c.as_slice.ensures.value c.as_slice-2.ensures.value text.read text.ended text.within
    c.count_lines.ensures c.if-count_lines-ne2.false why.fault))

pub returns-in-len2 : goal.returns-in-len2
returns-in-len2 g c =
    let text = c.in_ok-text.ensures in
    let tables = c.as_slice-3.ensures.value in
    let items = two_items _ c.first-item.result c.second-item.result c.in-len2.len_at_least c.in-len2.len_below c.first-item.is c.second-item.is in
    record {
      printed = λ list given. rw (sym (c.is_given-list.ensures list given)) (IfOk-weaker c.tell_same.result _ _
          (λ status told. compares_tables _ _ _ _ _ _ _ _ c.as_slice-2.ensures.value text.read text.ended text.within c.in_ok-tables.ensures.found (sym tables ∙ items) told)
          c.tell_same.ensures.printed);
      status = c.tell_same.ensures.status;
      err = c.tell_same.ensures.err;
      write = λ list given. rw (sym (c.is_given-list.ensures list given)) (IfErr-weaker c.tell_same.result _ _
          (λ fault told write. compares_tables _ _ _ _ _ _ _ _ c.as_slice-2.ensures.value text.read text.ended text.within c.in_ok-tables.ensures.found (sym tables ∙ items) (told write))
          c.tell_same.ensures.write);
      fault = IfErr-weaker c.tell_same.result _ _ (λ fault is. elsewhere CompareFails _ _ fault (is_elsewhere fault is).0) c.tell_same.ensures.fault;
      cut = IfErr-weaker c.tell_same.result _ _ (λ fault is read. absurd ((is_elsewhere fault is).1 read)) c.tell_same.ensures.fault;
      why = c.tell_same.ensures.why;
    }

pub returns : goal.returns
returns g c =
    let text = c.in_ok-text.ensures in
    let size = ap length c.as_slice-3.ensures.value in
    let lines = as_many most_keys _ _ c.in_ok-tables.ensures.found in
    elim c.if-as_slice-lt2.branch [
      | in_default w ↦ rw w.result-is (untold _ _ _ (λ write. absurd (cc write)) (λ read. absurd (cc read)) (Keeps-same _) (compare_of_count _ _ _ _ lines.0 c.as_slice-2.ensures.value text.read text.ended text.within lines.1 (λ two. omega (arith, two, lines.2, size, w.in_default.len_below))))
      | in_default-2 w ↦ rw w.result-is (untold _ _ _ (λ write. absurd (cc write)) (λ read. absurd (cc read)) (Keeps-same _) (compare_of_count _ _ _ _ lines.0 c.as_slice-2.ensures.value text.read text.ended text.within lines.1 (λ two. omega (arith, two, lines.2, size, w.in_default.len_at_least))))
    ]
