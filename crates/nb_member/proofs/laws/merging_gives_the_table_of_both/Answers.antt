use Rattle.nb_member.proofs.AgreementLemmas.SameTable.{MergingKnown, merged}
use Rattle.nb_member.proofs.laws.merging_gives_the_table_of_both.Goals as goal

pub returns : goal.returns
returns c =
    let known : MergingKnown = record {
      of_two = c.table_of_two_lists_is_the_join.ensures;
      swapped = c.lists_swapped_have_the_same_cores.ensures;
      of_same = c.same_cores_make_the_same_table.ensures;
    } in
    merged known
