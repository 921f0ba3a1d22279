use Rattle.nb_member.proofs.LiveLemmas.{TablesKnown, rooms, same_live}
use Rattle.nb_member.proofs.laws.the_same_fragments_make_the_same_table.Goals as goal

pub returns : goal.returns
returns c =
    let known : TablesKnown = record {
      of_two = c.table_of_two_lists_is_the_join.ensures;
      entries = c.table_has_the_entry_of_its_list.ensures;
      of_same = c.same_cores_make_the_same_table.ensures;
    } in
    record { room = rooms known; same = same_live known }
