use Rattle.nb_table.proofs.Common.{sym, refl, ◌∙◌, ap, option_and_then, IfOk-weaker, datagram_of}
use Rattle.nb_table.proofs.table.Table.datagram.Goals as goal

pub datagram_of-requires : goal.datagram_of-requires
datagram_of-requires c = c.in-Some.ensures.short c.in-Some.entry.now (sym c.in-Some.ensures.value)

pub returns-in-Some : goal.returns-in-Some
returns-in-Some c =
    let there = ap (option_and_then (datagram_of c.args.key.now)) (sym c.in-Some.ensures.value) in
    record {
      value = IfOk-weaker c.datagram_of.result _ _ (λ datagram is. is ∙ sym there) c.datagram_of.ensures.value;
      no_memory_needed = λ none. c.datagram_of.ensures.no_memory_needed (sym there ∙ none);
    }

pub returns-in-None : goal.returns-in-None
returns-in-None c = record {
  value = sym (ap (option_and_then (datagram_of c.args.key.now)) (sym c.in-None.ensures.value));
  no_memory_needed = λ none. refl;
}
