use Rattle.nb_calls.proofs.DifferLemmas.{one_difference}
use Rattle.nb_calls.proofs.TableLemmas.{InputLaws, one_join, one_list, one_of_two}
use Rattle.nb_calls.specs.Tables.{Differs, Joins, widest}
use Rattle.nb_calls.proofs.laws.answers.tables_have_one_answer.Goals as goal

pub returns-clause-joined : goal.returns-clause-joined
returns-clause-joined c first second limits =
    let one : InputLaws first = record { one = c.an_input_is_read_as_one_table.ensures first; one_reading = c.saved_bytes_have_one_reading.ensures first } in
    let other : InputLaws second = record { one = c.an_input_is_read_as_one_table.ensures second; one_reading = c.saved_bytes_have_one_reading.ensures second } in
    one_of_two first second limits (Joins limits) one other (one_join limits)

pub returns-clause-compared : goal.returns-clause-compared
returns-clause-compared c first second =
    let one : InputLaws first = record { one = c.an_input_is_read_as_one_table.ensures first; one_reading = c.saved_bytes_have_one_reading.ensures first } in
    let other : InputLaws second = record { one = c.an_input_is_read_as_one_table.ensures second; one_reading = c.saved_bytes_have_one_reading.ensures second } in
    one_of_two first second widest Differs one other one_difference

pub returns-clause-listed : goal.returns-clause-listed
returns-clause-listed c table told =
    one_list table told (record { one = c.an_input_is_read_as_one_table.ensures table; one_reading = c.saved_bytes_have_one_reading.ensures table })
