use Rattle.nb_calls.proofs.StationNameLemmas.{names_one}
use Rattle.nb_calls.proofs.laws.a_station_has_one_list_of_names.Goals as goal

pub returns : goal.returns
returns c words answer other =
    names_one (λ text. record { one = c.one_name.ensures text; one_fault = c.one_text_fault.ensures.one text; apart = c.one_text_fault.ensures.none text })
