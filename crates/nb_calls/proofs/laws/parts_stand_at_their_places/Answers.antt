use Rattle.nb_calls.proofs.PlaceLemmas.{source_stands, destination_stands, bytes_stand, code_stands, name_stands}
use Rattle.nb_calls.proofs.laws.parts_stand_at_their_places.Goals as goal

pub returns-clause-fragment : goal.returns-clause-fragment
returns-clause-fragment c payload f used is = (source_stands payload f used is, destination_stands payload f used is, bytes_stand payload f used is)

pub returns-clause-code : goal.returns-clause-code
returns-clause-code c payload e used is = code_stands payload e used is

pub returns-clause-query : goal.returns-clause-query
returns-clause-query c payload q used is = name_stands payload q used is
