use Rattle.nb_calls.proofs.Common.{◌∙◌, refl, header_value, seen_extent, seen_name, seen_fields, uncounted, fails, stands}
use Rattle.nb_service.specs.Items.{name_of}
use Rattle.nb_calls.proofs.ServiceLemmas.{extent_fits, extent_there, same_numbers}
use Rattle.nb_calls.proofs.service_reading.fill_item_of.Goals as goal

pub fill_numbers-requires-clause-named : goal.fill_numbers-requires-clause-named
fill_numbers-requires-clause-named c =
    let there = rw c.in-Ok-Some.field-0-is at c.in-Ok-Some.ensures.found in (_, seen_name _ there.1.0 _ there.1.2)

pub fill_numbers-requires-clause-fits : goal.fill_numbers-requires-clause-fits
fill_numbers-requires-clause-fits c =
    let there = rw c.in-Ok-Some.field-0-is at c.in-Ok-Some.ensures.found in
    extent_fits _ _ there.1.0 _ (seen_extent _ there.1.0 _ there.1.2)

pub returns-in-Ok-Some : goal.returns-in-Ok-Some
returns-in-Ok-Some c =
    let there = rw c.in-Ok-Some.field-0-is at c.in-Ok-Some.ensures.found in
    let filled = c.fill_numbers.ensures (name_of there.1.0) (seen_name _ there.1.0 _ there.1.2)
    ∙ same_numbers _ _ _ _ _ (name_of there.1.0) c.section_number.ensures there.1.3 (seen_fields _ there.1.0 _ there.1.2) in
    rw filled (stands (header_value c.args.header.now) there.1.0 _ c.requires there.1.1 (extent_there _ there.1.0 _ _ there.0 there.1.2))

pub returns-in-Ok-None : goal.returns-in-Ok-None
returns-in-Ok-None c =
    (uncounted (header_value c.args.header.now) c.requires (rw c.in-Ok-None.field-0-is at c.in-Ok-None.ensures.found), refl)

pub returns-in-Err : goal.returns-in-Err
returns-in-Err c =
    rw c.service_refusal.ensures (fails (header_value c.args.header.now) _ c.requires c.in-Err.ensures.fault, refl)
