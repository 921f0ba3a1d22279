use Rattle.std.specs.List.{flat_map}
use Rattle.nb_text.specs.ServiceFields.{record_fields}
use Rattle.nb_text.proofs.WalkLemmas.{list_told}
use Rattle.nb_text.proofs.records.tell_section.Goals as goal

pub returns-clause-told : goal.returns-clause-told
returns-clause-told g c records next row =
    let told = c.in_ok-next.ensures.told records next row in (
      told.0,
      list_told g.S.Sink.after c.args.section.now (flat_map (record_fields c.args.lead.now) records) _ _ _ _ c.in_ok-begins.ensures.told told.1
          c.in_ok-ends.ensures.told,
    )
