use Rattle.std.proofs.Common.{◌++◌, codes}
use Rattle.std.specs.List.{flat_map}
use Rattle.nb_service.specs.Packet.{RecordAt}
use Rattle.nb_telling.proofs.FoldLemmas.{and_then}
use Rattle.nb_text.specs.Fields.{list_fields}
use Rattle.nb_text.specs.ServiceFields.{question_fields, record_fields}
use Rattle.nb_text.proofs.WalkLemmas.{row_from}
use Rattle.nb_text.proofs.services.tell_lists.Goals as goal

pub tell_questions-requires : goal.tell_questions-requires
tell_questions-requires g c = let seen = c.requires.1 in (_, (_, seen.questions))

pub tell_section-requires : goal.tell_section-requires
tell_section-requires g c =
    let seen = c.requires.1 in
    let first = c.in_ok-at.ensures.told _ _ seen.questions in
    (_, (_, row_from (RecordAt c.args.names.now) _ _ _ _ _ first.0 seen.answers))

pub tell_section-requires-2 : goal.tell_section-requires-2
tell_section-requires-2 g c =
    let seen = c.requires.1 in
    let first = c.in_ok-at.ensures.told _ _ seen.questions in
    let second = c.in_ok-at-2.ensures.told _ _ (row_from (RecordAt c.args.names.now) _ _ _ _ _ first.0 seen.answers) in
    (_, (_, row_from (RecordAt c.args.names.now) _ _ _ _ _ second.0 seen.authorities))

pub tell_section-requires-3 : goal.tell_section-requires-3
tell_section-requires-3 g c =
    let seen = c.requires.1 in
    let first = c.in_ok-at.ensures.told _ _ seen.questions in
    let second = c.in_ok-at-2.ensures.told _ _ (row_from (RecordAt c.args.names.now) _ _ _ _ _ first.0 seen.answers) in
    let third = c.in_ok-at-3.ensures.told _ _ (row_from (RecordAt c.args.names.now) _ _ _ _ _ second.0 seen.authorities) in
    (_, (_, row_from (RecordAt c.args.names.now) _ _ _ _ _ third.0 seen.additional))

pub returns-clause-told : goal.returns-clause-told
returns-clause-told g c header seen =
    let after = g.S.Sink.after in
    let part = seen.part in
    let first = c.in_ok-at.ensures.told _ _ seen.questions in
    let second = c.in_ok-at-2.ensures.told _ _ (row_from (RecordAt c.args.names.now) _ _ _ _ _ first.0 seen.answers) in
    let third = c.in_ok-at-3.ensures.told _ _ (row_from (RecordAt c.args.names.now) _ _ _ _ _ second.0 seen.authorities) in
    let last = c.in_ok-tell_section.ensures.told _ _ (row_from (RecordAt c.args.names.now) _ _ _ _ _ third.0 seen.additional) in
    let questions = list_fields (codes "questions") (flat_map question_fields part.questions) in
    let answers = list_fields (codes "answers") (flat_map (record_fields (codes "  answer")) part.answers) in
    let authorities = list_fields (codes "authorities") (flat_map (record_fields (codes "  authority")) part.authorities) in
    let additional = list_fields (codes "additional") (flat_map (record_fields (codes "  additional")) part.additional) in
    and_then after _ questions (answers ++ (authorities ++ additional)) first.1
    (and_then after _ answers (authorities ++ additional) second.1 (and_then after _ authorities additional third.1 last.1))
