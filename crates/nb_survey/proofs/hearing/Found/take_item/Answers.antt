use Rattle.std.proofs.Common.{◌≡◌, ◌∙◌, sym, ap, subst, ◌++◌, ◌∷◌, [], true, false}
use Rattle.std.proofs.lemmas.Result.{on_ok_weaker}
use Rattle.std.specs.Option.{is_some}
use Rattle.nb_service.specs.Items.{section_of}
use Rattle.nb_survey.specs.Code.Finding.{HasFound}
use Rattle.nb_survey.specs.Hearing.{records_in}
use Rattle.nb_survey.proofs.HearingLemmas.{record_seen, records_none}
use Rattle.nb_survey.proofs.hearing.Found.take_item.Goals as goal

pub record-requires : goal.record-requires
record-requires c =
    let item = c.requires.0 in
    let some : is_some (section_of item) ≡ true = sym (ap is_some c.requires.2) ∙ c.if-is_none.ensures in
    let seen = record_seen c.args.names.now item c.args.seen.now some c.requires.1 in
    (seen.0, seen.1)

pub returns-then-is_none : goal.returns-then-is_none
returns-then-is_none c = λ item items sees e h.
    let none : is_some (section_of item) ≡ false = sym (ap is_some e) ∙ c.if-is_none.ensures in
    subst (HasFound c.args.name.now c.args.self.now) (sym (records_none items item none)) h

pub returns : goal.returns
returns c = on_ok_weaker c.take.result (λ takes item items sees e h.
    let some : is_some (section_of item) ≡ true = sym (ap is_some e) ∙ c.if-is_none.ensures in
    let seen = record_seen c.args.names.now item c.args.seen.now some sees in
    subst (HasFound c.args.name.now c.take.new.self) (ap (λ r. records_in items ++ r ∷ []) (c.record.ensures seen.0 seen.1) ∙ sym (seen.2 items)) (takes (records_in items) h)) c.take.ensures
