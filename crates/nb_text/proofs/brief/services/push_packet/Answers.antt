use Rattle.std.proofs.Common.{◌≡◌, ℕ, ◌+◌, string_bytes, ap, sym, subst, ◌∙◌}
use Rattle.std.proofs.lemmas.Result.{on_ok_weaker}
use Rattle.nb_service.specs.Header.{PacketHeader}
use Rattle.nb_service.specs.Code.Steps.{RowOf}
use Rattle.nb_service.specs.Packet.{RecordAt, records_of}
use Rattle.nb_text.specs.Said.{said_after}
use Rattle.nb_text.specs.ServiceSaid.{about_of, said_of, gist_of, type_of}
use Rattle.nb_text.specs.Forms.{is_type}
use Rattle.nb_service.specs.declared.kinds.TheConstants.{NBSTAT}
use Rattle.nb_text.proofs.HeardLemmas.{parts_added, question_row, record_row}
use Rattle.nb_text.proofs.SaidLemmas.{none_said}
use Rattle.nb_text.proofs.brief.services.push_packet.Goals as goal

pub first_of-about-requires : goal.first_of-about-requires
first_of-about-requires c =
    let packet = c.requires.0 in
    let is = c.requires.2 in (
      is.after,
      c.requires.1,
      (packet.questions, question_row c.args.names.now packet _ _ is c.requires.3 _ c.from-questions.ensures),
      (records_of packet, record_row c.args.names.now packet _ _ is c.requires.3 _ (λ i. c.from.ensures i + c.from-2.ensures i + c.from-3.ensures i)),
    )

pub of-told-requires : goal.of-told-requires
of-told-requires c =
    let packet = c.requires.0 in
    let is = c.requires.2 in
    let questions = question_row c.args.names.now packet _ _ is c.requires.3 _ c.from-questions.ensures in
    let records = record_row c.args.names.now packet _ _ is c.requires.3 _ (λ i. c.from.ensures i + c.from-2.ensures i + c.from-3.ensures i) in
    let about = c.first_of-about.ensures packet.questions (records_of packet) is.after c.requires.1 questions records in
    (c.requires.1, (records_of packet, subst (λ (n : ℕ). RowOf (RecordAt c.args.names.now) n (c.from.result + c.from-2.result + c.from-3.result) (records_of packet) c.requires.1) (sym about.1) records))

pub push_subject-requires : goal.push_subject-requires
push_subject-requires c =
    let packet = c.requires.0 in
    let is = c.requires.2 in
    let questions = question_row c.args.names.now packet _ _ is c.requires.3 _ c.from-questions.ensures in
    let records = record_row c.args.names.now packet _ _ is c.requires.3 _ (λ i. c.from.ensures i + c.from-2.ensures i + c.from-3.ensures i) in
    (about_of packet, (c.first_of-about.ensures packet.questions (records_of packet) is.after c.requires.1 questions records).0)

pub returns-in_err-push_subject : goal.returns-in_err-push_subject
returns-in_err-push_subject c packet used is of =
    let questions = question_row c.args.names.now packet used _ is of _ c.from-questions.ensures in
    let records = record_row c.args.names.now packet used _ is of _ (λ i. c.from.ensures i + c.from-2.ensures i + c.from-3.ensures i) in
    let about = c.first_of-about.ensures packet.questions (records_of packet) is.after used questions records in
    (none_said _ _ c.from_residual-in_err-push_subject.result c.from_residual-in_err-push_subject.ensures.1, λ front within. (c.push_subject.ensures (about_of packet) about.0).1 front (c.in_ok-push_text.ensures.1 front within))

pub returns : goal.returns
returns c packet used is of =
    let questions = question_row c.args.names.now packet used _ is of _ c.from-questions.ensures in
    let records = record_row c.args.names.now packet used _ is of _ (λ i. c.from.ensures i + c.from-2.ensures i + c.from-3.ensures i) in
    let about = c.first_of-about.ensures packet.questions (records_of packet) is.after used questions records in
    let there = subst (λ (n : ℕ). RowOf (RecordAt c.args.names.now) n (c.from.result + c.from-2.result + c.from-3.result) (records_of packet) used) (sym about.1) records in
    let word : packet.word ≡ c.args.header.now.word = ap (λ (h : PacketHeader). h.word) of in
    let told = gist_of (is_type (type_of (about_of packet)) NBSTAT) (records_of packet) in (
      on_ok_weaker c.push_ending.result
          (λ added. parts_added c.args.header.now.word (about_of packet) _ _ (records_of packet) c.form_of-ending.result.0.now c.form_of-ending.result.1 _ _ _ _ _ (c.kind_of-kind.ensures c.args.names.now (about_of packet) about.0) c.eq.ensures
          (c.of-told.ensures (records_of packet) used there) c.form_of-ending.ensures c.in_ok-push_text.ensures.0
          (c.in_ok-push_subject.ensures (about_of packet) about.0).0 added
          ∙ ap (λ (w : ℕ). said_after (string_bytes c.args.text.now) (said_of w (about_of packet) told)) (sym word))
          c.push_ending.ensures.0,
      λ front within. c.push_ending.ensures.1 front ((c.in_ok-push_subject.ensures (about_of packet) about.0).1 front (c.in_ok-push_text.ensures.1 front within)),
    )
