use Rattle.std.proofs.Common.{◌≡◌, ◌∙◌, ◌++◌, List, subst}
use Rattle.std.specs.List.{AllByRecursion}
use Rattle.nb_service.specs.declared.record.Question.{Question}
use Rattle.nb_service.specs.Record.{ResourceRecord}
use Rattle.nb_service.specs.Encoding.{packet_bytes, IsQuestion, IsRecord, IsWritable}
use Rattle.nb_service.proofs.EncodingLemmas.{all_append, packet_written}
use Rattle.nb_service.proofs.encoding.encode.Goals.{After-from_vec}
use Rattle.nb_service.proofs.encoding.encode.Goals as goal

-- the bytes are the packet's
value : (c : After-from_vec) → c.from_vec.result ≡ packet_bytes c.args.packet.now
value c =
    c.from_vec.ensures
    ∙ packet_written c.args.packet.now _ _ _ _ _ _ _ _ _ _ c.new-bytes.ensures.items c.in_ok-write_header.ensures.written c.in_ok-write_questions.ensures.written
    c.in_ok-write_records.ensures.written c.in_ok-write_records-2.ensures.written c.in_ok-write_records-3.ensures.written (c.as_slice-questions.ensures ∙ c.questions.ensures.value)
    (c.as_slice.ensures ∙ c.answers.ensures.value) (c.as_slice-2.ensures ∙ c.authorities.ensures.value) (c.as_slice-3.ensures ∙ c.additional.ensures.value)

pub returns-clause-value : goal.returns-clause-value
returns-clause-value c = value c

pub returns-clause-found : goal.returns-clause-found
returns-clause-found c rest =
    let questions = subst (λ (xs : List Question). AllByRecursion IsQuestion xs) (c.as_slice-questions.ensures ∙ c.questions.ensures.value) c.in_ok-write_questions.ensures.formed in
    let answers = subst (λ (xs : List ResourceRecord). AllByRecursion IsRecord xs) (c.as_slice.ensures ∙ c.answers.ensures.value) c.in_ok-write_records.ensures.formed in
    let authorities = subst (λ (xs : List ResourceRecord). AllByRecursion IsRecord xs) (c.as_slice-2.ensures ∙ c.authorities.ensures.value) c.in_ok-write_records-2.ensures.formed in
    let additional = subst (λ (xs : List ResourceRecord). AllByRecursion IsRecord xs) (c.as_slice-3.ensures ∙ c.additional.ensures.value) c.in_ok-write_records-3.ensures.formed in
    let writable : IsWritable c.args.packet.now =
    record {
      id = c.in_ok-write_header.ensures.fits.0;
      word = c.in_ok-write_header.ensures.fits.1;
      counted = c.questions.ensures.counted;
      questions = questions;
      records = all_append IsRecord c.args.packet.now.answers (c.args.packet.now.authorities ++ c.args.packet.now.additional) answers
          (all_append IsRecord c.args.packet.now.authorities c.args.packet.now.additional authorities additional);
    } in
    rw (value c) (c.encoding_is_read.ensures c.args.packet.now rest writable)
