use Rattle.std.proofs.Common.{◌≡◌, ◌+◌, ◌∙◌, ℕ, List, length, refl, sym, ap, arith, subst}
use Rattle.std.proofs.lemmas.Result.{err_from_is_err_and}
use Rattle.std.specs.Int.{w16}
use Rattle.nb_streams.specs.Places.{NumberAt}
use Rattle.nb_service.specs.declared.record.Question.{Question}
use Rattle.nb_service.specs.declared.seen.Seen.{Seen}
use Rattle.nb_service.specs.Items.{SeesQuestion}
use Rattle.nb_service.specs.Packet.{QuestionAt}
use Rattle.nb_service.specs.ServiceFaults.{question_name, question_cut}
use Rattle.nb_service.proofs.ItemLemmas.{same_question}
use Rattle.nb_service.proofs.seeing.see_question.Goals as goal

pub returns-in_err-name-clause-fault : goal.returns-in_err-name-clause-fault
returns-in_err-name-clause-fault c =
    let p = err_from_is_err_and c.from_residual.result c.from_residual.ensures.1 in rw (p.1, p.2) (question_name _ c.in_err-name.ensures.fault)

pub returns-then-packet-after-lt-QUESTION_FIELDS-clause-fault : goal.returns-then-packet-after-lt-QUESTION_FIELDS-clause-fault
returns-then-packet-after-lt-QUESTION_FIELDS-clause-fault c =
    let named = c.in_ok-name.ensures.found in
    rw (ap length c.packet-packet.ensures) (question_cut named.0 _ named.1.name (omega (arith, ap length c.packet-packet.ensures)))

sees : (c : goal.After-number_16-2) → (question : Question) × SeesQuestion c.args.names.now question
    (record { at = c.args.at; name = c.in_ok-name.name; fields = record { kind = c.number_16.result; class = c.number_16-2.result; ttl = 0; extent = record { rdata = c.in_ok-name.name.next + 4; next = c.in_ok-name.name.next + 4 } } })
sees c =
    let named = c.in_ok-name.ensures.found in
    let same = c.packet-packet.ensures in
    let after = c.in_ok-name.name.next in (
      record { name = named.0; kind = c.number_16.result; class = c.number_16-2.result },
      record {
        stands = record {
          after = after;
          name = named.1.name;
          kind = subst (λ (p : List ℕ). NumberAt p after w16 c.number_16.result) same c.number_16.ensures;
          class = subst (λ (p : List ℕ). NumberAt p (after + 2) w16 c.number_16-2.result) same c.number_16-2.ensures;
          end = refl;
        };
        reaches = refl;
        name = named.1;
        fields = refl;
      },
    )

pub returns-clause-found : goal.returns-clause-found
returns-clause-found c = (refl, sees c)

pub returns-clause-only : goal.returns-clause-only
returns-clause-only c question next there =
    let seen = sees c in
    let one = c.one_question.ensures.one _ _ _ question _ next seen.1.stands there in
    (refl, same_question _ _ _ _ one.0 seen.1, one.1)

pub returns-then-packet-after-lt-QUESTION_FIELDS-clause-only : goal.returns-then-packet-after-lt-QUESTION_FIELDS-clause-only
returns-then-packet-after-lt-QUESTION_FIELDS-clause-only c question next there =
    let named = c.in_ok-name.ensures.found in
    absurd (c.one_question.ensures.alone _ _ _ question next (question_cut named.0 _ named.1.name (omega (arith, ap length c.packet-packet.ensures))) there)

-- what is seen of a question at the end of the header
there_first : (packet bytes : List ℕ) (at : ℕ) (first : Seen) → bytes ≡ packet → at ≡ 12 → (first.at ≡ 12) × ((question : Question) × SeesQuestion bytes question first)
    → (first.at ≡ at) × ((question : Question) × SeesQuestion packet question first × QuestionAt packet at question first.fields.extent.next)
there_first packet bytes at first same begins is =
    let place = is.0 ∙ sym begins in
    let sees = subst (λ (p : List ℕ). SeesQuestion p is.1.0 first) same is.1.1 in
    (place, (is.1.0, sees, subst (λ (n : ℕ). QuestionAt packet n is.1.0 first.fields.extent.next) place sees.stands))

pub returns-in-Some-clause-found : goal.returns-in-Some-clause-found
returns-in-Some-clause-found c =
    let first = there_first _ _ _ _ c.packet-packet.ensures c.if-at-eq-HEADER_LENGTH.true c.in-Some.ensures.found in (first.0, (first.1.0, first.1.1))

pub returns-in-Some-clause-only : goal.returns-in-Some-clause-only
returns-in-Some-clause-only c question next there =
    let first = there_first _ _ _ _ c.packet-packet.ensures c.if-at-eq-HEADER_LENGTH.true c.in-Some.ensures.found in
    let one = c.one_question.ensures.one _ _ _ question _ next first.1.2 there in
    (first.0, same_question _ _ _ _ one.0 first.1.1, one.1)
