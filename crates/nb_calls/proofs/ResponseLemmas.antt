-- Of a response that is asked for one thing is answered.
use Rattle.nb_calls.proofs.Common.{◌≡◌, ℕ, List, Result, Err, refl, ap, subst, arith, TextFault, ResourceData, Refusal, NO_ROLE, HasOneElse, OrMemory, IsDomain, IsRdata, domain, domain_data, Responds, no_name_text, named, response_answer, text_refusal}
use Rattle.nb_calls.proofs.AnswerLemmas.{one_expected}
use Rattle.nb_calls.proofs.NameLemmas.{TextLaws}
use Rattle.nb_calls.specs.declared.service.Answered.{Answered}
use Rattle.nb_calls.specs.Responses.{plain, too_long}

module _ (bytes : List ℕ) (one_domain : (a b : Result (List (List ℕ)) Refusal) → IsDomain bytes a → IsDomain bytes b → a ≡ b) where
  one_rdata : (kind : ℕ) (a b : Result ResourceData Refusal) → IsRdata kind bytes a → IsRdata kind bytes b → a ≡ b
  one_rdata kind a b (plain not short) (plain never fits) = refl
  one_rdata kind a b (plain not short) (too_long never long) = absurd (omega (arith, short, long))
  one_rdata kind a b (plain not short) (domain read is there) = absurd (not is)
  one_rdata kind a b (too_long not long) (plain never short) = absurd (omega (arith, short, long))
  one_rdata kind a b (too_long not long) (too_long never more) = refl
  one_rdata kind a b (too_long not long) (domain read is there) = absurd (not is)
  one_rdata kind a b (domain read is there) (plain not short) = absurd (not is)
  one_rdata kind a b (domain read is there) (too_long not long) = absurd (not is)
  one_rdata kind a b (domain read is there) (domain other was also) = ap domain_data (one_domain read other there also)

  pub one_response : (answered : Answered) (text : List ℕ) → TextLaws text → HasOneElse (Responds answered text bytes)
  one_response answered text words _ _ (no_name_text f fails) (no_name_text g fail) h k =
      ap (λ (x : TextFault). Err (text_refusal NO_ROLE x)) (words.one_fault f g fails fail)
  one_response answered text words _ _ (no_name_text f fails) (named name rdata b is there o) h k = absurd (words.apart name f is fails)
  one_response answered text words _ _ (named name rdata a is there o) (no_name_text f fails) h k = absurd (words.apart name f is fails)
  one_response answered text words _ _ (named name rdata a is there o) (named other found b was also p) h k =
      let same : response_answer answered other found ≡ response_answer answered name rdata =
      cc (words.one other name was is, one_rdata answered.kind found rdata also there) in
      one_expected (response_answer answered name rdata) a b o (subst (λ (x : Result (List ℕ) Refusal). OrMemory x b) same p) h k

pub ruleset responses = (no_name_text, named)
