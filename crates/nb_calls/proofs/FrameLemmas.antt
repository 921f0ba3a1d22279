-- What is asked to be written on port 139 has one answer.
use Rattle.nb_calls.proofs.Common.{◌≡◌, ◌∙◌, ℕ, List, refl, sym, ap, subst, arith, HasOneElse, Parsed, Parses, WritesPacket, unknown_type, judged, frame, unless_faulty}
use Rattle.nb_session.specs.declared.packet.Kind.{Kind}
use Rattle.nb_session.proofs.HeaderLemmas.{one_kind}
use Rattle.nb_calls.specs.Sessions.{too_long, lacks}

module _ (type : ℕ) (body : List ℕ) where
  -- one answer is written, where one is parsed
  pub one_writes : ((bytes : List ℕ) (parsed other : Parsed) → Parses bytes parsed → Parses bytes other → parsed ≡ other)
      → HasOneElse (WritesPacket type body)
  one_writes one _ _ (unknown_type none) (unknown_type _) h k = refl
  one_writes one _ _ (unknown_type none) (too_long kind is _) h k = absurd (none kind is)
  one_writes one _ _ (unknown_type none) (judged kind b is _ _) h k = absurd (none kind is)
  one_writes one _ _ (too_long kind is long) (unknown_type none) h k = absurd (none kind is)
  one_writes one _ _ (too_long kind is long) (too_long _ _ _) h k = refl
  one_writes one _ _ (too_long kind is long) (judged _ b _ short _) h k = absurd (omega (arith, long, short))
  one_writes one _ _ (judged kind a is short _) (unknown_type none) h k = absurd (none kind is)
  one_writes one _ _ (judged kind a is short _) (too_long _ _ long) h k = absurd (omega (arith, long, short))
  one_writes one _ _ p (lacks _ _ _) h k = absurd (k refl)
  one_writes one _ _ (lacks _ _ _) q h k = absurd (h refl)
  one_writes one _ _ (judged kind a is short (parsed, p, e)) (judged other b also _ (found, q, d)) h k =
      e ∙ together (one_kind kind other (is ∙ sym also)) ∙ sym d where
        together : kind ≡ other → unless_faulty (frame kind body) parsed ≡ unless_faulty (frame other body) found
        together same =
            let there = subst (λ (k : Kind). Parses (frame k body) found) (sym same) q in
            ap (λ (p : Parsed). unless_faulty (frame kind body) p) (one (frame kind body) parsed found p there)
            ∙ ap (λ (k : Kind). unless_faulty (frame k body) found) same
