use Rattle.std.proofs.Common.{◌≡◌, refl, sym, ◌∙◌, None}
use Rattle.nb_datagram.specs.Fragment.{core_of, cores_of}
use Rattle.nb_table.specs.Contents.{table_of, datagram_at}
use Rattle.std.proofs.lemmas.Bool.Decides.{not_from_Decides}
use Rattle.nb_examples.proofs.PlainProgram.{not_whole, none_long, whole_ending, whole_starting, whole_is, whole_long, whole_short, not_this, none_whole}
use Rattle.nb_examples.proofs.plain.whole.datagram.Goals as goal

none : (c : goal.Then-not-is_whole) → datagram_at (table_of (cores_of c.args.fragments.now)) c.args.key.now ≡ None
none c = not_whole (cores_of c.args.fragments.now) c.args.key.now (not_from_Decides c.is_whole.result c.is_whole.ensures c.if-not-is_whole.true)

pub returns-then-not-is_whole-clause-found : goal.returns-then-not-is_whole-clause-found
returns-then-not-is_whole-clause-found c = sym (none c)

pub returns-then-not-is_whole-clause-too_long : goal.returns-then-not-is_whole-clause-too_long
returns-then-not-is_whole-clause-too_long c = (λ h. absurd (cc h), λ long. absurd (none_long (datagram_at (table_of (cores_of c.args.fragments.now)) c.args.key.now) (none c) long))

no_end : (c : goal.In_default) → ⊥
no_end c = whole_ending (cores_of c.args.fragments.now) c.args.key.now (c.is_whole.ensures.0 c.if-not-is_whole.false) (sym c.in_default.ensures)

pub returns-in_default-clause-found : goal.returns-in_default-clause-found
returns-in_default-clause-found c = absurd (no_end c)

pub returns-in_default-clause-too_long : goal.returns-in_default-clause-too_long
returns-in_default-clause-too_long c = absurd (no_end c)

no_first : (c : goal.In_default-first_with) → ⊥
no_first c = whole_starting (cores_of c.args.fragments.now) c.args.key.now (c.is_whole.ensures.0 c.if-not-is_whole.false) (sym c.in_default-first_with.ensures)

pub returns-in_default-first_with-clause-found : goal.returns-in_default-first_with-clause-found
returns-in_default-first_with-clause-found c = absurd (no_first c)

pub returns-in_default-first_with-clause-too_long : goal.returns-in_default-first_with-clause-too_long
returns-in_default-first_with-clause-too_long c = absurd (no_first c)

pub returns-then-end-gt-MAX_LENGTH-clause-too_long : goal.returns-then-end-gt-MAX_LENGTH-clause-too_long
returns-then-end-gt-MAX_LENGTH-clause-too_long c =
    (λ _. whole_long (cores_of c.args.fragments.now) c.args.key.now (core_of c.in-Some-first_with.first.now) c.in-Some.end (c.is_whole.ensures.0 c.if-not-is_whole.false) c.in-Some-first_with.ensures c.in-Some.ensures c.if-end-gt-MAX_LENGTH.true, λ _. refl)

pub returns-clause-found : goal.returns-clause-found
returns-clause-found c =
    c.in_ok-datagram_below.ensures
    ∙ whole_is (cores_of c.args.fragments.now) c.args.key.now (core_of c.in-Some-first_with.first.now) c.in-Some.end (c.is_whole.ensures.0 c.if-not-is_whole.false) c.in-Some-first_with.ensures c.in-Some.ensures

pub returns-clause-too_long : goal.returns-clause-too_long
returns-clause-too_long c = (
  λ h. absurd (cc h),
  λ long. absurd (whole_short (cores_of c.args.fragments.now) c.args.key.now (core_of c.in-Some-first_with.first.now) c.in-Some.end (c.is_whole.ensures.0 c.if-not-is_whole.false) c.in-Some-first_with.ensures c.in-Some.ensures c.if-end-gt-MAX_LENGTH.false long),
)

pub returns-in_err-datagram_below-clause-too_long : goal.returns-in_err-datagram_below-clause-too_long
returns-in_err-datagram_below-clause-too_long c = (
  λ h. absurd (not_this c.from_residual.result c.from_residual.ensures.1 h),
  λ long. absurd (whole_short (cores_of c.args.fragments.now) c.args.key.now (core_of c.in-Some-first_with.first.now) c.in-Some.end (c.is_whole.ensures.0 c.if-not-is_whole.false) c.in-Some-first_with.ensures c.in-Some.ensures c.if-end-gt-MAX_LENGTH.false long),
)

pub returns-in_default-clause-no_memory_needed : goal.returns-in_default-clause-no_memory_needed
returns-in_default-clause-no_memory_needed c none = absurd (none_whole (cores_of c.args.fragments.now) c.args.key.now none (c.is_whole.ensures.0 c.if-not-is_whole.false))

pub returns-in_default-first_with-clause-no_memory_needed : goal.returns-in_default-first_with-clause-no_memory_needed
returns-in_default-first_with-clause-no_memory_needed c none = absurd (none_whole (cores_of c.args.fragments.now) c.args.key.now none (c.is_whole.ensures.0 c.if-not-is_whole.false))

pub returns-then-end-gt-MAX_LENGTH-clause-no_memory_needed : goal.returns-then-end-gt-MAX_LENGTH-clause-no_memory_needed
returns-then-end-gt-MAX_LENGTH-clause-no_memory_needed c none = absurd (none_whole (cores_of c.args.fragments.now) c.args.key.now none (c.is_whole.ensures.0 c.if-not-is_whole.false))

pub returns-clause-no_memory_needed : goal.returns-clause-no_memory_needed
returns-clause-no_memory_needed c none = absurd (none_whole (cores_of c.args.fragments.now) c.args.key.now none (c.is_whole.ensures.0 c.if-not-is_whole.false))

pub returns-in_err-datagram_below-clause-no_memory_needed : goal.returns-in_err-datagram_below-clause-no_memory_needed
returns-in_err-datagram_below-clause-no_memory_needed c none = absurd (none_whole (cores_of c.args.fragments.now) c.args.key.now none (c.is_whole.ensures.0 c.if-not-is_whole.false))
