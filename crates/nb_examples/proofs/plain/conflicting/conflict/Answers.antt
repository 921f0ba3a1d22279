use Rattle.std.proofs.Common.{refl, sym, ◌∙◌}
use Rattle.nb_datagram.specs.Fragment.{core_of}
use Rattle.std.proofs.lemmas.Bool.Decides.{not_from_Decides}
use Rattle.nb_table.specs.Conflict.{overlap, past_end, past_other_end, breaks, breaks_other}
use Rattle.nb_examples.proofs.PlainProgram.{header_conflict, ends_conflict, last_conflict}
use Rattle.nb_examples.proofs.plain.conflicting.conflict.Goals as goal

pub returns-then-not-same_header : goal.returns-then-not-same_header
returns-then-not-same_header c =
    (λ _. header_conflict (core_of c.args.one.now) (core_of c.args.other.now) (not_from_Decides c.same_header.result c.same_header.ensures c.if-not-same_header.true), λ _. refl)

pub returns-then-bytes_differ : goal.returns-then-bytes_differ
returns-then-bytes_differ c = (λ _. overlap (c.bytes_differ.ensures.0 c.if-bytes_differ.true), λ _. refl)

pub returns-then-ends_differ : goal.returns-then-ends_differ
returns-then-ends_differ c =
    (λ _. ends_conflict (core_of c.args.one.now) (core_of c.args.other.now) (sym c.ends_differ.ensures ∙ c.if-ends_differ.true), λ _. refl)

pub returns-then-passes_end : goal.returns-then-passes_end
returns-then-passes_end c = (λ _. past_end (c.passes_end.ensures.0 c.if-passes_end.true), λ _. refl)

pub returns-then-passes_end-2 : goal.returns-then-passes_end-2
returns-then-passes_end-2 c = (λ _. past_other_end (c.passes_end-2.ensures.0 c.if-passes_end-2.true), λ _. refl)

pub returns-then-breaks_promise : goal.returns-then-breaks_promise
returns-then-breaks_promise c = (λ _. breaks (c.breaks_promise.ensures.0 c.if-breaks_promise.true), λ _. refl)

pub returns : goal.returns
returns c = (
  λ h. breaks_other (c.breaks_promise-2.ensures.0 h),
  λ h. c.breaks_promise-2.ensures.1 (last_conflict (core_of c.args.one.now) (core_of c.args.other.now)
      (c.same_header.ensures.0 c.if-not-same_header.false)
      (not_from_Decides c.bytes_differ.result c.bytes_differ.ensures c.if-bytes_differ.false)
      (sym c.ends_differ.ensures ∙ c.if-ends_differ.false)
      (not_from_Decides c.passes_end.result c.passes_end.ensures c.if-passes_end.false)
      (not_from_Decides c.passes_end-2.result c.passes_end-2.ensures c.if-passes_end-2.false)
      (not_from_Decides c.breaks_promise.result c.breaks_promise.ensures c.if-breaks_promise.false)
      h),
)
