use Rattle.std.proofs.Common.{◌≡◌, Some, None, sym, ◌∙◌, subst}
use Rattle.nb_datagram.specs.Fragment.{cores_of}
use Rattle.nb_examples.specs.Plain.{CoversBelow}
use Rattle.std.proofs.lemmas.Bool.Decides.{not_from_Decides}
use Rattle.nb_examples.proofs.PlainProgram.{whole_from, whole_free, whole_ends}
use Rattle.nb_examples.proofs.plain.whole.is_whole.Goals as goal

pub returns-then-is_spoilt : goal.returns-then-is_spoilt
returns-then-is_spoilt c =
    (λ h. absurd (cc h), λ w. absurd (whole_free (cores_of c.args.fragments.now) c.args.key.now w (c.is_spoilt.ensures.0 c.if-is_spoilt.true)))

pub returns-in-Some : goal.returns-in-Some
returns-in-Some c =
    let L = cores_of c.args.fragments.now in
    let ends = sym c.end_of.ensures ∙ c.in-Some.is in (
      λ h. whole_from L c.args.key.now c.in-Some.end (not_from_Decides c.is_spoilt.result c.is_spoilt.ensures c.if-is_spoilt.false) ends (c.covers_below.ensures.0 h),
      λ w. c.covers_below.ensures.1 (let t = whole_ends L c.args.key.now w in
          let both : Some t.0 ≡ Some c.in-Some.end = sym t.1 ∙ ends in
          let one : t.0 ≡ c.in-Some.end = cc in
          subst (CoversBelow L c.args.key.now) one t.2),
    )

pub returns-in-None : goal.returns-in-None
returns-in-None c = (
  λ h. absurd (cc h),
  λ w. (let t = whole_ends (cores_of c.args.fragments.now) c.args.key.now w in
      let clash : Some t.0 ≡ None = sym t.1 ∙ sym c.end_of.ensures ∙ c.in-None.is in
      absurd (cc clash)),
)
