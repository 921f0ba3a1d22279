use Rattle.std.proofs.Common.{◌≡◌, subst, sym, true, false, ℕ}
use Rattle.nb_session.specs.Header.{MayHave, body_length}
use Rattle.nb_session.specs.Parsing.{unknown_type, reserved_flags, bad_length}
use Rattle.nb_session.proofs.parsing.Header.judge.Goals as goal

pub returns-in_default-clause-fault : goal.returns-in_default-clause-fault
returns-in_default-clause-fault c = unknown_type c.in_default.ensures

pub returns-then-self-gt-EXTENSION-clause-fault : goal.returns-then-self-gt-EXTENSION-clause-fault
returns-then-self-gt-EXTENSION-clause-fault c = reserved_flags c.in-Some.kind c.in-Some.ensures c.if-self-gt-EXTENSION.true

pub returns-then-not-may_have-clause-fault : goal.returns-then-not-may_have-clause-fault
returns-then-not-may_have-clause-fault c =
    let no : MayHave c.in-Some.kind (body_length c.args.self.now) → ⊥ =
    λ may. let told : false ≡ true = c.if-not-may_have.ensures.1 (subst (λ (n : ℕ). MayHave c.in-Some.kind n) (sym c.body_length.ensures.value) may) in absurd (cc) in
    bad_length c.in-Some.kind c.in-Some.ensures c.if-self-gt-EXTENSION.false no
