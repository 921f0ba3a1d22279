-- What is told of what became of a line.
use Rattle.nbt_reassembly.proofs.Common.{Result, ℕ, List, arith, MemberValue, MemberFault, OutcomeFields, TellsOutcome, dropped, dropped_fields, passed, passed_fields, result_fields, taken}
use Rattle.nb_telling.specs.Telling.{Field}
use Rattle.nb_telling.specs.Members.{AreMembers}
use Rattle.nb_member.specs.declared.outcome.Outcome.{Outcome}
use Rattle.nb_capture.specs.declared.line.Line as capture
use Rattle.nbt_command.specs.Objects.{TellsFields}

-- what became of a line are members
outcome_members : (value : capture.Line) (m new : MemberValue) (fields : List Field) → ((n : ℕ) → AreMembers 1 (dropped_fields n)) → AreMembers 1 passed_fields
    → ((r : Result Outcome MemberFault) → AreMembers 1 (result_fields r)) → OutcomeFields value m new fields → AreMembers 1 fields
outcome_members _ _ _ _ drops passes results (dropped now keys m new is count) = drops keys
outcome_members _ _ _ _ drops passes results (passed port moment payload m new other same) = passes
outcome_members _ _ _ _ drops passes results (taken port moment payload m new result is had takes) = results result

pub outcome_told : {A : Type 0} (after : A → Field → A) (value : capture.Line) (m new : MemberValue) (old seen : A)
    → ((n : ℕ) → AreMembers 1 (dropped_fields n)) → AreMembers 1 passed_fields → ((r : Result Outcome MemberFault) → AreMembers 1 (result_fields r))
    → TellsOutcome after value m new old seen → TellsFields (OutcomeFields value m new) after old seen
outcome_told after value m new old seen drops passes results t = record {
  fields = t.fields;
  are = t.are;
  depth = 1;
  low = omega arith;
  members = outcome_members value m new t.fields drops passes results t.are;
  seen = t.told;
}
