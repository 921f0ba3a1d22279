use Rattle.std.proofs.Common.{◌≡◌, ◌++◌, take}
use Rattle.std.specs.List.{AllByRecursion, flat_map}
use Rattle.nb_service.specs.Encoding.{question_bytes, IsQuestion}
use Rattle.nb_service.proofs.encoding.write_questions.Given as goal

abbrev pub invariant-loop-question : goal.invariant-loop-question
invariant-loop-question l =
    record {
      written : l.bytes.items ≡ l.fn.bytes.items ++ flat_map question_bytes (take l.question-index l.questions);
      formed : AllByRecursion IsQuestion (take l.question-index l.questions);
    }
