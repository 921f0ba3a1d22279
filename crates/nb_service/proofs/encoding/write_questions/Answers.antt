use Rattle.nb_service.specs.Encoding.{question_bytes, IsQuestion}
use Rattle.nb_service.proofs.EncodingLemmas.{turn_written, turn_formed}
use Rattle.nb_service.proofs.encoding.write_questions.Goals as goal

pub loop-question-preserved : goal.loop-question-preserved
loop-question-preserved c =
    let place = c.loop-question.question-index in
    record {
      written = turn_written question_bytes c.args.questions.now place c.question-item.result _ _ _ c.loop-question-test.true c.question-item.is c.loop-question.invariant.written c.in_ok-write_question.ensures.written;
      formed = turn_formed IsQuestion c.args.questions.now place c.question-item.result c.loop-question-test.true c.question-item.is c.loop-question.invariant.formed c.in_ok-write_question.ensures.formed;
    }
