-- A question: a description, and nothing behind it.
use Rattle.reader.proofs.Chain.{stopped, broken, finished, reads_some}
use Rattle.asking.specs.Sizes.{shaped}
use Rattle.asking.proofs.NewFileLaws.{description_read, question_bad, question_tail, question_done}
use Rattle.asking.proofs.description_file.read_question.Goals as goal

pub returns-in_err-description : goal.returns-in_err-description
returns-in_err-description c =
    λ job. stopped _ c.from_residual.ensures.1
    (question_bad _ (shaped job c.args.shape) (reads_some (c.read_description.ensures.reads job) c.in_err-description.was))

pub returns-then-end-file : goal.returns-then-end-file
returns-then-end-file c =
    λ job. broken (question_tail (description_read (c.read_description.ensures.reads job) c.in_ok-description.was) c.if-end-file.true)

pub returns : goal.returns
returns c =
    λ job. let read = description_read (c.read_description.ensures.reads job) c.in_ok-description.was in
    finished (question_done read c.if-end-file.false) read.is
