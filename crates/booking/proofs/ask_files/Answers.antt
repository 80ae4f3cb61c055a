-- Asking on files: a refusal of a step, or the answer of the last one.
use Rattle.reader.proofs.Chain.{reads_value}
use Rattle.asking.specs.DescriptionFile.{question_fault}
use Rattle.asking.proofs.ShapeLaws.{sizes_of, question_after}
use Rattle.booking.proofs.AskCalls.{paired, refused_pair, held_sizes, files_stop, read_stops, full_stops, ready, ask_stops, asking, ask_done}
use Rattle.booking.proofs.ask_files.Goals as goal

pub returns-in_err-plan : goal.returns-in_err-plan
returns-in_err-plan c =
    ask_stops _ _ _ (files_stop _ _ c.passed_files.ensures question_fault _ (refused_pair _ c.in_err-plan.was)) _ c.from_residual.ensures.1

pub read_question-requires : goal.read_question-requires
read_question-requires c = sizes_of _ c.of-shape.ensures (held_sizes _ _ c.passed_files.ensures (paired _ c.in_ok-plan.was))

pub returns-in_err-description : goal.returns-in_err-description
returns-in_err-description c =
    let read = question_after _ c.of-shape.ensures _ c.read_question.ensures in
    ask_stops _ _ _ (read_stops _ _ c.passed_files.ensures question_fault _ (paired _ c.in_ok-plan.was) read c.in_err-description.was) _
    c.from_residual-in_err-description.ensures.1

pub returns-in_err-full : goal.returns-in_err-full
returns-in_err-full c =
    let read = question_after _ c.of-shape.ensures _ c.read_question.ensures in
    let bad = full_stops _ _ c.passed_files.ensures question_fault _ (paired _ c.in_ok-plan.was) read c.in_ok-description.was
    (reads_value read c.in_ok-description.was) c.full.ensures c.in_err-full.was in
    ask_stops _ _ _ bad _ c.from_residual-in_err-full.ensures.1

pub ask-requires : goal.ask-requires
ask-requires c =
    let read = question_after _ c.of-shape.ensures _ c.read_question.ensures in
    asking _ _ _ (ready _ _ c.passed_files.ensures question_fault _ (paired _ c.in_ok-plan.was) read c.in_ok-description.was
    (reads_value read c.in_ok-description.was) c.full.ensures c.in_ok-full.was)

pub returns : goal.returns
returns c =
    let read = question_after _ c.of-shape.ensures _ c.read_question.ensures in
    let all = ready _ _ c.passed_files.ensures question_fault _ (paired _ c.in_ok-plan.was) read c.in_ok-description.was
    (reads_value read c.in_ok-description.was) c.full.ensures c.in_ok-full.was in
    ask_done _ _ _ all c.ask.ensures
