-- `reader::job_file::field_if` meets its contract.
use Rattle.reader.proofs.VersionLaws.{has_is, lacks_is}
use Rattle.reader.proofs.job_file.field_if.Goals as goal

pub returns-then-has : goal.returns-then-has
returns-then-has c = λ file part. has_is _ _ _ _ _ c.if-has.true (c.field_of_part.ensures file part)

pub returns : goal.returns
returns c = λ file part. lacks_is _ _ _ _ c.if-has.false
