-- `writer::put_number` meets its contract.
use mathlib.Core.Path.{◌∙◌}
use native.Mathlib.Omega.{arith}
use Rattle.writer.proofs.PutLaws.{put_part}
use Rattle.writer.proofs.put_number.Goals as goal

pub returns : goal.returns
returns c = put_part _ _ _ _ _ (c.copy_from_slice.ensures.after ∙ c.to_le_bytes.ensures) (omega arith)
