-- `sentence::is_tabled` meets its contract.
use mathlib.Core.Path.{◌≡◌, ◌∙◌}
use lib.Dec.{leb}
use borrow.Author.Rules.{rules}
use Rattle.std.specs.Prelude.{◌&&◌}
use Rattle.sentence.specs.Phrases.{last_number}
use Rattle.sentence.proofs.PhraseLaws.{table_range}
use Rattle.sentence.proofs.is_tabled.Goals as goal

pub returns : goal.returns
returns c =
    let e : c.contains.result ≡ (leb 1 c.args.number && leb c.args.number last_number) = search rules in
    e ∙ table_range _
