-- What the loop of `decimal::print::Page::put_text` keeps.
use Rattle.std.proofs.Common.{◌+◌, ◌≡◌, take}
use Rattle.decimal.specs.Prints.{Prints}
use Rattle.decimal.proofs.print.Page.put_text.Given as goal

abbrev pub invariant-loop-i : goal.invariant-loop-i
invariant-loop-i l =
    Prints l.initial.self.buffer.now l.from (take l.i l.text) l.self.buffer.now (l.from + l.i)
    × (l.self.buffer.ghost_name ≡ l.initial.self.buffer.ghost_name)
