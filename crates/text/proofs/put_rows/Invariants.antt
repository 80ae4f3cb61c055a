-- What the loop of `text::put_rows` keeps.
use Prim.Native.Nat.{◌+◌, ◌*◌, ◌≤◌}
use lib.ListN.{get_or}
use Rattle.reader.specs.Entries.{no_place}
use Rattle.writer.specs.Write.{flat}
use Rattle.decimal.specs.Prints.{Grows}
use Rattle.text.specs.Text.{row, max_row}
use Rattle.text.proofs.put_rows.Given as goal

abbrev pub invariant-loop-j : goal.invariant-loop-j
invariant-loop-j l =
    (l.page.end ≤ l.initial.page.end + max_row * l.j) × Grows l.initial.page l.page (flat l.j (λ i. row i (get_or l.places i no_place)))
