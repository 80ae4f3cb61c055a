-- Both copies of a task stored, and laid out.
use Prim.Native.Nat.{ℕ, ◌+◌, ◌*◌, ◌<◌}
use mathlib.Core.List.{List}
use mathlib.Core.Path.{sym, ◌∙◌, ap, subst}
use native.Mathlib.Omega.{arith}
use Rattle.reader.specs.declared.job.Node.{Node}
use Rattle.reader.specs.Limits.{max_nodes}
use Rattle.copies.specs.declared.table.Copies.{Copies}
use Rattle.copies.specs.Sets.{every_group}
use Rattle.copies.specs.Table.{Whole, Stored}
use Rattle.copies.proofs.LayoutLaws.{laid_same}
use Rattle.planner.specs.declared.board.Board.{Board}
use Rattle.planner.specs.declared.board.Pair.{Pair}
use Rattle.planner.specs.Tasks.{Bookable, Booked, Next}

pub stored_booked : (cs : Copies) (j : ℕ) (x : Pair) (half r : Copies) → Stored cs (2 * j) x.primary every_group half
    → Stored half (2 * j + 1) x.backup x.set r → Whole r → Booked j x cs r
stored_booked cs j x half r one then whole =
    record {
      whole = whole;
      primary = then.other (2 * j) (λ e. omega arith) ∙ one.here;
      primary_set = then.other_set (2 * j) (λ e. omega arith) ∙ one.here_set;
      backup = then.here;
      backup_set = then.here_set;
      other = λ k y z. then.other k z ∙ one.other k y;
      other_set = λ k y z. then.other_set k z ∙ one.other_set k y;
    }

-- where they are stored, both can be laid out
pub lays_next : (nodes : List Node) (j : ℕ) (x : Pair) (board : Board) → Bookable nodes j x board → (r : Copies) → Booked j x board.copies r
    → Next r.node r.start j board.layout.order board.layout.count
lays_next nodes j x board pre r b =
    record {
      room = pre.departing.on_rack.room;
      primary = subst (λ c. c.node < max_nodes) (sym b.primary) pre.departing.on_rack.primary;
      backup = subst (λ c. c.node < max_nodes) (sym b.backup) pre.departing.on_rack.backup;
      laid = laid_same _ _ _ _ _ _ _ (λ i p. sym (ap (λ c. c.node) (b.other i (omega arith) (omega arith))))
          (λ i p. sym (ap (λ c. c.start) (b.other i (omega arith) (omega arith)))) pre.laid;
    }
