-- What the loop of `asking::description_file::read_new_links` keeps.
use Prim.Native.Nat.{ℕ, ◌+◌, ◌*◌, ◌≤◌}
use mathlib.Core.Path.{◌≡◌}
use mathlib.Core.List.{List}
use lib.ListN.{replicate}
use Rattle.reader.specs.declared.job.Link.{Link}
use Rattle.reader.specs.Limits.{max_links}
use Rattle.reader.specs.Entries.{no_link}
use Rattle.reader.specs.Number.{number_at, count_fault}
use Rattle.asking.specs.DescriptionFile.{new_link_at, new_link_fault, new_link_before}
use Rattle.reader.proofs.ReadLoop.{ReadTo}
use Rattle.asking.proofs.description_file.read_new_links.Given as goal

abbrev pub Links : List ℕ → ℕ → ℕ → ℕ → ℕ → List Link → Type 0
Links file at n =
    ReadTo (count_fault file at 0 max_links) (number_at file at) (λ k. new_link_fault file (at + 4 + 8 * k) n (new_link_before file (at + 4) n k))
    (λ k. new_link_at file (at + 4 + 8 * k) n) (replicate max_links no_link)

abbrev pub invariant-loop-k : goal.invariant-loop-k
invariant-loop-k l =
    (l.count ≤ max_links) × (l.before ≡ new_link_before l.file (l.at + 4) l.tasks l.k) × Links l.file l.at l.tasks l.count l.k l.list
