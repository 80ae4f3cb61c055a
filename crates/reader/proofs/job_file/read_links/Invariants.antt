-- What the loop of `reader::job_file::read_links` keeps.
use Prim.Native.Nat.{ℕ, ◌+◌, ◌*◌, ◌≤◌}
use mathlib.Core.Path.{◌≡◌}
use mathlib.Core.List.{List}
use lib.ListN.{replicate}
use Rattle.reader.specs.declared.job.Link.{Link}
use Rattle.reader.specs.Limits.{max_links}
use Rattle.reader.specs.Entries.{no_link}
use Rattle.reader.specs.Number.{number_at, count_fault}
use Rattle.reader.specs.JobFile.{link_at, link_fault, link_before}
use Rattle.reader.proofs.ReadLoop.{ReadTo}
use Rattle.reader.proofs.job_file.read_links.Given as goal

abbrev pub Links : List ℕ → ℕ → ℕ → ℕ → ℕ → List Link → Type 0
Links file at n =
    ReadTo (count_fault file at 0 max_links) (number_at file at) (λ k. link_fault file (at + 4 + 12 * k) n (link_before file (at + 4) k))
    (λ k. link_at file (at + 4 + 12 * k)) (replicate max_links no_link)

abbrev pub invariant-loop-k : goal.invariant-loop-k
invariant-loop-k l =
    (l.count ≤ max_links) × (l.before ≡ link_before l.file (l.at + 4) l.k) × Links l.file l.at l.tasks l.count l.k l.list
