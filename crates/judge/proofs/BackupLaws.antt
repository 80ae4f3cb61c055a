-- Laws of the pass over the links to backups: one backup by its cases, and one link more.
use Prim.Native.Nat.{ℕ, ◌+◌, ◌*◌, ◌<◌}
use mathlib.Core.Bool.{Bool, true, false}
use mathlib.Core.List.{List}
use mathlib.Core.Path.{◌≡◌, ◌∙◌}
use lib.Bits.{bit_and}
use lib.Dec.{eqb}
use lib.ListN.{get_or, take}
use Rattle.std.proofs.lemmas.List.{get_or-take}
use borrow.Author.Tests.{eq-eqb, ne_eqb}
use Rattle.reader.specs.declared.job.Job.{Job}
use Rattle.reader.specs.declared.job.Link.{Link}
use Rattle.reader.specs.Tests.{◌and◌, ◌implies◌}
use Rattle.reader.specs.Entries.{links, link, no_link}
use Rattle.rules.specs.declared.Copy.{Copy}
use Rattle.copies.specs.declared.arrival.Outgoing.{Outgoing}
use Rattle.copies.specs.declared.table.Copies.{Copies}
use Rattle.copies.specs.Sets.{meets}
use Rattle.copies.specs.Arrival.{fed_of, result_at}
use Rattle.copies.specs.Table.{entry, set_at}
use Rattle.judge.specs.Backups.{link_feeds}

-- the primary's result is late; the backup's does not matter; it does
module _ (x y : Bool) (s t : ℕ) where
  pub fed_late : x ≡ false → x ≡ (x and (meets s t implies y))
  unfolding ◌and◌
  fed_late h = rw h

  pub fed_apart : x ≡ true → bit_and s t ≡ 0 → eqb (bit_and s t) 0 ≡ (x and (meets s t implies y))
  unfolding ◌and◌ ◌implies◌ meets
  fed_apart h e = rw (h, eq-eqb (bit_and s t) 0 e)

  pub fed_both : x ≡ true → (bit_and s t ≡ 0 → ⊥) → (r : Bool) → r ≡ y → r ≡ (x and (meets s t implies y))
  unfolding ◌and◌ ◌implies◌ meets
  fed_both h e r is = rw (h, ne_eqb (bit_and s t) 0 e) is

-- link k is the one at k of the slice of all
pub taken : (job : Job) (k : ℕ) → k < links job → get_or (take (links job) job.links) k no_link ≡ link job k
taken job k low = get_or-take (links job) job.links k no_link low

-- of the results and the copy at the ends of link k
pub feeds_at : (job : Job) (cs : Copies) (leave : List ℕ) (k : ℕ) (l : Link) → l ≡ link job k
    → let result = result_at cs.node cs.finish leave l.delay in
    (p b : Outgoing) (c : Copy) (r : Bool) → p ≡ result (2 * l.from) → b ≡ result (2 * l.from + 1) → c ≡ entry cs (2 * l.to + 1)
    → r ≡ fed_of p b (set_at cs (2 * l.from + 1)) c (set_at cs (2 * l.to + 1)) → r ≡ link_feeds job cs leave k
unfolding link_feeds
feeds_at job cs leave k l el p b c r ep eb ec er = er ∙ rw (ep, eb, ec, el)
