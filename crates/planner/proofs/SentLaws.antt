-- What the chain of the links to a task says is what all links say.
use Prim.Native.Nat.{ℕ, ◌+◌, ◌*◌, ◌≤◌, ◌<◌}
use mathlib.Core.Bool.{Bool, true, false, not}
use mathlib.Core.Path.{◌≡◌, ◌∙◌, ap, ap₂, fun_ext}
use lib.Dec.{eqb}
use lib.ListN.{get_or}
use borrow.Author.Tests.{eqb-true, ne_eqb}
use native.Mathlib.Omega.{arith}
use Rattle.reader.specs.declared.job.Job.{Job}
use Rattle.reader.specs.Tests.{◌and◌, ◌or◌}
use Rattle.reader.specs.First.{every, any}
use Rattle.reader.specs.Limits.{max_tasks, max_links}
use Rattle.reader.specs.Entries.{tasks, links, link}
use Rattle.reader.specs.Sound.{Sound}
use Rattle.reader.proofs.TestLaws.{split, not_i, and_unless}
use Rattle.reader.proofs.FirstLaws.{every_rest, any_same}
use Rattle.rules.specs.declared.Copy.{Copy}
use Rattle.rules.specs.Copies.{domain}
use Rattle.rules.specs.Rules.{strong, carries, fault_set}
use Rattle.copies.specs.declared.table.Copies.{Copies}
use Rattle.copies.specs.Sets.{has}
use Rattle.copies.specs.Arrival.{result_of, result_at, Leaving}
use Rattle.copies.specs.Table.{entry, set_at, row_of}
use Rattle.copies.proofs.ArrivalLaws.{comes_is, result_is}
use Rattle.copies.proofs.ChainLaws.{last_most, last_gap, linked_down, chain_of, chain_within}
use Rattle.planner.specs.declared.board.Board.{Board}
use Rattle.planner.specs.declared.senders.Incoming.{Incoming}
use Rattle.planner.specs.declared.senders.Sender.{Sender}
use Rattle.planner.specs.Senders.{receiver, Sent, Into, InBy, sender_at, Sending}
use Rattle.planner.specs.Faults.{carries_from, Faulted}
use Rattle.planner.specs.Tasks.{Beside}

module _ (job : Job) (net : Incoming) (sent : Sent job.links (links job) net) (j : ℕ) where
  pub sent_into : j < max_tasks → Into job net j (get_or net.last j 0)
  sent_into few =
      record {
        begins = sent.chained.lasts j few;
        chain = chain_of _ _ _ (links job) net.last net.next sent.chained j few;
        froms = sent.froms;
        delays = sent.delays;
      }

  -- the chain of a task's links begins at one of them
  pub into_few : Sound job → j < tasks job → get_or net.last j 0 ≤ max_links
  into_few sound p =
      let within = chain_within _ _ _ _ net.last net.next sent.chained j (omega (arith, sound.tasks_most)) in
      omega (arith, within, sound.links_most)

-- what comes by link m
abbrev pub sends : Job → Incoming → Copies → ℕ → Sender
sends job net cs m =
    let l = link job m in
    let k = 2 * l.from in
    record {
      task = l.from;
      primary = result_of job l (entry cs k);
      backup = result_of job l (entry cs (k + 1));
      set = set_at cs (k + 1);
      next = get_or net.next m 0;
    }

module _ (job : Job) (net : Incoming) (j into : ℕ) (i : Into job net j into) where
  into_within : into ≤ links job
  into_within = omega (arith, i.begins, last_most (receiver job.links) j (links job))

  -- a test that holds of each link to another task
  pub into_every : (t : ℕ → Bool) → ((m : ℕ) → ((link job m).to ≡ j → ⊥) → t m ≡ true) → every into t ≡ every (links job) t
  into_every t h =
      every_rest t into (links job) into_within
      (λ m p q. h m (last_gap (receiver job.links) j (links job) m (omega (arith, i.begins)) q))

  -- or of none
  pub into_any : (t : ℕ → Bool) → ((m : ℕ) → ((link job m).to ≡ j → ⊥) → t m ≡ false) → any into t ≡ any (links job) t
  unfolding any
  into_any t h = ap not (into_every (λ m. not (t m)) (λ m p. not_i _ (h m p)))

  -- beside copies that all end soon
  pub into_sending : Sound job → (m : ℕ) (board : Board) → Beside job m board → Sending net board into
  into_sending sound m board beside k p =
      let b : k < links job = omega (arith, into_within) in
      let soon : (e : ℕ) → InBy (result_at board.copies.node board.copies.finish board.leave (get_or net.delay k 0) e) =
      λ e. (omega (arith, beside.after e), omega (arith, i.delays k b, sound.delay_most k b, beside.leaving.soon e)) in
      record {
        room = omega (arith, sound.links_most);
        few = omega (arith, i.froms k b, sound.rise k b, sound.into k b, sound.tasks_most);
        down = linked_down (receiver job.links) net.next into i.chain.linked k p;
        soon = (soon (2 * get_or net.from k 0), soon (2 * get_or net.from k 0 + 1));
      }

  -- where all senders are among the first n tasks of a table
  module _ (n : ℕ) (board : Board) (leaving : Leaving job (2 * n) board.copies board.leave)
      (fed : (k : ℕ) → k < links job → (link job k).to ≡ j → (link job k).from < n) where
    abbrev cs : Copies
    cs = board.copies

    pub sends_is : (m : ℕ) → m < links job → (link job m).to ≡ j → sender_at net board m ≡ sends job net cs m
    sends_is m b e =
        let p = fed m b e in
        rw (i.froms m b, i.delays m b)
        (ap₂ (λ p q. record { task = (link job m).from; primary = p; backup = q; set = set_at cs (2 * (link job m).from + 1); next = get_or net.next m 0 })
        (result_is job _ cs board.leave leaving (link job m) _ (omega arith)) (result_is job _ cs board.leave leaving (link job m) _ (omega arith)))

    -- the fault set by the chain is that of the rules
    pub into_faults : (p : Copy) (group set : ℕ) → group ≡ domain job p.node → Faulted net board into p group set
        → has set ≡ fault_set job (row_of cs) j p
    unfolding fault_set carries strong row_of ◌and◌
    into_faults p group set its is_set =
        let key : ℕ → ℕ = λ m. (link job m).to in
        fun_ext λ q. is_set key j i.chain q ∙ ap₂ (λ g b. eqb g q or b) its
        (into_any _ (λ m h. and_unless _ _ (ne_eqb (key m) j h))
        ∙ any_same (links job) _ _ (λ m b. split (eqb (key m) j)
        (λ e. rw e (ap (carries_from p q) (sends_is m b (eqb-true (key m) j e))
        ∙ ap (λ s. not s and has (set_at cs (2 * (link job m).from + 1)) q) (comes_is job (link job m) _ p)))
        (λ e. rw e)))
