-- One task placed: what a search asks of a copy is what the planner's rules ask of it, and what the searches give is what `place_task` gives.
use Prim.Native.Nat.{ℕ, suc, ◌+◌, ◌-◌, ◌*◌, ◌≤◌, ◌<◌, max}
use mathlib.Core.Bool.{Bool, true, false, not}
use mathlib.Core.List.{List}
use mathlib.Core.Option.{some}
use mathlib.Core.Path.{◌≡◌, refl, sym, ◌∙◌, ap, ap₂, subst}
use lib.Bits.{bit_and}
use lib.Dec.{leb, ltb, eqb}
use lib.ListN.{get_or}
use borrow.Author.Tests.{eqb-true, eq-eqb, ne_eqb, ltb-true}
use native.Mathlib.Omega.{arith}
use Rattle.reader.specs.declared.job.Job.{Job}
use Rattle.reader.specs.declared.job.Task.{Task}
use Rattle.reader.specs.declared.refusal.Refusal.TheVariants.{NoPrimary, NoBackup}
use Rattle.reader.specs.Tests.{◌and◌, ◌implies◌}
use Rattle.reader.specs.First.{every, when}
use Rattle.reader.specs.Limits.{max_nodes, max_group, max_time, max_start}
use Rattle.reader.specs.Entries.{nodes, tasks, links, link, task, run, no_node}
use Rattle.reader.specs.Sound.{Sound}
use Rattle.reader.proofs.TestLaws.{split, clash, not_i, not_e, not_true, and_yes, and_no, and_join}
use Rattle.reader.proofs.FirstLaws.{first_same, every_same}
use Rattle.rules.specs.declared.Copy.{Copy}
use Rattle.rules.specs.Copies.{copy, domain}
use Rattle.rules.specs.Rules.{Row, row, fault_set, rule_a, rule_ready, rule_b, rule_d, rule_e, rule_f, rule_g_backup}
use Rattle.rules.specs.Attempts.{◌>>=◌, ◌or_refuse◌}
use Rattle.rules.specs.Planner.{earliest, primary_keeps, primary_may, backup_keeps, place_task}
use Rattle.rules.specs.Choice.{Best, backup_keeps_beside}
use Rattle.rules.proofs.DomainLaws.{domain_below}
use Rattle.rules.proofs.EarliestLaws.{earliest_some}
use Rattle.rules.proofs.FaultSetLaws.{faults_here}
use Rattle.copies.specs.declared.table.Copies.{Copies}
use Rattle.copies.specs.Sets.{has, meets, every_group}
use Rattle.copies.specs.Table.{set_at, row_of}
use Rattle.copies.specs.Layout.{spots_of}
use Rattle.copies.specs.Clash.{free, free_of}
use Rattle.copies.specs.Gathered.{joined}
use Rattle.copies.proofs.SetLaws.{has_none, has_both, empty_set}
use Rattle.copies.proofs.ArrivalLaws.{comes_is, leb_max, backup_fed}
use Rattle.copies.proofs.LayoutLaws.{laid_filled, laid_rising}
use Rattle.copies.proofs.ClashLaws.{free_timeline, free_primary, free_backup}
use Rattle.planner.specs.declared.board.Board.{Board}
use Rattle.planner.specs.declared.inputs.Ready.{Ready}
use Rattle.planner.specs.declared.senders.Incoming.{Incoming}
use Rattle.planner.specs.declared.search.Search.{Search}
use Rattle.std.specs.Prelude.{Option as Maybe, Some, None, Ok, Err}
use Rattle.planner.specs.declared.task.Want.{Want}
use Rattle.planner.specs.Senders.{latest_input, Sending}
use Rattle.planner.specs.Search.{found_copy, try_at, best_of, free_from, node_ok, fits, primary_search, backup_search, Searched}
use Rattle.planner.specs.Inputs.{ready_on, fed_by, Given}
use Rattle.planner.specs.Faults.{Faulted}
use Rattle.planner.specs.Tasks.{primary_from, Wanted, attempted}
use Rattle.planner.proofs.PeerLaws.{peers_joined}
use Rattle.planner.proofs.SentLaws.{into_every, into_sending, sends, sends_is, into_faults}

-- searches that agree on every place that may count
gate : (a b x y : Bool) (c : Copy) → (a ≡ true → b ≡ true → x ≡ y) → when (a and b and x) c ≡ when (a and b and y) c
unfolding ◌and◌
gate true true x y c h = rw (h refl refl)
gate true false x y c h = refl
gate false b x y c h = refl

earliest_same : (job : Job) (j : ℕ) (ok good : Copy → Bool)
    → ((n s : ℕ) → n < nodes job → 0 < run job j n → ok (copy job j n s) ≡ good (copy job j n s)) → earliest job j ok ≡ earliest job j good
unfolding earliest
earliest_same job j ok good h =
    first_same _ _ _ λ t pt. first_same _ _ _ λ n pn.
    gate (ltb 0 (run job j n)) (leb (run job j n) t) _ _ _ λ a b. h n (t - run job j n) pn (ltb-true 0 (run job j n) a)

-- the best over the job's nodes is the earliest of the rules
best_earliest : (job : Job) (j : ℕ) (t : Task) (n : ℕ) → t ≡ task job j → n ≡ nodes job → (ok good : Copy → Bool)
    → ((c : Copy) → c.node < nodes job → c.start < c.finish → ok c ≡ good c)
    → best_of t.run (suc t.deadline) ok n ≡ earliest job j good
unfolding best_of try_at earliest copy
best_earliest job j t n is_t is_n ok good h =
    ap₂ (λ t n. best_of t.run (suc t.deadline) ok n) is_t is_n
    ∙ earliest_same job j ok good (λ n s pn able. h (copy job j n s) pn (omega arith))

-- what holds of a copy that a search found, and of one that a plan may have
pub record Found (job : Job) (c : Copy) : Type 0 where
  pub node : c.node < nodes job
  pub lasts : c.start < c.finish
  pub ends : c.finish ≤ max_start + max_time

pub best_found : (job : Job) (j : ℕ) (keeps : Copy → Bool) (c : Copy) → Sound job → j < tasks job → Best job j keeps c → Found job c
unfolding copy
best_found job j keeps c sound p best =
    let ends = ap (λ d. d.finish) best.is in
    record {
      node = best.place.able.node;
      lasts = omega (arith, best.place.able.runs);
      ends = omega (arith, best.place.able.ends_in_time, sound.deadline_most j p);
    }

-- a fault set has the primary's group
pub faults_own : (job : Job) (t : ℕ → Row) (j : ℕ) (p : Copy) (set : ℕ) → has set ≡ fault_set job t j p → has set (domain job p.node) ≡ true
faults_own job t j p set e = let q = domain job p.node in ap (λ f. f q) e ∙ faults_here job t j p q (eq-eqb q q refl)

-- nothing meets the empty set
meets_none : (z : ℕ) → meets z 0 ≡ false
unfolding meets ◌and◌
meets_none z = rw (empty_set (bit_and z 0) (λ n. has_both z 0 n ∙ ap (λ b. has z n and b) (has_none n) ∙ and_no (has z n)))

-- tests in another order
swap : (a b c : Bool) → ((b and a) and c) ≡ (a and b and c)
unfolding ◌and◌
swap true true c = refl
swap true false c = refl
swap false true c = refl
swap false false c = refl

five : (n a r d g u : Bool) → u ≡ (d and a and r) → (n and u and g) ≡ ((n and a) and r and d and g)
unfolding ◌and◌
five true a r d g u e = rw e (swap (a and r) d g ∙ and_join a r (d and g))
five false a r d g u e = refl

shuffle : (ra rb re rf rg x : Bool) → (rf ≡ true → ra ≡ true) → x ≡ (re and rb) → (rf and x and rg) ≡ (ra and rb and re and rf and rg)
unfolding ◌and◌
shuffle true rb re true rg x h e = rw e (swap rb re rg)
shuffle false rb re true rg x h e = clash false (h refl) refl
shuffle true true true false rg x h e = refl
shuffle true true false false rg x h e = refl
shuffle true false re false rg x h e = refl
shuffle false rb re false rg x h e = refl

module _ (net : Incoming) (board : Board) (peers : List ℕ) (want : Want) (w : Wanted net board peers want) where
  abbrev cs : Copies
  cs = board.copies

  abbrev job : Job
  job = w.job

  abbrev j : ℕ
  j = want.number

  abbrev key : ℕ → ℕ
  key m = (link job m).to

  pub want_sending : Sending net board want.into
  want_sending = into_sending job net j want.into w.into w.sound w.rows board w.beside

  -- the group of a node of the job
  want_group : (i : ℕ) → i < nodes job → (get_or want.nodes i no_node).group ≤ max_group
  want_group i p = subst (λ x. (get_or x i no_node).group ≤ max_group) (sym w.nodes_are) (w.sound.group_most i p)

  -- no clash with the entries on the copy's node, and none at all
  free_all : (m : ℕ) (c : Copy) → c.node < nodes job → free_of cs m c (spots_of board.layout.order board.layout.count c.node) ≡ free cs m c (2 * w.rows)
  unfolding free_of
  free_all m c p =
      ap (free_of cs m c) (w.beside.laid.is c.node (omega (arith, w.sound.nodes_most))) ∙ free_timeline cs m c.node (2 * w.rows) c refl

  -- either search
  abbrev searching : Ready → ℕ → ℕ → ℕ → Search
  searching ready least set barred =
      record { task = want.task; nodes = want.count; ready = ready; least = least; set = set; barred = barred }

  searched : (ready : Ready) (least set barred : ℕ) → least ≤ latest_input → ((n : ℕ) → ready_on ready n ≤ latest_input)
      → Searched board (searching ready least set barred)
  searched ready least set barred p q =
      record {
        nodes_most = omega (arith, w.count_is, w.sound.nodes_most);
        run = λ n r. subst (λ t. get_or t.run n 0 ≤ max_time) (sym w.task_is) (w.sound.run_most j n w.task_of_lem (omega (arith, w.count_is)));
        deadline = subst (λ t. t.deadline ≤ max_time) (sym w.task_is) (w.sound.deadline_most j w.task_of_lem);
        filled = λ n r. laid_filled _ _ _ _ _ w.beside.laid n r (omega (arith, w.beside.few));
        rising = λ n r. laid_rising _ _ _ _ _ w.beside.laid n r;
        ends = w.beside.soon;
        least = p;
        ready = q;
      }

  -- what it gave
  abbrev Gave : Search → Maybe Copy → Type 0
  Gave s a = found_copy a ≡ best_of s.task.run (suc s.task.deadline) (fits board s) s.nodes

  gave : (s t : Search) → s ≡ t → t.task ≡ want.task → t.nodes ≡ want.count → (keeps : Copy → Bool)
      → ((c : Copy) → c.node < nodes job → c.start < c.finish → fits board t c ≡ keeps c)
      → (a : Maybe Copy) → Gave s a → found_copy a ≡ earliest job j keeps
  gave s t e u v keeps h a g =
      subst (λ s. Gave s a) e g ∙ best_earliest job j _ _ (u ∙ w.task_is) (v ∙ w.count_is) (fits board t) keeps h

  found : (keeps : Copy → Bool) (c : Copy) → earliest job j keeps ≡ some c → Found job c
  found keeps c e = best_found job j keeps c w.sound w.task_of_lem ((earliest_some job j keeps c).0 e)

  -- the inputs of a copy of this set
  abbrev Fed : ℕ → Ready → Type 0
  Fed set r = Given net board want.into set r

  fed_is : (set : ℕ) (r : Ready) → Fed set r → (c : Copy) (t : ℕ → Bool)
      → ((m : ℕ) → m < links job → key m ≡ j → fed_by set c (sends job net cs m) ≡ t m)
      → leb (ready_on r c.node) c.start ≡ every (links job) (λ m. eqb (key m) j implies t m)
  unfolding ◌implies◌
  fed_is set r given c t h =
      given.ready key j w.into.chain c
      ∙ into_every job net j want.into w.into _ (λ m h. rw (ne_eqb (key m) j h))
      ∙ every_same (links job) _ _ (λ m b. split (eqb (key m) j)
      (λ e. let to = eqb-true (key m) j e in rw e (ap (fed_by set c)
      (sends_is job net j want.into w.into w.rows board w.beside.leaving w.fed m b to) ∙ h m b to))
      (λ e. rw e))

  -- the least start of the primary, whatever its inputs
  abbrev soonest : ℕ
  soonest = max want.least want.task.ready

  soonest_most : soonest ≤ latest_input
  soonest_most = omega (arith, w.least_most, ap (λ t. t.ready) w.task_is, w.sound.ready_most j w.task_of_lem)

  soonest_is : (c : Copy) → leb soonest c.start ≡ (leb want.least c.start and rule_ready job j c)
  unfolding rule_ready
  soonest_is c = leb_max want.least _ c.start ∙ ap (λ t. leb want.least c.start and leb t.ready c.start) w.task_is

  -- the primary's search
  module _ (fed : Ready) (given : Fed 0 fed) (s : Search) (is_s : s ≡ primary_search want.task want.count fed want.least want.shut) where
    pub primary_ready : Searched board s
    primary_ready = subst (Searched board) (sym is_s) (searched fed soonest every_group want.shut soonest_most given.most)

    abbrev may : Copy → Bool
    may = primary_may job (primary_from want.least want.shut) w.rows (row_of cs) j

    d_is : (c : Copy) → leb (ready_on fed c.node) c.start
        ≡ every (links job) (λ k. eqb (key k) j implies rule_d job (link job k) (row_of cs (link job k).from) c)
    unfolding rule_d row_of ◌implies◌
    d_is c = fed_is 0 fed given c _ (λ m b e. rw (meets_none (set_at cs (2 * (link job m).from + 1))) (and_yes _ ∙ comes_is job (link job m) _ c))

    primary_fits : (c : Copy) → c.node < nodes job → c.start < c.finish
        → fits board (primary_search want.task want.count fed want.least want.shut) c ≡ may c
    unfolding fits node_ok free_from primary_keeps primary_from
    primary_fits c p q =
        ap (λ g. not (has want.shut c.node) and leb (max (ready_on fed c.node) soonest) c.start and g)
        (free_all every_group c p ∙ free_primary job cs w.rows w.beside.held c q)
        ∙ five _ _ (rule_ready job j c) _ _ _ (leb_max _ soonest c.start ∙ ap₂ (λ d u. d and u) (d_is c) (soonest_is c))

    module _ (a : Maybe Copy) (is_a : Gave s a) where
      the_primary : found_copy a ≡ earliest job j may
      the_primary = gave s _ is_s refl refl may primary_fits a is_a

      pub no_primary : a ≡ None → attempted (Err (NoPrimary j)) ≡ place_task job (primary_from want.least want.shut) w.rows (row_of cs) j
      unfolding attempted place_task ◌>>=◌ ◌or_refuse◌
      no_primary e = rw (sym the_primary ∙ ap found_copy e)

      module _ (p : Copy) (at_p : a ≡ Some p) where
        some_primary : earliest job j may ≡ some p
        some_primary = sym the_primary ∙ ap found_copy at_p

        p_found : Found job p
        p_found = found may p some_primary

        pub primary_node : p.node < max_nodes
        primary_node = omega (arith, p_found.node, w.sound.nodes_most)

        abbrev least : ℕ
        least = p.finish + (get_or want.nodes p.node no_node).detect

        pub least_fits : least ≤ latest_input
        least_fits =
            subst (λ x. p.finish + (get_or x p.node no_node).detect ≤ latest_input) (sym w.nodes_are)
            (omega (arith, p_found.ends, w.sound.detect_most p.node p_found.node))

        -- the group of its node
        abbrev group : ℕ
        group = (get_or want.nodes p.node no_node).group

        pub group_fits : group ≤ max_group
        group_fits = want_group p.node p_found.node

        -- with this fault set
        module _ (set : ℕ) (is_set : Faulted net board want.into p group set) where
          faults : has set ≡ fault_set job (row_of cs) j p
          unfolding domain
          faults =
              into_faults job net j want.into w.into w.rows board w.beside.leaving w.fed p group set
              (ap (λ x. (get_or x p.node no_node).group) w.nodes_are) is_set

          abbrev the_row : Copy → Row
          the_row b = row job (row_of cs) j p b

          -- A follows from F
          a_from_f : (b : Copy) → rule_f job (the_row b) ≡ true → rule_a job (the_row b) ≡ true
          unfolding rule_a rule_f row
          a_from_f b h =
              not_i _ (not_true _ λ e.
              clash _ (faults_here job (row_of cs) j p (domain job b.node) e) (not_e _ h))

          b_is : (b : Copy) → leb least b.start ≡ rule_b job (the_row b)
          unfolding rule_b row
          b_is b = ap (λ x. leb (p.finish + (get_or x p.node no_node).detect) b.start) w.nodes_are

          g_is : (b : Copy) → b.node < nodes job → b.start < b.finish
              → free_of cs set b (spots_of board.layout.order board.layout.count b.node) ≡ every w.rows (λ i. rule_g_backup job (row_of cs i) (the_row b))
          unfolding row
          g_is b on q =
              free_all set b on
              ∙ free_backup job cs w.rows w.beside.held b q set _ (the_row b) refl faults (domain_below job w.sound _ p_found.node)
              (faults_own job (row_of cs) j p set faults)

          -- and the backup's search, which the nodes in `barred` are kept from
          module _ (late : Ready) (more : Fed set late) (barred : ℕ) (bars : (i : ℕ) → has barred i ≡ joined 0 set peers i)
              (t : Search) (is_t : t ≡ backup_search want.task want.count late least set barred) where
            pub backup_ready : Searched board t
            backup_ready = subst (Searched board) (sym is_t) (searched late least set barred least_fits more.most)

            f_is : (b : Copy) → b.node < nodes job → not (has barred b.node) ≡ rule_f job (the_row b)
            unfolding rule_f row domain
            f_is b on =
                ap not (bars b.node
                ∙ peers_joined _ _ peers w.peers_are set b.node (omega (arith, w.count_is)) (want_group b.node on)
                ∙ ap (λ x. has set (get_or x b.node no_node).group) w.nodes_are)
                ∙ ap (λ f. not (f (domain job b.node))) faults

            e_is : (b : Copy) → leb (ready_on late b.node) b.start
                ≡ every (links job) (λ k. eqb (key k) j implies rule_e job (link job k) (row_of cs (link job k).from) (the_row b))
            unfolding row
            e_is b = fed_is set late more b _ (λ m q e. backup_fed job cs w.rows w.beside.held set (the_row b) faults (link job m) _ (w.fed m q e))

            backup_fits : (b : Copy) → b.node < nodes job → b.start < b.finish
                → fits board (backup_search want.task want.count late least set barred) b
                ≡ backup_keeps_beside job w.rows (row_of cs) j p b
            unfolding fits node_ok free_from backup_keeps
            backup_fits b on q =
                ap₂ (λ x y. x and leb (max (ready_on late b.node) least) b.start and y) (f_is b on) (g_is b on q)
                ∙ shuffle (rule_a job (the_row b)) (rule_b job (the_row b)) _ (rule_f job (the_row b)) _ _ (a_from_f b)
                (leb_max _ _ b.start ∙ ap₂ (λ x y. x and y) (e_is b) (b_is b))

            module _ (b : Maybe Copy) (is_b : Gave t b) where
              the_backup : found_copy b ≡ earliest job j (backup_keeps_beside job w.rows (row_of cs) j p)
              the_backup = gave t _ is_t refl refl _ backup_fits b is_b

              pub no_backup : b ≡ None
                  → attempted (Err (NoBackup j)) ≡ place_task job (primary_from want.least want.shut) w.rows (row_of cs) j
              unfolding attempted place_task ◌>>=◌ ◌or_refuse◌
              no_backup e = rw (some_primary, sym the_backup ∙ ap found_copy e)

              pub both : (q : Copy) → b ≡ Some q → attempted (Ok (record { primary = p; backup = q; set = set }))
                  ≡ place_task job (primary_from want.least want.shut) w.rows (row_of cs) j
              unfolding attempted place_task row ◌>>=◌ ◌or_refuse◌
              both q e = rw (some_primary, sym the_backup ∙ ap found_copy e, faults)
