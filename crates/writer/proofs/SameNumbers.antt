-- Two jobs, or two plans, of the same numbers are equal.
use Prim.Native.Nat.{ℕ, zero, suc, ◌*◌, ◌≤◌, ◌<◌, min}
use native.Mathlib.Nat.{not-suc-le-zero, min-eq_left}
use native.Mathlib.Omega.{arith}
use mathlib.Core.Path.{◌≡◌, refl, sym, ap, ap₂, ◌∙◌, subst}
use mathlib.Core.List.{List, [], ◌∷◌, ◌++◌, append_assoc, append-nil}
use lib.ListN.{length, get_or, take, drop, length-append}
use lib.Seq.{take_at, drop_at}
use Rattle.reader.specs.declared.job.Node.{Node}
use Rattle.reader.specs.declared.job.Task.{Task}
use Rattle.reader.specs.declared.job.Link.{Link}
use Rattle.reader.specs.declared.job.Job.{Job}
use Rattle.reader.specs.declared.plan.Place.{Place}
use Rattle.reader.specs.declared.plan.Plan.{Plan}
use Rattle.reader.specs.Limits.{max_nodes, max_tasks, max_links}
use Rattle.reader.specs.Entries.{nodes, tasks, links, node, task, link, place}
use Rattle.reader.specs.Fields.{node_fields, task_fields, node_values, task_values, width, held}
use Rattle.reader.specs.JobFile.{node_width, task_width}
use Rattle.writer.specs.Equality.{SameJob, SamePlan}
use Rattle.writer.specs.Write.{flat, node_numbers, task_numbers, link_numbers, place_numbers, numbers_of, job_numbers, plan_numbers}
use Rattle.reader.proofs.TestLaws.{below_suc}
use Rattle.writer.proofs.HeldLaws.{held_width}

-- rows that are equal part by part
record Parts (n : ℕ) (f g : ℕ → List ℕ) (x y : List ℕ) : Type 0 where
  pub part : (i : ℕ) → i < n → f i ≡ g i
  pub rest : x ≡ y

-- two lists cut at one length
cut : (a b c d : List ℕ) → length a ≡ length c → a ++ b ≡ c ++ d → (a ≡ c) × (b ≡ d)
cut a b c d l e = (
  sym (take_at a b (length a) refl) ∙ ap (λ x. take (length a) x) e ∙ take_at c d (length a) (sym l),
  sym (drop_at a b (length a) refl) ∙ ap (λ x. drop (length a) x) e ∙ drop_at c d (length a) (sym l),
)

parts : (n m : ℕ) (f g : ℕ → List ℕ) (x y : List ℕ) → n ≡ m → ((i : ℕ) → length (f i) ≡ length (g i)) →
    flat n f ++ x ≡ flat m g ++ y → Parts n f g x y
unfolding flat
parts n m f g x y same h e = go n x y (rw (← same) at e)
  where
    go : (n : ℕ) (x y : List ℕ) → flat n f ++ x ≡ flat n g ++ y → Parts n f g x y
    go zero x y e = record { part = λ i p. absurd (not-suc-le-zero p); rest = e }
    go (suc n) x y e =
        let k = go n (f n ++ x) (g n ++ y) (simp append_assoc at e) in
        let c = cut (f n) x (g n) y (h n) k.rest in
        record { part = λ i p. below_suc i n p (k.part i) (λ q. rw q c.0); rest = c.1 }

-- rows with nothing behind them
all_parts : (n m : ℕ) (f g : ℕ → List ℕ) → n ≡ m → ((i : ℕ) → length (f i) ≡ length (g i)) →
    flat n f ≡ flat m g → (i : ℕ) → i < n → f i ≡ g i
all_parts n m f g same h e = (parts n m f g [] [] same h (append-nil _ ∙ e ∙ sym (append-nil _))).part

heads : (v w : ℕ) (vs ws : List ℕ) → v ∷ vs ≡ w ∷ ws → (v ≡ w) × (vs ≡ ws)
heads v w vs ws e = (cc, cc)

-- a link and a place are their numbers
pub link_same : (l m : Link) → link_numbers l ≡ link_numbers m → l ≡ m
unfolding link_numbers
link_same l m e = ap (λ x. record { from = get_or x 0 0; to = get_or x 1 0; delay = get_or x 2 0 }) e

pub place_same : (x y : Place) → place_numbers x ≡ place_numbers y → x ≡ y
unfolding place_numbers
place_same x y e =
    ap (λ l. record { primary_node = get_or l 0 0; primary_start = get_or l 1 0; backup_node = get_or l 2 0; backup_start = get_or l 3 0 }) e

-- how many numbers an entry has
ones : (n : ℕ) (f : ℕ → ℕ) → length (flat n (λ i. f i ∷ [])) ≡ n
unfolding flat
ones zero f = refl
ones (suc n) f = simp length-append (omega (arith, ones n f))

pub node_width_lem : (v : ℕ) (x : Node) → 4 * length (node_numbers v x) ≡ node_width v
unfolding node_numbers node_width node_fields
node_width_lem v x = held_width v (node_fields 0) (node_values x) refl

pub fields_width : (v : ℕ) (x : Task) → 4 * length (held v task_fields (task_values x)) ≡ width v task_fields
unfolding task_fields
fields_width v x = held_width v task_fields (task_values x) refl

pub task_width_lem : (v p : ℕ) (x : Task) → 4 * length (task_numbers v p x) ≡ task_width v p
unfolding task_numbers task_width
task_width_lem v p x = simp length-append (omega (arith, fields_width v x, ones p (λ i. get_or x.run i 0)))

node_length : (v w : ℕ) (a b : Node) → v ≡ w → length (node_numbers v a) ≡ length (node_numbers w b)
node_length v w a b e = let h : node_width v ≡ node_width w = ap node_width e in omega (arith, node_width_lem v a, node_width_lem w b)

task_length : (v w p q : ℕ) (a b : Task) → v ≡ w → p ≡ q → length (task_numbers v p a) ≡ length (task_numbers w q b)
task_length v w p q a b e f =
    let h : task_width v p ≡ task_width w q = ap₂ task_width e f in
    omega (arith, task_width_lem v p a, task_width_lem w q b)

-- the fields of equal tasks, and their run times
pub record SameTask (v p : ℕ) (a b : Task) : Type 0 where
  pub fields : held v task_fields (task_values a) ≡ held v task_fields (task_values b)
  pub run : (i : ℕ) → i < p → get_or a.run i 0 ≡ get_or b.run i 0

pub task_parts : (v p : ℕ) (a b : Task) → task_numbers v p a ≡ task_numbers v p b → SameTask v p a b
unfolding task_numbers
task_parts v p a b e =
    let k = cut (held v task_fields (task_values a)) _ (held v task_fields (task_values b)) _ (omega (arith, fields_width v a, fields_width v b)) e in
    record { fields = k.0; run = λ i l. (heads _ _ _ _ (all_parts p p _ _ refl (λ i. refl) k.1 i l)).0 }

pub plan_same : (a b : Plan) → a.task_count ≤ max_tasks → plan_numbers a ≡ plan_numbers b → SamePlan a b
unfolding plan_numbers place_numbers
plan_same a b m e =
    let v = heads _ _ _ _ e in
    let c = heads _ _ _ _ v.1 in
    let n : min a.task_count max_tasks ≡ min b.task_count max_tasks = ap (λ k. min k max_tasks) c.0 in
    record {
      version = v.0;
      task_count_is = c.0;
      same_place = λ j p. place_same _ _ (all_parts _ _ _ _ n (λ i. refl) c.1 j (omega arith));
    }

pub job_same : (a b : Job) → nodes a ≤ max_nodes → tasks a ≤ max_tasks → links a ≤ max_links → job_numbers a ≡ job_numbers b → SameJob a b
unfolding job_numbers numbers_of link_numbers
job_same a b hp hn hm e =
    let v = heads _ _ _ _ e in
    let c = heads _ _ _ _ v.1 in
    let p : min (nodes a) max_nodes ≡ min (nodes b) max_nodes = ap (λ k. min k max_nodes) c.0 in
    let d = parts _ _ (λ i. node_numbers a.version (node a i)) (λ i. node_numbers b.version (node b i)) _ _ p
    (λ i. node_length _ _ (node a i) (node b i) v.0) c.1 in
    let f = heads _ _ _ _ d.rest in
    let n : min (tasks a) max_tasks ≡ min (tasks b) max_tasks = ap (λ k. min k max_tasks) f.0 in
    let t = parts _ _ (λ j. task_numbers a.version (min (nodes a) max_nodes) (task a j))
    (λ j. task_numbers b.version (min (nodes b) max_nodes) (task b j)) _ _ n (λ j. task_length _ _ _ _ (task a j) (task b j) v.0 p) f.1 in
    let g = heads _ _ _ _ t.rest in
    let m : min (links a) max_links ≡ min (links b) max_links = ap (λ k. min k max_links) g.0 in
    record {
      version = v.0;
      node_count_is = c.0;
      same_node = λ i l. d.part i (omega arith) ∙ sym (ap (λ w. node_numbers w (node b i)) v.0);
      task_count_is = f.0;
      same_task = λ j l.
          subst (λ q. task_numbers a.version q (task a j) ≡ task_numbers a.version q (task b j)) (min-eq_left hp)
          (t.part j (omega arith) ∙ sym (ap₂ (λ w q. task_numbers w q (task b j)) v.0 p));
      link_count_is = g.0;
      same_link = λ k l. link_same _ _ (all_parts _ _ _ _ m (λ i. refl) g.1 k (omega arith));
    }

-- and equal jobs, or plans, have the same numbers
pub flat_same : (n : ℕ) (f g : ℕ → List ℕ) → ((i : ℕ) → i < n → f i ≡ g i) → flat n f ≡ flat n g
unfolding flat
flat_same zero f g h = refl
flat_same (suc n) f g h = ap₂ (λ x y. x ++ y) (flat_same n f g (λ i p. h i (omega arith))) (h n (omega arith))

-- the same with fewer run times
fewer : (v p q : ℕ) (a b : Task) → q ≤ p → task_numbers v p a ≡ task_numbers v p b → task_numbers v q a ≡ task_numbers v q b
unfolding task_numbers
fewer v p q a b h e =
    let k = task_parts v p a b e in
    ap₂ (λ x y. x ++ y) k.fields (flat_same q _ _ (λ i l. ap (λ x. x ∷ []) (k.run i (omega arith))))

entries_same : (a b : Job) (p n m : ℕ) → p ≤ nodes a → n ≤ tasks a → m ≤ links a → SameJob a b → numbers_of a p n m ≡ numbers_of b p n m
unfolding numbers_of
entries_same a b p n m hp hn hm e =
    let d : flat p (λ i. node_numbers a.version (node a i)) ≡ flat p (λ i. node_numbers b.version (node b i)) =
    flat_same p _ _ (λ i l. e.same_node i (omega arith) ∙ ap (λ v. node_numbers v (node b i)) e.version) in
    let t : flat n (λ j. task_numbers a.version p (task a j)) ≡ flat n (λ j. task_numbers b.version p (task b j)) =
    flat_same n _ _ (λ j l. fewer _ _ p _ _ hp (e.same_task j (omega arith)) ∙ ap (λ v. task_numbers v p (task b j)) e.version) in
    let l : flat m (λ k. link_numbers (link a k)) ≡ flat m (λ k. link_numbers (link b k)) =
    flat_same m _ _ (λ k q. ap link_numbers (e.same_link k (omega arith))) in
    ap₂ (λ x y. x ++ y) (ap₂ (λ v w. v ∷ w ∷ []) e.version e.node_count_is)
    (ap₂ (λ x y. x ++ y) d (ap₂ (λ v x. v ∷ x) e.task_count_is (ap₂ (λ x y. x ++ y) t (ap₂ (λ v x. v ∷ x) e.link_count_is l))))

pub same_job_numbers : (a b : Job) → SameJob a b → job_numbers a ≡ job_numbers b
unfolding job_numbers
same_job_numbers a b e =
    entries_same a b _ _ _ (omega arith) (omega arith) (omega arith) e
    ∙ ap (λ p. numbers_of b (min p max_nodes) (min (tasks a) max_tasks) (min (links a) max_links)) e.node_count_is
    ∙ ap₂ (λ n m. numbers_of b (min (nodes b) max_nodes) (min n max_tasks) (min m max_links)) e.task_count_is e.link_count_is

pub same_plan_numbers : (a b : Plan) → SamePlan a b → plan_numbers a ≡ plan_numbers b
unfolding plan_numbers
same_plan_numbers a b e =
    ap₂ (λ x y. x ++ y) (ap₂ (λ v w. v ∷ w ∷ []) e.version e.task_count_is)
    (flat_same _ _ _ (λ j p. ap place_numbers (e.same_place j (omega arith)))
    ∙ ap (λ n. flat (min n max_tasks) (λ j. place_numbers (place b j))) e.task_count_is)
