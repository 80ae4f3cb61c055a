-- What links of a description that are not at fault say: their numbers are within their limits, and they lie within the file; and the other way round.
use Prim.Native.Nat.{ℕ, ◌+◌, ◌-◌, ◌*◌, ◌≤◌, ◌<◌}
use native.Mathlib.Omega.{arith}
use mathlib.Core.Path.{◌≡◌}
use mathlib.Core.Bool.{true}
use mathlib.Core.List.{List}
use mathlib.Core.Option.{none}
use lib.ListN.{length}
use Rattle.reader.specs.declared.job.Link.{Link}
use Rattle.reader.specs.declared.refusal.Refusal.TheVariants.{Count, Value}
use Rattle.reader.specs.Limits.{max_links, max_time}
use Rattle.reader.specs.Number.{number_at}
use Rattle.reader.specs.Sound.{below}
use Rattle.asking.specs.DescriptionFile.{new_link_at, new_link_fault, new_link_before, new_links_fault}
use Rattle.reader.proofs.FirstLaws.{or_else_l, or_else_r, or_else_i, unless_none, none_unless, none_first, first_none}
use Rattle.reader.proofs.FieldLaws.{Good, field_good, good_field}
use Rattle.reader.proofs.Accepted.{rows_room}

module _ (s : List ℕ) where
  pub record GoodNewLink (at n : ℕ) (before : Link) : Type 0 where
    pub from : Good s at 0 (n - 1)
    pub delay : Good s (at + 4) 0 max_time
    pub order : below before (new_link_at s at n) ≡ true

  module _ (at n : ℕ) (before : Link) where
    pub new_link_good : new_link_fault s at n before ≡ none → GoodNewLink at n before
    unfolding new_link_fault
    new_link_good e =
        let behind = or_else_r _ _ e in
        record {
          from = field_good s at 0 (n - 1) (Value at) (or_else_l _ _ e);
          delay = field_good s (at + 4) 0 max_time (Value (at + 4)) (or_else_l _ _ behind);
          order = unless_none _ _ (or_else_r _ _ behind);
        }

    pub good_new_link : GoodNewLink at n before → new_link_fault s at n before ≡ none
    unfolding new_link_fault
    good_new_link g =
        or_else_i _ _ (good_field s _ _ _ _ g.from) (or_else_i _ _ (good_field s _ _ _ _ g.delay) (none_unless _ _ g.order))

  pub record GoodNewLinks (at n : ℕ) : Type 0 where
    pub count : Good s at 0 max_links
    pub link : (k : ℕ) → k < number_at s at → GoodNewLink (at + 4 + 8 * k) n (new_link_before s (at + 4) n k)
    pub room : at + 4 + 8 * number_at s at ≤ length s

  module _ (at n : ℕ) where
    pub new_links_good : new_links_fault s at n ≡ none → GoodNewLinks at n
    unfolding new_links_fault
    new_links_good e =
        let count = field_good s at 0 max_links (Count at) (or_else_l _ _ e) in
        let each = none_first (number_at s at) _ (or_else_r _ _ e) in
        let room = rows_room (at + 4) 8 (number_at s at) (length s) count.room (λ k l _. omega (arith, (new_link_good _ n _ (each k l)).delay.room)) in
        record { count = count; link = λ k l. new_link_good _ n _ (each k l); room = omega arith }

    pub good_new_links : GoodNewLinks at n → new_links_fault s at n ≡ none
    unfolding new_links_fault
    good_new_links g = or_else_i _ _ (good_field s _ _ _ _ g.count) (first_none _ _ (λ k l. good_new_link _ n _ (g.link k l)))
