-- The level of a product is the greater of those of its factors.
use Rattle.std.proofs.Common.{ℕ, ◌≤◌, ◌==◌, true, false, cond, nat_lt, List, [], ◌∷◌, ◌++◌, arith}
use Rattle.std.specs.List.{AllByRecursion}
use Rattle.lists.specs.laws.ListLaws.{all_append}
use Rattle.poly_mixed.specs.Product.{with_rank, union}
use Rattle.rato_reduce.specs.private.Buckets.{level_at, AreUpTo}
use Rattle.rato_reduce.specs.private.CutKey.{place_at}

pub up_to_more : (places : List ℕ) (low high : ℕ) (rs : List ℕ) → AreUpTo places low rs → low ≤ high → AreUpTo places high rs
up_to_more places low high [] all less = tt
up_to_more places low high (r ∷ rs) all less = ((let one : level_at places r ≤ low = all.0 in omega (arith, one, less)), up_to_more places low high rs all.1 less)

up_to_with : (places : List ℕ) (level rank : ℕ) (rs : List ℕ) → AreUpTo places level rs → level_at places rank ≤ level → AreUpTo places level (with_rank rs rank)
up_to_with places level rank [] all one = (one, tt)
up_to_with places level rank (r ∷ rs) all one =
    elim (nat_lt rank r) as (λ b. AreUpTo places level (cond b (rank ∷ r ∷ rs) (cond (rank == r) (r ∷ rs) (r ∷ with_rank rs rank)))) [
      | true ↦ (one, all)
      | false ↦ elim (rank == r) as (λ b. AreUpTo places level (cond b (r ∷ rs) (r ∷ with_rank rs rank))) [
        | true ↦ all
        | false ↦ (all.0, up_to_with places level rank rs all.1 one)
      ]
    ]

pub up_to_both : (places : List ℕ) (level : ℕ) (xs rs : List ℕ) → AreUpTo places level xs → AreUpTo places level rs → AreUpTo places level (union xs rs)
up_to_both places level xs [] all more = all
up_to_both places level xs (r ∷ rs) all more = up_to_both places level (with_rank xs r) rs (up_to_with places level r xs all more.0) more.1

pub up_to_union : (places : List ℕ) (one other greater : ℕ) (xs rs : List ℕ) → AreUpTo places one xs → AreUpTo places other rs → one ≤ greater → other ≤ greater → AreUpTo places greater (union xs rs)
up_to_union places one other greater xs rs all more low high = up_to_both places greater xs rs (up_to_more places one greater xs all low) (up_to_more places other greater rs more high)

pub up_to_append : (places : List ℕ) (one other greater : ℕ) (xs ys : List ℕ) → AreUpTo places one xs → AreUpTo places other ys → one ≤ greater → other ≤ greater → AreUpTo places greater (xs ++ ys)
up_to_append places one other greater xs ys all more low high = all_append (λ r. level_at places r ≤ greater) xs ys (up_to_more places one greater xs all low) (up_to_more places other greater ys more high)

-- places that are not before one are not before an earlier one
pub all_behind : (places : List ℕ) (low high : ℕ) (rs : List ℕ) → low ≤ high → AllByRecursion (λ r. high ≤ place_at places r) rs → AllByRecursion (λ r. low ≤ place_at places r) rs
all_behind places low high [] less all = tt
all_behind places low high (r ∷ rs) less all = ((let one : high ≤ place_at places r = all.0 in omega (arith, one, less)), all_behind places low high rs less all.1)
