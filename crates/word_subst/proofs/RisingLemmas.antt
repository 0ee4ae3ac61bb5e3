-- Rising ranks.
use Rattle.std.proofs.Common.{◌≡◌, ◌∙◌, refl, ℕ, zero, suc, ◌<◌, ◌≤◌, ◌+◌, ◌-◌, List, [], ◌∷◌, length, take, drop, arith, take_all}
use Rattle.std.specs.declared.cmp.Ordering.TheVariants.{Less}
use Rattle.std.specs.Ordering.{nat_cmp}
use Rattle.std.specs.List.Sorted.{IsStrictlySortedBy}
use Rattle.lists.specs.Lists.{Has}
use Rattle.lists.specs.laws.HasLaws.{all_in}
use Rattle.poly_mixed.proofs.RankLemmas.{from_less}

pub drop_rises : (n : ℕ) (rs : List ℕ) → IsStrictlySortedBy nat_cmp rs → IsStrictlySortedBy nat_cmp (drop n rs)
unfolding IsStrictlySortedBy
drop_rises zero rs up = up
drop_rises (suc n) [] up = tt
drop_rises (suc n) (r ∷ rs) up = drop_rises n rs up.1

-- the rest of a list, as a slice from a place on
pub rest_is : {X : Type 0} (n : ℕ) (rs : List X) → take (length rs - n) (drop n rs) ≡ drop n rs
rest_is n rs = take_all (length rs - n) (drop n rs) (omega (arith, long n rs))
  where
    long : {X : Type 0} (m : ℕ) (xs : List X) → length xs - m ≡ length (drop m xs)
    long zero xs = omega arith
    long (suc m) [] = omega arith
    long (suc m) (x ∷ xs) = let e : suc (length xs) - suc m ≡ length xs - m = omega arith in e ∙ long m xs

-- rising ranks from a on and below b are no more than these numbers
pub few_between : (a b : ℕ) (rs : List ℕ) → a ≤ b → IsStrictlySortedBy nat_cmp rs → ((r : ℕ) → Has rs r → (a ≤ r) × (r < b)) → length rs + a ≤ b
unfolding IsStrictlySortedBy
few_between a b [] less up inside = omega arith
few_between a b (r ∷ rs) less up inside =
    let first = inside r (0, refl) in
    let rest : length rs + suc r ≤ b = few_between (suc r) b rs (omega (arith, first.1)) up.1 (λ x has. (from_less r x (all_in (λ y. nat_cmp r y ≡ Less) rs x up.0 has), (inside x (suc has.0, has.1)).1)) in
    omega (arith, rest, first.0)
