-- The gates of products and of their sum are well made.
use Rattle.std.proofs.Common.{◌≡◌, ◌⊎◌, ◌∙◌, ap, subst, inl, inr, ℕ, zero, suc, ◌<◌, ◌≤◌, ◌+◌, ◌*◌, mul-suc, ◌^◌, Bool, true, false, List, [], ◌∷◌, length, None, arith}
use Rattle.std.proofs.lemmas.List.{length_push}
use Rattle.lists.specs.Lists.{Has}
use Rattle.lists.specs.laws.HasLaws.{Has_cases, none_at}
use Rattle.make_nets.specs.Plan.{begun, each}
use Rattle.make_nets.specs.PlanShape.{IsWellMade}
use Rattle.make_nets.proofs.OuterNets.{CanRead}
use Rattle.make_nets.proofs.EachLemmas.{each_keeps}
use Rattle.make_nets.specs.ShortPlan.{ReadTwo}
use Rattle.make_nets.proofs.TwoLemmas.{and_two, begun_two, chain_two}
use Rattle.make_nets.proofs.ShapeLemmas.{begun_made, and_made, can_read_more, chain_made, chain_read}
use Rattle.make_laws.specs.Held.{net_at}
use Rattle.mult_normal.specs.NormalPlan.{Products, products_from, sum_net, summed, with_product, with_row}

-- there are no more than so many products, each on an inner net
pub record AreFew (n m : ℕ) (products : Products) : Type 0 where
  pub nets : length products.nets ≤ m
  pub next : products.plan.next ≤ n + m

-- there is room for a chain of so few
pub room_for_sum : (n m : ℕ) (s : Products) → n ≤ 1024 → m ≤ 4096 → AreFew n m s → s.plan.next + (length s.nets + 1) < 2 ^ 32
room_for_sum n m s low small few = omega (arith, few.nets, few.next)

-- one step more
pub products_more : (step : ℕ → Products → Products) (i : ℕ) (start old new : Products) → old ≡ each i step start → new ≡ step i old → new ≡ each (i + 1) step start
products_more step i start old new before is =
    let next : suc i ≡ i + 1 = omega arith in
    is ∙ ap (step i) before ∙ ap (λ n. each n step start) next

-- a product is one gate at most
pub product_grows : (counts : Bool) (a b : ℕ) (old new : Products) → new ≡ with_product counts a b old → new.plan.next ≤ old.plan.next + 1
product_grows false a b old new is = omega (arith, ap (λ (s : Products). s.plan.next) is)
product_grows true a b old new is = omega (arith, ap (λ (s : Products). s.plan.next) is)

few_more : (n m : ℕ) (counts : Bool) (a b : ℕ) (s : Products) → AreFew n m s → AreFew n (suc m) (with_product counts a b s)
few_more n m false a b s few = record { nets = omega (arith, few.nets); next = omega (arith, few.next) }
few_more n m true a b s few = record { nets = omega (arith, few.nets, length_push s.nets s.plan.next); next = omega (arith, few.next) }

few_same : (n m q : ℕ) (s : Products) → m ≡ q → AreFew n m s → AreFew n q s
few_same n m q s same few = subst (λ (i : ℕ). AreFew n i s) same few

module _ (k : ℕ) (counts : ℕ → ℕ → Bool) (a b : List ℕ) where
  pub row_few : (n m i j : ℕ) (s : Products) → AreFew n m s → AreFew n (m + j) (each j (λ j. with_product (counts i j) (net_at a i) (net_at b j)) s)
  row_few n m i zero s few = few_same n m (m + 0) s (omega arith) few
  row_few n m i (suc j) s few =
      few_same n (suc (m + j)) (m + suc j) (each (suc j) (λ j. with_product (counts i j) (net_at a i) (net_at b j)) s) (omega arith)
      (few_more n (m + j) (counts i j) (net_at a i) (net_at b j) (each j (λ j. with_product (counts i j) (net_at a i) (net_at b j)) s) (row_few n m i j s few))

  pub rows_few : (n i : ℕ) → AreFew n (k * i) (each i (with_row k counts a b) (record { plan = begun n; nets = [] }))
  rows_few n zero = record { nets = omega arith; next = omega arith }
  rows_few n (suc i) =
      few_same n (k * i + k) (k * suc i) (each (suc i) (with_row k counts a b) (record { plan = begun n; nets = [] })) (omega (arith, mul-suc k i))
      (row_few n (k * i) i k (each i (with_row k counts a b) (record { plan = begun n; nets = [] })) (rows_few n i))

-- ---- gates of at most two inputs

product_two : (counts : Bool) (a b : ℕ) (s : Products) → ReadTwo s.plan → ReadTwo (with_product counts a b s).plan
product_two false a b s two = two
product_two true a b s two = and_two None a b s.plan two

pub sum_two : (k : ℕ) (counts : ℕ → ℕ → Bool) (a b : List ℕ) (n : ℕ) → ReadTwo (summed (products_from n k counts a b))
sum_two k counts a b n =
    chain_two None (products_from n k counts a b).nets (products_from n k counts a b).plan
    (each_keeps (λ i (s : Products). ReadTwo s.plan) (with_row k counts a b) (record { plan = begun n; nets = [] }) k (begun_two n)
    (λ i s less two. each_keeps (λ j (r : Products). ReadTwo r.plan) (λ j. with_product (counts i j) (net_at a i) (net_at b j)) s k two
    (λ j r below kept. product_two (counts i j) (net_at a i) (net_at b j) r kept)))

module _ (outer : ℕ) (sources : List ℕ) where
  -- the gates are well made, and a gate may read each product
  pub record AreMade (products : Products) : Type 0 where
    pub made : IsWellMade outer sources [] products.plan
    pub read : (n : ℕ) → Has products.nets n → CanRead outer sources products.plan n

  product_made : (counts : Bool) (a b : ℕ) (s : Products) → Has sources a → Has sources b → AreMade s → AreMade (with_product counts a b s)
  product_made false a b s first second are = are
  product_made true a b s first second are = record {
    made = and_made outer sources [] None a b s.plan are.made tt (inl first) (inl second);
    read = λ n has. by n (Has_cases s.nets (s.plan.next ∷ []) n has);
  }
    where
      by : (n : ℕ) → Has s.nets n ⊎ Has (s.plan.next ∷ []) n → CanRead outer sources (with_product true a b s).plan n
      by n (inl before) = can_read_more outer sources s.plan (with_product true a b s).plan n (omega arith) (are.read n before)
      by n (inr (zero, got)) =
          let same : s.plan.next ≡ n = cc in
          inr (omega (arith, are.made.from, same), omega (arith, same))
      by n (inr (suc i, got)) = absurd (cc)

  module _ (k : ℕ) (counts : ℕ → ℕ → Bool) (a b : List ℕ) (a_reads : (i : ℕ) → i < k → Has sources (net_at a i)) (b_reads : (i : ℕ) → i < k → Has sources (net_at b i)) where
    row_made : (i : ℕ) (s : Products) → i < k → AreMade s → AreMade (with_row k counts a b i s)
    row_made i s less are = each_keeps (λ j. AreMade) (λ j. with_product (counts i j) (net_at a i) (net_at b j)) s k are (λ j r below made. product_made (counts i j) (net_at a i) (net_at b j) r (a_reads i less) (b_reads j below) made)

    products_made : AreMade (products_from outer k counts a b)
    products_made = each_keeps (λ i. AreMade) (with_row k counts a b) (record { plan = begun outer; nets = [] }) k
        (record { made = begun_made outer sources; read = λ n has. absurd (none_at n has) })
        (λ i s less made. row_made i s less made)

    pub sum_made : IsWellMade outer sources [] (summed (products_from outer k counts a b))
    sum_made = chain_made outer sources [] None (products_from outer k counts a b).nets (products_from outer k counts a b).plan products_made.made tt products_made.read

    pub sum_read : CanRead outer sources (summed (products_from outer k counts a b)) (sum_net (products_from outer k counts a b))
    sum_read = chain_read outer sources [] (products_from outer k counts a b).nets (products_from outer k counts a b).plan products_made.made
