-- The gates of products and of sums are well made.
use Rattle.std.proofs.Common.{◌≡◌, ◌⊎◌, ◌∙◌, ap, ap₂, refl, subst, inl, inr, ℕ, zero, suc, ◌<◌, ◌≤◌, ◌+◌, ◌*◌, mul-suc, mul-le-mul_left, List, [], ◌∷◌, ◌++◌, length, length-append, None, arith}
use Rattle.std.specs.Prelude.{◌==◌}
use Rattle.std.specs.Int.{bit_at}
use Rattle.std.proofs.lemmas.List.{append_assoc, length_push}
use Rattle.lists.specs.Lists.{Has}
use Rattle.lists.specs.laws.HasLaws.{Has_cases, none_at}
use Rattle.gf_field.specs.Power.{power}
use Rattle.make_nets.specs.Plan.{Plan, begun, each, gathered, where_so, with_and, with_chain, chain_net}
use Rattle.make_nets.specs.PlanShape.{IsWellMade}
use Rattle.make_nets.proofs.OuterNets.{CanRead}
use Rattle.make_nets.proofs.EachLemmas.{each_keeps, gathered_has}
use Rattle.make_nets.proofs.ShapeLemmas.{begun_made, and_made, can_read_more, chain_made, chain_grows, chain_read}
use Rattle.make_laws.specs.Held.{net_at}
use Rattle.mult_digit.specs.DigitPlan.{Sums, products_from, summands, with_row, with_sum}
use Rattle.mult_digit.proofs.ValueLemmas.{rows_next}
use Rattle.mult_digit.specs.private.ProductNets.{product_net}
use Rattle.mult_gen.proofs.ChainLemmas.{where_few, where_has}

-- ---- lists one after the other
pub gathered_few : (n m : ℕ) (f : ℕ → List ℕ) → ((i : ℕ) → i < n → length (f i) ≤ m) → length (gathered n f) ≤ m * n
gathered_few zero m f each_few = omega arith
gathered_few (suc n) m f each_few = omega (arith, length-append (gathered n f) (f n), gathered_few n m f (λ i less. each_few i (omega arith)), each_few n (omega arith), mul-suc m n)

-- one list more after those before
pub listed_more : (f : ℕ → List ℕ) (i : ℕ) (old list new more : List ℕ) → list ≡ old ++ gathered i f → new ≡ list ++ more → more ≡ f i → new ≡ old ++ gathered (i + 1) f
listed_more f i old list new more before is here =
    let next : suc i ≡ i + 1 = omega arith in
    is
    ∙ ap₂ (λ u v. u ++ v) before here
    ∙ append_assoc old (gathered i f) (f i)
    ∙ ap (λ n. old ++ gathered n f) next

-- one step more of gates, and of sums
pub gates_more : (step : ℕ → Plan → Plan) (start old new : Plan) (i : ℕ) → old ≡ each i step start → new ≡ step i old → new ≡ each (i + 1) step start
gates_more step start old new i before is =
    let next : suc i ≡ i + 1 = omega arith in
    is ∙ ap (step i) before ∙ ap (λ n. each n step start) next

pub sums_more : (step : ℕ → Sums → Sums) (start old new : Sums) (i : ℕ) → old ≡ each i step start → new ≡ step i old → new ≡ each (i + 1) step start
sums_more step start old new i before is =
    let next : suc i ≡ i + 1 = omega arith in
    is ∙ ap (step i) before ∙ ap (λ n. each n step start) next

-- ---- the nets of a sum
module _ (n k : ℕ) (mul : ℕ → ℕ → ℕ) (x width : ℕ) (z : List ℕ) where
  -- the bits of z, and the products
  abbrev registers : ℕ → List ℕ
  registers l = gathered k (λ i. where_so (bit_at (power mul x (i + width)) l == 1) (net_at z i))

  abbrev row : ℕ → ℕ → List ℕ
  row l e = gathered k (λ j. where_so (bit_at (power mul x (e + j)) l == 1) (product_net n k e j))

  pub summands_few : (l : ℕ) → length (summands n k mul x width z l) ≤ k + k * width
  summands_few l =
      omega (
        arith,
        length-append (registers l) (gathered width (row l)),
        gathered_few k 1 (λ i. where_so (bit_at (power mul x (i + width)) l == 1) (net_at z i)) (λ i less. where_few (bit_at (power mul x (i + width)) l == 1) (net_at z i)),
        gathered_few width k (row l) (λ e within. row_few e),
      )
    where
      row_few : (e : ℕ) → length (row l e) ≤ k
      row_few e = omega (arith, gathered_few k 1 (λ j. where_so (bit_at (power mul x (e + j)) l == 1) (product_net n k e j)) (λ j less. where_few (bit_at (power mul x (e + j)) l == 1) (product_net n k e j)))

  -- each is a bit of z or a product
  pub summands_are : (l m : ℕ) → Has (summands n k mul x width z l) m → ((i : ℕ) × (i < k) × (net_at z i ≡ m)) ⊎ ((n ≤ m) × (m < n + k * width))
  summands_are l m has = elim (Has_cases (registers l) (gathered width (row l)) m has) [
    | inl held ↦
        let found = gathered_has (λ i. where_so (bit_at (power mul x (i + width)) l == 1) (net_at z i)) k m held in
        inl (found.0, found.1, where_has (bit_at (power mul x (found.0 + width)) l == 1) (net_at z found.0) m found.2)
    | inr product ↦
        let in_row = gathered_has (row l) width m product in
        let found = gathered_has (λ j. where_so (bit_at (power mul x (in_row.0 + j)) l == 1) (product_net n k in_row.0 j)) k m in_row.2 in
        inr (placed in_row.0 found.0 in_row.1 found.1 (where_has (bit_at (power mul x (in_row.0 + found.0)) l == 1) (product_net n k in_row.0 found.0) m found.2))
  ]
    where
      placed : (e j : ℕ) → e < width → j < k → product_net n k e j ≡ m → (n ≤ m) × (m < n + k * width)
      placed e j within less is =
          let room : k * suc e ≤ k * width = mul-le-mul_left k within in
          (omega (arith, is), omega (arith, is, room, mul-suc k e))

-- the bits of z, and then the products
pub summands_from : (n k k' long : ℕ) (mul : ℕ → ℕ → ℕ) (x width : ℕ) (z : List ℕ) (l : ℕ) (none held all : List ℕ) → none ≡ [] → long ≡ k → k' ≡ k
    → held ≡ none ++ gathered long (λ i. where_so (bit_at (power mul x (i + width)) l == 1) (net_at z i))
    → all ≡ held ++ gathered width (λ e. gathered k' (λ j. where_so (bit_at (power mul x (e + j)) l == 1) (product_net n k' e j)))
    → all ≡ summands n k mul x width z l
summands_from n k k' long mul x width z l none held all empty long_is k_is held_is all_is =
    all_is
    ∙ ap₂ ◌++◌
    (held_is ∙ ap₂ (λ xs m. xs ++ gathered m (λ i. where_so (bit_at (power mul x (i + width)) l == 1) (net_at z i))) empty long_is)
    (ap (λ m. gathered width (λ e. gathered m (λ j. where_so (bit_at (power mul x (e + j)) l == 1) (product_net n m e j)))) k_is)

pub summands_low : (n k : ℕ) (mul : ℕ → ℕ → ℕ) (x width : ℕ) (z : List ℕ) (l : ℕ) (all : List ℕ) → k ≤ 64 → width ≤ 64 → all ≡ summands n k mul x width z l → length all ≤ 4160
summands_low n k mul x width z l all small narrow is =
    let products : k * width ≤ k * 64 = mul-le-mul_left k narrow in
    omega (arith, ap (λ xs. length xs) is, summands_few n k mul x width z l, products)

-- one more chain needs so many nets at most
pub sum_grows : (list items : List ℕ) (old new : Sums) → list ≡ items → length items ≤ 4160 → new ≡ with_sum list old → new.plan.next ≤ old.plan.next + 4161
sum_grows list items old new same few is =
    omega (arith, ap (λ xs. length xs) same, ap (λ (s : Sums). s.plan.next) is, (chain_grows None list old.plan).1)

-- ---- well made
module _ (outer : ℕ) (sources : List ℕ) (k : ℕ) (mul : ℕ → ℕ → ℕ) (x : ℕ) (d b z : List ℕ)
    (d_reads : (e : ℕ) → e < length d → Has sources (net_at d e)) (b_reads : (j : ℕ) → j < k → Has sources (net_at b j)) (z_reads : (i : ℕ) → i < k → Has sources (net_at z i))
  where
    pub products_made : IsWellMade outer sources [] (products_from outer k d b)
    products_made = each_keeps (λ e. IsWellMade outer sources []) (with_row k d b) (begun outer) (length d) (begun_made outer sources)
        (λ e plan within made. each_keeps (λ j. IsWellMade outer sources []) (λ j. with_and None (net_at d e) (net_at b j)) plan k made
        (λ j before less is. and_made outer sources [] None (net_at d e) (net_at b j) before is tt (inl (d_reads e within)) (inl (b_reads j less))))

    -- the gates are well made, a gate may read each sum and product, and there are few
    pub record AreMade (l : ℕ) (sums : Sums) : Type 0 where
      pub made : IsWellMade outer sources [] sums.plan
      pub read : (n : ℕ) → Has sums.nets n → CanRead outer sources sums.plan n
      pub grown : outer + k * length d ≤ sums.plan.next
      pub few : sums.plan.next ≤ outer + k * length d + suc (k + k * length d) * l
      pub count : length sums.nets ≡ l

    sum_made : (l : ℕ) (sums : Sums) → AreMade l sums → AreMade (suc l) (with_sum (summands outer k mul x (length d) z l) sums)
    sum_made l sums are = record {
      made = chain_made outer sources [] None (summands outer k mul x (length d) z l) sums.plan are.made tt reads;
      read = λ n has. by n (Has_cases sums.nets (chain_net None (summands outer k mul x (length d) z l) sums.plan ∷ []) n has);
      grown = omega (arith, are.grown, grows.0);
      few = omega (arith, are.few, grows.1, summands_few outer k mul x (length d) z l, mul-suc (suc (k + k * length d)) l);
      count = omega (arith, are.count, length_push sums.nets (chain_net None (summands outer k mul x (length d) z l) sums.plan));
    }
      where
        grows : (sums.plan.next ≤ (with_chain None (summands outer k mul x (length d) z l) sums.plan).next) × ((with_chain None (summands outer k mul x (length d) z l) sums.plan).next ≤ suc (sums.plan.next + length (summands outer k mul x (length d) z l)))
        grows = chain_grows None (summands outer k mul x (length d) z l) sums.plan

        reads : (n : ℕ) → Has (summands outer k mul x (length d) z l) n → CanRead outer sources sums.plan n
        reads n has = elim (summands_are outer k mul x (length d) z l n has) [
          | inl held ↦ inl (subst (λ (m : ℕ). Has sources m) held.2 (z_reads held.0 held.1))
          | inr product ↦ inr (product.0, omega (arith, product.1, are.grown))
        ]

        by : (n : ℕ) → Has sums.nets n ⊎ Has (chain_net None (summands outer k mul x (length d) z l) sums.plan ∷ []) n → CanRead outer sources (with_chain None (summands outer k mul x (length d) z l) sums.plan) n
        by n (inl before) = can_read_more outer sources sums.plan (with_chain None (summands outer k mul x (length d) z l) sums.plan) n grows.0 (are.read n before)
        by n (inr (zero, got)) =
            let same : chain_net None (summands outer k mul x (length d) z l) sums.plan ≡ n = cc in
            subst (λ (m : ℕ). CanRead outer sources (with_chain None (summands outer k mul x (length d) z l) sums.plan) m) same (chain_read outer sources [] (summands outer k mul x (length d) z l) sums.plan are.made)
        by n (inr (suc i, got)) = absurd (cc)

    pub sums_made : (m : ℕ) → AreMade m (each m (λ l. with_sum (summands outer k mul x (length d) z l)) (record { plan = products_from outer k d b; nets = [] }))
    sums_made m = each_keeps AreMade (λ l. with_sum (summands outer k mul x (length d) z l)) (record { plan = products_from outer k d b; nets = [] }) m
        (record {
          made = products_made;
          read = λ n has. absurd (none_at n has);
          grown = omega (arith, rows_next k d b outer (length d));
          few = omega (arith, rows_next k d b outer (length d));
          count = refl;
        })
        (λ l sums less are. sum_made l sums are)
