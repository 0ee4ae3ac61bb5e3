-- The gates of the multiplier read what is driven before, and drive each net once.
use Rattle.std.proofs.Math.Nat.{suc-mul, zero-mul}
use Rattle.std.proofs.Common.{◌≡◌, ℕ, zero, suc, refl, sym, ◌∙◌, ap₂, ◌<◌, ◌≤◌, ◌+◌, ◌*◌, ◌-◌, ◌/◌, ◌%◌, inl, inr, arith, List, [], ◌∷◌, ◌++◌, length, length-append, Bool, true, false, None, Some, subst, take}
use Rattle.std.specs.Prelude.{slice_index, ◌==◌}
use Rattle.std.proofs.lemmas.Nat.{div_below, mod_below}
use Rattle.lists.specs.Lists.{Has}
use Rattle.lists.specs.laws.ReadLaws.{got_at}
use Rattle.make_laws.specs.TowerProduct.{adds_to, factor_bit}
use Rattle.make_laws.proofs.PairLemmas.{adds_cases}
use Rattle.make_nets.specs.Plan.{Plan, begun, with_chain, chain_net, gathered, where_so}
use Rattle.make_nets.specs.PlanShape.{IsWellMade}
use Rattle.make_nets.proofs.OuterNets.{CanRead}
use Rattle.make_nets.proofs.EachLemmas.{each_keeps, gathered_has}
use Rattle.make_nets.proofs.ShapeLemmas.{begun_made, chain_made, chain_grows}
use Rattle.make_nets.specs.Row.{Row, begun_row, with_nets}
use Rattle.make_nets.proofs.RowShapeLemmas.{AreReadable, IsMadeRow, IsMadeOutput, readable_at, readable_more, readable_none, readable_append, row_made, chain_step, outputs_made}
use Rattle.mult_composite.specs.Composite.{coefficient_product, all_products, added_pairs, pair_sums, added_sums, reduced_sums, composite_plan, coefficient_nets}
use Rattle.mult_composite.proofs.PlaceLemmas.{place_below, pair_place, sum_place, high_place}
use Rattle.mult_gen.specs.Chains.{added_products, products as bit_products}
use Rattle.mult_gen.proofs.ChainLemmas.{index_has}
use Rattle.mult_gen.proofs.MastrovitoLemmas.{added_few, added_has}
use Rattle.mult_gen.proofs.ProductLemmas.{products_made, rows_next}
use Rattle.mult_composite.proofs.ListLemmas.{coefficient_net}

-- what a choice has
pub where_has : (so : Bool) (n x : ℕ) → Has (where_so so n) x → (so ≡ true) × (x ≡ n)
where_has true n x (zero, got) = let same : Some n ≡ Some x = got in (refl, cc)
where_has true n x (suc k, got) = let none : None ≡ Some x = got in absurd (cc)
where_has false n x (k, got) = let none : None ≡ Some x = got in absurd (cc)

-- lists of at most one net each
pub gathered_few : (n : ℕ) (so : ℕ → Bool) (net : ℕ → ℕ) → length (gathered n (λ q. where_so (so q) (net q))) ≤ n
gathered_few zero so net = omega arith
gathered_few (suc n) so net = omega (arith, length-append (gathered n (λ q. where_so (so q) (net q))) (where_so (so n) (net n)), gathered_few n so net, one (so n))
  where
    one : (t : Bool) → length (where_so t (net n)) ≤ 1
    one true = omega arith
    one false = omega arith

module _ (outer : ℕ) (sources : List ℕ) (n g m : ℕ) (some_n : 1 ≤ n) (some_m : 2 ≤ m) (a b : List ℕ) (long_a : length a ≡ n * m) (long_b : length b ≡ n * m) (in_a : (net : ℕ) → Has a net → Has sources net) (in_b : (net : ℕ) → Has b net → Has sources net) where
  -- nets of a list that are chosen may be read where each of them may
  gathered_reads : (k : ℕ) (so : ℕ → Bool) (net : ℕ → ℕ) (plan : Plan) → ((q : ℕ) → q < k → so q ≡ true → CanRead outer sources plan (net q)) → AreReadable outer sources (gathered k (λ q. where_so (so q) (net q))) plan
  gathered_reads k so net plan reads x has =
      let found = gathered_has (λ q. where_so (so q) (net q)) k x has in
      let chosen = where_has (so found.0) (net found.0) x found.2 in
      let P : ℕ → Type 0 = λ y. CanRead outer sources plan y in
      subst P (sym chosen.1) (reads found.0 found.1 chosen.0)

  source_has : (nets : List ℕ) (i l : ℕ) → length nets ≡ n * m → ((net : ℕ) → Has nets net → Has sources net) → i < m → l < n → Has sources (slice_index (coefficient_nets n nets i) l)
  source_has nets i l long inside hi hl =
      let P : ℕ → Type 0 = λ net. Has sources net in
      subst P (sym (coefficient_net n m nets i l hl)) (inside (slice_index nets (n * i + l)) (index_has nets (n * i + l) (omega (arith, place_below n m i l hi hl, long))))

  bit_products_made : (i j : ℕ) (plan : Plan) → i < m → j < m → IsWellMade outer sources [] plan → IsWellMade outer sources [] (bit_products n (coefficient_nets n a i) (coefficient_nets n b j) plan) × ((bit_products n (coefficient_nets n a i) (coefficient_nets n b j) plan).next ≡ plan.next + n * n)
  bit_products_made i j plan hi hj made = (
    products_made outer sources [] n (coefficient_nets n a i) (coefficient_nets n b j) plan made (λ l less. source_has a i l long_a in_a hi less) (λ l less. source_has b j l long_b in_b hj less),
    rows_next n n (coefficient_nets n a i) (coefficient_nets n b j) plan,
  )

  -- how many inner nets the product of two coefficients makes at most
  abbrev pub product_most : ℕ
  product_most = n * n + n * (n * n + 1)

  product_made : (i j : ℕ) (plan : Plan) → i < m → j < m → IsWellMade outer sources [] plan → IsMadeRow outer sources plan.next product_most n (coefficient_product n g a b i j plan)
  product_made i j plan hi hj made =
      let start = bit_products n (coefficient_nets n a i) (coefficient_nets n b j) plan in
      let before = bit_products_made i j plan hi hj made in
      let row = row_made outer sources (λ l. with_chain None (added_products n g plan.next l)) (λ l so_far. chain_net None (added_products n g plan.next l) so_far) (n * n + 1) n start before.0
      (λ l p less low made_p. chain_step outer sources (n * n) (added_products n g plan.next l) p made_p
      (λ x has. let place = added_has n g plan.next l x has in inr (omega (arith, made.from, place.0), omega (arith, place.1, low, before.1)))
      (added_few n g plan.next l)) in
      record {
        made = row.made;
        reads = row.reads;
        long = row.long;
        low = omega (arith, row.low, before.1);
        high = omega (arith, row.high, before.1);
      }

  all_made : (plan : Plan) → IsWellMade outer sources [] plan → IsMadeRow outer sources plan.next (m * m * product_most) (m * m * n) (all_products n g m a b plan)
  all_made plan made =
      each_keeps (λ q row. IsMadeRow outer sources plan.next (q * product_most) (q * n) row) (λ q row. with_nets row.nets (coefficient_product n g a b (q / m) (q % m) row.plan)) (begun_row plan) (m * m)
      (record { made = made; reads = readable_none outer sources plan; long = sym (zero-mul n); low = omega arith; high = omega arith })
      (λ q row less is. more q row is (product_made (q / m) (q % m) row.plan (div_below q m m (omega (arith, some_m)) less) (mod_below q m (omega (arith, some_m))) is.made))
    where
      more : (q : ℕ) (row : Row) → IsMadeRow outer sources plan.next (q * product_most) (q * n) row → IsMadeRow outer sources row.plan.next product_most n (coefficient_product n g a b (q / m) (q % m) row.plan) → IsMadeRow outer sources plan.next (suc q * product_most) (suc q * n) (with_nets row.nets (coefficient_product n g a b (q / m) (q % m) row.plan))
      more q row before here =
          let one = coefficient_product n g a b (q / m) (q % m) row.plan in
          record {
            made = here.made;
            reads = readable_append outer sources row.nets one.nets one.plan (readable_more outer sources row.nets row.plan one.plan here.low before.reads) here.reads;
            long = length-append row.nets one.nets ∙ ap₂ (λ u v. u + v) before.long here.long ∙ sym (suc-mul q n);
            low = omega (arith, before.low, here.low);
            high = omega (arith, before.high, here.high, suc-mul q product_most);
          }

  sums_made : (start most : ℕ) (products : Row) → IsMadeRow outer sources start most (m * m * n) products → IsMadeRow outer sources start (most + (2 * m - 1) * n * (m + 1)) ((2 * m - 1) * n) (pair_sums n m products)
  sums_made start most products is =
      let row = row_made outer sources (λ p. with_chain None (added_pairs n m products.nets (p / n) (p % n))) (λ p so_far. chain_net None (added_pairs n m products.nets (p / n) (p % n)) so_far) (m + 1) ((2 * m - 1) * n) products.plan is.made
      (λ p plan less low made. chain_step outer sources m (added_pairs n m products.nets (p / n) (p % n)) plan made
      (gathered_reads m (λ i. adds_to m (p / n) i) (λ i. slice_index products.nets ((i * m + (p / n - i)) * n + p % n)) plan (λ i less_i so. read plan (p / n) (p % n) i (mod_below p n some_n) low less_i so))
      (gathered_few m (λ i. adds_to m (p / n) i) (λ i. slice_index products.nets ((i * m + (p / n - i)) * n + p % n)))) in
      record {
        made = row.made;
        reads = row.reads;
        long = row.long;
        low = omega (arith, row.low, is.low);
        high = omega (arith, row.high, is.high);
      }
    where
      read : (plan : Plan) (d l i : ℕ) → l < n → products.plan.next ≤ plan.next → i < m → adds_to m d i ≡ true → CanRead outer sources plan (slice_index products.nets ((i * m + (d - i)) * n + l))
      read plan d l i hl low less so = elim (adds_cases m d i) [
        | inl in_sum ↦
            let second : d - i < m = omega (arith, in_sum.1, in_sum.2) in
            readable_at outer sources products.nets plan ((i * m + (d - i)) * n + l) (readable_more outer sources products.nets products.plan plan low is.reads) (omega (arith, pair_place n m i (d - i) l less second hl, is.long))
        | inr out ↦ let clash : false ≡ true = sym out.0 ∙ so in absurd (cc)
      ]

  reduced_made : (t start most : ℕ) (z : List ℕ) (sums : Row) → length z ≡ m * n → ((net : ℕ) → Has z net → net < outer) → IsMadeRow outer sources start most ((2 * m - 1) * n) sums → IsMadeOutput outer sources start (most + m * n * ((m - 1) * n + 2)) z (reduced_sums n g m t z sums)
  reduced_made t start most z sums long_z below is =
      let out = outputs_made outer sources (λ p. with_chain (Some (slice_index z p)) (added_sums n g m t sums.nets (p / n) (p % n))) z ((m - 1) * n + 2) (m * n) sums.plan long_z is.made
      (λ q p less low made. step q p less low made) in
      record { made = out.made; low = omega (arith, out.low, is.low); high = omega (arith, out.high, is.high) }
    where
      step : (q : ℕ) (p : Plan) → q < m * n → sums.plan.next ≤ p.next → IsWellMade outer sources (take q z) p → IsMadeOutput outer sources p.next ((m - 1) * n + 2) (take q z ++ slice_index z q ∷ []) (with_chain (Some (slice_index z q)) (added_sums n g m t sums.nets (q / n) (q % n)) p)
      step q p less low made =
          let list : List ℕ = added_sums n g m t sums.nets (q / n) (q % n) in
          let here : AreReadable outer sources sums.nets p = readable_more outer sources sums.nets sums.plan p low is.reads in
          let coefficient : q / n < m = div_below q n m some_n less in
          let first : CanRead outer sources p (slice_index sums.nets (q / n * n + q % n)) = readable_at outer sources sums.nets p (q / n * n + q % n) here (omega (arith, sum_place n (2 * m - 1) (q / n) (q % n) (omega (arith, coefficient, some_m)) (mod_below q n some_n), is.long)) in
          let others = gathered_reads ((m - 1) * n) (λ s. factor_bit n g m t (m + s / n) (q / n) (s % n) (q % n) == 1) (λ s. slice_index sums.nets (m * n + s)) p (λ s small so. readable_at outer sources sums.nets p (m * n + s) here (omega (arith, high_place n m s some_m small, is.long))) in
          let few = gathered_few ((m - 1) * n) (λ s. factor_bit n g m t (m + s / n) (q / n) (s % n) (q % n) == 1) (λ s. slice_index sums.nets (m * n + s)) in
          let target : slice_index z q < outer = below (slice_index z q) (q, got_at z q (slice_index z q) 0 (omega (arith, less, long_z)) refl) in
          let grows = chain_grows (Some (slice_index z q)) list p in
          record {
            made = chain_made outer sources (take q z) (Some (slice_index z q)) list p made target (λ x has. reads (slice_index sums.nets (q / n * n + q % n)) (gathered ((m - 1) * n) (λ s. where_so (factor_bit n g m t (m + s / n) (q / n) (s % n) (q % n) == 1) (slice_index sums.nets (m * n + s)))) first others x has);
            low = grows.0;
            high = omega (arith, grows.1, few);
          }
        where
          reads : (first : ℕ) (rest : List ℕ) → CanRead outer sources p first → AreReadable outer sources rest p → AreReadable outer sources (first ∷ rest) p
          reads first rest one others x (zero, got) = let same : Some first ≡ Some x = got in let P : ℕ → Type 0 = λ y. CanRead outer sources p y in let e : first ≡ x = cc in subst P e one
          reads first rest one others x (suc k, got) = others x (k, got)

  -- the whole plan, and how many inner nets there are at most
  abbrev pub composite_most : ℕ
  composite_most = m * m * product_most + (2 * m - 1) * n * (m + 1) + m * n * ((m - 1) * n + 2)

  pub composite_made : (t : ℕ) (z : List ℕ) → length z ≡ m * n → ((net : ℕ) → Has z net → net < outer) → IsMadeOutput outer sources outer composite_most z (composite_plan outer n g m t a b z)
  composite_made t z long_z below =
      let products : Row = all_products n g m a b (begun outer) in
      reduced_made t outer (m * m * product_most + (2 * m - 1) * n * (m + 1)) z (pair_sums n m products) long_z below (sums_made outer (m * m * product_most) products (all_made (begun outer) (begun_made outer sources)))
