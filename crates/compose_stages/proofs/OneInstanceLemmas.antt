-- Of the stages of instances one is first over a bound at most: each has one size, and of two one comes before the other.
use Rattle.std.proofs.Common.{◌≡◌, ◌∙◌, sym, subst, inl, inr, ◌⊎◌, ℕ, ◌-◌, List, map, Some, arith}
use Rattle.std.specs.Prelude.{slice_get, slice_index}
use Rattle.std.proofs.lemmas.Bool.{cases_lt, cases_order}
use Rattle.net_core.specs.Order.{IsBefore}
use Rattle.gf_field.specs.Field.{HasNoZeroDivisors}
use Rattle.gf_field.specs.Ring.{IsRing}
use Rattle.poly_mixed.specs.Polynomial.{Terms}
use Rattle.poly_mixed.specs.declared.stage.Stage.{Stage}
use Rattle.poly_mixed.specs.declared.stage.Stage.TheVariants.{Cut, WordProduct, WordSum, SpecProduct, SpecSum, InstanceProduct, InstanceSum}
use Rattle.stage_model.proofs.ListingLemmas.{one_over, over_not_all, HaveOneSize, IsOrdered}
use Rattle.stage_model.proofs.SizeLemmas.{same_size, IsFunction}
use Rattle.term_expand.specs.Sums.{SumOfProducts}
use Rattle.compose_polys.specs.Instance.{block_terms}
use Rattle.compose_polys.specs.InstanceListing.{instance_stage_of, is_earlier_instance_stage, is_instance_stage}
use Rattle.compose_polys.proofs.StageLemmas.{only_stage}
use Rattle.compose_model.specs.Given.{IsGiven}
use Rattle.compose_model.specs.Hierarchy.{Hierarchy}
use Rattle.compose_model.specs.Values.{feed_value}
use Rattle.compose_model.specs.Wiring.{feeding_graph, AreAllFeeds, HaveBlocks, IsWithoutCycle}
use Rattle.compose_model.specs.declared.feeder.Feeder.{Feeder}
use Rattle.compose_model.proofs.OneValueLemmas.{one_list}
use Rattle.compose_polys.specs.LevelOrder.{AreLevels}
use Rattle.compose_stages.specs.InstanceStages.{instance_in, instance_stages, top_elements, AreFed, AreInstancesWithin, IsEarlierInstance, IsFirstOfInstances, IsStageOf}
use Rattle.compose_stages.proofs.BlockLemmas.{one_poly}

-- ---- the order

abbrev Ordered : Stage → Stage → Type 0
Ordered a b = (a ≡ b) ⊎ (is_earlier_instance_stage a b ⊎ is_earlier_instance_stage b a)

products : (m n r s i j : ℕ) → m ≡ n → Ordered (InstanceProduct m r i) (InstanceProduct n s j)
products m n r s i j same =
    elim (cases_order r s) [
      | inl equal ↦ elim (cases_order i j) [
        | inl tie ↦ inl (λ t. InstanceProduct (same t) (equal t) (tie t))
        | inr other ↦ elim other [ inl low ↦ inr (inl (inr (equal, low))) | inr high ↦ inr (inr (inr (sym equal, high))) ]
      ]
      | inr other ↦ elim other [ inl low ↦ inr (inl (inl low)) | inr high ↦ inr (inr (inl high)) ]
    ]

sums : (m n r s : ℕ) → m ≡ n → Ordered (InstanceSum m r) (InstanceSum n s)
sums m n r s same = elim (cases_order r s) [ inl equal ↦ inl (λ t. InstanceSum (same t) (equal t)) | inr other ↦ inr other ]

product_sum : (m n r i s : ℕ) → Ordered (InstanceProduct m r i) (InstanceSum n s)
product_sum m n r i s = elim (cases_lt s r) [ inl low ↦ inr (inr low) | inr high ↦ inr (inl (omega (arith, high))) ]

sum_product : (m n r s j : ℕ) → Ordered (InstanceSum m r) (InstanceProduct n s j)
sum_product m n r s j = elim (cases_lt r s) [ inl low ↦ inr (inl low) | inr high ↦ inr (inr (omega (arith, high))) ]

-- of two stages of one instance one comes before the other, or they are one
same_instance : (a b : Stage) (m n : ℕ) (ts us : SumOfProducts) → instance_in a ≡ instance_in b → is_instance_stage m ts a → is_instance_stage n us b → Ordered a b
same_instance (InstanceProduct m r i) (InstanceProduct n s j) x y ts us same is has = products m n r s i j same
same_instance (InstanceProduct m r i) (InstanceSum n s) x y ts us same is has = product_sum m n r i s
same_instance (InstanceSum m r) (InstanceProduct n s j) x y ts us same is has = sum_product m n r s j
same_instance (InstanceSum m r) (InstanceSum n s) x y ts us same is has = sums m n r s same
same_instance (Cut t) b x y ts us same is has = absurd is
same_instance (WordProduct w s j) b x y ts us same is has = absurd is
same_instance (WordSum w s) b x y ts us same is has = absurd is
same_instance (SpecProduct s j) b x y ts us same is has = absurd is
same_instance (SpecSum s) b x y ts us same is has = absurd is
same_instance (InstanceProduct m r i) (Cut t) x y ts us same is has = absurd has
same_instance (InstanceProduct m r i) (WordProduct w s j) x y ts us same is has = absurd has
same_instance (InstanceProduct m r i) (WordSum w s) x y ts us same is has = absurd has
same_instance (InstanceProduct m r i) (SpecProduct s j) x y ts us same is has = absurd has
same_instance (InstanceProduct m r i) (SpecSum s) x y ts us same is has = absurd has
same_instance (InstanceSum m r) (Cut t) x y ts us same is has = absurd has
same_instance (InstanceSum m r) (WordProduct w s j) x y ts us same is has = absurd has
same_instance (InstanceSum m r) (WordSum w s) x y ts us same is has = absurd has
same_instance (InstanceSum m r) (SpecProduct s j) x y ts us same is has = absurd has
same_instance (InstanceSum m r) (SpecSum s) x y ts us same is has = absurd has

module _ (rows : List (List Feeder)) (levels : List ℕ) (are : AreLevels (feeding_graph rows) levels) where
  earlier : (m n : ℕ) → IsBefore (slice_index levels (m - 1)) m (slice_index levels (n - 1)) n → IsEarlierInstance rows m n
  earlier m n before = record { levels = levels; are = are; before = before }

  -- of two instances one comes before the other, or they are one
  instances_ordered : (m n : ℕ) → (m ≡ n) ⊎ (IsEarlierInstance rows m n ⊎ IsEarlierInstance rows n m)
  instances_ordered m n =
      elim (cases_order m n) [
        | inl same ↦ inl same
        | inr apart ↦ elim (cases_order (slice_index levels (m - 1)) (slice_index levels (n - 1))) [
          | inl level ↦ elim apart [ inl low ↦ inr (inl (earlier m n (inr (level, low)))) | inr high ↦ inr (inr (earlier n m (inr (sym level, high)))) ]
          | inr other ↦ elim other [ inl low ↦ inr (inl (earlier m n (inl low))) | inr high ↦ inr (inr (earlier n m (inl high))) ]
        ]
      ]

  pub stages_ordered : (k : ℕ) (mul : ℕ → ℕ → ℕ) (h : Hierarchy) → IsOrdered (instance_stages k mul h rows)
  stages_ordered k mul h a b x y =
      elim (instances_ordered (instance_in a) (instance_in b)) [
        | inl same ↦ elim (same_instance a b (instance_in a) (instance_in b) (block_terms x.block) (block_terms y.block) same x.is y.is) [
          | inl equal ↦ inl equal
          | inr other ↦ elim other [ inl low ↦ inr (inl (inr (same, low))) | inr high ↦ inr (inr (inr (sym same, high))) ]
        ]
        | inr other ↦ elim other [ inl low ↦ inr (inl (inl low)) | inr high ↦ inr (inr (inl high)) ]
      ]

-- ---- sizes

module _ (k : ℕ) (mul : ℕ → ℕ → ℕ) (ring : IsRing k mul) (field : HasNoZeroDivisors k mul) (h : Hierarchy) (given : IsGiven k h) (rows : List (List Feeder)) (all : AreAllFeeds h rows) (blocks_are : HaveBlocks k mul h) (free : IsWithoutCycle rows) where
  -- what feeds an instance has one list of values
  one_fed : (n : ℕ) (xs ys zs : List ℕ) → AreFed k mul h rows n xs ys → AreFed k mul h rows n xs zs → ys ≡ zs
  one_fed n xs ys zs a b =
      let values : a.es ≡ b.es = one_list k mul h xs a.es b.es ring field given rows all blocks_are a.values b.values free in
      let place : b.place ≡ a.place = omega (arith, a.number, b.number) in
      let P : ℕ → Type 0 = λ i. slice_get rows i ≡ Some b.feeds in
      let row_a : slice_get rows a.place ≡ Some a.feeds = a.row in
      let row_b : slice_get rows a.place ≡ Some b.feeds = subst P place b.row in
      let feeds : a.feeds ≡ b.feeds = cc in
      sym a.are ∙ (λ t. map (feed_value k mul h xs (values t)) (feeds t)) ∙ b.are

  pub one_element : (name : Stage) → IsFunction k (IsStageOf k mul h rows name)
  one_element name p x y at a b =
      let block : b.block ≡ a.block = one_poly k mul ring field h given (instance_in name) b.block a.block b.has a.has in
      let fed : b.ys ≡ a.ys = one_fed (instance_in name) (top_elements h p) b.ys a.ys b.fed a.fed in
      let P : Terms → Type 0 = λ ts. instance_stage_of mul (λ q. b.ys) (block_terms ts) name p y in
      let Q : List ℕ → Type 0 = λ zs. instance_stage_of mul (λ q. zs) (block_terms a.block) name p y in
      only_stage mul (λ q. a.ys) (block_terms a.block) name p x y a.is (subst Q fed (subst P block b.is))

  pub stages_sizes : HaveOneSize k mul (instance_stages k mul h rows)
  stages_sizes name m n is a b = same_size k mul ring field (IsStageOf k mul h rows name) (one_element name) m n a b

  pub one_first : (levels : List ℕ) → AreLevels (feeding_graph rows) levels → (bound : ℕ) (a b : Stage) (m n : ℕ) → IsFirstOfInstances k mul h rows bound a m → IsFirstOfInstances k mul h rows bound b n → (a ≡ b) × (m ≡ n)
  one_first levels are bound a b m n x y = one_over k mul (instance_stages k mul h rows) bound (stages_ordered rows levels are k mul h) stages_sizes a b m n x y

  pub first_not_all : (bound : ℕ) (a : Stage) (m : ℕ) → IsFirstOfInstances k mul h rows bound a m → AreInstancesWithin k mul h rows bound → ⊥
  first_not_all bound a m x within = over_not_all k mul (instance_stages k mul h rows) bound stages_sizes a m x within
