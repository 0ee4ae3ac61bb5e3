-- All stages of a composition: of these one is first over a bound at most.
use Rattle.std.proofs.Common.{◌≡◌, ◌↔◌, refl, ℕ, List, length}
use Rattle.gf_field.specs.Field.{HasNoZeroDivisors}
use Rattle.gf_field.specs.Ring.{IsRing}
use Rattle.net_words.specs.Binding.{BoundNet}
use Rattle.poly_mixed.specs.declared.stage.Stage.{Stage}
use Rattle.circuit_model.specs.OfBinding.{circuit_with, output_basis}
use Rattle.stage_model.specs.CircuitListing.{bound_cuts, circuit_cuts, circuit_stages}
use Rattle.stage_model.specs.Listing.{followed_by, AreAllWithin, IsOver, Joined, Earlier, Later, Listing}
use Rattle.stage_model.specs.WordListing.{word_listing}
use Rattle.stage_model.proofs.BoundLemmas.{bound_over, bound_within}
use Rattle.stage_model.proofs.ListingLemmas.{all_of_both, both_ordered, both_sizes, earlier_over, later_over, one_over, over_not_all}
use Rattle.compose_model.specs.Given.{IsGiven}
use Rattle.compose_model.specs.Hierarchy.{Hierarchy}
use Rattle.compose_model.specs.Wiring.{feeding_graph, AreAllFeeds, HaveBlocks, IsWithoutCycle}
use Rattle.compose_model.specs.declared.feeder.Feeder.{Feeder}
use Rattle.compose_polys.specs.LevelOrder.{AreLevels}
use Rattle.compose_stages.specs.BlockStages.{block_stages, BlockStage}
use Rattle.compose_stages.specs.CompositionStages.{composition_stages, IsCompositionWithin, IsFirstOfComposition}
use Rattle.compose_stages.specs.InstanceStages.{instance_stages}
use Rattle.compose_stages.proofs.OneInstanceLemmas as instances
use Rattle.compose_stages.proofs.UsedLemmas.{blocks_ordered, blocks_sizes}

module _ (k : ℕ) (mul : ℕ → ℕ → ℕ) (h : Hierarchy) (rows : List (List Feeder)) (ring : IsRing k mul) (field : HasNoZeroDivisors k mul) (given : IsGiven k h) (all : AreAllFeeds h rows) (blocks_are : HaveBlocks k mul h) (free : IsWithoutCycle rows) (bound : ℕ) where
  pub one_first : (levels : List ℕ) → AreLevels (feeding_graph rows) levels → (a b : Joined BlockStage Stage) (m n : ℕ) → IsFirstOfComposition k mul h rows bound a m → IsFirstOfComposition k mul h rows bound b n → (a ≡ b) × (m ≡ n)
  one_first levels are a b m n x y =
      one_over k mul (composition_stages k mul h rows) bound
      (both_ordered k mul (block_stages k mul h) (instance_stages k mul h rows) (blocks_ordered k mul h) (instances.stages_ordered rows levels are k mul h))
      (both_sizes k mul (block_stages k mul h) (instance_stages k mul h rows) (blocks_sizes k mul h ring field given) (instances.stages_sizes k mul ring field h given rows all blocks_are free))
      a b m n x y

  pub first_not_all : (a : Joined BlockStage Stage) (m : ℕ) → IsFirstOfComposition k mul h rows bound a m → IsCompositionWithin k mul h rows bound → ⊥
  first_not_all a m x within =
      over_not_all k mul (composition_stages k mul h rows) bound
      (both_sizes k mul (block_stages k mul h) (instance_stages k mul h rows) (blocks_sizes k mul h ring field given) (instances.stages_sizes k mul ring field h given rows all blocks_are free))
      a m x within

-- ---- the stages of a net with bound words are those of its circuit

module _ (k : ℕ) (mul : ℕ → ℕ → ℕ) (b : BoundNet) (bases : List (List ℕ)) (long : length bases ≡ length b.binding.words) (bound : ℕ) where
  abbrev basis : List ℕ
  basis = output_basis b.binding.words bases

  abbrev bound_stages : Listing (Joined Stage Stage)
  bound_stages = followed_by (bound_cuts b basis) (word_listing (circuit_with k mul b bases))

  pub bound_stages_over : (name : Joined Stage Stage) (n : ℕ) → IsOver k mul bound_stages bound name n ↔ IsOver k mul (circuit_stages (circuit_with k mul b bases)) bound name n
  bound_stages_over (Earlier name) n =
      let one = earlier_over k mul (bound_cuts b basis) (word_listing (circuit_with k mul b bases)) bound name n in
      let two = earlier_over k mul (circuit_cuts (circuit_with k mul b bases)) (word_listing (circuit_with k mul b bases)) bound name n in
      let both = bound_over k mul b bases basis bound name n long refl in
      ((λ x. two.1 (both.0 (one.0 x))), λ x. one.1 (both.1 (two.0 x)))
  bound_stages_over (Later name) n =
      let one = later_over k mul (bound_cuts b basis) (word_listing (circuit_with k mul b bases)) bound name n in
      let two = later_over k mul (circuit_cuts (circuit_with k mul b bases)) (word_listing (circuit_with k mul b bases)) bound name n in
      let both = bound_within k mul b bases basis bound long refl in
      ((λ x. let y = one.0 x in two.1 (both.0 y.0, y.1)), λ x. let y = two.0 x in one.1 (both.1 y.0, y.1))

  pub bound_stages_within : AreAllWithin k mul bound_stages bound ↔ AreAllWithin k mul (circuit_stages (circuit_with k mul b bases)) bound
  bound_stages_within =
      let one = all_of_both k mul (bound_cuts b basis) (word_listing (circuit_with k mul b bases)) bound in
      let two = all_of_both k mul (circuit_cuts (circuit_with k mul b bases)) (word_listing (circuit_with k mul b bases)) bound in
      let both = bound_within k mul b bases basis bound long refl in
      ((λ x. let y = one.0 x in two.1 (both.0 y.0, y.1)), λ x. let y = two.0 x in one.1 (both.1 y.0, y.1))
