-- Worked examples, which the check computes.
use Rattle.std.proofs.Common.{◌≡◌, sym, refl, inl, inr, ℕ, zero, suc, List, [], ◌∷◌, Some, arith}
use Rattle.std.specs.Prelude.{slice_get}
use Rattle.graph_core.specs.Graph.{edges}
use Rattle.poly_mixed.specs.declared.stage.Stage.TheVariants.{InstanceProduct, InstanceSum, WordSum}
use Rattle.compose_model.specs.Wiring.{feeding_graph}
use Rattle.compose_model.specs.declared.feeder.Feeder.{Feeder}
use Rattle.compose_model.specs.declared.feeder.Feeder.TheVariants.{InputWord, OutputOf}
use Rattle.compose_polys.specs.LevelOrder.{level_over}
use Rattle.compose_stages.specs.InstanceStages.{instance_in, is_earlier_stage, IsEarlierInstance}

-- a product and a sum of instance 2, and a name that is no instance's
of_a_product : instance_in (InstanceProduct 2 1 3) ≡ 2
of_a_product = refl

of_a_sum : instance_in (InstanceSum 2 1) ≡ 2
of_a_sum = refl

of_no_instance : instance_in (WordSum 2 1) ≡ 0
of_no_instance = refl

-- the products of a term come before its sum
product_before_sum : (rows : List (List Feeder)) → is_earlier_stage rows (InstanceProduct 2 1 3) (InstanceSum 2 1)
product_before_sum rows = inr (refl, omega arith)

-- instance 1 is fed by instance 2, and instance 2 by a word alone
abbrev two_rows : List (List Feeder)
two_rows = (OutputOf 1 ∷ []) ∷ (InputWord 0 ∷ []) ∷ []

-- so instance 2 comes before instance 1
lower_level_before : IsEarlierInstance two_rows 2 1
lower_level_before = record { levels = 2 ∷ 1 ∷ []; are = record { long = refl; over = over }; before = inl (omega arith) }
  where
    over : (a l : ℕ) → slice_get (2 ∷ 1 ∷ []) a ≡ Some l → l ≡ level_over (2 ∷ 1 ∷ []) (edges (feeding_graph two_rows) a)
    over zero l got = let same : 2 ≡ l = cc in sym same
    over (suc zero) l got = let same : 1 ≡ l = cc in sym same
    over (suc (suc a)) l got = absurd (cc)
