-- The stages of all instances of a top as functions of the top's words: at a point these have elements, and with them all instances have
-- values, and so has what feeds an instance; the stages of the instance are the products of its block's terms with their first factors and
-- the sums of these terms, at those values. Source: Pruss, Kalla, Enescu, DAC 2014; the stages and their order are this project's own.
use Rattle.std.specs.Prelude.{◌≡◌, ◌⊎◌, ℕ, ◌+◌, ◌-◌, ◌<◌, List, Some, length, map, take, slice_get, slice_index}
use Rattle.net_core.specs.Order.{IsBefore}
use Rattle.net_blif.specs.Top.{instances_of}
use Rattle.net_blif.specs.declared.item.Item.{Item}
use Rattle.poly_mixed.specs.Polynomial.{Point, Terms}
use Rattle.poly_mixed.specs.declared.stage.Stage.{Stage}
use Rattle.poly_mixed.specs.declared.stage.Stage.TheVariants.{Cut, WordProduct, WordSum, SpecProduct, SpecSum, InstanceProduct, InstanceSum}
use Rattle.circuit_model.specs.Circuit.{Circuit}
use Rattle.stage_model.specs.Listing.{AreAllWithin, IsOver, Listing}
use Rattle.stage_model.specs.OutputInWords.{IsOutputInWords}
use Rattle.compose_polys.specs.Instance.{block_terms}
use Rattle.compose_polys.specs.InstanceListing.{instance_stage_of, is_earlier_instance_stage, is_instance_stage}
use Rattle.compose_model.specs.Hierarchy.{top_words, Hierarchy}
use Rattle.compose_model.specs.NamedWord.{inputs_among}
use Rattle.compose_model.specs.Values.{feed_value, AreInstanceValues, IsBlockOf}
use Rattle.compose_model.specs.Wiring.{feeding_graph}
use Rattle.compose_model.specs.declared.feeder.Feeder.{Feeder}
use Rattle.compose_polys.specs.LevelOrder.{AreLevels}

-- the number, from 1, of the instance to whose stages the name belongs; 0 for the names of other stages
abbrev pub instance_in : Stage → ℕ
instance_in (InstanceProduct n s j) = n
instance_in (InstanceSum n s) = n
instance_in (Cut t) = 0
instance_in (WordProduct w s j) = 0
instance_in (WordSum w s) = 0
instance_in (SpecProduct s j) = 0
instance_in (SpecSum s) = 0

-- the top has an instance i, from 0
abbrev pub HasInstance : Hierarchy → ℕ → Type 0
HasInstance h i = i < length (instances_of h.design)

-- the elements that a point has for the input words of the top
abbrev pub top_elements : Hierarchy → Point → List ℕ
top_elements h p = take (length (inputs_among (top_words h))) p.words

-- instance m comes before instance n, both numbered from 1: the instances are taken by rising level and, within a level, by rising number
pub record IsEarlierInstance (rows : List (List Feeder)) (m n : ℕ) : Type 0 where
  pub levels : List ℕ
  pub are : AreLevels (feeding_graph rows) levels
  pub before : IsBefore (slice_index levels (m - 1)) m (slice_index levels (n - 1)) n

-- the instances in their order, and the stages of one instance in theirs
abbrev pub is_earlier_stage : List (List Feeder) → Stage → Stage → Type 0
is_earlier_stage rows name other = IsEarlierInstance rows (instance_in name) (instance_in other) ⊎ ((instance_in name ≡ instance_in other) × is_earlier_instance_stage name other)

module _ (k : ℕ) (mul : ℕ → ℕ → ℕ) (h : Hierarchy) where
  -- the polynomial in words of the output of the block of instance n, from 1
  pub record IsBlockPoly (n : ℕ) (block : Terms) : Type 0 where
    pub place : ℕ
    pub number : place + 1 ≡ n
    pub item : Item
    pub at : slice_get (instances_of h.design) place ≡ Some item
    pub circuit : Circuit
    pub block_is : IsBlockOf k mul h item circuit
    pub output : IsOutputInWords circuit block

  -- it has one
  abbrev pub HasBlockPoly : ℕ → Type 0
  HasBlockPoly n = (block : Terms) × IsBlockPoly n block

  -- the name is that of a stage of an instance: of a term of the instance's block, or of a sum of such terms
  pub record IsStageName (name : Stage) : Type 0 where
    pub block : Terms
    pub has : IsBlockPoly (instance_in name) block
    pub is : is_instance_stage (instance_in name) (block_terms block) name

  module _ (rows : List (List Feeder)) where
    -- where the top's input words have the elements xs and row i is what feeds instance i, all instances have values, and with these
    -- what feeds instance n, from 1, has the values ys
    pub record AreFed (n : ℕ) (xs ys : List ℕ) : Type 0 where
      pub es : List ℕ
      pub values : AreInstanceValues k mul h rows xs es
      pub place : ℕ
      pub number : place + 1 ≡ n
      pub feeds : List Feeder
      pub row : slice_get rows place ≡ Some feeds
      pub are : map (feed_value k mul h xs es) feeds ≡ ys

    -- the stage of a name: at the values of what feeds the instance, the product of a term of its block with its first factors, or
    -- the sum of the block's first terms
    pub record IsStageOf (name : Stage) (p : Point) (e : ℕ) : Type 0 where
      pub block : Terms
      pub has : IsBlockPoly (instance_in name) block
      pub ys : List ℕ
      pub fed : AreFed (instance_in name) (top_elements h p) ys
      pub is : instance_stage_of mul (λ q. ys) (block_terms block) name p e

    -- the stages of all instances
    abbrev pub instance_stages : Listing Stage
    instance_stages = record { is_listed = IsStageName; stage_of = IsStageOf; comes_before = is_earlier_stage rows }

    -- of the stages of all instances the first over the bound, with its size
    abbrev pub IsFirstOfInstances : ℕ → Stage → ℕ → Type 0
    IsFirstOfInstances bound name n = IsOver k mul instance_stages bound name n

    -- no stage of an instance is over the bound
    abbrev pub AreInstancesWithin : ℕ → Type 0
    AreInstancesWithin bound = AreAllWithin k mul instance_stages bound
