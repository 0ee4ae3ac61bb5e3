-- The values of the instances of a top: the output of an instance is that of its block, flattened alone, at the values of what feeds
-- it. Source: Pruss, Kalla, Enescu, DAC 2014.
use Rattle.std.specs.Prelude.{◌≡◌, ℕ, ◌+◌, List, [], Ok, Some, length, map, slice_get, slice_index}
use Rattle.net_core.specs.NetList.{NetList}
use Rattle.net_words.specs.Bind.{BindingOf}
use Rattle.net_words.specs.Binding.{Binding}
use Rattle.net_words.specs.declared.word.WordText.{WordText}
use Rattle.net_signature.specs.Body.{BlockValue}
use Rattle.net_blif.specs.Design.{model_named}
use Rattle.net_blif.specs.Top.{instances_of, model_in}
use Rattle.net_blif.specs.declared.item.Item.{Item}
use Rattle.net_flat.specs.Flat.{Flattens}
use Rattle.circuit_model.specs.Circuit.{Circuit}
use Rattle.circuit_model.specs.OfBinding.{circuit_with}
use Rattle.circuit_model.specs.Out.{IsOut}
use Rattle.compose_model.specs.Hierarchy.{bases_at, block_of, Hierarchy}
use Rattle.compose_model.specs.declared.feeder.Feeder.{Feeder}
use Rattle.compose_model.specs.declared.feeder.Feeder.TheVariants.{InputWord, OutputOf}

module _ (k : ℕ) (mul : ℕ → ℕ → ℕ) (h : Hierarchy) where
  -- the circuit of a model, flattened alone, with these words in these bases
  pub record IsCircuitOf (model : ℕ) (words : List WordText) (bases : List (List ℕ)) (circuit : Circuit) : Type 0 where
    pub net : NetList
    pub flat : Flattens h.design model (Ok net)
    pub latches : net.latches ≡ []
    pub binding : Binding
    pub bound : BindingOf net words [] (Ok binding)
    pub is : circuit_with k mul (record { net = net; binding = binding }) bases ≡ circuit

  -- the circuit of the whole top
  abbrev pub IsTop : Circuit → Type 0
  IsTop circuit = IsCircuitOf 0 h.words (bases_at h 0) circuit

  -- the circuit of an instance's block
  pub record IsBlockOf (item : Item) (circuit : Circuit) : Type 0 where
    pub number : ℕ
    pub named : block_of h (model_in item) ≡ Some number
    pub block : BlockValue
    pub found : slice_get h.blocks number ≡ Some block
    pub model : ℕ
    pub model_is : model_named h.design (model_in item) ≡ Some model
    pub is : IsCircuitOf model block.words (bases_at h (number + 1)) circuit

  -- the value of a feed, where the top's input words have the elements xs and the instances' outputs es
  abbrev pub feed_value : List ℕ → List ℕ → Feeder → ℕ
  feed_value xs es (InputWord w) = slice_index xs w
  feed_value xs es (OutputOf i) = slice_index es i

  -- the values of all instances where the top's input words have the elements xs and row i is what feeds instance i: each is its
  -- block's output at the values of what feeds the instance
  pub record AreInstanceValues (rows : List (List Feeder)) (xs es : List ℕ) : Type 0 where
    pub long : length es ≡ length (instances_of h.design)
    pub each : (i e : ℕ) (item : Item) (feeds : List Feeder) (circuit : Circuit) → slice_get es i ≡ Some e → slice_get (instances_of h.design) i ≡ Some item → slice_get rows i ≡ Some feeds → IsBlockOf item circuit → IsOut circuit (map (feed_value xs es) feeds) e
