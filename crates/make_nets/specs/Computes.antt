-- What a net computes with the words of a signature. Source: this project's own, docs/DEFINITIONS.md.
use Rattle.std.specs.Prelude.{ℕ, ◌<◌, ◌^◌, List, [], ◌∷◌, Ok}
use Rattle.net_core.specs.NetList.{NetList}
use Rattle.net_words.specs.Bind.{BindingOf}
use Rattle.net_words.specs.Binding.{Binding}
use Rattle.net_words.specs.declared.word.WordText.{WordText}
use Rattle.circuit_model.specs.JobOfBinding.{job_with}
use Rattle.circuit_model.specs.Out.{IsOut}
use Rattle.make_nets.specs.Form.{same_bases}

-- Over the field of 2 to the k elements with this product, with this basis for each word: the words bind to the net list in
-- one way, and the output of the job is f of the elements of its two words, at each input, after so many cycles.
pub record ComputesOfTwo (k : ℕ) (product : ℕ → ℕ → ℕ) (net : NetList) (words : List WordText) (basis : List ℕ) (cycles : ℕ) (f : ℕ → ℕ → ℕ) : Type 0 where
  pub binding : Binding
  pub binds : BindingOf net words [] (Ok binding)
  pub out : (binding : Binding) → BindingOf net words [] (Ok binding) → (a b : ℕ) → a < 2 ^ k → b < 2 ^ k → IsOut (job_with k product (record { net = net; binding = binding }) (same_bases basis words) cycles) (a ∷ b ∷ []) (f a b)

-- Over the field of 2 to the k elements with this product, with this basis for each word: the words bind to the net list in
-- one way, and the output of the job is f of the element of its one word, at each input, after so many cycles.
pub record ComputesOfOne (k : ℕ) (product : ℕ → ℕ → ℕ) (net : NetList) (words : List WordText) (basis : List ℕ) (cycles : ℕ) (f : ℕ → ℕ) : Type 0 where
  pub binding : Binding
  pub binds : BindingOf net words [] (Ok binding)
  pub out : (binding : Binding) → BindingOf net words [] (Ok binding) → (a : ℕ) → a < 2 ^ k → IsOut (job_with k product (record { net = net; binding = binding }) (same_bases basis words) cycles) (a ∷ []) (f a)
