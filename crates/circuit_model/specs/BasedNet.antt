-- Net lists with bound words in bases: what a circuit and a job are made of. Source: this project's own.
use Rattle.std.specs.Prelude.{◌≡◌, ℕ, List, Ok, length, map}
use Rattle.lists.specs.Lists.{Has}
use Rattle.net_core.specs.Sound.{IsSound}
use Rattle.net_words.specs.Bind.{BindingOf}
use Rattle.net_words.specs.Binding.{BoundNet, AreWords}
use Rattle.net_words.specs.BoundTo.{IsBoundTo}
use Rattle.net_words.specs.Feeds.{AreFeeds}
use Rattle.net_words.specs.OneCycle.{IsFlat, IsOneCycle}
use Rattle.net_words.specs.declared.feed.FeedText.{FeedText}
use Rattle.net_words.specs.declared.word.WordText.{WordText}
use Rattle.gf_field.specs.Ring.{IsRing}
use Rattle.gf_field.specs.Field.{HasNoZeroDivisors}
use Rattle.gf_basis.specs.Basis.{IsBasis}
use Rattle.circuit_model.specs.Circuit.{Circuit}
use Rattle.circuit_model.specs.OfBinding.{circuit_with, output_basis, HaveBases}
use Rattle.circuit_model.specs.JobOfBinding.{job_with}

-- a net list with bound words, over the field of 2 to the k elements with this product, and bases for the words
pub record BasedNet : Type 0 where
  pub k : ℕ
  pub product : ℕ → ℕ → ℕ
  pub netlist : BoundNet
  pub bases : List (List ℕ)

-- its circuit
abbrev pub based_circuit : BasedNet → Circuit
based_circuit based = circuit_with based.k based.product based.netlist based.bases

-- its job, with so many cycles after the first
abbrev pub based_job : BasedNet → ℕ → Circuit
based_job based cycles = job_with based.k based.product based.netlist based.bases cycles

-- the basis of its output word
abbrev pub based_output_basis : BasedNet → List ℕ
based_output_basis based = output_basis based.netlist.binding.words based.bases

-- there are as many bases as words
abbrev pub IsBased : BasedNet → Type 0
IsBased based = length based.bases ≡ length based.netlist.binding.words

module _ (based : BasedNet) where
  -- over a field, words of k bits are bound to a sound net list, and each has a basis
  pub record IsSoundlyBound : Type 0 where
    pub ring : IsRing based.k based.product
    pub no_zero_divisors : HasNoZeroDivisors based.k based.product
    pub sound : IsSound based.netlist.net
    pub bound : IsBoundTo based.netlist.net based.netlist.binding
    pub bits : based.netlist.binding.k ≡ based.k
    pub have : HaveBases based.k based.netlist.binding.words based.bases

  -- over a field, words of k bits are bound to a sound net list in one cycle, and each has a basis
  pub record IsBoundInOneCycle : Type 0 where
    pub ring : IsRing based.k based.product
    pub no_zero_divisors : HasNoZeroDivisors based.k based.product
    pub sound : IsSound based.netlist.net
    pub bound : IsOneCycle based.netlist.net based.netlist.binding
    pub bits : based.netlist.binding.k ≡ based.k
    pub have : HaveBases based.k based.netlist.binding.words based.bases

  -- over a field, the binding comes of binding words of k bits and feeds to a sound net list, and each of these words has a basis
  pub record ComesOfBinding : Type 0 where
    pub ring : IsRing based.k based.product
    pub no_zero_divisors : HasNoZeroDivisors based.k based.product
    pub sound : IsSound based.netlist.net
    pub words : List WordText
    pub words_are : AreWords based.k words
    pub feeds : List FeedText
    pub feeds_are : AreFeeds based.k (map (λ word. word.role) words) feeds
    pub bound : BindingOf based.netlist.net words feeds (Ok based.netlist.binding)
    pub long : length based.bases ≡ length words
    pub each : (basis : List ℕ) → Has based.bases basis → IsBasis based.k basis

  -- nothing is left to unroll
  abbrev pub HasNothingToUnroll : Type 0
  HasNothingToUnroll = IsFlat based.netlist.net based.netlist.binding
