-- Words and feeds that are bound to two net lists alike, so that the jobs over them have the same outputs. Source: this project's own.
use Rattle.std.specs.Prelude.{ℕ, List, Ok}
use Rattle.net_core.specs.NetList.{NetList}
use Rattle.net_core.specs.Sound.{IsSound}
use Rattle.net_words.specs.Bind.{BindingOf}
use Rattle.net_words.specs.Binding.{Binding}
use Rattle.net_words.specs.declared.feed.FeedText.{FeedText}
use Rattle.net_words.specs.declared.word.WordText.{WordText}
use Rattle.net_write.specs.Plain.{HasPlainNames}
use Rattle.net_write.specs.SameByName.{IsSameByName}
use Rattle.circuit_model.specs.JobOfBinding.{job_with}
use Rattle.circuit_model.specs.Out.{IsOut}

-- the words and feeds are bound to the second net list too, and whatever the field, the bases and the cycles, an output of the job
-- over the first at an input is one of the job over the second
pub record IsBoundAlike (net other : NetList) (words : List WordText) (feeds : List FeedText) (first : Binding) : Type 0 where
  pub binding : Binding
  pub bound : BindingOf other words feeds (Ok binding)
  pub outputs : (k : ℕ) (product : ℕ → ℕ → ℕ) (bases : List (List ℕ)) (cycles : ℕ) (xs : List ℕ) (e : ℕ) → IsOut (job_with k product (record { net = net; binding = first }) bases cycles) xs e → IsOut (job_with k product (record { net = other; binding = binding }) bases cycles) xs e

-- so it is where both are sound, all of their nets are named, and they are the same by name
abbrev pub IsBoundBySameNames : (net other : NetList) → List WordText → List FeedText → Binding → Type 0
IsBoundBySameNames net other words feeds binding =
    IsSound net → IsSound other → HasPlainNames net → HasPlainNames other → IsSameByName net other → BindingOf net words feeds (Ok binding) → IsBoundAlike net other words feeds binding
