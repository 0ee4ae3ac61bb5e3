-- Jobs that a program is given part by part. Source: this project's own.
use Rattle.std.specs.Prelude.{ℕ, List, map}
use Rattle.net_core.specs.NetList.{NetList}
use Rattle.circuit_model.specs.declared.circuit_feed.CircuitFeed.{CircuitFeed}
use Rattle.circuit_model.specs.declared.circuit_word.CircuitWord.{CircuitWord}
use Rattle.circuit_model.specs.Circuit.{Circuit}
use Rattle.circuit_model.specs.Flat.{word_of}

-- the job of these parts, with so many cycles after the first
abbrev pub job_of_parts : ℕ → (ℕ → ℕ → ℕ) → NetList → List CircuitWord → CircuitWord → List CircuitFeed → ℕ → Circuit
job_of_parts k product net words output feeds cycles = record { k = k; product = product; net = net; words = map word_of words; output = word_of output; feeds = feeds; cycles = cycles }
