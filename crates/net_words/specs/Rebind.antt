-- The words of a binding on other nets. Source: this project's own.
use Rattle.std.specs.Prelude.{◌≡◌, ℕ, ◌<◌, ◌≤◌, ◌*◌, List, [], ◌∷◌, length, take, drop, All}
use Rattle.lists.specs.Lists.{Has, times}
use Rattle.net_core.specs.NetList.{NetList, nets}
use Rattle.net_words.specs.Binding.{Binding}
use Rattle.net_words.specs.Variables.{bits}
use Rattle.net_words.specs.declared.bound.BoundWord.{BoundWord}

-- the words with these nets, k for each word
abbrev pub rebound : ℕ → List BoundWord → List ℕ → List BoundWord
rebound k [] list = []
rebound k (word ∷ words) list = record { name = word.name; role = word.role; nets = take k list } ∷ rebound k words (drop k list)

-- the binding of the net list with the same words on these nets
abbrev pub rebinding : NetList → Binding → List ℕ → Binding
rebinding net binding list = record { k = binding.k; words = rebound binding.k binding.words list; feeds = []; nets = nets net }

-- nets that words can be bound to again: k for each word, those of input, state and fed words different primary inputs of a
-- net list without latches
pub record AreNets (net : NetList) (binding : Binding) (list : List ℕ) : Type 0 where
  pub flat : net.latches ≡ []
  pub long : length list ≡ binding.k * length binding.words
  pub once : (n : ℕ) → times n (bits (rebound binding.k binding.words list)) ≤ 1
  pub inputs : (n : ℕ) → Has (bits (rebound binding.k binding.words list)) n → Has net.inputs n
  pub exist : All (λ n. n < nets net) list
