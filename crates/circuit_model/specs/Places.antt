-- Which words of a binding are input, state or fed words. Source: this project's own.
use Rattle.std.specs.Prelude.{ℕ, ◌+◌, List, [], ◌∷◌, ◌++◌}
use Rattle.net_words.specs.declared.bound.BoundWord.{BoundWord}
use Rattle.net_words.specs.declared.word.Role.{Role}
use Rattle.net_words.specs.declared.word.Role.TheVariants.{Input, State, Fed, Output}

-- this number, unless the word is an output
abbrev pub place_with : Role → ℕ → List ℕ
place_with Input v = v ∷ []
place_with State v = v ∷ []
place_with Fed v = v ∷ []
place_with Output v = []

-- the numbers of the words that are no outputs, where the first word has the number v
abbrev pub places_from : ℕ → List BoundWord → List ℕ
places_from v [] = []
places_from v (word ∷ words) = place_with word.role v ++ places_from (v + 1) words
