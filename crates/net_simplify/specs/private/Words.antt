-- The nets of words. Source: this project's own.
use Rattle.std.specs.Prelude.{ℕ, List, [], ◌∷◌, ◌++◌}
use Rattle.net_words.specs.declared.bound.BoundWord.{BoundWord}

-- the nets of all words, one word after another
abbrev pub nets_of : List BoundWord → List ℕ
nets_of [] = []
nets_of (word ∷ words) = word.nets ++ nets_of words
