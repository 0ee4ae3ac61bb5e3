-- The signature of a trial: two input words and an output word in the basis of powers. Source: this project's own, docs/COMMANDS.md.
use Rattle.std.specs.Prelude.{ℕ, zero, suc, List, [], ◌∷◌, ◌++◌, codes}
use Rattle.std.specs.Fmt.{decimal}
use Rattle.net_words.specs.declared.word.BasisText.TheVariants.{Poly}
use Rattle.net_words.specs.declared.word.Role.{Role}
use Rattle.net_words.specs.declared.word.Role.TheVariants.{Input, Output}
use Rattle.net_words.specs.declared.word.WordText.{WordText}
use Rattle.net_signature.specs.Signature.{SignatureValue}

-- the names of k nets: a letter and 0, 1, ..
abbrev pub net_names : List ℕ → ℕ → List (List ℕ)
net_names letter zero = []
net_names letter (suc n) = net_names letter n ++ (letter ++ decimal n) ∷ []

-- a word of k such nets, at this line
abbrev pub lettered : (line : ℕ) (name : List ℕ) (role : Role) (letter : List ℕ) (k : ℕ) → WordText
lettered line name role letter k = record { line = line; name = name; role = role; basis = Poly; nets = net_names letter k }

-- the input words A and B and the output word Z, of k nets each
abbrev pub words_of_two : ℕ → List WordText
words_of_two k = lettered 3 (codes "A") Input (codes "a") k ∷ lettered 4 (codes "B") Input (codes "b") k ∷ lettered 5 (codes "Z") Output (codes "z") k ∷ []

-- the signature with these words, without feeds and blocks, over the field of a modulus
abbrev pub two_inputs : (k modulus : ℕ) → SignatureValue
two_inputs k modulus = record {
  modulus = modulus;
  tower = [];
  upper = [];
  words = words_of_two k;
  feeds = [];
  blocks = [];
}
