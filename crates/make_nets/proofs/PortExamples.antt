-- The nets of the words of a small signature, computed.
use Rattle.std.proofs.Common.{◌≡◌, refl, ℕ, List, [], ◌∷◌}
use Rattle.std.specs.Prelude.{codes}
use Rattle.net_words.specs.declared.word.BasisText.TheVariants.{Poly}
use Rattle.net_words.specs.declared.word.Role.{Role}
use Rattle.net_words.specs.declared.word.Role.TheVariants.{Input, Output}
use Rattle.net_words.specs.declared.word.WordText.{WordText}
use Rattle.make_nets.specs.Ports.{inputs_of, outer_names, outputs_of, starts_of}
use Rattle.make_nets.specs.Prefix.{prefix_of}

word : Role → List (List ℕ) → WordText
word role nets = record { line = 3; name = codes "A"; role = role; basis = Poly; nets = nets }

-- the output word stands between the two inputs
three : List WordText
three = word Input (codes "a0" ∷ codes "a1" ∷ []) ∷ word Output (codes "wz" ∷ codes "wwz" ∷ []) ∷ word Input (codes "b0" ∷ codes "b1" ∷ []) ∷ []

names : outer_names three (codes "d" ∷ []) ≡ codes "a0" ∷ codes "a1" ∷ codes "wz" ∷ codes "wwz" ∷ codes "b0" ∷ codes "b1" ∷ codes "d" ∷ []
unfolding three word
names = refl

inputs : inputs_of three (codes "d" ∷ []) ≡ 0 ∷ 1 ∷ 4 ∷ 5 ∷ 6 ∷ []
unfolding three word
inputs = refl

outputs : outputs_of three ≡ 2 ∷ 3 ∷ []
unfolding three word
outputs = refl

starts : starts_of Input 0 three ≡ 0 ∷ 4 ∷ []
unfolding three word
starts = refl

-- a name begins with two bytes `w`, so the prefix has three
prefix : prefix_of (outer_names three []) ≡ codes "www"
unfolding three word
prefix = refl
