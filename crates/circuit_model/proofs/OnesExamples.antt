-- Small worked examples of the order of inputs by their bits that are 1, which the check computes.
use Rattle.std.proofs.Common.{◌≡◌, [], ◌∷◌, refl}
use Rattle.std.specs.declared.cmp.Ordering.TheVariants.{Less, Equal}
use Rattle.circuit_model.specs.Ones.{ones_cmp}

-- fewer bits come first, whatever their ranks
fewer_first : ones_cmp (9 ∷ []) (0 ∷ 1 ∷ []) ≡ Less
fewer_first = refl

-- of two lists of one length the lexicographically first one
lower_first : ones_cmp (0 ∷ 3 ∷ []) (1 ∷ 2 ∷ []) ≡ Less
lower_first = refl

no_bits_first : ones_cmp [] (0 ∷ []) ≡ Less
no_bits_first = refl

itself : ones_cmp (2 ∷ 5 ∷ []) (2 ∷ 5 ∷ []) ≡ Equal
itself = refl
