-- Worked examples of the definitions, which the check computes: lists of ranks in their order.
use Rattle.std.proofs.Common.{◌≡◌, [], ◌∷◌, refl}
use Rattle.std.specs.declared.cmp.Ordering.TheVariants.{Less, Equal}
use Rattle.circuit_model.specs.Ones.{ones_cmp}
use Rattle.spec_compare.specs.private.First.{number_at}

-- fewer bits come first, whatever their ranks
fewer_first : ones_cmp (9 ∷ []) (0 ∷ 1 ∷ []) ≡ Less
fewer_first = refl

-- of two lists of one length the lexicographically first one
lower_first : ones_cmp (0 ∷ 3 ∷ []) (1 ∷ 2 ∷ []) ≡ Less
lower_first = refl

no_bits_first : ones_cmp [] (0 ∷ []) ≡ Less
no_bits_first = refl

itself : ones_cmp (2 ∷ 5 ∷ []) (2 ∷ 5 ∷ []) ≡ Equal
itself = refl

-- ranks 2 and 3 of two bits each from rank 2 on: the number 3; rank 3 alone: the number 2
number_of_both : number_at (0 ∷ 2 ∷ 3 ∷ []) 2 2 ≡ 3
number_of_both = refl

number_of_last : number_at (0 ∷ 3 ∷ []) 2 2 ≡ 2
number_of_last = refl
