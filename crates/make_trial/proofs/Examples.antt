-- A small worked example of the definitions of specs/, which the check computes.
use Rattle.std.proofs.Common.{◌≡◌, refl, [], ◌∷◌, codes}
use Rattle.std.specs.Fmt.{digits}
use Rattle.make_trial.specs.TwoInputs.{net_names}

-- the nets of a word of three bits
three_names : net_names (codes "a") 3 ≡ codes "a0" ∷ codes "a1" ∷ codes "a2" ∷ []
unfolding digits
three_names = refl
