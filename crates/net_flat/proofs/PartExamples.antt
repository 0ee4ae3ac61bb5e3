-- Small worked examples of the definitions of specs/, which the check computes.
use Rattle.std.proofs.Common.{◌≡◌, [], ◌∷◌, codes, refl}
use Rattle.net_flat.specs.Paths.{At}
use Rattle.net_flat.specs.Part.{path_in_whole}

-- in the third instance, which connects a to x, the net a of the model is the net x of the whole
connected_net : path_in_whole 3 (codes "a=x" ∷ []) (At [] (codes "a")) ≡ At [] (codes "x")
connected_net = refl

-- its net z is a net of the instance
inner_net : path_in_whole 3 (codes "a=x" ∷ []) (At [] (codes "z")) ≡ At (3 ∷ []) (codes "z")
inner_net = refl

-- and the net n of its own second instance is a net of that
deeper_net : path_in_whole 3 (codes "a=x" ∷ []) (At (2 ∷ []) (codes "n")) ≡ At (3 ∷ 2 ∷ []) (codes "n")
deeper_net = refl
