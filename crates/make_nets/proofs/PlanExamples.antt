-- Small plans, computed.
use Rattle.std.proofs.Common.{◌≡◌, ◌+◌, refl, ℕ, List, [], ◌∷◌, None, Some}
use Rattle.net_core.specs.GateValue.{GateValue}
use Rattle.make_nets.specs.Plan.{begun, with_and, with_chain, chain_net, each, gathered}

gate : ℕ → List ℕ → ℕ → GateValue
gate out inputs table = record { out = out; inputs = inputs; table = table }

-- the chain of the nets 1, 2 and 3 into net 0: net 4 is 1 xor 2, and net 0 is 4 xor 3
three : with_chain (Some 0) (1 ∷ 2 ∷ 3 ∷ []) (begun 4) ≡ record { next = 5; gates = gate 4 (1 ∷ 2 ∷ []) 6 ∷ gate 0 (4 ∷ 3 ∷ []) 6 ∷ [] }
unfolding gate
three = refl

-- into the next inner net it is net 5, after net 4
inner : chain_net None (1 ∷ 2 ∷ 3 ∷ []) (begun 4) ≡ 5
inner = refl

-- the chain of no net is the constant 0, and that of one net a buffer
none : with_chain (Some 0) [] (begun 4) ≡ record { next = 4; gates = gate 0 [] 0 ∷ [] }
unfolding gate
none = refl

one : with_chain None (1 ∷ []) (begun 4) ≡ record { next = 5; gates = gate 4 (1 ∷ []) 2 ∷ [] }
unfolding gate
one = refl

-- the products of net 0 with nets 1 and 2
products : each 2 (λ j. with_and None 0 (1 + j)) (begun 3) ≡ record { next = 5; gates = gate 3 (0 ∷ 1 ∷ []) 8 ∷ gate 4 (0 ∷ 2 ∷ []) 8 ∷ [] }
unfolding gate
products = refl

lists : gathered 3 (λ i. i ∷ 9 ∷ []) ≡ 0 ∷ 9 ∷ 1 ∷ 9 ∷ 2 ∷ 9 ∷ []
lists = refl
