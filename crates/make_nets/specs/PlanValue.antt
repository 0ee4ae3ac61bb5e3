-- The bits of the nets of a plan. Source: the covers of the BLIF format of UC Berkeley.
use Rattle.std.specs.Prelude.{◌≡◌, ℕ, Bool, List, [], ◌∷◌, Option, bit_xor, if◌then◌else◌}
use Rattle.lists.specs.Lists.{Has}
use Rattle.net_core.specs.GateValue.{GateValue}
use Rattle.net_core.specs.Value.{bit_of, IsRight}
use Rattle.make_nets.specs.Plan.{Plan, chain_net, with_chain}

-- the bits agree with each gate
abbrev pub Agrees : List Bool → Plan → Type 0
Agrees bits plan = (g : GateValue) → Has plan.gates g → IsRight bits g

-- the bit of a net as a number
abbrev pub bit_at_net : List Bool → ℕ → ℕ
bit_at_net bits n = if bit_of bits n then 1 else 0

-- the exclusive or of the bits of these nets
abbrev pub parity : List Bool → List ℕ → ℕ
parity bits [] = 0
parity bits (n ∷ ns) = bit_xor (bit_at_net bits n) (parity bits ns)

-- the net that a chain drives has the exclusive or of the bits of its list
abbrev pub ChainAddsBits : List Bool → Option ℕ → (list : List ℕ) → Plan → Type 0
ChainAddsBits bits target list plan = Agrees bits (with_chain target list plan) → bit_at_net bits (chain_net target list plan) ≡ parity bits list
