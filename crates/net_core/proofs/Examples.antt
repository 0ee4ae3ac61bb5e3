-- Small worked examples of the definitions of specs/, which the check computes: a net with one gate, y = a AND b, and
-- one with two, z = (a AND b) XOR a.
use Rattle.std.proofs.Common.{◌≡◌, ℕ, zero, suc, ◌<◌, [], ◌∷◌, List, true, false, Some, None, codes, refl, arith, get_or, slice_get, subst}
use Rattle.lists.specs.Lists.{Has}
use Rattle.net_core.specs.GateValue.{GateValue}
use Rattle.net_core.specs.NetList.{NetList, LabelValue, number_of}
use Rattle.net_core.specs.Inside.{IsInside, GateIsInside, IsNetName}
use Rattle.net_core.specs.Sound.{sources, drivers, Needs, IsCycle, IsSound}
use Rattle.net_core.specs.Value.{index_of, IsRight}
use Rattle.net_core.specs.Level.{Levels, level_at, level_over, AreLevels}
use Rattle.net_core.specs.private.NameHash.{number_after, hash_of}
use Rattle.net_core.specs.declared.keyed_hash.KeyedHash.{KeyedHash}
use Rattle.graph_core.specs.Walk.{IsChain}

abbrev named : List ℕ → LabelValue
named name = record { text = name; named = true }

abbrev and_gate : GateValue
and_gate = record { out = 2; inputs = 0 ∷ 1 ∷ []; table = 8 }

abbrev xor_gate : GateValue
xor_gate = record { out = 3; inputs = 2 ∷ 0 ∷ []; table = 6 }

abbrev one_gate : NetList
one_gate = record { labels = named (codes "a") ∷ named (codes "b") ∷ named (codes "y") ∷ []; inputs = 0 ∷ 1 ∷ []; outputs = 2 ∷ []; gates = and_gate ∷ []; latches = [] }

abbrev two_gates : NetList
two_gates = record { labels = named (codes "a") ∷ named (codes "b") ∷ named (codes "y") ∷ named (codes "z") ∷ []; inputs = 0 ∷ 1 ∷ []; outputs = 3 ∷ []; gates = xor_gate ∷ and_gate ∷ []; latches = [] }

abbrev four_levels : Levels
four_levels = Some 0 ∷ Some 0 ∷ Some 1 ∷ Some 2 ∷ []

-- with the bits 1, 0, 1 of nets 0 to 2, nets 1 and 2 have the index 0 + 2 * 1 = 2
index_of_two_nets : index_of (true ∷ false ∷ true ∷ []) (1 ∷ 2 ∷ []) ≡ 2
index_of_two_nets = refl

-- 1 AND 1 is 1, bit 3 of the table 8
one_and_one : IsRight (true ∷ true ∷ true ∷ []) and_gate
one_and_one = refl

-- 1 AND 0 is 0, bit 1 of the table 8
one_and_zero : IsRight (true ∷ false ∷ false ∷ []) and_gate
one_and_zero = refl

-- the net named `b` is net 1
number_of_b : number_of one_gate (codes "b") ≡ Some 1
number_of_b = refl

-- no net is named `x`
number_of_x : number_of one_gate (codes "x") ≡ None
number_of_x = refl

-- the name `a` as a number: the digits 1, its length, and 97
number_of_a : number_after 1 (codes "a") ≡ 353
number_of_a = refl

-- the upper half of 353 times 2^64 + 1 is 353
hash_of_a : (long : KeyedHash) → hash_of (record { factor = 18446744073709551617; long = long }) (codes "a") ≡ 353
hash_of_a long = refl

-- net 2 has one driver, the gate
drivers_of_y : drivers one_gate 2 ≡ 1
drivers_of_y = refl

-- a gate over nets of the levels 0 and 1 has the level 2
level_over_two : level_over (Some 0 ∷ Some 1 ∷ []) (0 ∷ 1 ∷ []) ≡ Some 2
level_over_two = refl

-- in z = (a AND b) XOR a, the levels of a, b, y and z are 0, 0, 1 and 2
levels_of_two_gates : AreLevels two_gates four_levels
levels_of_two_gates = record { long = refl; sources = from_sources; gates = from_gates }
  where
    from_sources : (n : ℕ) → Has (sources two_gates) n → level_at four_levels n ≡ Some 0
    from_sources n (zero, got) = let same : 0 ≡ n = cc in rw (← same) refl
    from_sources n (suc zero, got) = let same : 1 ≡ n = cc in rw (← same) refl
    from_sources n (suc (suc k), got) = absurd (cc)

    from_gates : (g : GateValue) → Has two_gates.gates g → level_at four_levels g.out ≡ level_over four_levels g.inputs
    from_gates g (zero, got) = let same : xor_gate ≡ g = cc in rw (← same) refl
    from_gates g (suc zero, got) = let same : and_gate ≡ g = cc in rw (← same) refl
    from_gates g (suc (suc k), got) = absurd (cc)

inside : IsInside one_gate
inside = record { few_nets = omega arith; few_gates = omega arith; inputs = inputs; outputs = outputs; gates = gates; latches = λ k d h. absurd (omega arith); names = names }
  where
    inputs : (k d : ℕ) → k < 2 → get_or (0 ∷ 1 ∷ []) k d < 3
    inputs zero d h = omega arith
    inputs (suc zero) d h = omega arith
    inputs (suc (suc k)) d h = absurd (omega arith)

    outputs : (k d : ℕ) → k < 1 → get_or (2 ∷ []) k d < 3
    outputs zero d h = omega arith
    outputs (suc k) d h = absurd (omega arith)

    gates : (k : ℕ) (d : GateValue) → k < 1 → GateIsInside 3 (get_or (and_gate ∷ []) k d)
    gates zero d h = (omega arith, inputs, omega arith, omega arith)
    gates (suc k) d h = absurd (omega arith)

    names : (n : ℕ) (label : LabelValue) → slice_get one_gate.labels n ≡ Some label → label.named ≡ true → IsNetName label.text × (number_of one_gate label.text ≡ Some n)
    names zero label got is = let same : named (codes "a") ≡ label = cc in rw (← same) ((omega arith, omega arith), refl)
    names (suc zero) label got is = let same : named (codes "b") ≡ label = cc in rw (← same) ((omega arith, omega arith), refl)
    names (suc (suc zero)) label got is = let same : named (codes "y") ≡ label = cc in rw (← same) ((omega arith, omega arith), refl)
    names (suc (suc (suc n))) label got is = absurd (cc)

one_driver : (n : ℕ) → n < 3 → drivers one_gate n ≡ 1
one_driver zero h = refl
one_driver (suc zero) h = refl
one_driver (suc (suc zero)) h = refl
one_driver (suc (suc (suc n))) h = absurd (omega arith)

gate_is : (g : GateValue) → Has one_gate.gates g → and_gate ≡ g
gate_is g (zero, got) = cc
gate_is g (suc k, got) = absurd (cc)

input_below : (b : ℕ) → Has and_gate.inputs b → b < 2
input_below b (zero, got) = let same : 0 ≡ b = cc in omega arith
input_below b (suc zero, got) = let same : 1 ≡ b = cc in omega arith
input_below b (suc (suc k), got) = absurd (cc)

needs : (a b : ℕ) → Needs one_gate a b → (a ≡ 2) × (b < 2)
needs a b (g, has, out, input) =
    let same : and_gate ≡ g = gate_is g has in
    let P : GateValue → Type 0 = λ (h : GateValue). (h.out ≡ a) → Has h.inputs b → (a ≡ 2) × (b < 2) in
    subst P same (λ o i. (omega arith, input_below b i)) out input

starts : (a : ℕ) (over : List ℕ) (b : ℕ) → IsChain (Needs one_gate) a over b → a ≡ 2
starts a [] b chain = (needs a b chain).0
starts a (c ∷ cs) b chain = (needs a c chain.0).0

no_cycle : (cycle : List ℕ) → IsCycle one_gate cycle → ⊥
no_cycle [] cycle = cycle
no_cycle (a ∷ []) cycle = let both : (a ≡ 2) × (a < 2) = needs a a cycle in omega (arith, both.0, both.1)
no_cycle (a ∷ c ∷ cs) cycle = omega (arith, (needs a c cycle.0).1, starts c cs a cycle.1)

-- the net y = a AND b is sound
and_is_sound : IsSound one_gate
and_is_sound = record { inside = inside; one = one_driver; no_cycle = λ has. no_cycle has.0 has.1 }
