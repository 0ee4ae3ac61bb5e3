-- Small worked examples of the definitions of specs/, which the check computes: the net y = a AND b as a circuit over the
-- field of 0 and 1, with words A and B of one bit and the output Z; and words of two bits over the field of four elements.
use Rattle.std.proofs.Common.{◌≡◌, ℕ, zero, suc, ◌<◌, [], ◌∷◌, List, Bool, ◌&&◌, cond, true, false, Some, codes, slice_get, refl, arith}
use Rattle.lists.specs.Lists.{Has}
use Rattle.gf_field.specs.Bit.{bit_mul}
use Rattle.net_core.specs.GateValue.{GateValue}
use Rattle.net_core.specs.LatchValue.{LatchValue}
use Rattle.net_core.specs.NetList.{NetList, LabelValue}
use Rattle.net_core.specs.Value.{IsRight}
use Rattle.net_words.specs.declared.word.Role.{Role}
use Rattle.net_words.specs.declared.word.Role.TheVariants.{Input, Output}
use Rattle.circuit_model.specs.Word.{Word, HasElement, word_nets}
use Rattle.circuit_model.specs.Circuit.{Circuit, IsFed, IsInNoWord}
use Rattle.circuit_model.specs.Run.{IsRun, IsClockCycle, HasZeros}
use Rattle.circuit_model.specs.Out.{IsOut}

abbrev pub word : Role → List ℕ → List ℕ → Word
word role nets basis = record { role = role; nets = nets; basis = basis }

-- where nets 4 and 5 are 0 and 1, the word on them with the basis 2 and 3 has the element 3
element_of_second : HasElement (false ∷ false ∷ false ∷ false ∷ false ∷ true ∷ []) (word Input (4 ∷ 5 ∷ []) (2 ∷ 3 ∷ [])) 3
element_of_second = record { long = refl; sum = record { short = omega arith; is = refl } }

-- where both are 1, it has the element 2 + 3 = 1
element_of_both : HasElement (true ∷ true ∷ []) (word Input (0 ∷ 1 ∷ []) (2 ∷ 3 ∷ [])) 1
element_of_both = record { long = refl; sum = record { short = omega arith; is = refl } }

-- words on the nets 4, 5 and on 0, 1 have the nets 4, 5, 0, 1
nets_of_words : word_nets (word Input (4 ∷ 5 ∷ []) (1 ∷ 2 ∷ []) ∷ word Input (0 ∷ 1 ∷ []) (1 ∷ 2 ∷ []) ∷ []) ≡ 4 ∷ 5 ∷ 0 ∷ 1 ∷ []
nets_of_words = refl

abbrev pub named : List ℕ → LabelValue
named name = record { text = name; named = true }

abbrev pub and_gate : GateValue
and_gate = record { out = 2; inputs = 0 ∷ 1 ∷ []; table = 8 }

abbrev pub and_net : NetList
and_net = record { labels = named (codes "a") ∷ named (codes "b") ∷ named (codes "y") ∷ []; inputs = 0 ∷ 1 ∷ []; outputs = 2 ∷ []; gates = and_gate ∷ []; latches = [] }

abbrev pub and_circuit : Circuit
and_circuit = record { k = 1; product = bit_mul; net = and_net; words = word Input (0 ∷ []) (1 ∷ []) ∷ word Input (1 ∷ []) (1 ∷ []) ∷ []; output = word Output (2 ∷ []) (1 ∷ []); feeds = []; cycles = 0 }

-- a bit as an element
abbrev pub element : Bool → ℕ
element b = cond b 1 0

-- the bits of a, b and y
abbrev pub bits_at : Bool → Bool → List Bool
bits_at a b = a ∷ b ∷ (a && b) ∷ []

only_bits : (one : List Bool) (t : ℕ) (bits : List Bool) → slice_get (one ∷ []) t ≡ Some bits → one ≡ bits
only_bits one zero bits got = cc
only_bits one (suc t) bits got = absurd (cc)

gate_is_right : (a b : Bool) → IsRight (bits_at a b) and_gate
gate_is_right true true = refl
gate_is_right true false = refl
gate_is_right false true = refl
gate_is_right false false = refl

pub gates_are_right : (a b : Bool) (g : GateValue) → Has and_net.gates g → IsRight (bits_at a b) g
gates_are_right a b g (zero, got) = let same : and_gate ≡ g = cc in rw (← same) (gate_is_right a b)
gates_are_right a b g (suc k, got) = absurd (cc)

first_element : (a b c : Bool) → HasElement (a ∷ b ∷ c ∷ []) (word Input (0 ∷ []) (1 ∷ [])) (element a)
first_element true b c = record { long = refl; sum = record { short = omega arith; is = refl } }
first_element false b c = record { long = refl; sum = record { short = omega arith; is = refl } }

second_element : (a b c : Bool) → HasElement (a ∷ b ∷ c ∷ []) (word Input (1 ∷ []) (1 ∷ [])) (element b)
second_element a true c = record { long = refl; sum = record { short = omega arith; is = refl } }
second_element a false c = record { long = refl; sum = record { short = omega arith; is = refl } }

output_element : (a b c : Bool) → HasElement (a ∷ b ∷ c ∷ []) and_circuit.output (element c)
output_element a b true = record { long = refl; sum = record { short = omega arith; is = refl } }
output_element a b false = record { long = refl; sum = record { short = omega arith; is = refl } }

no_latch : (l : LatchValue) → Has and_net.latches l → ⊥
no_latch l (k, got) = absurd (cc)

no_feed : (n : ℕ) → IsFed and_circuit n → ⊥
no_feed n (k, got) = absurd (cc)

below_two : (a : Bool) → element a < 2
below_two true = omega arith
below_two false = omega arith

module _ (a b : Bool) where
  have_elements : (i : ℕ) (w : Word) (x : ℕ) → slice_get and_circuit.words i ≡ Some w → slice_get (element a ∷ element b ∷ []) i ≡ Some x → HasElement (bits_at a b) w x
  have_elements zero w x got one = let same : word Input (0 ∷ []) (1 ∷ []) ≡ w = cc in let is : element a ≡ x = cc in rw (← same, ← is) (first_element a b (a && b))
  have_elements (suc zero) w x got one = let same : word Input (1 ∷ []) (1 ∷ []) ≡ w = cc in let is : element b ≡ x = cc in rw (← same, ← is) (second_element a b (a && b))
  have_elements (suc (suc i)) w x got one = absurd (cc)

  run_at : IsRun and_circuit (element a ∷ element b ∷ []) (bits_at a b ∷ [])
  run_at = record {
    open_run = record {
      input = record { long = refl; elements = elements };
      long = refl;
      each = each;
      first = λ bits got. rw (← only_bits (bits_at a b) 0 bits got) (record { states = λ i w x at one is. have_elements i w x at one; latches = λ l has out. absurd (no_latch l has) });
      next = λ t before bits got after l has. absurd (no_latch l has);
    };
    zeros = zeros;
  }
    where
      elements : (x : ℕ) → Has (element a ∷ element b ∷ []) x → x < 2
      elements x (zero, got) = let is : element a ≡ x = cc in rw (← is) (below_two a)
      elements x (suc zero, got) = let is : element b ≡ x = cc in rw (← is) (below_two b)
      elements x (suc (suc k), got) = absurd (cc)

      each : (t : ℕ) (bits : List Bool) → slice_get (bits_at a b ∷ []) t ≡ Some bits → IsClockCycle and_circuit (element a ∷ element b ∷ []) t bits
      each t bits got = rw (← only_bits (bits_at a b) t bits got) (record { consistent = record { long = refl; gates = gates_are_right a b }; inputs = λ i w x at one role. have_elements i w x at one; feeds = λ n fed. absurd (no_feed n fed) })

      zeros : (t : ℕ) (bits : List Bool) → slice_get (bits_at a b ∷ []) t ≡ Some bits → HasZeros and_circuit bits
      zeros t bits got n free = absurd (named n free.input free.unnamed)
        where
          named : (n : ℕ) → Has and_net.inputs n → IsInNoWord and_circuit n → ⊥
          named n (zero, is) none = none (0, is)
          named n (suc zero, is) none = none (1, is)
          named n (suc (suc k), is) none = absurd (cc)

-- where A and B have the bits a and b, the output is a AND b, by the run of one cycle
pub output_at : (a b : Bool) → IsOut and_circuit (element a ∷ element b ∷ []) (element (a && b))
output_at a b = record {
  run = bits_at a b ∷ [];
  is_run = run_at a b;
  ends = record { last = bits_at a b; at = refl; element = output_element a b (a && b) };
}
