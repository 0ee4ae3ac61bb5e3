-- Small worked examples of the definitions of specs/, which the check computes: the net y = a AND b, whose nets are
-- 0, 1 and 2, as a circuit over the field of 0 and 1 with words A and B of one bit and the output Z.
use Rattle.std.proofs.Common.{◌≡◌, ◌≢◌, ℕ, zero, suc, ◌<◌, ◌≤◌, ◌+◌, List, [], ◌∷◌, length, Bool, ◌&&◌, cond, true, false, Some, slice_get, inr, sym, subst, refl, arith}
use Rattle.std.specs.Prelude.{bit_xor}
use Rattle.std.specs.List.{list_all, AllByRecursion}
use Rattle.std.specs.List.Sorted.{IsStrictlySortedBy}
use Rattle.lists.specs.Lists.{Has}
use Rattle.gf_field.specs.Bit.{bit_mul}
use Rattle.gf_field.specs.Power.{power}
use Rattle.gf_field.specs.laws.BitLaws.{IsRing-bit_mul}
use Rattle.net_core.specs.GateValue.{GateValue}
use Rattle.net_core.specs.Sound.{sources}
use Rattle.net_core.specs.Value.{bit_of, IsRight}
use Rattle.net_core.specs.Level.{Levels, level_at, level_over, AreLevels}
use Rattle.net_core.specs.Order.{IsElimination, IsOrder, IsBefore, rank_at}
use Rattle.net_words.specs.declared.word.Role.TheVariants.{Input}
use Rattle.poly_mixed.specs.Monomial.{Monomial}
use Rattle.poly_mixed.specs.Polynomial.{Point, point, IsMonomial, IsPolynomialOf, IsReduced, powers, value}
use Rattle.poly_mixed.proofs.FieldLaws.{IsField, field_of}
use Rattle.poly_mixed.proofs.SimpleLemmas.{one_simple, no_ranks_rise}
use Rattle.poly_mixed.proofs.UniquenessLemmas.{zero_powers}
use Rattle.poly_mixed.proofs.ValueLemmas.{one_map}
use Rattle.poly_mixed.specs.declared.stage.Stage.TheVariants.{Cut, WordProduct, WordSum}
use Rattle.circuit_model.specs.Word.{Word, HasElement}
use Rattle.circuit_model.specs.Out.{IsOut}
use Rattle.circuit_model.proofs.Examples.{word, and_gate, and_net, and_circuit, gates_are_right, output_at}
use Rattle.stage_model.specs.Variables.{variables_of, rank_in, point_bit, point_bits}
use Rattle.stage_model.specs.Cut.{CutOf, IsAmongFirst}
use Rattle.stage_model.specs.Mix.{IsMix}
use Rattle.stage_model.specs.Stage.{IsOfStage}
use Rattle.stage_model.specs.Listing.{Earlier, Later}
use Rattle.stage_model.specs.WordListing.{word_listing}
use Rattle.stage_model.specs.CircuitListing.{circuit_cuts, circuit_stages}

-- where B on net 1 stands before A on net 0, the variables are the nets 1, 0 and 2
variables_of_words : variables_of (record and_circuit { words = word Input (1 ∷ []) (1 ∷ []) ∷ word Input (0 ∷ []) (1 ∷ []) ∷ [] }) ≡ 1 ∷ 0 ∷ 2 ∷ []
variables_of_words = refl

-- there net 0 has the rank 1
rank_of_net : rank_in (1 ∷ 0 ∷ 2 ∷ []) 0 ≡ 1
rank_of_net = refl

-- and the point whose ranks are 1, 0, 1 gives the nets 0 to 2 the bits 0, 1, 1
bits_of_point : point_bits 3 (1 ∷ 0 ∷ 2 ∷ []) (point [] (true ∷ false ∷ true ∷ [])) ≡ false ∷ true ∷ true ∷ []
bits_of_point = refl

-- ranks 0 and 1 are 1, and rank 2 is 0
abbrev both : Point
both = point [] (true ∷ true ∷ false ∷ [])

abbrev levels : Levels
levels = Some 0 ∷ Some 0 ∷ Some 1 ∷ []

are_levels : AreLevels and_net levels
are_levels = record { long = refl; sources = from_sources; gates = from_gates }
  where
    from_sources : (n : ℕ) → Has (sources and_net) n → level_at levels n ≡ Some 0
    from_sources n (zero, got) = let same : 0 ≡ n = cc in rw (← same) refl
    from_sources n (suc zero, got) = let same : 1 ≡ n = cc in rw (← same) refl
    from_sources n (suc (suc k), got) = absurd (cc)

    from_gates : (g : GateValue) → Has and_net.gates g → level_at levels g.out ≡ level_over levels g.inputs
    from_gates g (zero, got) = let same : and_gate ≡ g = cc in rw (← same) refl
    from_gates g (suc k, got) = absurd (cc)

is_order : IsOrder and_net levels (0 ∷ [])
is_order = record { long = refl; each = each; within = within; rises = rises }
  where
    each : (p : ℕ) (g : GateValue) → slice_get and_net.gates p ≡ Some g → Has (0 ∷ []) p
    each zero g got = (0, refl)
    each (suc p) g got = absurd (cc)

    within : (p : ℕ) → Has (0 ∷ []) p → (g : GateValue) × (slice_get and_net.gates p ≡ Some g)
    within p (zero, got) = let same : 0 ≡ p = cc in rw (← same) (and_gate, refl)
    within p (suc k, got) = absurd (cc)

    rises : (i p q : ℕ) → slice_get (0 ∷ []) i ≡ Some p → slice_get (0 ∷ []) (i + 1) ≡ Some q → (g : GateValue) × (h : GateValue) × (slice_get and_net.gates p ≡ Some g) × (slice_get and_net.gates q ≡ Some h) × IsBefore (rank_at levels g.out) p (rank_at levels h.out) q
    rises zero p q got after = absurd (cc)
    rises (suc i) p q got after = absurd (cc)

-- the one gate, at position 0, is the order of elimination
elimination : IsElimination and_net (0 ∷ [])
elimination = (levels, are_levels, is_order)

-- cut 0 leaves net 2 free: where it is 0, the element is 0, though both inputs are 1
cut_before_gates : CutOf and_circuit 0 both 0
cut_before_gates = record {
  order = 0 ∷ [];
  elimination = elimination;
  bits = true ∷ true ∷ false ∷ [];
  settled = record { long = refl; free = free; right = λ g among. absurd (none g among) };
  element = record { long = refl; sum = record { short = omega arith; is = refl } };
}
  where
    none : (g : GateValue) → IsAmongFirst and_net (0 ∷ []) 0 g → ⊥
    none g (i, p, less, at, is) = absurd (omega arith)

    free : (n : ℕ) → n < 3 → ((g : GateValue) → IsAmongFirst and_net (0 ∷ []) 0 g → g.out ≢ n) → bit_of (true ∷ true ∷ false ∷ []) n ≡ point_bit (0 ∷ 1 ∷ 2 ∷ []) both n
    free zero h other = refl
    free (suc zero) h other = refl
    free (suc (suc zero)) h other = refl
    free (suc (suc (suc n))) h other = absurd (omega arith)

-- cut 1 settles it by the gate: the element is 1, where both inputs are 1
cut_after_gate : CutOf and_circuit 1 both 1
cut_after_gate = record {
  order = 0 ∷ [];
  elimination = elimination;
  bits = true ∷ true ∷ true ∷ [];
  settled = record { long = refl; free = free; right = right };
  element = record { long = refl; sum = record { short = omega arith; is = refl } };
}
  where
    right : (g : GateValue) → IsAmongFirst and_net (0 ∷ []) 1 g → IsRight (true ∷ true ∷ true ∷ []) g
    right g (i, p, less, at, is) = gates_are_right true true g (p, is)

    free : (n : ℕ) → n < 3 → ((g : GateValue) → IsAmongFirst and_net (0 ∷ []) 1 g → g.out ≢ n) → bit_of (true ∷ true ∷ true ∷ []) n ≡ point_bit (0 ∷ 1 ∷ 2 ∷ []) both n
    free zero h other = refl
    free (suc zero) h other = refl
    free (suc (suc zero)) h other = absurd (other and_gate (0, 0, omega arith, refl, refl) refl)
    free (suc (suc (suc n))) h other = absurd (omega arith)

-- a net of one gate has the cuts 0 and 1
cut_is_listed : (circuit_cuts and_circuit).is_listed (Cut 1)
cut_is_listed = omega arith

-- each cut comes before the stages of words
cut_comes_first : (circuit_stages and_circuit).comes_before (Earlier (Cut 3)) (Later (WordSum 0 1))
cut_comes_first = tt

-- and the products of term 1 of word 0 come before its sum
product_before_sum : (word_listing and_circuit).comes_before (WordProduct 0 1 2) (WordSum 0 1)
product_before_sum = inr (refl, inr (refl, tt))

field : IsField 1 bit_mul
field = field_of 1 bit_mul IsRing-bit_mul (record { nonzero = nonzero })
  where
    nonzero : (a b : ℕ) → a < 2 → b < 2 → a ≢ 0 → b ≢ 0 → bit_mul a b ≢ 0
    nonzero zero b h g na nb e = na refl
    nonzero (suc zero) zero h g na nb e = nb refl
    nonzero (suc zero) (suc zero) h g na nb e = omega (arith, e)
    nonzero (suc zero) (suc (suc b)) h g na nb e = omega arith
    nonzero (suc (suc a)) b h g na nb e = omega arith

-- A[0]*B[0], whose ranks are 0 and 1
abbrev both_bits : Monomial
both_bits = record { exponents = 0 ∷ 0 ∷ 0 ∷ 0 ∷ 0 ∷ 0 ∷ 0 ∷ 0 ∷ []; bits = 0 ∷ 1 ∷ [] }

is_monomial : IsMonomial 1 both_bits
unfolding IsStrictlySortedBy
is_monomial =
    let z : 0 < 2 = omega arith in
    record { words = refl; exponents = (z, (z, (z, (z, (z, (z, (z, (z, tt)))))))); rising = ((refl, tt), (tt, tt)) }

simple : IsPolynomialOf 1 bit_mul (λ p. cond (list_all p.is_one (0 ∷ 1 ∷ [])) 1 0) ((both_bits, 1) ∷ [])
simple = one_simple field 1 both_bits (omega arith) is_monomial (refl, (refl, (refl, (refl, (refl, (refl, (refl, (refl, tt))))))))

gate_is_right : (a b c : Bool) → c ≡ (a && (b && true)) → IsRight (a ∷ b ∷ c ∷ []) and_gate
gate_is_right true true c is = is
gate_is_right true false c is = is
gate_is_right false true c is = is
gate_is_right false false c is = is

has_element : (a b c : Bool) → HasElement (a ∷ b ∷ c ∷ []) and_circuit.output (cond c 1 0)
has_element a b true = record { long = refl; sum = record { short = omega arith; is = refl } }
has_element a b false = record { long = refl; sum = record { short = omega arith; is = refl } }

last_cut_at : (p : Point) → CutOf and_circuit 1 p (cond (list_all p.is_one (0 ∷ 1 ∷ [])) 1 0)
last_cut_at p = record {
  order = 0 ∷ [];
  elimination = elimination;
  bits = p.is_one 0 ∷ p.is_one 1 ∷ list_all p.is_one (0 ∷ 1 ∷ []) ∷ [];
  settled = record { long = refl; free = free; right = right };
  element = has_element (p.is_one 0) (p.is_one 1) (list_all p.is_one (0 ∷ 1 ∷ []));
}
  where
    right : (g : GateValue) → IsAmongFirst and_net (0 ∷ []) 1 g → IsRight (p.is_one 0 ∷ p.is_one 1 ∷ list_all p.is_one (0 ∷ 1 ∷ []) ∷ []) g
    right g (i, zero, less, at, is) = let same : and_gate ≡ g = cc in rw (← same) (gate_is_right (p.is_one 0) (p.is_one 1) (list_all p.is_one (0 ∷ 1 ∷ [])) refl)
    right g (i, suc q, less, at, is) = absurd (cc)

    free : (n : ℕ) → n < 3 → ((g : GateValue) → IsAmongFirst and_net (0 ∷ []) 1 g → g.out ≢ n) → bit_of (p.is_one 0 ∷ p.is_one 1 ∷ list_all p.is_one (0 ∷ 1 ∷ []) ∷ []) n ≡ point_bit (0 ∷ 1 ∷ 2 ∷ []) p n
    free zero h other = refl
    free (suc zero) h other = refl
    free (suc (suc zero)) h other = absurd (other and_gate (0, 0, omega arith, refl, refl) refl)
    free (suc (suc (suc n))) h other = absurd (omega arith)

-- the polynomial of cut 1, after which no gate is left, is A[0]*B[0]: at each point it has the cut's element
polynomial_of_last_cut : IsOfStage 1 bit_mul (CutOf and_circuit 1) ((both_bits, 1) ∷ [])
polynomial_of_last_cut = record {
  reduced = simple.reduced;
  values = λ p at. let P : ℕ → Type 0 = CutOf and_circuit 1 p in subst P (sym (simple.values p at)) (last_cut_at p);
}

-- A*B
abbrev both_words : Monomial
both_words = record { exponents = 1 ∷ 1 ∷ 0 ∷ 0 ∷ 0 ∷ 0 ∷ 0 ∷ 0 ∷ []; bits = [] }

product_is_reduced : IsReduced 1 ((both_words, 1) ∷ [])
product_is_reduced =
    let z : 0 < 2 = omega arith in
    let o : 1 < 2 = omega arith in
    record {
      is_map = one_map both_words 1 no_ranks_rise (λ e. absurd (omega arith));
      terms = (record { monomial = record { words = refl; exponents = (o, (o, (z, (z, (z, (z, (z, (z, tt)))))))); rising = no_ranks_rise }; element = o }, tt);
    }

-- the value of A*B, where A is x and B is y, as the definition computes it from the value 1 of the other words
abbrev product_value : ℕ → ℕ → ℕ → ℕ
product_value x y others = bit_xor (bit_mul 1 (bit_mul (power bit_mul x 1) (bit_mul (power bit_mul y 1) others))) 0

output_is_product : (x y : ℕ) → x < 2 → y < 2 → IsOut and_circuit (x ∷ y ∷ []) (product_value x y 1)
unfolding power
output_is_product zero zero h g = output_at false false
output_is_product zero (suc zero) h g = output_at false true
output_is_product (suc zero) zero h g = output_at true false
output_is_product (suc zero) (suc zero) h g = output_at true true
output_is_product zero (suc (suc y)) h g = absurd (omega arith)
output_is_product (suc zero) (suc (suc y)) h g = absurd (omega arith)
output_is_product (suc (suc x)) y h g = absurd (omega arith)

mix_at : (ws : List ℕ) (is_one : ℕ → Bool) → length ws ≡ 8 → AllByRecursion (λ x. x < 2) ws → IsMix and_circuit 2 (record { words = ws; is_one = is_one }) (value bit_mul (record { words = ws; is_one = is_one }) ((both_words, 1) ∷ []))
mix_at [] is_one long all = absurd (omega (arith, long))
mix_at (x ∷ []) is_one long all = absurd (omega (arith, long))
mix_at (x ∷ y ∷ ws) is_one long all = record {
  xs = x ∷ y ∷ [];
  mixed = record { words = words; bits = bits };
  output = let P : ℕ → Type 0 = λ others. IsOut and_circuit (x ∷ y ∷ []) (product_value x y others) in subst P (sym others_are_one) (output_is_product x y all.0 all.1.0);
}
  where
    others_are_one : powers bit_mul (0 ∷ 0 ∷ 0 ∷ 0 ∷ 0 ∷ 0 ∷ []) ws ≡ 1
    others_are_one = zero_powers field (0 ∷ 0 ∷ 0 ∷ 0 ∷ 0 ∷ 0 ∷ []) ws (refl, (refl, (refl, (refl, (refl, (refl, tt))))))

    words : (i e : ℕ) → i < 2 → slice_get (x ∷ y ∷ []) i ≡ Some e → slice_get (x ∷ y ∷ ws) i ≡ Some e
    words zero e h got = got
    words (suc zero) e h got = got
    words (suc (suc i)) e h got = absurd (omega arith)

    bits : (i e : ℕ) (w : Word) → 2 ≤ i → slice_get and_circuit.words i ≡ Some w → slice_get (x ∷ y ∷ []) i ≡ Some e → HasElement (point_bits 3 (0 ∷ 1 ∷ 2 ∷ []) (record { words = x ∷ y ∷ ws; is_one = is_one })) w e
    bits zero e w h at got = absurd (omega arith)
    bits (suc zero) e w h at got = absurd (omega arith)
    bits (suc (suc i)) e w h at got = absurd (cc)

-- the polynomial of the mix of both words, which is the output in the words, is A*B
polynomial_of_words : IsOfStage 1 bit_mul (IsMix and_circuit 2) ((both_words, 1) ∷ [])
polynomial_of_words = record { reduced = product_is_reduced; values = λ p at. mix_at p.words p.is_one at.words at.elements }
