-- An exclusive or of four NAND gates, worked by the check.
use Rattle.std.proofs.Common.{◌≡◌, ◌≢◌, ◌⊎◌, ◌∙◌, ap, sym, refl, inl, inr, subst, ℕ, zero, suc, ◌<◌, ◌≤◌, ◌+◌, ◌*◌, Bool, true, false, cond, List, [], ◌∷◌, length, Some, arith}
use Rattle.std.specs.Prelude.{slice_get, ◌==◌}
use Rattle.std.specs.Int.{bit_at}
use Rattle.net_core.specs.GateValue.{GateValue}
use Rattle.lists.specs.Lists.{Has}
use Rattle.net_core.specs.Value.{bit_of}
use Rattle.net_simplify.specs.Form.{Form, value, DependsOn, IsForm, IsComposed, IsRising, complement, index_by, itself}
use Rattle.net_simplify.specs.Uses.{uses}
use Rattle.net_simplify.specs.Choice.{Forms, leaves_of, price, taken}
use Rattle.net_simplify.specs.Simplified.{simple_gate}
use Rattle.net_simplify.proofs.ListLemmas.{has_cons, has_none}

abbrev nand : ℕ → ℕ → ℕ → GateValue
nand out a b = record { out = out; inputs = a ∷ (b ∷ []); table = 7 }

-- net 5 is the exclusive or of nets 0 and 1, and no end uses net 6
abbrev gates : List GateValue
gates = nand 2 0 1 ∷ (nand 6 0 1 ∷ (nand 3 0 2 ∷ (nand 4 1 2 ∷ (nand 5 3 4 ∷ []))))

uses_of_2 : uses (5 ∷ []) gates 2 ≡ 2
uses_of_2 = refl

uses_of_3 : uses (5 ∷ []) gates 3 ≡ 1
uses_of_3 = refl

uses_of_0 : uses (5 ∷ []) gates 0 ≡ 2
uses_of_0 = refl

uses_of_6 : uses (5 ∷ []) gates 6 ≡ 0
uses_of_6 = refl

-- what nets 3 and 4 are of nets 0 and 1
abbrev third : Form
third = record { leaves = 0 ∷ (1 ∷ []); table = 13 }

abbrev fourth : Form
fourth = record { leaves = 0 ∷ (1 ∷ []); table = 11 }

their_leaves : leaves_of (third ∷ (itself 1 ∷ (itself 7 ∷ (fourth ∷ [])))) ≡ 0 ∷ (1 ∷ (7 ∷ []))
their_leaves = refl

their_price : price (λ n. n == 1) (0 ∷ (1 ∷ (7 ∷ []))) ≡ 11
their_price = refl

its_complement : complement third ≡ record { leaves = 0 ∷ (1 ∷ []); table = 2 }
its_complement = refl

-- with both inputs opened, and with the first alone
abbrev some_forms : Forms
some_forms = record { unit = itself; body = λ n. cond (n == 3) third fourth }

both_opened : taken some_forms 3 (3 ∷ (4 ∷ [])) ≡ third ∷ (fourth ∷ [])
both_opened = refl

first_opened : taken some_forms 1 (3 ∷ (4 ∷ [])) ≡ third ∷ (itself 4 ∷ [])
first_opened = refl

-- their NAND is the exclusive or
abbrev exclusive : Form
exclusive = record { leaves = 0 ∷ (1 ∷ []); table = 6 }

is_exclusive : IsComposed 7 (third ∷ (fourth ∷ [])) exclusive
is_exclusive = record {
  is_form = record {
    rises = (λ y has. elim (has_cons 1 [] y has) [ inl same ↦ omega (arith, same) | inr none ↦ absurd (has_none y none) ], (λ y has. absurd (has_none y has), tt));
    few = omega arith;
    fits = omega arith;
    depends = λ n has. depends n (has_cons 0 (1 ∷ []) n has);
  };
  same = λ bits. by (bit_of bits 0) (bit_of bits 1);
}
  where
    number : Bool → ℕ
    number b = cond b 1 0

    at : ℕ → Bool → Bool → Bool
    at table a b = bit_at table (number a + 2 * (number b + 2 * 0)) == 1

    by : (a b : Bool) → at 6 a b ≡ (bit_at 7 (cond (at 13 a b) 1 0 + 2 * (cond (at 11 a b) 1 0 + 2 * 0)) == 1)
    by true true = refl
    by true false = refl
    by false true = refl
    by false false = refl

    on_first : DependsOn exclusive 0
    on_first = record { bits = []; other = true ∷ []; alike = alike; differ = λ same. absurd (cc) }
      where
        alike : (m : ℕ) → m ≢ 0 → bit_of [] m ≡ bit_of (true ∷ []) m
        alike zero apart = absurd (apart refl)
        alike (suc m) apart = refl

    on_second : DependsOn exclusive 1
    on_second = record { bits = []; other = false ∷ (true ∷ []); alike = alike; differ = λ same. absurd (cc) }
      where
        alike : (m : ℕ) → m ≢ 1 → bit_of [] m ≡ bit_of (false ∷ (true ∷ [])) m
        alike zero apart = refl
        alike (suc zero) apart = absurd (apart refl)
        alike (suc (suc m)) apart = refl

    depends : (n : ℕ) → (0 ≡ n) ⊎ Has (1 ∷ []) n → DependsOn exclusive n
    depends n (inl same) = let P : ℕ → Type 0 = DependsOn exclusive in subst P same on_first
    depends n (inr rest) = elim (has_cons 1 [] n rest) [
      | inl same ↦ let P : ℕ → Type 0 = DependsOn exclusive in subst P same on_second
      | inr none ↦ absurd (has_none n none)
    ]

-- a gate whose unit is another net gets its unit, and one whose unit is its own its body
other_unit : simple_gate (uses (5 ∷ []) gates) (record { unit = λ n. itself 4; body = λ n. third }) (nand 3 0 2) ≡ record { out = 3; inputs = 4 ∷ []; table = 2 }
other_unit = refl

own_unit : simple_gate (uses (5 ∷ []) gates) some_forms (nand 3 0 2) ≡ record { out = 3; inputs = 0 ∷ (1 ∷ []); table = 13 }
own_unit = refl

left_alone : simple_gate (uses (5 ∷ []) gates) some_forms (nand 6 0 1) ≡ nand 6 0 1
left_alone = refl
