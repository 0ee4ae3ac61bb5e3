-- The values of literals in consistent lists of bits: of those that have a gate, and of those that are defined.
use Rattle.std.proofs.Common.{◌≡◌, ◌∙◌, ap, sym, refl, subst, inl, inr, ◌⊎◌, ℕ, ◌%◌, Bool, true, false, cond, not, List, [], ◌∷◌, length, get_or, None, Some, arith}
use Rattle.std.specs.Prelude.{nat_lt, nat_le, nat_eq, ◌==◌}
use Rattle.std.specs.Int.{bit_at}
use Rattle.std.specs.List.{position, position_or_len}
use Rattle.std.proofs.lemmas.Bool.{eqb-true, le-ltb, leb-true, ltb-true}
use Rattle.std.proofs.lemmas.List.Sums.{passes_at_first}
use Rattle.std.proofs.lemmas.Option.{slice_get-get_or}
use Rattle.lists.specs.Lists.{Has}
use Rattle.lists.specs.laws.BoolLaws.{both_true as plain_parts}
use Rattle.lists.specs.laws.NumberLaws.{bit_cases}
use Rattle.net_core.specs.NetList.{NetList}
use Rattle.net_core.specs.Value.{bit_of, index_of}
use Rattle.net_aiger.specs.Nets.{inputs_of, is_plain, literal_gate, table_of}
use Rattle.net_aiger.specs.Reading.{Reading, even, net_of, variable_net}
use Rattle.net_aiger.specs.Values.{HasLiteralValue, literal_value}
use Rattle.net_aiger.proofs.PlainLemmas.{ArePlain}
use Rattle.net_aiger.proofs.ValueLemmas.{one_value}

-- the table of a literal at the bit of its variable
literal_table : (reading : Reading) (bits : List Bool) (literal : ℕ) → (bit_at (table_of literal) (index_of bits (inputs_of reading literal)) == 1) ≡ literal_value reading bits literal
literal_table reading bits literal = by (nat_lt literal 2) refl
  where
    x : Bool
    x = bit_of bits (variable_net reading literal)

    Value : ℕ → Bool → Type 0
    Value l a = (bit_at (cond a l (cond (l % 2 == 0) 2 1)) (index_of bits (cond a [] (variable_net reading literal ∷ []))) == 1) ≡ cond a (l == 1) (cond (l % 2 == 0) x (not x))

    fixed : (literal ≡ 0) ⊎ (literal ≡ 1) → Value literal true
    fixed (inl is) = subst (λ (l : ℕ). Value l true) (sym is) refl
    fixed (inr is) = subst (λ (l : ℕ). Value l true) (sym is) refl

    by : (a : Bool) → nat_lt literal 2 ≡ a → Value literal a
    by true e = fixed (bit_cases literal (ltb-true literal 2 e))
    by false e = one_value (literal % 2 == 0) x

-- a gate gives its net the literal's value
pub gate_value : (reading : Reading) (net : NetList) (n literal : ℕ) → Has net.gates (literal_gate reading n literal) → HasLiteralValue reading net n literal
gate_value reading net n literal has = λ bits consistent. consistent.gates (literal_gate reading n literal) has ∙ literal_table reading bits literal

-- a plain literal has its variable's bit
pub plain_value : (reading : Reading) (bits : List Bool) (literal : ℕ) → is_plain literal ≡ true → literal_value reading bits literal ≡ bit_of bits (variable_net reading literal)
plain_value reading bits literal plain =
    let parts = plain_parts (nat_le 2 literal) (literal % 2 == 0) plain in
    let large : nat_lt literal 2 ≡ false = not_less literal parts.0 in
    rw (large, parts.1) refl
  where
    not_less : (l : ℕ) → nat_le 2 l ≡ true → nat_lt l 2 ≡ false
    not_less l e = le-ltb l 2 (leb-true 2 l e)

-- a literal that is among the defined ones is plain
found_plain : (literals : List ℕ) (literal n : ℕ) → ArePlain literals → position (nat_eq literal) literals ≡ Some n → is_plain literal ≡ true
found_plain literals literal n plain found = by (nat_lt (position_or_len (nat_eq literal) literals) (length literals)) refl found
  where
    by : (b : Bool) → nat_lt (position_or_len (nat_eq literal) literals) (length literals) ≡ b → cond b (Some (position_or_len (nat_eq literal) literals)) None ≡ Some n → is_plain literal ≡ true
    by true e f =
        let k = position_or_len (nat_eq literal) literals in
        let less = ltb-true k (length literals) e in
        let same : literal ≡ get_or literals k 0 = eqb-true literal (get_or literals k 0) (passes_at_first (nat_eq literal) literals 0 less) in
        subst (λ (x : ℕ). is_plain x ≡ true) (sym same) (plain k (get_or literals k 0) (slice_get-get_or literals k 0 less))
    by false e f = absurd (cc)

-- a defined literal has its net's bit
pub defined_value : (reading : Reading) (net : NetList) (literal n : ℕ) → ArePlain reading.defined → net_of reading literal ≡ Some n → HasLiteralValue reading net n literal
defined_value reading net literal n plain is = λ bits consistent.
    let self = found_plain reading.defined literal n plain is in
    let parts = plain_parts (nat_le 2 literal) (literal % 2 == 0) self in
    let zero_rest : literal % 2 ≡ 0 = eqb-true (literal % 2) 0 parts.1 in
    let same : even literal ≡ literal = omega (arith, zero_rest) in
    let here : variable_net reading literal ≡ n = rw (same, is) refl in
    ap (bit_of bits) (sym here) ∙ sym (plain_value reading bits literal self)
