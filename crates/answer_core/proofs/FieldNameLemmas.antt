-- Moduli and coefficients that name fields.
use Rattle.std.proofs.Common.{◌≡◌, ◌∙◌, ap, sym, refl, subst, Bool, true, false, ℕ, ◌*◌, ◌≤◌, List, [], length, arith}
use Rattle.gf_field.specs.Bit.{bit_mul}
use Rattle.gf_field.specs.Field.{HasNoZeroDivisors}
use Rattle.gf_field.specs.Modulus.{IsModulus}
use Rattle.gf_field.specs.Quotient.{product}
use Rattle.gf_field.specs.laws.IrreducibleBitLaws.{field_by_modulus}
use Rattle.gf_field.specs.laws.ModulusLaws.{IsRing-from_modulus}
use Rattle.irreducible.specs.Proved.{ring_of}
use Rattle.gf_tower.specs.declared.any_field.AnyField.{AnyField}
use Rattle.gf_tower.specs.declared.any_field.AnyField.TheVariants.{Base, Tower, Upper}
use Rattle.gf_tower.specs.TowerParts.{base_of, coefficients_of}
use Rattle.gf_tower.specs.Digits.{IsPackedList}
use Rattle.gf_tower.specs.FieldName.{IsFieldModulus, IsFieldTower}
use Rattle.gf_tower.specs.Tower.{polynomial_of, tower_polynomial}
use Rattle.gf_tower.specs.laws.TowerLaws.{field_by_polynomial}
use Rattle.net_signature.specs.Signature.{SignatureValue}
use Rattle.job_input.specs.Setting.{IsNamedBy}

-- a modulus whose quotient has no zero divisors names a field
pub field_modulus : (k g : ℕ) → IsModulus k g → HasNoZeroDivisors k (product 1 k bit_mul g) → IsFieldModulus k g
field_modulus k g modulus field = record { modulus = modulus; irreducible = (field_by_modulus k g modulus).0 field }

-- and so do coefficients of a tower over it
pub field_tower : (n g m low : ℕ) (cs : List ℕ) → IsModulus n g → HasNoZeroDivisors n (product 1 n bit_mul g) → IsPackedList n m low cs → HasNoZeroDivisors (n * m) (product n m (product 1 n bit_mul g) (tower_polynomial n cs)) → IsFieldTower n g cs
field_tower n g m low cs modulus base packs field =
    let mul = product 1 n bit_mul g in
    let P : ℕ → Type 0 = λ l. HasNoZeroDivisors (n * l) (product n l mul (tower_polynomial n cs)) in
    let Q : ℕ → Type 0 = λ l. IsPackedList n l (polynomial_of n cs) cs in
    let packs' : IsPackedList n m (polynomial_of n cs) cs = record { two = packs.two; small = packs.small; size = packs.size; elements = packs.elements; packs = refl } in
    let own : IsPackedList n (length cs) (polynomial_of n cs) cs = subst Q (sym packs.size) packs' in
    record {
      list = record { size = record { two = own.two; small = own.small }; elements = own.elements };
      irreducible = (field_by_polynomial n (length cs) (polynomial_of n cs) cs own mul (IsRing-from_modulus n g modulus) base).0 (subst P (sym packs.size) field);
    }

-- ---- towers have coefficients

some_coefficients : (n m low : ℕ) (cs ds : List ℕ) → IsPackedList n m low cs → cs ≡ ds → ds ≡ [] → ⊥
some_coefficients n m low cs ds packs same none =
    let two : 2 ≤ m = packs.two in
    let size : length cs ≡ m = packs.size in
    let long : length cs ≡ 0 = ap (λ (xs : List ℕ). length xs) (same ∙ none) in
    omega (arith, two, size, long)

some_tower : (d g : ℕ) (cs : List ℕ) → IsFieldTower d g cs → cs ≡ [] → ⊥
some_tower d g cs tower none =
    let two : 2 ≤ length cs = tower.list.size.two in
    let long : length cs ≡ 0 = ap (λ (xs : List ℕ). length xs) none in
    omega (arith, two, long)

-- ---- what a field is made of

abbrev pub is_base : AnyField → Bool
is_base (Base field) = true
is_base (Tower field) = false
is_base (Upper field) = false

abbrev pub is_tower : AnyField → Bool
is_tower (Base field) = false
is_tower (Tower field) = true
is_tower (Upper field) = false

-- a field that is no base has a first step
pub not_base : (signature : SignatureValue) (field : AnyField) → IsNamedBy signature field → is_base field ≡ false → signature.tower ≡ [] → ⊥
not_base signature (Base field) named other none = absurd (cc)
not_base signature (Tower field) named other none = some_coefficients _ _ field.ring.low (coefficients_of (ring_of field)) signature.tower field.ring.fits named.tower none
not_base signature (Upper field) named other none =
    let lower = base_of (ring_of field) in
    some_coefficients _ _ lower.ring.low (coefficients_of (ring_of lower)) signature.tower lower.ring.fits named.tower none

-- a field that is no tower of one step has none or two
pub not_tower : (signature : SignatureValue) (field : AnyField) → IsNamedBy signature field → is_tower field ≡ false → (d : ℕ) → IsFieldTower d signature.modulus signature.tower → signature.upper ≡ [] → ⊥
not_tower signature (Base field) named other d tower none = some_tower d signature.modulus signature.tower tower (sym named.tower)
not_tower signature (Tower field) named other d tower none = absurd (cc)
not_tower signature (Upper field) named other d tower none = some_coefficients _ _ field.ring.low (coefficients_of (ring_of field)) signature.upper field.ring.fits named.upper none
