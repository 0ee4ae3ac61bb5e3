-- What the parts of a field and a tower that fit say of numbers.
use Rattle.std.proofs.Common.{◌≡◌, ℕ, suc, ◌<◌, ◌≤◌, ◌^◌, ◌*◌, arith, subst, lt_of_lt_of_le, pow_mono, List, [], ◌∷◌, length, get_or}
use Rattle.gf_field.specs.Bit.{bit_mul}
use Rattle.gf_field.specs.Field.{HasNoZeroDivisors}
use Rattle.gf_field.specs.Modulus.{IsModulus}
use Rattle.gf_field.specs.laws.ModulusLaws.{modulus_below}
use Rattle.gf_field.specs.Quotient.{product}
use Rattle.gf_tower.specs.Tower.{tower_polynomial}
use Rattle.gf_tower.specs.Digits.{IsPackedList}
use Rattle.gf_iso.specs.Isomorphism.{HasOnlyIso}
use Rattle.gf_iso.specs.private.Fields.{IsTowerField}
use Rattle.gf_iso.proofs.UniqueLaws.{only_iso}

module _ (n g m low : ℕ) (modulus : IsModulus n g) (small : n ≤ 16) (base : HasNoZeroDivisors n (product 1 n bit_mul g)) (two : m ≡ 2) where
  pub tower_field : (c0 c1 : ℕ) → IsPackedList n m low (c0 ∷ c1 ∷ []) → HasNoZeroDivisors (n * m) (product n m (product 1 n bit_mul g) (tower_polynomial n (c0 ∷ c1 ∷ []))) → IsTowerField n g c0 c1
  tower_field c0 c1 list field = record {
    base = record { modulus = modulus; small = small; field = base };
    first = list.elements 0 (omega arith);
    second = list.elements 1 (omega arith);
    field = subst (λ d. HasNoZeroDivisors (n * d) (product n d (product 1 n bit_mul g) (tower_polynomial n (c0 ∷ c1 ∷ [])))) two field;
  }

  pub only_for : (cs : List ℕ) (big : ℕ → ℕ → ℕ) → IsPackedList n m low cs → HasNoZeroDivisors (n * m) (product n m (product 1 n bit_mul g) (tower_polynomial n cs)) → HasOnlyIso n g cs big
  only_for [] big list field = absurd (let size : 0 ≡ m = list.size in omega arith)
  only_for (c0 ∷ []) big list field = absurd (let size : 1 ≡ m = list.size in omega arith)
  only_for (c0 ∷ c1 ∷ []) big list field = only_iso n g c0 c1 (tower_field c0 c1 list field) big
  only_for (c0 ∷ c1 ∷ c2 ∷ cs) big list field = absurd (let size : suc (suc (suc (length cs))) ≡ m = list.size in omega arith)

  pub tower_field_of : (cs : List ℕ) → IsPackedList n m low cs → HasNoZeroDivisors (n * m) (product n m (product 1 n bit_mul g) (tower_polynomial n cs)) → IsTowerField n g (get_or cs 0 0) (get_or cs 1 0)
  tower_field_of [] list field = absurd (let size : 0 ≡ m = list.size in omega arith)
  tower_field_of (c0 ∷ []) list field = absurd (let size : 1 ≡ m = list.size in omega arith)
  tower_field_of (c0 ∷ c1 ∷ []) list field = tower_field c0 c1 list field
  tower_field_of (c0 ∷ c1 ∷ c2 ∷ cs) list field = absurd (let size : suc (suc (suc (length cs))) ≡ m = list.size in omega arith)

pub modulus_word : (n g : ℕ) → IsModulus n g → n ≤ 16 → g < 2 ^ 64
modulus_word n g modulus small = lt_of_lt_of_le (modulus_below n g modulus) (pow_mono {i = suc n} {j = 64} (omega arith))
