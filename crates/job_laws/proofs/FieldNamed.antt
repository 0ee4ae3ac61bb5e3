-- A modulus and coefficients name a field, or they have a fault: each step is decided after those before it.
use Rattle.std.proofs.Common.{◌≡◌, ◌⊎◌, refl, inl, inr, ℕ, suc, ◌*◌, ◌<◌, ◌≤◌, ◌^◌, ◌↔◌, List, [], ◌∷◌, length, arith}
use Rattle.gf_field.specs.Bit.{bit_mul}
use Rattle.gf_field.specs.Element.{IsFirstOutside}
use Rattle.gf_field.specs.Field.{HasNoZeroDivisors}
use Rattle.gf_field.specs.Modulus.{HasModulusDegree, IsModulus}
use Rattle.gf_field.specs.Polynomial.{IsIrreducible}
use Rattle.gf_field.specs.Quotient.{product}
use Rattle.gf_field.specs.Ring.{IsRing}
use Rattle.gf_field.specs.laws.IrreducibleBitLaws.{field_by_modulus}
use Rattle.gf_field.specs.laws.ModulusLaws.{IsModulus-from_bounds, IsRing-from_modulus, modulus_above, modulus_below}
use Rattle.gf_tower.specs.Digits.{IsPackedList}
use Rattle.gf_tower.specs.FieldFault.{IsFieldFault}
use Rattle.gf_tower.specs.FieldName.{IsFieldModulus, IsFieldName, IsFieldOver, IsFieldTower, tower_product}
use Rattle.gf_tower.specs.Tower.{IsLength, IsTowerList, polynomial_of, tower_polynomial}
use Rattle.gf_tower.specs.declared.any_field.FieldFault.{FieldFault}
use Rattle.gf_tower.specs.declared.any_field.FieldFault.TheVariants.{BadDegree, NotIrreducible, BadLength, BadCoefficient, TowerNotIrreducible, UpperBadLength, UpperBadCoefficient, UpperNotIrreducible}
use Rattle.gf_tower.specs.laws.TowerLaws.{IsRing-tower, field_by_polynomial}
use Rattle.reader_laws.proofs.DecidedLemmas.{IsDecided, both_decided, less_decided, most_decided, moved_decided}
use Rattle.job_laws.proofs.FieldDecided.{divisors_decided, elements_or}
use Rattle.job_laws.proofs.Searches.{found_decided}

-- ---- the modulus

-- the number stands between two powers of 2
abbrev IsBetween : ℕ → ℕ → Type 0
IsBetween g d = (1 ≤ d) × ((2 ^ d ≤ g) × (g < 2 ^ suc d))

between_decided : (g d : ℕ) → IsDecided (IsBetween g d)
between_decided g d = both_decided (most_decided 1 d) (both_decided (most_decided (2 ^ d) g) (less_decided g (2 ^ suc d)))

degree_decided : (g : ℕ) → IsDecided (HasModulusDegree g)
degree_decided g =
    moved_decided (λ found. (found.0, IsModulus-from_bounds found.0 g found.2.0 (let less = found.1 in omega (arith, less)) found.2.1.0 found.2.1.1))
    (λ has. (has.0, (let small = has.1.small in omega (arith, small)), (has.1.some, (modulus_above has.0 g has.1, modulus_below has.0 g has.1)))) (found_decided (IsBetween g) (between_decided g) 65)

modulus_decided : (d g : ℕ) → IsModulus d g → IsDecided (IsIrreducible 1 bit_mul g)
modulus_decided d g ok = let same = field_by_modulus d g ok in moved_decided same.0 same.1 (divisors_decided d (product 1 d bit_mul g))

-- ---- a step over a field

length_decided : (n m : ℕ) → IsDecided (IsLength n m)
length_decided n m = moved_decided (λ is. record { two = is.0; small = is.1 }) (λ is. (is.two, is.small)) (both_decided (most_decided 2 m) (most_decided (n * m) 64))

-- coefficients make a field, or there is a first reason why they make none
data Step (n : ℕ) (mul : ℕ → ℕ → ℕ) (cs : List ℕ) : Type 0 where
  Made : IsFieldOver n mul cs → Step n mul cs
  Unfit : (IsLength n (length cs) → ⊥) → Step n mul cs
  Outside : (place : ℕ) → IsLength n (length cs) → IsFirstOutside n cs place → Step n mul cs
  Reducible : IsTowerList n cs → (IsIrreducible n mul (tower_polynomial n cs) → ⊥) → Step n mul cs

module _ (n : ℕ) (mul : ℕ → ℕ → ℕ) (ring : IsRing n mul) (field : HasNoZeroDivisors n mul) (cs : List ℕ) where
  module _ (list : IsTowerList n cs) where
    packs : IsPackedList n (length cs) (polynomial_of n cs) cs
    packs = record { two = list.size.two; small = list.size.small; size = refl; elements = list.elements; packs = refl }

    step_ring : IsRing (n * length cs) (product n (length cs) mul (tower_polynomial n cs))
    step_ring = IsRing-tower n (length cs) (polynomial_of n cs) cs packs mul ring

    step_field : HasNoZeroDivisors (n * length cs) (product n (length cs) mul (tower_polynomial n cs)) ↔ IsIrreducible n mul (tower_polynomial n cs)
    step_field = field_by_polynomial n (length cs) (polynomial_of n cs) cs packs mul ring field

    of_list : Step n mul cs
    of_list =
        elim (divisors_decided (n * length cs) (product n (length cs) mul (tower_polynomial n cs))) [
          | inl holds ↦ Made (record { list = list; irreducible = step_field.0 holds })
          | inr other ↦ Reducible list (λ irreducible. other (step_field.1 irreducible))
        ]

  step : Step n mul cs
  step =
      elim (length_decided n (length cs)) [
        | inl long ↦ elim (elements_or n cs) [ inl all ↦ of_list (record { size = long; elements = all }) | inr found ↦ Outside found.0 long found.1 ]
        | inr unfit ↦ Unfit unfit
      ]

-- ---- names

abbrev pub IsNamedOr : ℕ → List ℕ → List ℕ → Type 0
IsNamedOr g cs us = IsFieldName g cs us ⊎ ((fault : FieldFault) × IsFieldFault g cs us fault)

module _ (d g : ℕ) (base : IsFieldModulus d g) where
  base_ring : IsRing d (product 1 d bit_mul g)
  base_ring = IsRing-from_modulus d g base.modulus

  base_field : HasNoZeroDivisors d (product 1 d bit_mul g)
  base_field = (field_by_modulus d g base.modulus).1 base.irreducible

  -- over a first step
  module _ (cs : List ℕ) (tower : IsFieldTower d g cs) where
    of_upper : (us : List ℕ) → 0 < length us → Step (d * length cs) (tower_product d g cs) us → IsNamedOr g cs us
    of_upper us some (Made upper) = inl (record { degree = d; base = base; tower = inr tower; upper = inr upper })
    of_upper us some (Unfit unfit) = inr (UpperBadLength, (d, (record { base = base; tower = tower }, some, unfit)))
    of_upper us some (Outside place long first) = inr (UpperBadCoefficient place, (d, (record { base = base; tower = tower }, long, first)))
    of_upper us some (Reducible list reducible) = inr (UpperNotIrreducible, (d, (record { base = base; tower = tower }, list, reducible)))

    over_tower : (us : List ℕ) → IsNamedOr g cs us
    over_tower [] = inl (record { degree = d; base = base; tower = inr tower; upper = inl refl })
    over_tower (u ∷ us) =
        of_upper (u ∷ us) (omega arith)
        (step (d * length cs) (tower_product d g cs) (step_ring d (product 1 d bit_mul g) base_ring base_field cs tower.list) ((step_field d (product 1 d bit_mul g) base_ring base_field cs tower.list).1 tower.irreducible) (u ∷ us))

  of_tower : (cs us : List ℕ) → 0 < length cs → Step d (product 1 d bit_mul g) cs → IsNamedOr g cs us
  of_tower cs us some (Made tower) = over_tower cs tower us
  of_tower cs us some (Unfit unfit) = inr (BadLength, (d, (base, some, unfit)))
  of_tower cs us some (Outside place long first) = inr (BadCoefficient place, (d, (base, long, first)))
  of_tower cs us some (Reducible list reducible) = inr (TowerNotIrreducible, (d, (base, list, reducible)))

  over_base : (cs us : List ℕ) → (cs ≡ [] → us ≡ []) → IsNamedOr g cs us
  over_base [] us only = inl (record { degree = d; base = base; tower = inl refl; upper = inl (only refl) })
  over_base (c ∷ cs) us only = of_tower (c ∷ cs) us (omega arith) (step d (product 1 d bit_mul g) base_ring base_field (c ∷ cs))

pub name_or : (g : ℕ) (cs us : List ℕ) → (cs ≡ [] → us ≡ []) → IsNamedOr g cs us
name_or g cs us only =
    elim (degree_decided g) [
      | inl has ↦ elim (modulus_decided has.0 g has.1) [ inl irreducible ↦ over_base has.0 g (record { modulus = has.1; irreducible = irreducible }) cs us only | inr reducible ↦ inr (NotIrreducible, (has, reducible)) ]
      | inr none ↦ inr (BadDegree, none)
    ]
