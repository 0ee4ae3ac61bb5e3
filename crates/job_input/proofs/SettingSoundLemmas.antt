-- What a text names as a field is one, and what it names as a basis is one of that field.
use Rattle.std.proofs.Common.{◌≡◌, sym, refl, subst, inl, inr, ℕ, zero, suc, ◌*◌, ◌<◌, ◌^◌, List, [], ◌∷◌, length, Ok, arith}
use Rattle.lists.specs.Lists.{Has}
use Rattle.net_words.specs.declared.word.BasisText.{BasisText}
use Rattle.net_words.specs.declared.word.BasisText.TheVariants.{Poly, Normal, Elements}
use Rattle.net_words.specs.declared.word.WordText.{WordText}
use Rattle.gf_field.specs.Bit.{bit_mul}
use Rattle.gf_field.specs.Element.{AreElements}
use Rattle.gf_field.specs.Quotient.{product as quotient_product}
use Rattle.gf_field.specs.Ring.{IsRing}
use Rattle.gf_field.specs.Field.{HasNoZeroDivisors}
use Rattle.gf_field.specs.Trace.{frobenius}
use Rattle.gf_field.specs.laws.ModulusLaws.{IsRing-from_modulus}
use Rattle.gf_field.specs.laws.IrreducibleBitLaws.{field_by_modulus}
use Rattle.gf_tower.specs.Tower.{polynomial_of}
use Rattle.gf_tower.specs.Digits.{IsPackedList}
use Rattle.gf_tower.specs.FieldName.{IsFieldModulus, IsFieldTower, IsFieldUpper}
use Rattle.gf_tower.specs.laws.TowerLaws.{IsRing-tower, field_by_polynomial}
use Rattle.gf_basis.specs.Basis.{IsBasis, first_values}
use Rattle.gf_basis.specs.BasisFault.{conjugates_of}
use Rattle.gf_basis.proofs.BasisLaws.{IsBasis-from_independent}
use Rattle.gf_basis.proofs.CodeLaws.{length-first_values, get_or-first_values, AreElements-units, IsIndependent-powers}
use Rattle.job_input.specs.FieldOf.{FieldValue, base_field, tower_field, upper_field, FieldOf}
use Rattle.job_input.specs.SettingOf.{BasisOf, BasesOf, SettingOf}
use Rattle.job_input.specs.SettingValue.{SettingValue}
use Rattle.job_input.specs.SettingSound.{IsSoundSetting}
use Rattle.job_input.proofs.SignedLemmas.{setting_parts}
use Rattle.job_input.proofs.SettingWordLemmas.{setting_words, setting_feeds, setting_long}

-- ---- the field

record IsField (field : FieldValue) : Type 0 where
  ring : IsRing field.k field.product
  no_zero_divisors : HasNoZeroDivisors field.k field.product

base_sound : (d g : ℕ) → IsFieldModulus d g → IsField (base_field d g)
base_sound d g base = record { ring = IsRing-from_modulus d g base.modulus; no_zero_divisors = (field_by_modulus d g base.modulus).1 base.irreducible }

tower_sound : (d g : ℕ) (cs : List ℕ) → IsFieldModulus d g → IsFieldTower d g cs → IsField (tower_field d g cs)
tower_sound d g cs base tower =
    let below = base_sound d g base in
    let packs : IsPackedList d (length cs) (polynomial_of d cs) cs = record { two = tower.list.size.two; small = tower.list.size.small; size = refl; elements = tower.list.elements; packs = refl } in
    let mul = quotient_product 1 d bit_mul g in
    record {
      ring = IsRing-tower d (length cs) (polynomial_of d cs) cs packs mul below.ring;
      no_zero_divisors = (field_by_polynomial d (length cs) (polynomial_of d cs) cs packs mul below.ring below.no_zero_divisors).1 tower.irreducible;
    }

upper_sound : (d g : ℕ) (cs us : List ℕ) → IsFieldModulus d g → IsFieldTower d g cs → IsFieldUpper d g cs us → IsField (upper_field d g cs us)
upper_sound d g cs us base tower upper =
    let n = d * length cs in
    let below = tower_sound d g cs base tower in
    let packs : IsPackedList n (length us) (polynomial_of n us) us = record { two = upper.list.size.two; small = upper.list.size.small; size = refl; elements = upper.list.elements; packs = refl } in
    let mul = (tower_field d g cs).product in
    record {
      ring = IsRing-tower n (length us) (polynomial_of n us) us packs mul below.ring;
      no_zero_divisors = (field_by_polynomial n (length us) (polynomial_of n us) us packs mul below.ring below.no_zero_divisors).1 upper.irreducible;
    }

field_sound : (g : ℕ) (cs us : List ℕ) (field : FieldValue) → FieldOf g cs us (Ok field) → IsField field
field_sound g [] us field named = subst IsField (sym named.1) (base_sound named.0.degree g named.0.base)
field_sound g (c ∷ cs) [] field named =
    subst IsField (sym named.1) (elim (named.0.tower) [ inl none ↦ absurd (cc) | inr tower ↦ tower_sound named.0.degree g (c ∷ cs) named.0.base tower ])
field_sound g (c ∷ cs) (u ∷ us) field named =
    let d = named.0.degree in
    let base = named.0.base in
    subst IsField (sym named.1) (elim (named.0.tower) [
      | inl none ↦ absurd (cc)
      | inr tower ↦ elim (named.0.upper) [ inl none ↦ absurd (cc) | inr upper ↦ upper_sound d g (c ∷ cs) (u ∷ us) base tower upper ]
    ])

-- ---- the bases

module _ (k : ℕ) (product : ℕ → ℕ → ℕ) (ring : IsRing k product) where
  conjugate_inside : (i gamma : ℕ) → gamma < 2 ^ k → frobenius product i gamma < 2 ^ k
  unfolding frobenius
  conjugate_inside zero gamma inside = inside
  conjugate_inside (suc i) gamma inside = ring.closed (frobenius product i gamma) (frobenius product i gamma)

  conjugates_inside : (gamma : ℕ) → gamma < 2 ^ k → AreElements k (conjugates_of k product gamma)
  conjugates_inside gamma inside i within =
      let f : ℕ → ℕ = λ i. frobenius product i gamma in
      let below : i < k = omega (arith, length-first_values k f) in
      rw (get_or-first_values k f i below) (conjugate_inside i gamma inside)

  basis_sound : (basis : BasisText) (elements : List ℕ) → BasisOf k product basis (Ok elements) → IsBasis k elements
  basis_sound Poly elements is =
      let units : ℕ → ℕ = λ i. 2 ^ i in
      subst (IsBasis k) (sym is) (IsBasis-from_independent k (first_values k units) (length-first_values k units) (AreElements-units k) (IsIndependent-powers k))
  basis_sound (Normal gamma) elements is =
      subst (IsBasis k) (sym is.2) (IsBasis-from_independent k (conjugates_of k product gamma) (length-first_values k (λ i. frobenius product i gamma)) (conjugates_inside gamma is.0) is.1)
  basis_sound (Elements list) elements is = subst (IsBasis k) (sym is.1) (IsBasis-from_independent k list is.0.size is.0.inside is.0.free)

  first_or_rest : (first : List ℕ) (rest : List (List ℕ)) (basis : List ℕ) → IsBasis k first → (Has rest basis → IsBasis k basis) → Has (first ∷ rest) basis → IsBasis k basis
  first_or_rest first rest basis one others (zero, got) = let same : first ≡ basis = cc in subst (IsBasis k) same one
  first_or_rest first rest basis one others (suc i, got) = others (i, got)

  pub bases_sound : (words : List WordText) (bases : List (List ℕ)) → BasesOf k product words (Ok bases) → (basis : List ℕ) → Has bases basis → IsBasis k basis
  bases_sound [] bases ok basis has = let P : List (List ℕ) → Type 0 = λ xs. Has xs basis in nothing (subst P ok has)
    where
      nothing : Has [] basis → IsBasis k basis
      nothing none = absurd (let got = none.1 in cc)
  bases_sound (word ∷ words) bases ok basis has =
      let P : List (List ℕ) → Type 0 = λ xs. Has xs basis in
      first_or_rest ok.0 ok.2.0 basis (basis_sound word.basis ok.0 ok.1.2) (λ among. bases_sound words ok.2.0 ok.2.1 basis among) (subst P ok.2.2 has)

-- ---- settings

sound_parts : (bytes : List ℕ) (value : SettingValue) → SettingOf bytes (Ok value) → IsField (record { k = value.k; product = value.product }) × ((basis : List ℕ) → Has value.bases basis → IsBasis value.k basis)
sound_parts bytes value is =
    let parts = setting_parts bytes value is in
    let field = parts.field in
    let is_field = field_sound parts.said.modulus parts.said.tower parts.said.upper field parts.named in
    let P : SettingValue → Type 0 = λ v. IsField (record { k = v.k; product = v.product }) × ((basis : List ℕ) → Has v.bases basis → IsBasis v.k basis) in
    subst P (sym parts.value_is) (is_field, bases_sound field.k field.product is_field.ring parts.said.words parts.bases parts.have_bases)

pub setting_sound : (bytes : List ℕ) (value : SettingValue) → SettingOf bytes (Ok value) → IsSoundSetting value
setting_sound bytes value ok =
    let parts = sound_parts bytes value ok in
    record { ring = parts.0.ring; field = parts.0.no_zero_divisors; words = setting_words bytes value ok; feeds = setting_feeds bytes value ok; long = setting_long bytes value ok; each = parts.1 }
