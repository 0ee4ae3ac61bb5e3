-- The field that a modulus and a tower name.
use Rattle.std.proofs.Common.{◌≡◌, ◌∙◌, ap, sym, refl, subst, inl, inr, ℕ, ◌*◌, ◌≤◌, List, [], ◌∷◌, length, Ok, Err, arith}
use Rattle.std.proofs.Math.Nat.{mul-pos}
use Rattle.outcome.specs.Outcome.{Determined}
use Rattle.outcome.proofs.DeterminedLemmas.{determined_within}
use Rattle.gf_field.specs.Bit.{bit_mul}
use Rattle.gf_field.specs.Quotient.{product as quotient_product}
use Rattle.gf_field.specs.Modulus.{IsModulus}
use Rattle.gf_field.specs.Ring2k.{degree_of, modulus_of}
use Rattle.irreducible.specs.Proved.{ring_of}
use Rattle.gf_tower.specs.Tower.{tower_polynomial}
use Rattle.gf_tower.specs.TowerParts.{base_of, coefficients_of, size_of}
use Rattle.gf_tower.specs.FieldName.{IsFieldName}
use Rattle.gf_tower.specs.AnyField.{IsMadeOf}
use Rattle.gf_tower.specs.declared.any_field.AnyField.{AnyField}
use Rattle.gf_tower.specs.declared.any_field.AnyField.TheVariants.{Base, Tower, Upper}
use Rattle.gf_tower.proofs.FieldNameLaws.{degree_unique, fault_clash}
use Rattle.gf_tower.proofs.FieldFaultLaws.{one_field_fault}
use Rattle.job_input.specs.FieldOf.{FieldValue, base_field, field_of, FieldOrFault, field_fault, FieldOf}
use Rattle.job_input.specs.Setting.{any_degree, any_product}

-- ---- the field that is made

base_is : (d m e g : ℕ) (cs us : List ℕ) → d ≡ e → m ≡ g → cs ≡ [] → base_field d m ≡ field_of e g cs us
base_is d m e g cs us same_degree same_modulus none =
    ap (λ n. base_field n m) same_degree ∙ ap (λ n. base_field e n) same_modulus ∙ sym (ap (λ xs. field_of e g xs us) none)

-- a tower of l coefficients
abbrev tower_value : ℕ → ℕ → ℕ → List ℕ → FieldValue
tower_value d l m ks = record { k = d * l; product = quotient_product d l (quotient_product 1 d bit_mul m) (tower_polynomial d ks) }

tower_is : (d l m e g : ℕ) (ks cs us : List ℕ) → d ≡ e → m ≡ g → ks ≡ cs → us ≡ [] → length ks ≡ l → 2 ≤ l → tower_value d l m ks ≡ field_of e g cs us
tower_is d l m e g ks cs us same_degree same_modulus same_list none long two =
    ap (λ n. tower_value d n m ks) (sym long) ∙ ap (λ n. tower_value n (length ks) m ks) same_degree ∙ ap (λ n. tower_value e (length ks) n ks) same_modulus ∙ ap (λ xs. tower_value e (length xs) g xs) same_list
    ∙ some cs (let same : length cs ≡ l = ap length (sym same_list) ∙ long in omega arith) ∙ sym (ap (λ ys. field_of e g cs ys) none)
  where
    some : (xs : List ℕ) → 2 ≤ length xs → tower_value e (length xs) g xs ≡ field_of e g xs []
    some [] less = absurd (omega arith)
    some (x ∷ xs) less = refl

-- a tower of n coefficients over a tower of l
abbrev upper_value : ℕ → ℕ → ℕ → ℕ → List ℕ → List ℕ → FieldValue
upper_value d l n m ks hs = record { k = d * l * n; product = quotient_product (d * l) n (tower_value d l m ks).product (tower_polynomial (d * l) hs) }

upper_is : (d l n m e g : ℕ) (ks hs cs us : List ℕ) → d ≡ e → m ≡ g → ks ≡ cs → hs ≡ us → length ks ≡ l → 2 ≤ l → length hs ≡ n → 2 ≤ n → upper_value d l n m ks hs ≡ field_of e g cs us
upper_is d l n m e g ks hs cs us same_degree same_modulus same_list same_upper long two upper_long upper_two =
    ap (λ x. upper_value d x n m ks hs) (sym long) ∙ ap (λ x. upper_value d (length ks) x m ks hs) (sym upper_long)
    ∙ ap (λ x. upper_value x (length ks) (length hs) m ks hs) same_degree ∙ ap (λ x. upper_value e (length ks) (length hs) x ks hs) same_modulus
    ∙ ap (λ xs. upper_value e (length xs) (length hs) g xs hs) same_list ∙ ap (λ ys. upper_value e (length cs) (length ys) g cs ys) same_upper
    ∙ some cs us (let same : length cs ≡ l = ap length (sym same_list) ∙ long in omega arith) (let same : length us ≡ n = ap length (sym same_upper) ∙ upper_long in omega arith)
  where
    some : (xs ys : List ℕ) → 2 ≤ length xs → 2 ≤ length ys → upper_value e (length xs) (length ys) g xs ys ≡ field_of e g xs ys
    some [] ys less more = absurd (omega arith)
    some (x ∷ xs) [] less more = absurd (omega arith)
    some (x ∷ xs) (y ∷ ys) less more = refl

pub field_made : (field : AnyField) (g : ℕ) (cs us : List ℕ) → IsFieldName g cs us → IsMadeOf field g cs us → FieldOf g cs us (Ok (record { k = any_degree field; product = any_product field }))
field_made (Base field) g cs us name made =
    let ring = ring_of field in
    let same = degree_unique (degree_of ring) name.degree g (subst (IsModulus (degree_of ring)) made.0 ring.fits) name.base.modulus in
    (name, base_is (degree_of ring) (modulus_of ring) name.degree g cs us same made.0 made.1)
field_made (Tower field) g cs us name made =
    let tower = ring_of field in
    let ring = ring_of (base_of tower) in
    let same = degree_unique (degree_of ring) name.degree g (subst (IsModulus (degree_of ring)) made.0 ring.fits) name.base.modulus in
    (name, tower_is (degree_of ring) (size_of tower) (modulus_of ring) name.degree g (coefficients_of tower) cs us same made.0 made.1 made.2 tower.fits.size tower.fits.two)
field_made (Upper field) g cs us name made =
    let upper = ring_of field in
    let tower = ring_of (base_of upper) in
    let ring = ring_of (base_of tower) in
    let same = degree_unique (degree_of ring) name.degree g (subst (IsModulus (degree_of ring)) made.0 ring.fits) name.base.modulus in (
      name,
      upper_is (degree_of ring) (size_of tower) (size_of upper) (modulus_of ring) name.degree g (coefficients_of tower) (coefficients_of upper) cs us same made.0 made.1 made.2 tower.fits.size tower.fits.two upper.fits.size upper.fits.two,
    )

-- ---- how many bits its elements have

pub field_some : (g : ℕ) (cs us : List ℕ) (field : FieldValue) → FieldOf g cs us (Ok field) → 1 ≤ field.k
field_some g [] us field named = let base = named.0.base.modulus.some in let same : field.k ≡ named.0.degree = ap (λ f. f.k) named.1 in omega arith
field_some g (c ∷ cs) [] field named =
    let same : field.k ≡ named.0.degree * length (c ∷ cs) = ap (λ f. f.k) named.1 in
    subst (λ n. 1 ≤ n) (sym same) (mul-pos named.0.base.modulus.some (omega arith))
field_some g (c ∷ cs) (u ∷ us) field named =
    let same : field.k ≡ named.0.degree * length (c ∷ cs) * length (u ∷ us) = ap (λ f. f.k) named.1 in
    subst (λ n. 1 ≤ n) (sym same) (mul-pos (mul-pos named.0.base.modulus.some (omega arith)) (omega arith))

pub field_most : (g : ℕ) (cs us : List ℕ) (field : FieldValue) → FieldOf g cs us (Ok field) → field.k ≤ 64
field_most g [] us field named = let base = named.0.base.modulus.small in let same : field.k ≡ named.0.degree = ap (λ f. f.k) named.1 in omega arith
field_most g (c ∷ cs) [] field named =
    let same : field.k ≡ named.0.degree * length (c ∷ cs) = ap (λ f. f.k) named.1 in
    subst (λ n. n ≤ 64) (sym same) (elim (named.0.tower) [ inl none ↦ absurd (cc) | inr tower ↦ tower.list.size.small ])
field_most g (c ∷ cs) (u ∷ us) field named =
    let same : field.k ≡ named.0.degree * length (c ∷ cs) * length (u ∷ us) = ap (λ f. f.k) named.1 in
    subst (λ n. n ≤ 64) (sym same) (elim (named.0.upper) [ inl none ↦ absurd (cc) | inr upper ↦ upper.list.size.small ])

-- ---- at most one outcome

field_or_fault : (g : ℕ) (cs us : List ℕ) → Determined (FieldOrFault g cs us)
field_or_fault g cs us (Ok x) (Ok y) h k =
    let same = degree_unique h.0.degree k.0.degree g h.0.base.modulus k.0.base.modulus in
    ap Ok (h.1 ∙ ap (λ d. field_of d g cs us) same ∙ sym k.1)
field_or_fault g cs us (Ok x) (Err f) h k = absurd (fault_clash g cs us f k h.0)
field_or_fault g cs us (Err f) (Ok y) h k = absurd (fault_clash g cs us f h k.0)
field_or_fault g cs us (Err e) (Err f) h k = ap Err (one_field_fault g cs us e f h k)

pub field_determined : (g : ℕ) (cs us : List ℕ) → Determined (FieldOf g cs us)
field_determined g cs us = determined_within field_fault (FieldOrFault g cs us) (field_or_fault g cs us)
