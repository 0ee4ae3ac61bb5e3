-- Fields that fit, the lines of an isomorphism's images, and that there is one reply of `iso`.
use Rattle.std.proofs.Common.{◌≡◌, ◌∙◌, ap, sym, refl, subst, ℕ, zero, suc, ◌+◌, ◌*◌, ◌^◌, ◌<◌, List, [], ◌∷◌, ◌++◌, length, Ok, Err, arith}
use Rattle.std.proofs.lemmas.List.{append_assoc}
use Rattle.std.proofs.lemmas.Nat.{pow_below}
use Rattle.outcome.specs.Outcome.{Determined}
use Rattle.net_signature.specs.Signature.{SignatureValue}
use Rattle.gf_basis.specs.Basis.{first_values}
use Rattle.gf_field.specs.Bit.{bit_mul}
use Rattle.gf_field.specs.Field.{HasNoZeroDivisors}
use Rattle.gf_field.specs.Modulus.{IsModulus}
use Rattle.gf_field.specs.Quotient.{product}
use Rattle.gf_field.specs.laws.IrreducibleBitLaws.{field_by_modulus}
use Rattle.gf_field.specs.laws.ModulusLaws.{IsRing-from_modulus}
use Rattle.gf_iso.specs.Fits.{Fits}
use Rattle.gf_iso.specs.Isomorphism.{AreSame, HasOnlyIso, IsIsoOf}
use Rattle.gf_iso.proofs.FieldsLaws.{only_for}
use Rattle.gf_tower.specs.Digits.{IsPackedList}
use Rattle.gf_tower.specs.FieldName.{IsFieldModulus, IsFieldTower}
use Rattle.gf_tower.specs.Tower.{polynomial_of, tower_polynomial}
use Rattle.gf_tower.specs.laws.TowerLaws.{field_by_polynomial}
use Rattle.gf_tower.proofs.FieldNameLaws.{degree_unique}
use Rattle.lift_table.specs.TableText.{value_lines}
use Rattle.poly_mixed.specs.Text.{hex_text}
use Rattle.answer_core.proofs.FieldNameLemmas.{field_modulus, field_tower}
use Rattle.answer_tables.specs.Iso.{AreFitting, IsoReply}

-- ---- fields that fit

-- the numbers of a field and a tower that an isomorphism is found between
module _ (first second : SignatureValue) (k n m low big g : ℕ) (cs : List ℕ) (modulus : IsModulus k big) (base : IsModulus n g) (packs : IsPackedList n m low cs)
    (same_big : big ≡ first.modulus) (no_tower : first.tower ≡ []) (same_base : g ≡ second.modulus) (same_tower : cs ≡ second.tower) (one_step : second.upper ≡ []) where
  pub are_fitting : HasNoZeroDivisors k (product 1 k bit_mul big) → HasNoZeroDivisors n (product 1 n bit_mul g) → HasNoZeroDivisors (n * m) (product n m (product 1 n bit_mul g) (tower_polynomial n cs)) → Fits k n m → AreFitting first second k n
  are_fitting field below above fits =
      let P : ℕ → Type 0 = λ x. IsFieldModulus k x in
      let Q : ℕ → Type 0 = λ x. IsFieldModulus n x in
      let R : ℕ → Type 0 = λ x. IsFieldTower n x cs in
      let S : List ℕ → Type 0 = λ xs. IsFieldTower n second.modulus xs in
      record {
        modulus = subst P same_big (field_modulus k big modulus field);
        no_tower = no_tower;
        base_modulus = subst Q same_base (field_modulus n g base below);
        tower = subst S same_tower (subst R same_base (field_tower n g m low cs base below packs above));
        one_step = one_step;
        fits = record { two = sym (ap (λ (xs : List ℕ). length xs) same_tower) ∙ packs.size ∙ fits.two; small = fits.small; double = fits.double };
      }

  -- and those that none is found between
  pub no_fit : (Fits k n m → ⊥) → (d e : ℕ) → AreFitting first second d e → ⊥
  no_fit none d e fit =
      let P : ℕ → Type 0 = λ x. IsModulus k x in
      let Q : ℕ → Type 0 = λ x. IsModulus n x in
      let same_k : d ≡ k = degree_unique d k first.modulus fit.modulus.modulus (subst P same_big modulus) in
      let same_n : e ≡ n = degree_unique e n second.modulus fit.base_modulus.modulus (subst Q same_base base) in
      let many : length second.tower ≡ m = ap (λ (xs : List ℕ). length xs) (sym same_tower) ∙ packs.size in
      none (record { two = sym many ∙ fit.fits.two; small = let small = fit.fits.small in omega (arith, small, same_n); double = let double = fit.fits.double in omega (arith, double, same_k, same_n) })

-- ---- the lines of the images

pub first_more : (k : ℕ) (f : ℕ → ℕ) → first_values (suc k) f ≡ first_values k f ++ f k ∷ []
first_more zero f = refl
first_more (suc k) f = ap (λ (xs : List ℕ). f 0 ∷ xs) (first_more k (λ i. f (suc i)))

pub lines_more : (xs : List ℕ) (x : ℕ) → value_lines (xs ++ x ∷ []) ≡ value_lines xs ++ (hex_text x ++ 10 ∷ [])
lines_more [] x = refl
lines_more (y ∷ ys) x = ap (λ (rest : List ℕ). hex_text y ++ (10 ∷ rest)) (lines_more ys x) ∙ sym (append_assoc (hex_text y) (10 ∷ value_lines ys) (hex_text x ++ 10 ∷ []))

pub one_image : (f : ℕ → ℕ) (i x : ℕ) (old new : List ℕ) → old ≡ value_lines (first_values i f) → x ≡ f i → new ≡ old ++ (hex_text x ++ 10 ∷ []) → new ≡ value_lines (first_values (i + 1) f)
one_image f i x old new before value more =
    let next : suc i ≡ i + 1 = omega arith in
    more ∙ (λ j. before j ++ (hex_text (value j) ++ 10 ∷ [])) ∙ sym (lines_more (first_values i f) (f i)) ∙ ap value_lines (sym (first_more i f)) ∙ ap (λ n. value_lines (first_values n f)) next

-- ---- one reply

first_same : (k : ℕ) (f g : ℕ → ℕ) → ((i : ℕ) → i < k → f i ≡ g i) → first_values k f ≡ first_values k g
first_same zero f g same = refl
first_same (suc k) f g same = (λ j. same 0 (omega arith) j ∷ first_same k (λ i. f (suc i)) (λ i. g (suc i)) (λ i less. same (suc i) (omega arith)) j)

only_between : (first second : SignatureValue) (k n : ℕ) → AreFitting first second k n → HasOnlyIso n second.modulus second.tower (product 1 k bit_mul first.modulus)
only_between first second k n fit =
    let cs = second.tower in
    let packs : IsPackedList n (length cs) (polynomial_of n cs) cs = record { two = fit.tower.list.size.two; small = fit.tower.list.size.small; size = refl; elements = fit.tower.list.elements; packs = refl } in
    let mul = product 1 n bit_mul second.modulus in
    let below : HasNoZeroDivisors n mul = (field_by_modulus n second.modulus fit.base_modulus.modulus).1 fit.base_modulus.irreducible in
    let above : HasNoZeroDivisors (n * length cs) (product n (length cs) mul (tower_polynomial n cs)) = (field_by_polynomial n (length cs) (polynomial_of n cs) cs packs mul (IsRing-from_modulus n second.modulus fit.base_modulus.modulus) below).1 fit.tower.irreducible in
    only_for n second.modulus (length cs) (polynomial_of n cs) fit.base_modulus.modulus fit.fits.small below fit.fits.two cs (product 1 k bit_mul first.modulus) packs above

same_images : (first second : SignatureValue) (k n : ℕ) → AreFitting first second k n → (there back there' back' : ℕ → ℕ) → IsIsoOf n second.modulus second.tower (product 1 k bit_mul first.modulus) there back → IsIsoOf n second.modulus second.tower (product 1 k bit_mul first.modulus) there' back' → first_values k (λ i. there (2 ^ i)) ≡ first_values k (λ i. there' (2 ^ i))
same_images first second k n fit there back there' back' a b =
    let same : AreSame (n * length second.tower) there back there' back' = only_between first second k n fit there back there' back' a b in
    let size : k ≡ n * length second.tower = fit.fits.double ∙ (let two : 2 * n ≡ n * 2 = omega arith in two) ∙ ap (λ l. n * l) (sym fit.fits.two) in
    let P : ℕ → Type 0 = λ d. (x : ℕ) → x < 2 ^ d → there x ≡ there' x in
    let there_same = subst P (sym size) same.same_there in
    first_same k (λ i. there (2 ^ i)) (λ i. there' (2 ^ i)) (λ i less. there_same (2 ^ i) (pow_below i k less))

pub iso_determined : (first second : SignatureValue) → Determined (IsoReply first second)
iso_determined first second (Ok a) (Ok b) h g =
    let same_k : g.big ≡ h.big = degree_unique g.big h.big first.modulus g.fit.modulus.modulus h.fit.modulus.modulus in
    let same_n : g.base ≡ h.base = degree_unique g.base h.base second.modulus g.fit.base_modulus.modulus h.fit.base_modulus.modulus in
    let P : ℕ → Type 0 = λ n. IsIsoOf n second.modulus second.tower (product 1 g.big bit_mul first.modulus) g.there g.back in
    let Q : ℕ → Type 0 = λ k. IsIsoOf h.base second.modulus second.tower (product 1 k bit_mul first.modulus) g.there g.back in
    let values : first_values h.big (λ i. h.there (2 ^ i)) ≡ first_values g.big (λ i. g.there (2 ^ i)) =
    same_images first second h.big h.base h.fit h.there h.back g.there g.back h.iso (subst Q same_k (subst P same_n g.iso)) ∙ ap (λ k. first_values k (λ i. g.there (2 ^ i))) (sym same_k) in
    ap Ok (h.text ∙ ap (λ (xs : List ℕ). record { status = 0; text = value_lines xs }) values ∙ sym g.text)
iso_determined first second (Ok a) (Err e) h g = absurd (g.1 h.big h.base h.fit)
iso_determined first second (Err d) (Ok b) h g = absurd (h.1 g.big g.base g.fit)
iso_determined first second (Err d) (Err e) h g = ap Err (h.0 ∙ sym g.0)
