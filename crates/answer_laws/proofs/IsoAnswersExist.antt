-- Some reply or some fault comes of `iso`, over the setting of a text.
use Rattle.std.proofs.Common.{◌≡◌, ap, sym, refl, subst, inl, inr, ℕ, ◌*◌, ◌≤◌, ◌^◌, List, [], ◌∷◌, length, Option, Ok, Err, arith}
use Rattle.outcome.proofs.SomeLemmas.{some_bind}
use Rattle.job_io.specs.Shelf.{Files}
use Rattle.gf_basis.specs.Basis.{first_values}
use Rattle.gf_field.specs.Bit.{bit_mul}
use Rattle.gf_field.specs.Field.{HasNoZeroDivisors}
use Rattle.gf_field.specs.Quotient.{product}
use Rattle.gf_field.specs.laws.IrreducibleBitLaws.{field_by_modulus}
use Rattle.gf_field.specs.laws.ModulusLaws.{IsRing-from_modulus}
use Rattle.gf_iso.specs.Isomorphism.{IsIsoOf}
use Rattle.gf_iso.specs.private.Fields.{IsTowerField}
use Rattle.gf_iso.proofs.FieldsLaws.{tower_field}
use Rattle.gf_tower.specs.Digits.{IsPackedList}
use Rattle.gf_tower.specs.FieldName.{IsFieldModulus, IsFieldName, IsFieldTower}
use Rattle.gf_tower.specs.Tower.{polynomial_of, tower_polynomial}
use Rattle.gf_tower.specs.laws.TowerLaws.{field_by_polynomial}
use Rattle.gf_tower.proofs.FieldNameLaws.{degree_unique}
use Rattle.lift_table.specs.TableText.{value_lines}
use Rattle.net_signature.specs.Signature.{SignatureValue}
use Rattle.job_words.specs.Operands.{Word}
use Rattle.job_words.specs.declared.fault.Fault.TheVariants.{Fields}
use Rattle.job_input.specs.SettingOf.{SettingOf}
use Rattle.job_input.specs.SettingValue.{SettingValue}
use Rattle.job_input.specs.SignedIn.{SecondIn}
use Rattle.answer_makers.proofs.SettingFieldLemmas.{named_by}
use Rattle.answer_tables.specs.Iso.{AreFitting, IsoAnswer, IsoReply}
use Rattle.reader_laws.proofs.DecidedLemmas.{both_decided, even_decided, most_decided, IsDecided}
use Rattle.job_laws.specs.HasOutcome.{HasOutcome}
use Rattle.job_laws.proofs.SettingExists.{some_second}
use Rattle.exist_laws.proofs.IsoExists.{some_iso}
use Rattle.answer_laws.proofs.NamesDecided.{empty_decided}

-- the isomorphism to the field of a modulus from a tower of two coefficients
module _ (d h e g : ℕ) (modulus : IsFieldModulus d h) (base : IsFieldModulus e g) (small : e ≤ 16) (double : d ≡ 2 * e) where
  between : (cs : List ℕ) → length cs ≡ 2 → IsFieldTower e g cs → (there : ℕ → ℕ) × (back : ℕ → ℕ) × IsIsoOf e g cs (product 1 d bit_mul h) there back
  between [] long tower = absurd (omega (arith, long))
  between (c0 ∷ []) long tower = absurd (omega (arith, long))
  between (c0 ∷ c1 ∷ c2 ∷ cs) long tower = absurd (omega (arith, long))
  between (c0 ∷ c1 ∷ []) long tower =
      let cs : List ℕ = c0 ∷ c1 ∷ [] in
      let mul = product 1 e bit_mul g in
      let packs : IsPackedList e 2 (polynomial_of e cs) cs = record { two = tower.list.size.two; small = tower.list.size.small; size = refl; elements = tower.list.elements; packs = refl } in
      let below : HasNoZeroDivisors e mul = (field_by_modulus e g base.modulus).1 base.irreducible in
      let above : HasNoZeroDivisors (e * 2) (product e 2 mul (tower_polynomial e cs)) = (field_by_polynomial e 2 (polynomial_of e cs) cs packs mul (IsRing-from_modulus e g base.modulus) below).1 tower.irreducible in
      let field : IsTowerField e g c0 c1 = tower_field e g 2 (polynomial_of e cs) base.modulus small below refl c0 c1 packs above in
      some_iso d (product 1 d bit_mul h) (IsRing-from_modulus d h modulus.modulus) ((field_by_modulus d h modulus.modulus).1 modulus.irreducible) e g c0 c1 field (omega (arith, double))

-- ---- two signatures

module _ (first second : SignatureValue) (one : IsFieldName first.modulus first.tower first.upper) (two : IsFieldName second.modulus second.tower second.upper) where
  abbrev Fit : Type 0
  Fit = (first.tower ≡ []) × ((second.upper ≡ []) × ((length second.tower ≡ 2) × ((two.degree ≤ 16) × (one.degree ≡ 2 * two.degree))))

  fit_decided : IsDecided Fit
  fit_decided = both_decided (empty_decided first.tower) (both_decided (empty_decided second.upper) (both_decided (even_decided (length second.tower) 2) (both_decided (most_decided two.degree 16) (even_decided one.degree (2 * two.degree)))))

  field_of_tower : length second.tower ≡ 2 → IsFieldTower two.degree second.modulus second.tower
  field_of_tower long = elim two.tower [ inl none ↦ absurd (let empty = ap length none in omega (arith, long, empty)) | inr field ↦ field ]

  fitting : Fit → AreFitting first second one.degree two.degree
  fitting (no_tower, (one_step, (long, (small, double)))) = record {
    modulus = one.base;
    no_tower = no_tower;
    base_modulus = two.base;
    tower = field_of_tower long;
    one_step = one_step;
    fits = record { two = long; small = small; double = double };
  }

  unfit : (Fit → ⊥) → (big base : ℕ) → AreFitting first second big base → ⊥
  unfit none big base fit =
      let same_big : big ≡ one.degree = degree_unique big one.degree first.modulus fit.modulus.modulus one.base.modulus in
      let same_base : base ≡ two.degree = degree_unique base two.degree second.modulus fit.base_modulus.modulus two.base.modulus in
      let small = fit.fits.small in
      let double = fit.fits.double in
      none (fit.no_tower, (fit.one_step, (fit.fits.two, (omega (arith, small, same_base), omega (arith, double, same_big, same_base)))))

  reply_by : IsDecided Fit → HasOutcome (IsoReply first second)
  reply_by (inr none) = (Err Fields, (refl, unfit none))
  reply_by (inl fit) =
      let found = between one.degree first.modulus two.degree second.modulus one.base two.base fit.1.1.1.0 fit.1.1.1.1 second.tower fit.1.1.0 (field_of_tower fit.1.1.0) in
      (Ok (record { status = 0; text = value_lines (first_values one.degree (λ i. found.0 (2 ^ i))) }), record { big = one.degree; base = two.degree; fit = fitting fit; there = found.0; back = found.1; iso = found.2; text = refl })

-- ---- the answer

module _ (held : Option Files) (bytes : List ℕ) (setting : SettingValue) (is_setting : SettingOf bytes (Ok setting)) (file : Word) where
  second_name : (second : SignatureValue) → SecondIn held file (Ok second) → IsFieldName second.modulus second.tower second.upper
  second_name second (signed, (text, read, is_signed), (other, is_other, same)) =
      let P : SignatureValue → Type 0 = λ s. IsFieldName s.modulus s.tower s.upper in
      subst P (sym same) (named_by text other (signed, is_signed, is_other)).name

  pub some_iso_answer : HasOutcome (IsoAnswer held setting.signature file)
  some_iso_answer =
      some_bind (SecondIn held file) (IsoReply setting.signature) (some_second held file)
      (λ second is. let one = (named_by bytes setting is_setting).name in let two = second_name second is in reply_by setting.signature second one two (fit_decided setting.signature second one two))
