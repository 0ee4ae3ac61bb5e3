-- Some net list or fault 43 comes of `make`, over the setting of a text: the form is decided, and where it is met there is a net list.
use Rattle.std.proofs.Common.{◌≡◌, ◌∙◌, ap, sym, refl, subst, inl, inr, ℕ, ◌*◌, ◌<◌, ◌≤◌, ◌^◌, ◌/◌, List, [], ◌∷◌, length, Ok, Err, arith}
use Rattle.std.specs.Prelude.{All}
use Rattle.std.proofs.Math.Nat.{mul_comm, mul-div_right}
use Rattle.outcome.specs.Outcome.{Exactly}
use Rattle.outcome.proofs.SomeLemmas.{some_bind, some_exactly}
use Rattle.lists.specs.laws.HasLaws.{All_has}
use Rattle.gf_basis.specs.BasisFault.{conjugates_of}
use Rattle.gf_field.specs.Bit.{bit_mul}
use Rattle.gf_field.specs.Quotient.{product}
use Rattle.gf_tower.specs.FieldName.{IsFieldModulus, IsFieldTower}
use Rattle.gf_tower.specs.Tower.{tower_polynomial}
use Rattle.irreducible.specs.Span.{IsIndependent}
use Rattle.net_core.specs.NetList.{NetList}
use Rattle.net_signature.specs.Signature.{SignatureValue}
use Rattle.net_words.specs.declared.word.BasisText.{BasisText}
use Rattle.net_words.specs.declared.word.BasisText.TheVariants as basis
use Rattle.net_words.specs.declared.word.WordText.{WordText}
use Rattle.net_write.specs.Written.{written}
use Rattle.make_laws.specs.Indeterminate.{x_of}
use Rattle.mult_composite.specs.Form.{made_composite, HasCompositeForm}
use Rattle.mult_digit.specs.DigitForm.{HasDigitForm}
use Rattle.mult_digit.specs.DigitNet.{digit_net}
use Rattle.mult_gen.specs.Form.{made_adder, made_mastrovito, made_squarer, HasPolyForm}
use Rattle.mult_montgomery.specs.Form.{made_montgomery, HasMontgomeryForm}
use Rattle.mult_normal.specs.NormalForm.{HasNormalForm}
use Rattle.mult_normal.specs.NormalNet.{normal_net}
use Rattle.job_words.specs.declared.kind.Kind.{Kind}
use Rattle.job_words.specs.declared.kind.Kind.TheVariants.{Adder, Composite, Digit, Mastrovito, Montgomery, Normal, Squarer}
use Rattle.job_words.specs.declared.fault.Fault.TheVariants.{Form}
use Rattle.job_input.specs.FieldOf.{field_of, FieldValue}
use Rattle.job_input.specs.SettingOf.{BasesOf, BasisOf, SettingOf}
use Rattle.job_input.specs.SettingValue.{SettingValue}
use Rattle.job_input.proofs.SettingSoundLemmas.{setting_sound}
use Rattle.answer_makers.specs.Make.{base_degree, element_of, first_conjugates, first_element, HasFormOf, IsInNormalBasis, IsMade, IsOverBase, IsOverTower, MadeOf, MakeAnswer}
use Rattle.answer_makers.proofs.SettingFieldLemmas.{first_basis, named_by, IsNamed}
use Rattle.reader_laws.proofs.DecidedLemmas.{moved_decided, IsDecided}
use Rattle.job_laws.specs.HasOutcome.{HasOutcome}
use Rattle.answer_laws.proofs.FormsDecided.{adder_form_decided, composite_form_decided, digit_form_decided, montgomery_form_decided, normal_form_decided, poly_form_decided}

-- ---- fields

degree_in : FieldValue → ℕ
degree_in field = field.k

tower_degree : (d g : ℕ) (cs : List ℕ) → (cs ≡ [] → ⊥) → degree_in (field_of d g cs []) ≡ d * length cs
unfolding degree_in
tower_degree d g [] some = absurd (some refl)
tower_degree d g (c ∷ cs) some = refl

some_long : (cs : List ℕ) → (cs ≡ [] → ⊥) → 0 < length cs
some_long [] some = absurd (some refl)
some_long (c ∷ cs) some = omega arith

module _ (setting : SettingValue) (named : IsNamed setting) where
  abbrev signature : SignatureValue
  signature = setting.signature

  base_field_of : signature.tower ≡ [] → IsFieldModulus setting.k signature.modulus
  unfolding degree_in
  base_field_of none =
      let same : setting.k ≡ named.name.degree = ap degree_in (named.field ∙ ap (λ (cs : List ℕ). field_of named.name.degree signature.modulus cs signature.upper) none) in
      let P : ℕ → Type 0 = λ n. IsFieldModulus n signature.modulus in
      subst P (sym same) named.name.base

  over_base : (HasForm : SignatureValue → Type 0) → signature.tower ≡ [] → HasForm signature → IsOverBase HasForm setting
  over_base HasForm none form = record { modulus = base_field_of none; no_tower = none; form = form }

  module _ (some : signature.tower ≡ [] → ⊥) (one_step : signature.upper ≡ []) where
    whole_degree : setting.k ≡ named.name.degree * length signature.tower
    unfolding degree_in
    whole_degree = ap degree_in (named.field ∙ ap (λ (us : List ℕ). field_of named.name.degree signature.modulus signature.tower us) one_step) ∙ tower_degree named.name.degree signature.modulus signature.tower some

    same_degree : base_degree setting ≡ named.name.degree
    same_degree = ap (λ n. n / length signature.tower) (whole_degree ∙ mul_comm named.name.degree (length signature.tower)) ∙ mul-div_right named.name.degree (some_long signature.tower some)

    tower_field_of : IsFieldTower named.name.degree signature.modulus signature.tower
    tower_field_of = elim named.name.tower [ inl none ↦ absurd (some none) | inr field ↦ field ]

    over_tower : HasCompositeForm signature → IsOverTower HasCompositeForm setting
    over_tower form =
        let P : ℕ → Type 0 = λ n. IsFieldModulus n signature.modulus in
        let Q : ℕ → Type 0 = λ n. IsFieldTower n signature.modulus signature.tower in
        record {
          whole = ap (λ n. n * length signature.tower) same_degree ∙ sym whole_degree;
          base = subst P (sym same_degree) named.name.base;
          tower = subst Q (sym same_degree) tower_field_of;
          one_step = one_step;
          form = form;
        }

-- ---- normal bases

element_taken : (k : ℕ) (mul : ℕ → ℕ → ℕ) (words : List WordText) (bases : List (List ℕ)) (gamma : ℕ) → BasesOf k mul words (Ok bases) → 1 ≤ length words → All (λ (word : WordText). word.basis ≡ basis.Normal gamma) words
    → (first_element words < 2 ^ k) × IsIndependent (conjugates_of k mul (first_element words))
element_taken k mul [] bases gamma are some all = absurd (omega (arith, some))
element_taken k mul (word ∷ words) bases gamma are some all =
    let found = first_basis k mul word words bases are in
    let same : word.basis ≡ basis.Normal gamma = All_has (λ (w : WordText). w.basis ≡ basis.Normal gamma) (word ∷ words) word all (0, refl) in
    let P : BasisText → Type 0 = λ t. BasisOf k mul t (Ok found.0) in
    let Q : BasisText → Type 0 = λ t. (element_of t < 2 ^ k) × IsIndependent (conjugates_of k mul (element_of t)) in
    let is = subst P same found.1 in
    subst Q (sym same) (is.0, is.1)

-- ---- forms

module _ (bytes : List ℕ) (setting : SettingValue) (is_setting : SettingOf bytes (Ok setting)) where
  named : IsNamed setting
  named = named_by bytes setting is_setting

  in_normal_basis : HasNormalForm setting.signature → IsInNormalBasis HasNormalForm setting
  in_normal_basis form =
      let taken = element_taken setting.k setting.product setting.signature.words setting.bases form.gamma named.bases (let long = form.words.all in omega (arith, long)) form.bases in
      record { element = taken.0; independent = taken.1; form = form }

  form_decided : (kind : Kind) → IsDecided (HasFormOf setting kind)
  form_decided Mastrovito = moved_decided (λ form. over_base setting named (HasPolyForm 2) form.tower form) (λ (is : IsOverBase (HasPolyForm 2) setting). is.form) (poly_form_decided setting.signature 2)
  form_decided Montgomery = moved_decided (λ form. over_base setting named HasMontgomeryForm form.poly.tower form) (λ (is : IsOverBase HasMontgomeryForm setting). is.form) (montgomery_form_decided setting.signature)
  form_decided Composite = moved_decided (λ form. over_tower setting named form.tower form.upper form) (λ (is : IsOverTower HasCompositeForm setting). is.form) (composite_form_decided setting.signature)
  form_decided Normal = moved_decided in_normal_basis (λ (is : IsInNormalBasis HasNormalForm setting). is.form) (normal_form_decided setting.signature)
  form_decided Adder = adder_form_decided setting.signature
  form_decided Squarer = moved_decided (λ form. over_base setting named (HasPolyForm 1) form.tower form) (λ (is : IsOverBase (HasPolyForm 1) setting). is.form) (poly_form_decided setting.signature 1)
  form_decided Digit =
      moved_decided (λ form. over_base setting named (HasDigitForm setting.k) form.tower form) (λ (is : IsOverBase (HasDigitForm setting.k) setting). is.form) (digit_form_decided setting.k (setting_sound bytes setting is_setting).ring.some setting.signature)

  -- ---- the answer

  net_of : (kind : Kind) → HasFormOf setting kind → (net : NetList) × IsMade setting kind net
  net_of Mastrovito form = (made_mastrovito setting.k setting.signature.modulus setting.signature.words, refl)
  net_of Montgomery form = (made_montgomery setting.k setting.signature.modulus setting.signature.words, refl)
  net_of Composite form = (made_composite (base_degree setting) setting.signature.modulus (length setting.signature.tower) (tower_polynomial (base_degree setting) setting.signature.tower) setting.signature.words, refl)
  net_of Normal form = (normal_net setting.k setting.product (first_conjugates setting) setting.signature.words, refl)
  net_of Adder form = (made_adder setting.k setting.signature.words, refl)
  net_of Squarer form = (made_squarer setting.k setting.signature.modulus setting.signature.words, refl)
  net_of Digit form =
      (digit_net setting.k (product 1 setting.k bit_mul setting.signature.modulus) (x_of setting.k setting.signature.modulus) form.form.width setting.signature.words setting.signature.feeds, record { form = form.form; is = refl })

  some_made : (kind : Kind) → IsDecided (HasFormOf setting kind) → HasOutcome (MadeOf setting kind)
  some_made kind (inl form) = let made = net_of kind form in (Ok made.0, (form, made.1))
  some_made kind (inr none) = (Err (Form kind), (refl, none))

  pub some_make : (kind : Kind) → HasOutcome (MakeAnswer setting kind)
  some_make kind = some_bind (MadeOf setting kind) (λ net. Exactly (record { status = 0; text = written net })) (some_made kind (form_decided kind)) (λ net is. some_exactly (record { status = 0; text = written net }))
