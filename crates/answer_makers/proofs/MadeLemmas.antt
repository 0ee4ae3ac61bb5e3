-- What makers promise of their net lists, over the settings of texts.
use Rattle.std.proofs.Common.{◌≡◌, ap, sym, refl, subst, ℕ, zero, suc, ◌*◌, ◌<◌, ◌≤◌, ◌^◌, List, [], ◌∷◌, length, take, drop, Option, Some, Ok, arith}
use Rattle.std.specs.Prelude.{bit_xor, slice_get}
use Rattle.lists.specs.Lists.{Has}
use Rattle.lists.specs.laws.HasLaws.{All_has, all_from as all_has}
use Rattle.net_core.specs.NetList.{NetList}
use Rattle.net_core.specs.Sound.{IsSound}
use Rattle.make_nets.specs.Computes.{ComputesOfOne, ComputesOfTwo}
use Rattle.make_nets.specs.Form.{AllAlike, AllPoly, AllWide, same_bases}
use Rattle.make_nets.specs.Ports.{role_nets}
use Rattle.make_nets.proofs.MadeLemmas.{made_plain, made_sound}
use Rattle.net_words.specs.Bind.{BindingOf}
use Rattle.net_words.specs.Binding.{Binding}
use Rattle.net_words.specs.declared.word.BasisText.TheVariants as basis
use Rattle.net_words.specs.declared.word.Role.TheVariants as role
use Rattle.net_words.specs.declared.word.WordText.{WordText}
use Rattle.net_write.specs.Plain.{HasPlainNames}
use Rattle.circuit_model.specs.JobOfBinding.{job_with}
use Rattle.circuit_model.specs.Out.{IsOut}
use Rattle.gf_basis.specs.Basis.{IsBasis, first_values}
use Rattle.gf_basis.specs.BasisFault.{conjugates_of}
use Rattle.gf_field.specs.Bit.{bit_mul}
use Rattle.gf_field.specs.Field.{HasNoZeroDivisors}
use Rattle.gf_field.specs.Quotient.{product}
use Rattle.irreducible.specs.Span.{IsIndependent}
use Rattle.gf_field.specs.laws.IrreducibleBitLaws.{field_by_modulus}
use Rattle.gf_field.specs.laws.ModulusLaws.{IsRing-from_modulus}
use Rattle.gf_tower.specs.Digits.{IsPackedList}
use Rattle.gf_tower.specs.Tower.{polynomial_of, tower_polynomial}
use Rattle.gf_tower.specs.laws.TowerLaws.{field_by_polynomial}
use Rattle.make_laws.specs.Indeterminate.{x_of}
use Rattle.make_laws.proofs.MontgomeryLemmas.{last_coefficient, one_inverse_power}
use Rattle.mult_gen.specs.Chains.{adder_plan, mastrovito_plan, squarer_plan}
use Rattle.mult_gen.specs.Form.{HasPolyForm, inputs_in, made_adder, made_mastrovito, made_squarer, outer_of, outputs_in}
use Rattle.mult_gen.proofs.ComputeLemmas.{adder_computes, adder_fits, mastrovito_computes, mastrovito_fits, squarer_computes, squarer_fits}
use Rattle.mult_montgomery.specs.Form.{HasMontgomeryForm, made_montgomery}
use Rattle.mult_montgomery.proofs.MadeLemmas as montgomery
use Rattle.mult_composite.specs.Form.{made_composite}
use Rattle.mult_composite.proofs.MadeLemmas as composite
use Rattle.mult_normal.specs.Coordinates.{counts_in}
use Rattle.mult_normal.specs.NormalNet.{latches_of, normal_net, normal_products}
use Rattle.mult_normal.specs.NormalPlan.{summed}
use Rattle.mult_normal.proofs.FormLemmas as normal
use Rattle.mult_normal.proofs.PlanForLemmas as normal_plan
use Rattle.make_laws.specs.DigitNets.{unit_basis}
use Rattle.mult_digit.specs.DigitForm.{AreDigitWords, HasDigitForm, digit_names}
use Rattle.mult_digit.specs.DigitNet.{digit_sums_of}
use Rattle.mult_digit.specs.DigitPlan.{digit_latches}
use Rattle.mult_digit.proofs.FinalLemmas.{digit_product, unit_powers}
use Rattle.mult_digit.proofs.JobLemmas as digit
use Rattle.mult_digit.proofs.BindingLemmas as digit_binds
use Rattle.job_words.specs.declared.kind.Kind.{Kind}
use Rattle.job_words.specs.declared.kind.Kind.TheVariants.{Mastrovito, Montgomery, Composite, Normal, Adder, Squarer, Digit}
use Rattle.job_input.specs.JobOf.{job_of}
use Rattle.job_input.specs.SettingOf.{BasesOf, SettingOf}
use Rattle.job_input.specs.SettingSound.{IsSoundSetting}
use Rattle.job_input.specs.SettingValue.{SettingValue}
use Rattle.job_input.proofs.SettingSoundLemmas.{setting_sound}
use Rattle.answer_makers.specs.Made.{AreCyclesOf, ComputesKind, HasOutputOfOne, HasOutputOfTwo}
use Rattle.answer_makers.specs.Make.{HasFormOf, IsMade, IsOverBase, base_degree, first_conjugates}
use Rattle.answer_makers.proofs.MakeLemmas.{IsUnfed, first_is, form_first, form_unfed, unfed_wide, words_wide}
use Rattle.answer_makers.proofs.SettingFieldLemmas.{IsNamed, base_product, bases_of, first_basis, named_by, tower_product}

-- the net list of a kind is sound and plainly named, the words bind to it, and its job computes what the kind does
pub record IsMadeRight (setting : SettingValue) (kind : Kind) (net : NetList) : Type 0 where
  pub sound : IsSound net
  pub plain : HasPlainNames net
  pub cycles : ℕ
  pub are_cycles : AreCyclesOf setting kind cycles
  pub binding : Binding
  pub binds : BindingOf net setting.signature.words setting.signature.feeds (Ok binding)
  pub computes : ComputesKind setting kind (job_of setting (record { net = net; binding = binding }) cycles)

-- ---- jobs over the bases of the setting

record HasTwo (setting : SettingValue) (net : NetList) (cycles : ℕ) (f : ℕ → ℕ → ℕ) : Type 0 where
  binding : Binding
  binds : BindingOf net setting.signature.words setting.signature.feeds (Ok binding)
  out : HasOutputOfTwo (job_of setting (record { net = net; binding = binding }) cycles) f

two : (setting : SettingValue) (net : NetList) (basis : List ℕ) (cycles : ℕ) (f : ℕ → ℕ → ℕ) → setting.signature.feeds ≡ [] → setting.bases ≡ same_bases basis setting.signature.words → ComputesOfTwo setting.k setting.product net setting.signature.words basis cycles f → HasTwo setting net cycles f
two setting net basis cycles f unfed bases is =
    let P : List (List ℕ) → Type 0 = λ bs. (a b : ℕ) → a < 2 ^ setting.k → b < 2 ^ setting.k → IsOut (job_with setting.k setting.product (record { net = net; binding = is.binding }) bs cycles) (a ∷ b ∷ []) (f a b) in
    let Q : _ → Type 0 = λ feeds. BindingOf net setting.signature.words feeds (Ok is.binding) in
    record { binding = is.binding; binds = subst Q (sym unfed) is.binds; out = subst P (sym bases) (is.out is.binding is.binds) }

record HasOne (setting : SettingValue) (net : NetList) (f : ℕ → ℕ) : Type 0 where
  binding : Binding
  binds : BindingOf net setting.signature.words setting.signature.feeds (Ok binding)
  out : HasOutputOfOne (job_of setting (record { net = net; binding = binding }) 0) f

one : (setting : SettingValue) (net : NetList) (basis : List ℕ) (f : ℕ → ℕ) → setting.signature.feeds ≡ [] → setting.bases ≡ same_bases basis setting.signature.words → ComputesOfOne setting.k setting.product net setting.signature.words basis 0 f → HasOne setting net f
one setting net basis f unfed bases is =
    let P : List (List ℕ) → Type 0 = λ bs. (a : ℕ) → a < 2 ^ setting.k → IsOut (job_with setting.k setting.product (record { net = net; binding = is.binding }) bs 0) (a ∷ []) (f a) in
    let Q : _ → Type 0 = λ feeds. BindingOf net setting.signature.words feeds (Ok is.binding) in
    record { binding = is.binding; binds = subst Q (sym unfed) is.binds; out = subst P (sym bases) (is.out is.binding is.binds) }

-- words of one text for all bases have the basis of the first
record HasOneBasis (words : List WordText) (bases : List (List ℕ)) : Type 0 where
  basis : List ℕ
  has : Has bases basis
  same : bases ≡ same_bases basis words

one_basis : (k : ℕ) (mul : ℕ → ℕ → ℕ) (words : List WordText) (bases : List (List ℕ)) → 1 ≤ length words → BasesOf k mul words (Ok bases) → AllAlike words → HasOneBasis words bases
one_basis k mul [] bases some are alike = absurd (omega (arith, some))
one_basis k mul (word ∷ words) bases some are alike =
    let first = first_basis k mul word words bases are in
    record { basis = first.0; has = first.2; same = bases_of k mul word.basis first.0 first.1 (word ∷ words) bases are each }
  where
    same : (w : WordText) → ◌≡◌ {A = Option WordText} (Some word) (Some w) → w.basis ≡ word.basis
    same w e = let p : w ≡ word = cc in ap (λ (u : WordText). u.basis) p

    each : (w : WordText) → Has (word ∷ words) w → w.basis ≡ word.basis
    each w (zero, got) = same w got
    each w (suc i, got) = sym (All_has (λ (u : WordText). word.basis ≡ u.basis) words w alike (i, got))

-- one of them is this basis
first_of_same : (elements : List ℕ) (words : List WordText) → 1 ≤ length words → Has (same_bases elements words) elements
first_of_same elements [] some = absurd (omega (arith, some))
first_of_same elements (word ∷ words) some = (0, refl)

-- each word of digits is in the basis of powers
digit_poly : (words : List WordText) → AreDigitWords words → AllPoly words
digit_poly words are =
    let P : WordText → List WordText → Type 0 = λ word ws. (i : ℕ) → slice_get ws i ≡ Some word → word.basis ≡ basis.Poly in
    all_has (λ (w : WordText). w.basis ≡ basis.Poly) words (λ word has. subst (P word) (sym are.are) (by word) has.0 has.1)
  where
    same : (word a : WordText) → ◌≡◌ {A = Option WordText} (Some a) (Some word) → a ≡ word
    same word a e = cc

    by : (word : WordText) (i : ℕ) → slice_get (are.a ∷ are.b ∷ are.z ∷ []) i ≡ Some word → word.basis ≡ basis.Poly
    by word zero got = let P : WordText → Type 0 = λ w. w.basis ≡ basis.Poly in subst P (same word are.a got) are.fed.basis
    by word (suc zero) got = let P : WordText → Type 0 = λ w. w.basis ≡ basis.Poly in subst P (same word are.b got) are.input.basis
    by word (suc (suc zero)) got = let P : WordText → Type 0 = λ w. w.basis ≡ basis.Poly in subst P (same word are.z got) are.output.basis
    by word (suc (suc (suc i))) got = absurd (cc)

module _ (setting : SettingValue) (text : List ℕ) (is : SettingOf text (Ok setting)) where
  fit : IsSoundSetting setting
  fit = setting_sound text setting is

  named : IsNamed setting
  named = named_by text setting is

  words : List WordText
  words = setting.signature.words

  pub wide : (kind : Kind) → IsUnfed kind → HasFormOf setting kind → AllWide setting.k setting.signature.words
  wide kind unfed form = unfed_wide setting.k setting.signature.words fit.words (form_unfed setting kind unfed form)

  poly_bases : AllPoly setting.signature.words → setting.bases ≡ same_bases (first_values setting.k (λ i. 2 ^ i)) setting.signature.words
  poly_bases poly = bases_of setting.k setting.product basis.Poly (first_values setting.k (λ i. 2 ^ i)) refl setting.signature.words setting.bases named.bases (λ word has. All_has (λ (w : WordText). w.basis ≡ basis.Poly) setting.signature.words word poly has)

  -- the field without a tower
  module _ (HasForm : _ → Type 0) (over : IsOverBase HasForm setting) where
    ring_field : HasNoZeroDivisors setting.k (product 1 setting.k bit_mul setting.signature.modulus)
    ring_field = (field_by_modulus setting.k setting.signature.modulus over.modulus.modulus).1 over.modulus.irreducible

    by_product : setting.product ≡ product 1 setting.k bit_mul setting.signature.modulus
    by_product = base_product setting named over.no_tower

    two_over : (net : NetList) (cycles : ℕ) (f : (ℕ → ℕ → ℕ) → ℕ → ℕ → ℕ) → setting.signature.feeds ≡ [] → AllPoly setting.signature.words → ComputesOfTwo setting.k (product 1 setting.k bit_mul setting.signature.modulus) net setting.signature.words (first_values setting.k (λ i. 2 ^ i)) cycles (f (product 1 setting.k bit_mul setting.signature.modulus)) → HasTwo setting net cycles (f setting.product)
    two_over net cycles f unfed poly computes =
        let P : (ℕ → ℕ → ℕ) → Type 0 = λ mul. ComputesOfTwo setting.k mul net setting.signature.words (first_values setting.k (λ i. 2 ^ i)) cycles (f mul) in
        two setting net (first_values setting.k (λ i. 2 ^ i)) cycles (f setting.product) unfed (poly_bases poly) (subst P (sym by_product) computes)

  -- ---- each kind

  mastrovito_right : (form : HasFormOf setting Mastrovito) → IsMadeRight setting Mastrovito (made_mastrovito setting.k setting.signature.modulus setting.signature.words)
  mastrovito_right form =
      let ws = setting.signature.words in
      let k = setting.k in
      let ports = form.form.ports in
      let all = wide Mastrovito tt form in
      let ok = form.modulus.modulus in
      let plan = mastrovito_plan (outer_of ws) k setting.signature.modulus (take k (inputs_in ws)) (drop k (inputs_in ws)) (outputs_in ws) in
      let fits = mastrovito_fits k setting.signature.modulus ok.small ws ports.words all in
      let job = two_over (HasPolyForm 2) form (made_mastrovito k setting.signature.modulus ws) 0 (λ mul. mul) ports.feeds form.form.bases (mastrovito_computes k setting.signature.modulus ok (ring_field (HasPolyForm 2) form) ws ports.words all ports.names) in
      record { sound = made_sound ws [] [] (outputs_in ws) plan ports.names fits; plain = made_plain ws [] [] (outputs_in ws) plan ports.names fits; cycles = 0; are_cycles = refl; binding = job.binding; binds = job.binds; computes = job.out }

  montgomery_right : (form : HasFormOf setting Montgomery) → IsMadeRight setting Montgomery (made_montgomery setting.k setting.signature.modulus setting.signature.words)
  montgomery_right form =
      let ws = setting.signature.words in
      let k = setting.k in
      let g' = setting.signature.modulus in
      let ports = form.form.poly.ports in
      let all = wide Montgomery tt form in
      let ok = form.modulus.modulus in
      let field = ring_field HasMontgomeryForm form in
      let inverse = one_inverse_power k g' ok (last_coefficient k g' ok field form.form.modulus) field in
      let job = two_over HasMontgomeryForm form (made_montgomery k g' ws) 0 (λ mul a b. mul (mul a b) inverse.inverse) ports.feeds form.form.poly.bases (montgomery.computes k g' ok ws ports.words all ports.names field form.form.modulus inverse.inverse inverse.is_one) in
      record { sound = montgomery.sound k g' ok ws ports.words all ports.names; plain = montgomery.plain k g' ok ws ports.words all ports.names; cycles = 0; are_cycles = refl; binding = job.binding; binds = job.binds; computes = record { inverse = inverse.inverse; is_inverse = inverse.is_one; output = job.out } }

  squarer_right : (form : HasFormOf setting Squarer) → IsMadeRight setting Squarer (made_squarer setting.k setting.signature.modulus setting.signature.words)
  squarer_right form =
      let ws = setting.signature.words in
      let k = setting.k in
      let g' = setting.signature.modulus in
      let ports = form.form.ports in
      let all = wide Squarer tt form in
      let ok = form.modulus.modulus in
      let plan = squarer_plan (outer_of ws) k g' (inputs_in ws) (outputs_in ws) in
      let fits = squarer_fits k g' ok.small ws ports.words all in
      let P : (ℕ → ℕ → ℕ) → Type 0 = λ mul. ComputesOfOne k mul (made_squarer k g' ws) ws (first_values k (λ i. 2 ^ i)) 0 (λ a. mul a a) in
      let job = one setting (made_squarer k g' ws) (first_values k (λ i. 2 ^ i)) (λ a. setting.product a a) ports.feeds (poly_bases form.form.bases) (subst P (sym (by_product (HasPolyForm 1) form)) (squarer_computes k g' ok (ring_field (HasPolyForm 1) form) ws ports.words all ports.names)) in
      record { sound = made_sound ws [] [] (outputs_in ws) plan ports.names fits; plain = made_plain ws [] [] (outputs_in ws) plan ports.names fits; cycles = 0; are_cycles = refl; binding = job.binding; binds = job.binds; computes = job.out }

  adder_right : (form : HasFormOf setting Adder) → IsMadeRight setting Adder (made_adder setting.k setting.signature.words)
  adder_right form =
      let ws = setting.signature.words in
      let k = setting.k in
      let ports = form.ports in
      let all = wide Adder tt form in
      let plan = adder_plan (outer_of ws) k (take k (inputs_in ws)) (drop k (inputs_in ws)) (outputs_in ws) in
      let fits = adder_fits k 0 fit.ring.small ws ports.words all in
      let first = one_basis k setting.product ws setting.bases fit.words.one named.bases form.bases in
      let job = two setting (made_adder k ws) first.basis 0 bit_xor ports.feeds first.same (adder_computes k setting.product fit.ring fit.field first.basis (fit.each first.basis first.has) ws ports.words all ports.names) in
      record { sound = made_sound ws [] [] (outputs_in ws) plan ports.names fits; plain = made_plain ws [] [] (outputs_in ws) plan ports.names fits; cycles = 0; are_cycles = refl; binding = job.binding; binds = job.binds; computes = job.out }

  composite_right : (form : HasFormOf setting Composite) → IsMadeRight setting Composite (made_composite (base_degree setting) setting.signature.modulus (length setting.signature.tower) (tower_polynomial (base_degree setting) setting.signature.tower) setting.signature.words)
  composite_right form =
      let ws = setting.signature.words in
      let n = base_degree setting in
      let g' = setting.signature.modulus in
      let cs = setting.signature.tower in
      let m = length cs in
      let ports = form.form.ports in
      let P : ℕ → Type 0 = λ k. AllWide k ws in
      let all = subst P (sym form.whole) (wide Composite tt form) in
      let ok = form.base.modulus in
      let mul = product 1 n bit_mul g' in
      let packs : IsPackedList n m (polynomial_of n cs) cs = record { two = form.tower.list.size.two; small = form.tower.list.size.small; size = refl; elements = form.tower.list.elements; packs = refl } in
      let below : HasNoZeroDivisors n mul = (field_by_modulus n g' ok).1 form.base.irreducible in
      let above : HasNoZeroDivisors (n * m) (product n m mul (tower_polynomial n cs)) = (field_by_polynomial n m (polynomial_of n cs) cs packs mul (IsRing-from_modulus n g' ok) below).1 form.tower.irreducible in
      let net = made_composite n g' m (tower_polynomial n cs) ws in
      let same = tower_product setting named form.form.tower form.one_step n form.base in
      let Q : ℕ → Type 0 = λ k. ComputesOfTwo k (product n m mul (tower_polynomial n cs)) net ws (first_values k (λ i. 2 ^ i)) 0 (product n m mul (tower_polynomial n cs)) in
      let R : (ℕ → ℕ → ℕ) → Type 0 = λ f. ComputesOfTwo setting.k f net ws (first_values setting.k (λ i. 2 ^ i)) 0 f in
      let job = two setting net (first_values setting.k (λ i. 2 ^ i)) 0 setting.product ports.feeds (poly_bases form.form.bases) (subst R (sym same) (subst Q form.whole (composite.tower_computes n n m m g' (polynomial_of n cs) cs refl refl ok packs ws ports.words all ports.names above))) in
      record {
        sound = composite.tower_sound n n m m g' (polynomial_of n cs) cs refl refl ok packs ws ports.words all ports.names;
        plain = composite.tower_plain n n m m g' (polynomial_of n cs) cs refl refl ok packs ws ports.words all ports.names;
        cycles = 0;
        are_cycles = refl;
        binding = job.binding;
        binds = job.binds;
        computes = job.out;
      }

  normal_right : (form : HasFormOf setting Normal) → IsMadeRight setting Normal (normal_net setting.k setting.product (first_conjugates setting) setting.signature.words)
  normal_right form =
      let ws = setting.signature.words in
      let k = setting.k in
      let mul = setting.product in
      let own = form.form in
      let all = wide Normal tt form in
      let first : _ = first_is ws own.gamma (form_first setting.signature fit.words.one own) in
      let elements : List ℕ = first_conjugates setting in
      let conjugates : elements ≡ conjugates_of k mul own.gamma = ap (λ x. conjugates_of k mul x) first in
      let small : own.gamma < 2 ^ k = (let P : ℕ → Type 0 = λ x. x < 2 ^ k in subst P first form.element) in
      let independent : _ = (let P : ℕ → Type 0 = λ x. IsIndependent (conjugates_of k mul x) in subst P first form.independent) in
      let bases = bases_of k mul (basis.Normal own.gamma) elements (small, independent, conjugates) ws setting.bases named.bases (λ word has. All_has (λ (w : WordText). w.basis ≡ basis.Normal own.gamma) ws word own.bases has) in
      let over : IsBasis k elements = (let P : List (List ℕ) → Type 0 = λ bs. Has bs elements in fit.each elements (subst P (sym bases) (first_of_same elements ws fit.words.one))) in
      let list = normal_net k mul elements ws in
      let fits = normal_plan.plan_for k (counts_in k mul elements) ws own.words all fit.ring.small in
      let names = normal.outer_names_fit k mul fit.ring fit.field elements over setting.signature own all in
      let job = two setting list elements k mul own.unfed bases (normal.computes_form k mul fit.ring fit.field elements over setting.signature own all conjugates) in
      record {
        sound = made_sound ws [] (latches_of k mul elements ws) [] (summed (normal_products k mul elements ws)) names fits;
        plain = normal.plain k mul fit.ring fit.field elements over setting.signature own all;
        cycles = k;
        are_cycles = refl;
        binding = job.binding;
        binds = job.binds;
        computes = job.out;
      }

  digit_right : (form : HasFormOf setting Digit) (net : NetList) → IsMade setting Digit net → IsMadeRight setting Digit net
  digit_right form net made =
      let ws = setting.signature.words in
      let feeds = setting.signature.feeds in
      let k = setting.k in
      let g' = setting.signature.modulus in
      let mul = product 1 k bit_mul g' in
      let x = x_of k g' in
      let own = made.form in
      let width = own.width in
      let ok = form.modulus.modulus in
      let ring = IsRing-from_modulus k g' ok in
      let field = ring_field (HasDigitForm k) form in
      let all = words_wide k ws fit.words in
      let units = unit_powers k g' ok in
      let out = digit_product k mul ring field x units setting.signature all net made in
      let sums = digit_sums_of k mul x width ws in
      let fits = digit_binds.fits k mul x width ws feeds own.words all ring.some ring.small own.feeds own.names in
      let same = by_product (HasDigitForm k) form in
      let bases = poly_bases (digit_poly ws own.words) in
      let P : (ℕ → ℕ → ℕ) → List (List ℕ) → Type 0 = λ f bs. (a b : ℕ) → a < 2 ^ k → b < 2 ^ k → IsOut (job_with k f (record { net = net; binding = out.binding }) bs own.feeds.count) (a ∷ b ∷ []) (f a b) in
      let Q : (ℕ → ℕ → ℕ) → Type 0 = λ f. P f (same_bases (unit_basis k) ws) in
      let R : List (List ℕ) → Type 0 = λ bs. P setting.product bs in
      let S : NetList → Type 0 = λ n. IsSound n in
      let T : NetList → Type 0 = λ n. HasPlainNames n in
      record {
        sound = subst S (sym made.is) (digit.sound k mul ring field x units width ws feeds own.words all own.feeds own.names);
        plain = subst T (sym made.is) (made_plain ws (digit_names width feeds) (digit_latches k sums.nets (role_nets role.Output 0 ws)) [] sums.plan own.names fits);
        cycles = own.feeds.count;
        are_cycles = (width, own.feeds, own.feeds.whole);
        binding = out.binding;
        binds = out.binds;
        computes = subst R (sym bases) (subst Q (sym same) (out.out out.binding out.binds));
      }

  pub made_right : (kind : Kind) (net : NetList) → HasFormOf setting kind → IsMade setting kind net → IsMadeRight setting kind net
  made_right Mastrovito net form made = let P : NetList → Type 0 = λ n. IsMadeRight setting Mastrovito n in subst P (sym made) (mastrovito_right form)
  made_right Montgomery net form made = let P : NetList → Type 0 = λ n. IsMadeRight setting Montgomery n in subst P (sym made) (montgomery_right form)
  made_right Composite net form made = let P : NetList → Type 0 = λ n. IsMadeRight setting Composite n in subst P (sym made) (composite_right form)
  made_right Normal net form made = let P : NetList → Type 0 = λ n. IsMadeRight setting Normal n in subst P (sym made) (normal_right form)
  made_right Adder net form made = let P : NetList → Type 0 = λ n. IsMadeRight setting Adder n in subst P (sym made) (adder_right form)
  made_right Squarer net form made = let P : NetList → Type 0 = λ n. IsMadeRight setting Squarer n in subst P (sym made) (squarer_right form)
  made_right Digit net form made = digit_right form net made
