-- The net lists of kinds over fields of their forms, and that there is one answer of `make`.
use Rattle.std.proofs.Common.{◌≡◌, ◌≢◌, ◌∙◌, ap, sym, refl, subst, inl, inr, ◌⊎◌, ℕ, zero, suc, ◌+◌, ◌-◌, ◌*◌, ◌/◌, ◌%◌, ◌^◌, ◌<◌, ◌≤◌, List, [], ◌∷◌, length, Some, Ok, Err, arith}
use Rattle.std.specs.Prelude.{All, slice_get}
use Rattle.std.proofs.Math.Nat.{mul_comm, mul-div_right, mul-le-mul_right, one-mul, zero-div, zero-mod, zero-mul}
use Rattle.lists.specs.laws.HasLaws.{All_has, all_from as all_has}
use Rattle.outcome.proofs.DeterminedLemmas.{determined_exactly}
use Rattle.outcome.specs.Outcome.{Determined, Exactly}
use Rattle.outcome.proofs.DeterminedLemmas.{determined_after}
use Rattle.net_core.specs.NetList.{NetList}
use Rattle.make_nets.specs.Form.{AllWide, HasWords}
use Rattle.make_nets.proofs.FormLemmas.{words_one_of}
use Rattle.net_signature.specs.Signature.{SignatureValue}
use Rattle.net_words.specs.Binding.{AreWords}
use Rattle.net_words.specs.declared.feed.FeedText.{FeedText}
use Rattle.net_words.specs.declared.feed.Source.{Source}
use Rattle.net_words.specs.declared.feed.Source.TheVariants as source
use Rattle.net_words.specs.declared.word.BasisText.TheVariants as basis
use Rattle.net_words.specs.declared.word.Role.{Role}
use Rattle.net_words.specs.declared.word.Role.TheVariants as role
use Rattle.net_words.specs.declared.word.WordText.{WordText}
use Rattle.net_write.specs.Written.{written}
use Rattle.irreducible.specs.Span.{IsIndependent}
use Rattle.gf_basis.specs.BasisFault.{conjugates_of}
use Rattle.gf_field.specs.Bit.{bit_mul}
use Rattle.gf_field.specs.Field.{HasNoZeroDivisors}
use Rattle.gf_field.specs.Modulus.{IsModulus}
use Rattle.gf_field.specs.Quotient.{product}
use Rattle.gf_tower.specs.Digits.{IsPackedList}
use Rattle.gf_tower.specs.FieldName.{IsFieldModulus, IsFieldTower}
use Rattle.gf_tower.specs.Tower.{tower_polynomial}
use Rattle.make_laws.specs.Indeterminate.{x_of}
use Rattle.mult_composite.specs.Form.{HasCompositeForm, made_composite}
use Rattle.mult_normal.specs.NormalForm.{HasNormalForm}
use Rattle.mult_normal.specs.NormalNet.{normal_net}
use Rattle.mult_gen.specs.Form.{AreWide}
use Rattle.mult_digit.specs.DigitForm.{HasDigitForm}
use Rattle.mult_digit.specs.DigitNet.{digit_net}
use Rattle.mult_digit.specs.IsDigitNet.{IsDigitNet}
use Rattle.job_words.specs.declared.kind.Kind.{Kind}
use Rattle.job_words.specs.declared.kind.Kind.TheVariants.{Mastrovito, Montgomery, Composite, Normal, Adder, Squarer, Digit}
use Rattle.job_input.specs.SettingSound.{IsSoundSetting}
use Rattle.job_input.specs.SettingValue.{SettingValue}
use Rattle.answer_makers.specs.Make.{HasFormOf, IsMade, IsOverBase, MadeOf, MakeAnswer, base_degree, element_of, first_conjugates, first_element}
use Rattle.answer_makers.specs.private.Making.{FirstIsNormal, HasRingForm, IsOfRing, IsRingNet}
use Rattle.answer_core.proofs.FieldNameLemmas.{field_modulus, field_tower}

-- ---- one width of digits

-- the place that a source stands for, and the first of feeds
place_in : Source → ℕ
place_in source.Zero = 0
place_in source.One = 0
place_in (source.Bit word place) = place

first_place : List FeedText → ℕ
unfolding place_in
first_place [] = 0
first_place (feed ∷ feeds) = place_in feed.source

first_of : (k width : ℕ) (feeds : List FeedText) → width ≤ k → ((feed : FeedText) → slice_get feeds 0 ≡ Some feed → place_in feed.source ≡ k - width) → 1 ≤ length feeds → k - first_place feeds ≡ width
unfolding place_in first_place
first_of k width [] most is some = absurd (omega (arith, some))
first_of k width (feed ∷ feeds) most is some = let place = is feed refl in omega (arith, place, most)

-- a digit is no wider than the word
width_low : (k width count : ℕ) → k ≡ width * count → 1 ≤ k → width ≤ k
width_low k width zero whole some = absurd (let none : width * 0 ≡ 0 = mul_comm width 0 ∙ zero-mul width in omega (arith, some, whole, none))
width_low k width (suc count) whole some =
    let more : 1 * width ≤ suc count * width = mul-le-mul_right {m = 1} {n = suc count} width (omega arith) in
    omega (arith, whole, mul_comm width (suc count), more, one-mul width)

digits_width : (k : ℕ) (signature : SignatureValue) → 1 ≤ k → (form : HasDigitForm k signature) → k - first_place signature.feeds ≡ form.width
unfolding place_in
digits_width k signature some form =
    let feeds = form.feeds in
    let low = width_low k form.width feeds.count feeds.whole some in
    first_of k form.width signature.feeds low (λ feed at.
    ap place_in (feeds.each 0 feed at).source ∙ (let none : 0 / form.width ≡ 0 = zero-div form.width in let rest : 0 % form.width ≡ 0 = zero-mod form.width in
    (λ i. k - form.width * suc (none i) + rest i) ∙ (let once : form.width * 1 ≡ form.width = mul_comm form.width 1 ∙ one-mul form.width in omega (arith, once)))) (omega (arith, feeds.long, some))

same_digits : (k : ℕ) (mul : ℕ → ℕ → ℕ) (x : ℕ) (signature : SignatureValue) → 1 ≤ k → (a b : NetList) → IsDigitNet k mul x signature a → IsDigitNet k mul x signature b → a ≡ b
same_digits k mul x signature some a b h g =
    h.is ∙ ap (λ width. digit_net k mul x width signature.words signature.feeds) (sym (digits_width k signature some h.form) ∙ digits_width k signature some g.form) ∙ sym g.is

-- ---- one answer

one_made : (setting : SettingValue) → IsSoundSetting setting → (kind : Kind) (a b : NetList) → IsMade setting kind a → IsMade setting kind b → a ≡ b
one_made setting sound Mastrovito a b h g = h ∙ sym g
one_made setting sound Montgomery a b h g = h ∙ sym g
one_made setting sound Composite a b h g = h ∙ sym g
one_made setting sound Normal a b h g = h ∙ sym g
one_made setting sound Adder a b h g = h ∙ sym g
one_made setting sound Squarer a b h g = h ∙ sym g
one_made setting sound Digit a b h g = same_digits setting.k (product 1 setting.k bit_mul setting.signature.modulus) (x_of setting.k setting.signature.modulus) setting.signature sound.ring.some a b h g

made_determined : (setting : SettingValue) → IsSoundSetting setting → (kind : Kind) → Determined (MadeOf setting kind)
made_determined setting sound kind (Ok a) (Ok b) h g = ap Ok (one_made setting sound kind a b h.1 g.1)
made_determined setting sound kind (Ok a) (Err e) h g = absurd (g.1 h.0)
made_determined setting sound kind (Err d) (Ok b) h g = absurd (h.1 g.0)
made_determined setting sound kind (Err d) (Err e) h g = ap Err (h.0 ∙ sym g.0)

pub make_determined : (setting : SettingValue) → IsSoundSetting setting → (kind : Kind) → Determined (MakeAnswer setting kind)
make_determined setting sound kind =
    determined_after (MadeOf setting kind) (λ net. Exactly (record { status = 0; text = written net })) (made_determined setting sound kind) (λ net is. determined_exactly (record { status = 0; text = written net }))

-- ---- no word is fed

-- words that are not fed have as many nets as the field's elements have bits
pub unfed_wide : (k : ℕ) (words : List WordText) → AreWords k words → All (λ (word : WordText). word.role ≢ role.Fed) words → AllWide k words
unfed_wide k words are unfed word has = elim (All_has (λ (w : WordText). (length w.nets ≡ k) ⊎ (w.role ≡ role.Fed)) words word are.each has) [
  | inl wide ↦ wide
  | inr fed ↦ absurd (All_has (λ (w : WordText). w.role ≢ role.Fed) words word unfed has fed)
]

pub words_wide : (k : ℕ) (words : List WordText) → AreWords k words → AreWide k words
words_wide k words are word has unfed = elim (All_has (λ (w : WordText). (length w.nets ≡ k) ⊎ (w.role ≡ role.Fed)) words word are.each has) [
  | inl wide ↦ wide
  | inr fed ↦ absurd (unfed fed)
]

apart : (a b : Role) → a ≢ role.Fed → b ≢ role.Fed → (r : Role) → (r ≡ a) ⊎ (r ≡ b) → r ≢ role.Fed
apart a b first second r (inl same) fed = first (sym same ∙ fed)
apart a b first second r (inr same) fed = second (sym same ∙ fed)

input_unfed : role.Input ≢ role.Fed
input_unfed e = absurd (cc)

state_unfed : role.State ≢ role.Fed
state_unfed e = absurd (cc)

output_unfed : role.Output ≢ role.Fed
output_unfed e = absurd (cc)

input_other : role.Input ≢ role.Output
input_other e = absurd (cc)

state_other : role.State ≢ role.Output
state_other e = absurd (cc)

unfed_words : (what : Role) (count : ℕ) (words : List WordText) → what ≢ role.Fed → what ≢ role.Output → HasWords what count words → All (λ (word : WordText). word.role ≢ role.Fed) words
unfed_words what count words unfed other has = all_has (λ (word : WordText). word.role ≢ role.Fed) words (λ word at. apart what role.Output unfed output_unfed word.role (words_one_of what count words other has word at))

-- the kind has no feeds
abbrev pub IsUnfed : Kind → Type 0
IsUnfed Mastrovito = Unit {0}
IsUnfed Montgomery = Unit {0}
IsUnfed Composite = Unit {0}
IsUnfed Normal = Unit {0}
IsUnfed Adder = Unit {0}
IsUnfed Squarer = Unit {0}
IsUnfed Digit = ⊥

-- a signature of these forms has no fed word
pub form_unfed : (setting : SettingValue) (kind : Kind) → IsUnfed kind → HasFormOf setting kind → All (λ (word : WordText). word.role ≢ role.Fed) setting.signature.words
form_unfed setting Mastrovito is form = unfed_words role.Input 2 setting.signature.words input_unfed input_other form.form.ports.words
form_unfed setting Montgomery is form = unfed_words role.Input 2 setting.signature.words input_unfed input_other form.form.poly.ports.words
form_unfed setting Composite is form = unfed_words role.Input 2 setting.signature.words input_unfed input_other form.form.ports.words
form_unfed setting Normal is form = unfed_words role.State 2 setting.signature.words state_unfed state_other form.form.words
form_unfed setting Adder is form = unfed_words role.Input 2 setting.signature.words input_unfed input_other form.ports.words
form_unfed setting Squarer is form = unfed_words role.Input 1 setting.signature.words input_unfed input_other form.form.ports.words
form_unfed setting Digit is form = absurd is

-- ---- kinds over fields without towers

ring_form : (setting : SettingValue) (kind : Kind) → IsOfRing kind → IsOverBase (HasRingForm kind) setting → HasFormOf setting kind
ring_form setting Mastrovito base is = is
ring_form setting Montgomery base is = is
ring_form setting Composite base is = absurd base
ring_form setting Normal base is = absurd base
ring_form setting Adder base is = absurd base
ring_form setting Squarer base is = is
ring_form setting Digit base is = absurd base

of_ring_form : (setting : SettingValue) (kind : Kind) → IsOfRing kind → HasFormOf setting kind → IsOverBase (HasRingForm kind) setting
of_ring_form setting Mastrovito base is = is
of_ring_form setting Montgomery base is = is
of_ring_form setting Composite base is = absurd base
of_ring_form setting Normal base is = absurd base
of_ring_form setting Adder base is = absurd base
of_ring_form setting Squarer base is = is
of_ring_form setting Digit base is = absurd base

ring_made : (setting : SettingValue) (kind : Kind) → IsOfRing kind → (net : NetList) → IsRingNet kind setting.k setting.signature.modulus setting.signature net → IsMade setting kind net
ring_made setting Mastrovito base net is = is
ring_made setting Montgomery base net is = is
ring_made setting Composite base net is = absurd base
ring_made setting Normal base net is = absurd base
ring_made setting Adder base net is = absurd base
ring_made setting Squarer base net is = is
ring_made setting Digit base net is = absurd base

-- a modulus that makes the field of the setting
module _ (setting : SettingValue) (g : ℕ) (fits : IsModulus setting.k g) (field : HasNoZeroDivisors setting.k (product 1 setting.k bit_mul g)) (same : g ≡ setting.signature.modulus) (no_tower : setting.signature.tower ≡ []) where
  same_field : (HasForm : SignatureValue → Type 0) → HasForm setting.signature → IsOverBase HasForm setting
  same_field HasForm form =
      let P : ℕ → Type 0 = λ x. IsFieldModulus setting.k x in
      record { modulus = subst P same (field_modulus setting.k g fits field); no_tower = no_tower; form = form }

  pub over_ring_form : (kind : Kind) → IsOfRing kind → HasRingForm kind setting.signature → HasFormOf setting kind
  over_ring_form kind base form = ring_form setting kind base (same_field (HasRingForm kind) form)

  pub over_ring_net : (kind : Kind) → IsOfRing kind → (net : NetList) → IsRingNet kind setting.k g setting.signature net → IsMade setting kind net
  over_ring_net kind base net is =
      let P : ℕ → Type 0 = λ x. IsRingNet kind setting.k x setting.signature net in
      ring_made setting kind base net (subst P same is)

  pub digits_form : HasDigitForm setting.k setting.signature → HasFormOf setting Digit
  digits_form form = same_field (HasDigitForm setting.k) form

  pub digits_net : (net : NetList) → IsDigitNet setting.k (product 1 setting.k bit_mul g) (x_of setting.k g) setting.signature net → IsMade setting Digit net
  digits_net net is =
      let P : ℕ → Type 0 = λ x. IsDigitNet setting.k (product 1 setting.k bit_mul x) (x_of setting.k x) setting.signature net in
      subst P same is

pub no_ring_form : (setting : SettingValue) (kind : Kind) → IsOfRing kind → (HasRingForm kind setting.signature → ⊥) → HasFormOf setting kind → ⊥
no_ring_form setting kind base none form = none (of_ring_form setting kind base form).form

-- ---- towers

mul_div : (n m : ℕ) → 0 < m → n * m / m ≡ n
mul_div n m some = ap (λ x. x / m) (mul_comm n m) ∙ mul-div_right n some

module _ (setting : SettingValue) (n g m low : ℕ) (cs : List ℕ) (base : IsModulus n g) (packs : IsPackedList n m low cs) (below : HasNoZeroDivisors n (product 1 n bit_mul g)) (above : HasNoZeroDivisors (n * m) (product n m (product 1 n bit_mul g) (tower_polynomial n cs)))
    (same_base : g ≡ setting.signature.modulus) (same_tower : cs ≡ setting.signature.tower) (one_step : setting.signature.upper ≡ []) where
  steps : length setting.signature.tower ≡ m
  steps = ap (λ (xs : List ℕ). length xs) (sym same_tower) ∙ packs.size

  degree : n * m ≡ setting.k → base_degree setting ≡ n
  degree whole = (λ i. sym whole i / steps i) ∙ mul_div n m (let two = packs.two in omega (arith, two))

  pub over_tower_form : n * m ≡ setting.k → HasCompositeForm setting.signature → HasFormOf setting Composite
  over_tower_form whole form =
      let P : ℕ → Type 0 = λ x. IsFieldModulus n x in
      let Q : ℕ → Type 0 = λ d. IsFieldModulus d setting.signature.modulus in
      let R : ℕ → Type 0 = λ x. IsFieldTower n x cs in
      let S : List ℕ → Type 0 = λ xs. IsFieldTower n setting.signature.modulus xs in
      let T : ℕ → Type 0 = λ d. IsFieldTower d setting.signature.modulus setting.signature.tower in
      record {
        whole = (λ i. degree whole i * steps i) ∙ whole;
        base = subst Q (sym (degree whole)) (subst P same_base (field_modulus n g base below));
        tower = subst T (sym (degree whole)) (subst S same_tower (subst R same_base (field_tower n g m low cs base below packs above)));
        one_step = one_step;
        form = form;
      }

  pub over_tower_net : n * m ≡ setting.k → (net : NetList) → net ≡ made_composite n g m (tower_polynomial n cs) setting.signature.words → IsMade setting Composite net
  over_tower_net whole net is = is ∙ (λ i. made_composite (sym (degree whole) i) (same_base i) (sym steps i) (tower_polynomial (sym (degree whole) i) (same_tower i)) setting.signature.words)

-- ---- normal bases

pub first_is : (words : List WordText) (gamma : ℕ) → FirstIsNormal words gamma → first_element words ≡ gamma
first_is [] gamma is = absurd is
first_is (word ∷ words) gamma is = ap element_of is

all_first : (words : List WordText) (gamma : ℕ) → 1 ≤ length words → All (λ (word : WordText). word.basis ≡ basis.Normal gamma) words → FirstIsNormal words gamma
all_first [] gamma some all = absurd (omega (arith, some))
all_first (word ∷ words) gamma some all = all 0 word (omega arith)

pub form_first : (signature : SignatureValue) → 1 ≤ length signature.words → (form : HasNormalForm signature) → FirstIsNormal signature.words form.gamma
form_first signature some form = all_first signature.words form.gamma some form.bases

-- the first word is in the normal basis of one element
pub one_first : (words : List WordText) (gamma delta : ℕ) → FirstIsNormal words gamma → FirstIsNormal words delta → gamma ≡ delta
one_first words gamma delta a b = sym (first_is words gamma a) ∙ first_is words delta b

module _ (setting : SettingValue) (gamma : ℕ) (first : FirstIsNormal setting.signature.words gamma) where
  same_conjugates : conjugates_of setting.k setting.product gamma ≡ first_conjugates setting
  same_conjugates = ap (λ x. conjugates_of setting.k setting.product x) (sym (first_is setting.signature.words gamma first))

  pub normal_form : gamma < 2 ^ setting.k → IsIndependent (conjugates_of setting.k setting.product gamma) → HasNormalForm setting.signature → HasFormOf setting Normal
  normal_form small independent form =
      let P : ℕ → Type 0 = λ x. x < 2 ^ setting.k in
      let Q : List ℕ → Type 0 = λ xs. IsIndependent xs in
      record { element = subst P (sym (first_is setting.signature.words gamma first)) small; independent = subst Q same_conjugates independent; form = form }

  pub made_normal : (own : List ℕ) → own ≡ conjugates_of setting.k setting.product gamma → (net : NetList) → net ≡ normal_net setting.k setting.product own setting.signature.words → IsMade setting Normal net
  made_normal own same net is = is ∙ ap (λ (elements : List ℕ). normal_net setting.k setting.product elements setting.signature.words) (same ∙ same_conjugates)
