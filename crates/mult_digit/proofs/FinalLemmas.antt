-- The net for a signature that has the form.
use Rattle.std.proofs.Common.{◌≡◌, ◌∙◌, ap, ap₂, sym, subst, ℕ, ◌≤◌, ◌^◌, List, [], length, take, length-append, Ok, arith}
use Rattle.std.proofs.lemmas.List.{length-take-le, take-map}
use Rattle.lists.specs.laws.ListLaws.{length_map as map_long}
use Rattle.gf_field.specs.Bit.{bit_mul}
use Rattle.gf_field.specs.Field.{HasNoZeroDivisors}
use Rattle.gf_field.specs.Modulus.{IsModulus}
use Rattle.gf_field.specs.Quotient.{product}
use Rattle.gf_field.specs.Ring.{IsRing}
use Rattle.net_core.specs.NetList.{NetList}
use Rattle.net_words.specs.Bind.{BindingOf}
use Rattle.net_words.specs.Binding.{Binding}
use Rattle.net_words.specs.declared.feed.FeedText.{FeedText}
use Rattle.net_words.specs.declared.word.Role.TheVariants.{Output}
use Rattle.net_words.specs.declared.word.WordText.{WordText}
use Rattle.net_signature.specs.Signature.{SignatureValue}
use Rattle.net_write.specs.Plain.{HasPlainNames}
use Rattle.circuit_model.specs.JobOfBinding.{job_with}
use Rattle.make_nets.specs.Form.{same_bases}
use Rattle.make_nets.specs.MakerNames.{AreMakerNames}
use Rattle.make_nets.specs.Ports.{outer_names, role_nets, word_names}
use Rattle.make_nets.proofs.MadeLemmas.{made_plain}
use Rattle.make_laws.specs.Indeterminate.{x_of}
use Rattle.make_laws.proofs.IndeterminateLemmas.{power_x}
use Rattle.make_laws.specs.DigitRegisters.{HasUnitPowers}
use Rattle.make_laws.specs.DigitNets.{HoldSumsSoFar, unit_basis}
use Rattle.mult_gen.specs.Form.{AreWide}
use Rattle.mult_digit.specs.ComputesFed.{ComputesDigits, ComputesFed, HoldsDigitSums}
use Rattle.mult_digit.specs.DigitForm.{AreDigitWords, HasDigitForm, digit_names, fed_names}
use Rattle.mult_digit.specs.DigitNet.{digit_net, digit_sums_of, net_over}
use Rattle.mult_digit.specs.DigitPlan.{digit_latches}
use Rattle.mult_digit.specs.IsDigitNet.{IsDigitNet}
use Rattle.mult_digit.specs.private.Front.{IsFront}
use Rattle.mult_digit.proofs.BindingLemmas.{factor_low, fits}
use Rattle.mult_digit.proofs.FormLemmas.{one_width}
use Rattle.mult_digit.proofs.JobLemmas.{computes, sums_held}
use Rattle.mult_digit.proofs.WordLemmas.{names_long}

-- the powers of x below the degree
pub unit_powers : (k g : ℕ) → IsModulus k g → HasUnitPowers k (product 1 k bit_mul g) (x_of k g)
unit_powers k g modulus i less = power_x k g i modulus less

-- there is room for the names
pub few_names : (k : ℕ) (words : List WordText) (front : List FeedText) → AreDigitWords words → AreWide k words → k ≤ 64 → length front ≤ k → length (outer_names words (fed_names front)) ≤ 2 ^ 20
few_names k words front are wide small narrow =
    omega (arith, length-append (word_names words) (fed_names front), names_long k words are wide, map_long (λ (f : FeedText). f.net) front, small, narrow)

module _ (k : ℕ) (mul : ℕ → ℕ → ℕ) (ring : IsRing k mul) (field : HasNoZeroDivisors k mul) (x : ℕ) (units : HasUnitPowers k mul x) (width : ℕ) (signature : SignatureValue) (is : IsFront k width signature) (wide : AreWide k signature.words)
    (words : List WordText) (words_are : words ≡ signature.words) (feeds front : List FeedText) (feeds_are : feeds ≡ signature.feeds) (front_is : front ≡ take width feeds)
  where
    pub width_low : width ≤ length feeds
    width_low = let low = factor_low width is.feeds.count k ring.some is.feeds.whole in omega (arith, low, is.feeds.long, ap (λ fs. length fs) feeds_are)

    pub front_long : length front ≡ width
    front_long = ap (λ fs. length fs) front_is ∙ length-take-le width feeds width_low

    front_names : fed_names front ≡ digit_names width signature.feeds
    front_names = ap fed_names front_is ∙ (sym (take-map (λ (f : FeedText). f.net) width feeds) ∙ ap (λ fs. take width (fed_names fs)) feeds_are)

    outer_same : outer_names words (fed_names front) ≡ outer_names signature.words (digit_names width signature.feeds)
    outer_same = ap₂ outer_names words_are front_names

    pub form_from : AreMakerNames (outer_names words (fed_names front)) → HasDigitForm k signature
    form_from names = record { tower = is.tower; upper = is.upper; blocks = is.blocks; words = is.words; width = width; feeds = is.feeds; names = subst AreMakerNames outer_same names }

    pub names_from : HasDigitForm k signature → AreMakerNames (outer_names words (fed_names front))
    names_from form =
        let same : form.width ≡ width = one_width k form.width width signature.feeds ring.some form.feeds is.feeds in
        subst AreMakerNames (sym outer_same) (subst (λ (w : ℕ). AreMakerNames (outer_names signature.words (digit_names w signature.feeds))) same form.names)

    module _ (names : AreMakerNames (outer_names words (fed_names front))) (net : NetList) (net_is : net ≡ net_over k mul x (length front) words (fed_names front)) where
      net_same : net ≡ digit_net k mul x width signature.words signature.feeds
      net_same =
          net_is
          ∙ (ap (λ w. net_over k mul x w words (fed_names front)) front_long
          ∙ ap₂ (net_over k mul x width) words_are front_names)

      pub digit_made : IsDigitNet k mul x signature net
      unfolding form_from
      digit_made = record {
        form = form_from names;
        is = net_same;
      }

      pub digit_plain : HasPlainNames net
      digit_plain = subst HasPlainNames (sym net_same)
          (made_plain signature.words (digit_names width signature.feeds) (digit_latches k (digit_sums_of k mul x width signature.words).nets (role_nets Output 0 signature.words)) [] (digit_sums_of k mul x width signature.words).plan
          (subst AreMakerNames outer_same names) (fits k mul x width signature.words signature.feeds is.words wide ring.some ring.small is.feeds (subst AreMakerNames outer_same names)))

-- what the net of the form computes
pub digit_product : (k : ℕ) (mul : ℕ → ℕ → ℕ) → IsRing k mul → HasNoZeroDivisors k mul → (x : ℕ) → HasUnitPowers k mul x → (signature : SignatureValue) → AreWide k signature.words → (net : NetList) → ComputesDigits k mul x signature net
digit_product k mul ring field x units signature wide net made =
    let form = made.form in
    subst (λ (n : NetList). ComputesFed k mul n signature.words signature.feeds (unit_basis k) form.feeds.count mul) (sym made.is)
    (computes k mul ring field x units form.width signature.words signature.feeds form.words wide form.feeds form.names)

-- and what its latches hold after t cycles
pub digit_sums_held : (k : ℕ) (mul : ℕ → ℕ → ℕ) → IsRing k mul → HasNoZeroDivisors k mul → (x : ℕ) → HasUnitPowers k mul x → (signature : SignatureValue) → AreWide k signature.words → (net : NetList) → HoldsDigitSums k mul x signature net
digit_sums_held k mul ring field x units signature wide net made =
    let form = made.form in
    let P : NetList → Type 0 = λ n. (binding : Binding) → BindingOf n signature.words signature.feeds (Ok binding)
    → HoldSumsSoFar (job_with k mul (record { net = n; binding = binding }) (same_bases (unit_basis k) signature.words) form.feeds.count) x form.width (role_nets Output 0 signature.words) in
    subst P (sym made.is) (sums_held k mul ring field x units form.width signature.words signature.feeds form.words wide form.feeds form.names)
