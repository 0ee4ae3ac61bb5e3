-- The net over the words of a signature that has the form: its names, and what it computes.
use Rattle.std.proofs.Common.{◌≡◌, sym, refl, subst, ℕ, [], List}
use Rattle.lists.specs.laws.HasLaws.{none_at}
use Rattle.net_signature.specs.Signature.{SignatureValue}
use Rattle.net_write.specs.Plain.{HasPlainNames}
use Rattle.gf_field.specs.Ring.{IsRing}
use Rattle.gf_field.specs.Field.{HasNoZeroDivisors}
use Rattle.gf_basis.specs.BasisFault.{conjugates_of}
use Rattle.make_nets.specs.Computes.{ComputesOfTwo}
use Rattle.make_nets.specs.Form.{AllWide}
use Rattle.make_nets.specs.MakerNames.{AreMakerNames}
use Rattle.make_nets.specs.Ports.{outer_names}
use Rattle.make_nets.proofs.MadeLemmas.{made_binds, made_plain, made_sound}
use Rattle.mult_normal.specs.Coordinates.{counts_in}
use Rattle.mult_normal.specs.NormalForm.{HasNormalForm}
use Rattle.mult_normal.specs.NormalNet.{latches_of, normal_net, normal_products}
use Rattle.mult_normal.specs.NormalPlan.{summed}
use Rattle.mult_normal.proofs.JobLemmas.{computes}
use Rattle.mult_normal.proofs.PlanForLemmas.{are_held, plan_for}
use Rattle.mult_normal.proofs.WordLemmas.{outer_is}
use Rattle.gf_basis.specs.Basis.{IsBasis}

module _ (k : ℕ) (mul : ℕ → ℕ → ℕ) (ring : IsRing k mul) (field : HasNoZeroDivisors k mul) (elements : List ℕ) (basis : IsBasis k elements)
    (signature : SignatureValue) (form : HasNormalForm signature) (wide : AllWide k signature.words)
  where
    pub outer_names_fit : AreMakerNames (outer_names signature.words [])
    outer_names_fit = subst AreMakerNames (sym (outer_is k signature.words form.words wide)) form.names

    pub plain : HasPlainNames (normal_net k mul elements signature.words)
    plain = made_plain signature.words [] (latches_of k mul elements signature.words) [] (summed (normal_products k mul elements signature.words)) outer_names_fit (plan_for k (counts_in k mul elements) signature.words form.words wide ring.small)

    pub computes_form : elements ≡ conjugates_of k mul form.gamma → ComputesOfTwo k mul (normal_net k mul elements signature.words) signature.words elements k mul
    computes_form normal =
        computes k mul ring field elements basis form.gamma normal signature.words form.words wide
        (made_sound signature.words [] (latches_of k mul elements signature.words) [] (summed (normal_products k mul elements signature.words)) outer_names_fit (plan_for k (counts_in k mul elements) signature.words form.words wide ring.small))
        (made_binds signature.words [] (latches_of k mul elements signature.words) [] (summed (normal_products k mul elements signature.words)) outer_names_fit (plan_for k (counts_in k mul elements) signature.words form.words wide ring.small) [] []
        (are_held k (counts_in k mul elements) signature.words form.words wide ring.small) refl (λ n there. absurd (none_at n there)))
