-- What the circuit of a trial gives, and what it should.
use Rattle.std.proofs.Common.{◌≡◌, ◌≢◌, ◌∙◌, ap, ap₂, sym, refl, subst, inl, ◌⊎◌, ℕ, zero, suc, ◌<◌, ◌≤◌, ◌^◌, List, [], ◌∷◌, length, map, codes, arith}
use Rattle.std.specs.Int.Bits.{xor_zero_r}
use Rattle.lists.specs.Lists.{Has}
use Rattle.lists.specs.laws.HasLaws.{all_from as all_has, none_at as none_of}
use Rattle.gf_basis.specs.Basis.{IsBasis, first_values}
use Rattle.gf_field.specs.Bit.{bit_mul}
use Rattle.gf_field.specs.Field.{HasNoZeroDivisors}
use Rattle.gf_field.specs.Modulus.{IsModulus}
use Rattle.gf_field.specs.Power.{power}
use Rattle.gf_field.specs.Quotient.{product}
use Rattle.gf_field.specs.Ring.{IsRing}
use Rattle.gf_field.specs.laws.ModulusLaws.{IsRing-from_modulus}
use Rattle.gf_field.specs.laws.PowerLaws.{power-one}
use Rattle.net_words.specs.Binding.{AreWords, BoundNet}
use Rattle.net_words.specs.BoundTo.{IsBoundTo}
use Rattle.net_words.specs.Feeds.{AreFeeds}
use Rattle.net_words.specs.OneCycle.{IsOneCycle}
use Rattle.net_words.specs.declared.word.Role.TheVariants.{Fed}
use Rattle.net_words.proofs.BoundLemmas.{bound_to}
use Rattle.circuit_model.specs.OfBinding.{circuit_with}
use Rattle.circuit_model.specs.Out.{IsOut}
use Rattle.circuit_model.specs.WellFormed.{IsWellFormed}
use Rattle.circuit_model.proofs.BoundLemmas.{bound_well}
use Rattle.mult_gen.proofs.PolyLemmas.{powers_basis}
use Rattle.make_trial.specs.Turned.{turned_product}
use Rattle.make_trial.proofs.DifferLemmas.{differs, turned_computes}
use Rattle.spec_expand.specs.SpecValue.{spec_at}
use Rattle.unroll.proofs.UnrolledLemmas.{unrolled_cycle}
use Rattle.net_signature.specs.Signature.{SignatureValue}
use Rattle.job_input.specs.Setting.{HaveRoles, IsTakenFor}
use Rattle.job_input.specs.declared.setting.Setting.{Setting}
use Rattle.make_trial.specs.TwoInputs.{two_inputs}
use Rattle.make_trial.proofs.NetNameLemmas.{names_long}
use Rattle.make_trial.specs.Trial.{product_terms, trial_circuit, trial_index, trial_net, trial_place, trial_setting, trial_words}
use Rattle.make_trial.proofs.NameLemmas.{trial_names, trial_wide}
use Rattle.make_trial.proofs.NetLemmas.{index_low, net_binds, net_sound, place_low, stays, trial_two}

module _ (k : ℕ) (mul : ℕ → ℕ → ℕ) (ring : IsRing k mul) where
  one_right : (a : ℕ) → a < 2 ^ k → mul a 1 ≡ a
  one_right a low = ring.comm a 1 ∙ ring.one a low

  -- the specification's value is the product
  pub product_at : (a b : ℕ) → a < 2 ^ k → b < 2 ^ k → spec_at mul (a ∷ b ∷ []) product_terms ≡ mul a b
  product_at a b first second =
      xor_zero_r (mul 1 (mul (power mul a 1) (mul (power mul b 1) 1)))
      ∙ (ring.one (mul (power mul a 1) (mul (power mul b 1) 1)) (ring.closed (power mul a 1) (mul (power mul b 1) 1))
      ∙ ap₂ mul (power-one k mul ring a first) (ap (λ n. mul n 1) (power-one k mul ring b second) ∙ one_right b second))

pub trial_are : (k : ℕ) → 1 ≤ k → k ≤ 64 → AreWords k (trial_words k)
trial_are k some most = record {
  some = some;
  most = most;
  one = omega arith;
  few = omega arith;
  output = refl;
  others = omega arith;
  each = all_has (λ word. (length word.nets ≡ k) ⊎ (word.role ≡ Fed)) (trial_words k) (λ word has. inl (trial_wide k word has));
}

pub no_feeds : (k : ℕ) → AreFeeds k (map (λ word. word.role) (trial_words k)) []
no_feeds k = record { sources = λ feed has. absurd (none_of feed has); apart = λ i j f h got other. absurd (none_of f (i, got)) }

module _ (k g : ℕ) (ok : IsModulus k g) (number : ℕ) where
  abbrev mul : ℕ → ℕ → ℕ
  mul = product 1 k bit_mul g

  abbrev bases : List (List ℕ)
  bases = (trial_setting k g).bases

  binds_to : IsBoundTo (trial_net k g number) (trial_circuit k g number).binding
  binds_to = bound_to (trial_net k g number) k (trial_words k) [] (trial_circuit k g number).binding (net_sound k g ok number) (trial_are k ok.some ok.small) (no_feeds k) (net_binds k g ok number)

  one_cycle : IsOneCycle (trial_net k g number) (trial_circuit k g number).binding
  one_cycle =
      let P : BoundNet → Type 0 = λ c. IsOneCycle c.net c.binding in
      subst P (stays k g ok number) (unrolled_cycle (trial_net k g number) (trial_circuit k g number).binding 0 (net_sound k g ok number) binds_to)

  each_basis : (basis : List ℕ) → Has (trial_setting k g).bases basis → IsBasis k basis
  each_basis basis has = let P : List ℕ → Type 0 = IsBasis k in subst P (sym (same_basis basis has)) (powers_basis k)
    where
      same_basis : (basis : List ℕ) → Has (trial_setting k g).bases basis → basis ≡ first_values k (λ i. 2 ^ i)
      same_basis basis (zero, got) = let is : first_values k (λ i. 2 ^ i) ≡ basis = cc in sym is
      same_basis basis (suc zero, got) = let is : first_values k (λ i. 2 ^ i) ≡ basis = cc in sym is
      same_basis basis (suc (suc zero), got) = let is : first_values k (λ i. 2 ^ i) ≡ basis = cc in sym is
      same_basis basis (suc (suc (suc i)), got) = absurd (cc)

  module _ (field : HasNoZeroDivisors k (product 1 k bit_mul g)) where
    -- it is well-formed
    pub trial_well : IsWellFormed (circuit_with k (product 1 k bit_mul g) (trial_circuit k g number) (trial_setting k g).bases)
    trial_well =
        bound_well k (product 1 k bit_mul g) (trial_circuit k g number) (trial_setting k g).bases one_cycle (names_long (codes "a") k) (record { long = refl; each = each_basis })
        (IsRing-from_modulus k g ok) field (net_sound k g ok number)

    -- what it gives
    pub trial_out : (a b : ℕ) → a < 2 ^ k → b < 2 ^ k → IsOut (circuit_with k (product 1 k bit_mul g) (trial_circuit k g number) (trial_setting k g).bases) (a ∷ b ∷ []) (turned_product k g (trial_place k number) (trial_index k number) a b)
    unfolding trial_net
    trial_out a b first second =
        (turned_computes k g ok field (trial_words k) (trial_place k number) (trial_index k number) (trial_two k) (trial_wide k) (trial_names k ok.small) (place_low k number ok.some) (index_low k number)).out
        (trial_circuit k g number).binding (net_binds k g ok number) a b first second

    -- which is not always the product
    pub trial_differs : (a b : ℕ) × (a < 2 ^ k) × (b < 2 ^ k) × (turned_product k g (trial_place k number) (trial_index k number) a b ≢ product 1 k bit_mul g a b)
    trial_differs = differs k g ok field (trial_place k number) (trial_index k number) (place_low k number ok.some) (index_low k number)

-- it is taken for the setting
pub trial_taken : (k g number : ℕ) (setting : Setting) → setting.signature ≡ two_inputs k g → length setting.bases.items ≡ length setting.signature.words → IsTakenFor k setting (trial_circuit k g number)
trial_taken k g number setting same long =
    let P : SignatureValue → Type 0 = λ s. HaveRoles s.words (trial_circuit k g number).binding.words in
    record { bits = names_long (codes "a") k; roles = subst P (sym same) refl; long = long ∙ ap (λ (s : SignatureValue). length s.words) same }
