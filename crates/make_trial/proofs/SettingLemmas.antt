-- The signature of a trial gives its setting, and nothing else.
use Rattle.std.proofs.Common.{◌≡◌, refl, inl, sym, subst, ℕ, ◌^◌, List, [], ◌∷◌, codes, Result, Ok, Err}
use Rattle.outcome.specs.Outcome.{Within}
use Rattle.outcome.proofs.DeterminedLemmas.{determined_within}
use Rattle.gf_basis.specs.Basis.{first_values}
use Rattle.gf_field.specs.Bit.{bit_mul}
use Rattle.gf_field.specs.Quotient.{product}
use Rattle.net_signature.specs.Signature.{SignatureValue}
use Rattle.net_words.specs.declared.word.Role.{Role}
use Rattle.net_words.specs.declared.word.Role.TheVariants.{Input, Output}
use Rattle.job_words.specs.Stop.{GivesBy}
use Rattle.job_words.specs.declared.stop.Stop.{Stop}
use Rattle.job_words.specs.declared.stop.Stop.TheVariants as stops
use Rattle.job_words.specs.declared.fault.Fault.{Fault}
use Rattle.job_words.specs.declared.fault.Fault.TheVariants.{Signature}
use Rattle.job_input.specs.SettingOf.{SettingWith, SignedValue, WordBasis}
use Rattle.job_input.specs.SettingValue.{SettingValue}
use Rattle.job_input.proofs.SettingDetermined.{with_determined}
use Rattle.make_trial.specs.TwoInputs.{lettered, two_inputs}
use Rattle.make_trial.proofs.NetNameLemmas.{names_long}
use Rattle.make_trial.specs.Trial.{trial_setting}

-- the signature with its field
abbrev pub trial_signed : (k g : ℕ) → SignedValue
trial_signed k g = record { signature = two_inputs k g; field = record { k = k; product = product 1 k bit_mul g } }

word_basis : (k g line : ℕ) (name : List ℕ) (role : Role) (letter : List ℕ) → WordBasis k (product 1 k bit_mul g) (lettered line name role letter k) (Ok (first_values k (λ i. 2 ^ i)))
word_basis k g line name role letter = (tt, inl (names_long letter k), refl)

setting_is : (k g : ℕ) → SettingWith (trial_signed k g) (Ok (trial_setting k g))
setting_is k g =
    let basis = first_values k (λ i. 2 ^ i) in (
      basis ∷ basis ∷ basis ∷ [],
      (
        basis,
        word_basis k g 3 (codes "A") Input (codes "a"),
        (basis ∷ basis ∷ [], (basis, word_basis k g 4 (codes "B") Input (codes "b"), (basis ∷ [], (basis, word_basis k g 5 (codes "Z") Output (codes "z"), ([], refl, refl)), refl)), refl),
      ),
      (tt, refl, (tt, refl, refl)),
    )

module _ (k g : ℕ) (signature : SignatureValue) (is : signature ≡ two_inputs k g) where
  abbrev signed : SignedValue
  signed = record { signature = signature; field = record { k = k; product = product 1 k bit_mul g } }

  said : Within Signature (SettingWith signed) (Ok (trial_setting k g))
  said = let P : SignatureValue → Type 0 = λ s. SettingWith (record { signature = s; field = record { k = k; product = product 1 k bit_mul g } }) (Ok (trial_setting k g)) in subst P (sym is) (setting_is k g)

  one : (x y : Result SettingValue Fault) → Within Signature (SettingWith signed) x → Within Signature (SettingWith signed) y → x ≡ y
  one = determined_within Signature (SettingWith signed) (with_determined signed)

  pub no_fault : (fault : Fault) → Within Signature (SettingWith signed) (Err fault) → ⊥
  no_fault fault of = let wrong = one (Err fault) (Ok (trial_setting k g)) of said in cc

  -- so it stops for lack of memory alone
  pub only_memory : {X : Type 0} (view : X → SettingValue) (stop : Stop) → GivesBy view (Err stop) (Within Signature (SettingWith signed)) ⊥ ⊥ → stop ≡ stops.OutOfMemory
  only_memory view (stops.Refused fault) is = absurd (no_fault fault is.0)
  only_memory view stops.Outside is = absurd is
  only_memory view stops.OutOfMemory is = refl
