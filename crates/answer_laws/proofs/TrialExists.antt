-- Some reply or some fault comes of `trial`.
use Rattle.std.proofs.Common.{refl, sym, subst, ap, ℕ, [], length, Option, None, Some}
use Rattle.outcome.specs.Outcome.{Exactly, Within}
use Rattle.outcome.proofs.SomeLemmas.{some_bind, some_exactly, some_within}
use Rattle.gf_tower.specs.FieldName.{IsFieldModulus}
use Rattle.net_words.specs.Binding.{BoundNet}
use Rattle.circuit_model.specs.Differing.{Difference}
use Rattle.circuit_model.specs.WellFormed.{IsWellFormed}
use Rattle.spec_expand.specs.SpecListing.{spec_listing}
use Rattle.job_words.specs.StageFault.{stage_text}
use Rattle.job_words.specs.declared.fault.Fault.TheVariants as faults
use Rattle.job_input.specs.FieldOf.{FieldOf, FieldValue}
use Rattle.job_input.specs.Labelling.{labels_of}
use Rattle.job_input.specs.SettingValue.{SettingValue}
use Rattle.make_trial.specs.Trial.{product_terms, trial_circuit, trial_setting}
use Rattle.answer_core.specs.Abstraction.{taken_circuit, AbstractOf}
use Rattle.answer_core.specs.Judged.{IsJudged}
use Rattle.answer_makers.specs.Trial.{trial_reply, TermsOf, ToldApart, TrialAnswer, TrialBeside, TrialOver}
use Rattle.answer_makers.proofs.TrialLemmas.{trial_apart, well_of_trial}
use Rattle.job_laws.specs.HasOutcome.{HasOutcome}
use Rattle.job_laws.proofs.FieldExists.{some_field}
use Rattle.exist_laws.proofs.SpecDecided.{spec_decided}
use Rattle.answer_laws.proofs.CheckExists.{some_abstracted, some_judged}
use Rattle.answer_laws.proofs.SomeStaged.{some_staged}

-- ---- over the field of a modulus

module _ (degree modulus number bound : ℕ) (name : IsFieldModulus degree modulus) where
  abbrev setting : SettingValue
  setting = trial_setting degree modulus

  abbrev circuit : BoundNet
  circuit = trial_circuit degree modulus number

  well : IsWellFormed (taken_circuit setting circuit)
  well = well_of_trial degree modulus number name

  -- the comparison finds an input
  apart : (found : Option Difference) → IsJudged setting circuit product_terms found → (difference : Difference) × IsJudged setting circuit product_terms (Some difference)
  apart None same = absurd (trial_apart degree modulus number name same)
  apart (Some found) is = (found, is)

  told : (difference : Difference) × IsJudged setting circuit product_terms (Some difference)
  told = let judged = some_judged setting circuit product_terms well in apart judged.0 judged.1

  some_terms : HasOutcome (TermsOf setting circuit bound)
  some_terms =
      some_bind (Within faults.Stage (AbstractOf setting circuit bound)) (λ ts. Exactly (length ts)) (some_within faults.Stage (AbstractOf setting circuit bound) (some_abstracted setting circuit bound well refl)) (λ ts may. some_exactly (length ts))

  some_told : HasOutcome (ToldApart setting circuit product_terms bound)
  some_told =
      some_staged setting.k setting.product (spec_listing (taken_circuit setting circuit) product_terms) (stage_text (labels_of setting.k setting.signature.words)) bound (λ found. IsJudged setting circuit product_terms (Some found)) told.0 told.1
      (spec_decided (taken_circuit setting circuit) well product_terms bound)

  some_beside : (terms : ℕ) → HasOutcome (TrialBeside setting circuit product_terms number bound terms)
  some_beside terms =
      some_bind (Within faults.Stage (ToldApart setting circuit product_terms bound)) (λ found. Exactly (trial_reply setting circuit number terms found)) (some_within faults.Stage (ToldApart setting circuit product_terms bound) some_told)
      (λ found may. some_exactly (trial_reply setting circuit number terms found))

  some_over : HasOutcome (TrialOver degree modulus number bound)
  some_over = some_bind (TermsOf setting circuit bound) (λ terms. TrialBeside setting circuit product_terms number bound terms) some_terms (λ terms may. some_beside terms)

pub some_trial : (number modulus bound : ℕ) → HasOutcome (TrialAnswer number modulus bound)
some_trial number modulus bound =
    some_bind (Within faults.Signature (FieldOf modulus [] [])) (λ field. TrialOver field.k modulus number bound) (some_within faults.Signature (FieldOf modulus [] []) (some_field modulus [] [] (λ none. refl)))
    (λ field named. let P : ℕ → Type 0 = λ d. HasOutcome (TrialOver d modulus number bound) in subst P (sym (ap (λ (f : FieldValue). f.k) named.1)) (some_over named.0.degree modulus number bound named.0.base))
