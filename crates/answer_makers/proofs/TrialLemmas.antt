-- What comes of a trial: at most one reply or fault, and an input at which its circuit and the product are told apart.
use Rattle.std.proofs.Common.{◌≡◌, ◌⊎◌, ◌∙◌, ap, sym, subst, inl, ℕ, [], ◌∷◌, length, Option, Some, Result, Ok, Err, IsErr, IsErrAnd}
use Rattle.outcome.proofs.DeterminedLemmas.{determined_after, determined_bind, determined_exactly, determined_within}
use Rattle.outcome.specs.Outcome.{Determined, Exactly, Outcome, Within}
use Rattle.gf_field.specs.Bit.{bit_mul}
use Rattle.gf_field.specs.Field.{HasNoZeroDivisors}
use Rattle.gf_field.specs.Quotient.{product}
use Rattle.gf_field.specs.Ring.{IsRing}
use Rattle.gf_field.specs.laws.IrreducibleBitLaws.{field_by_modulus}
use Rattle.gf_field.specs.laws.ModulusLaws.{IsRing-from_modulus}
use Rattle.gf_tower.specs.FieldName.{IsFieldModulus}
use Rattle.net_core.specs.Sound.{IsSound}
use Rattle.net_words.specs.Binding.{BoundNet}
use Rattle.circuit_model.specs.Differing.{AreSame, Difference}
use Rattle.circuit_model.specs.Out.{IsOut}
use Rattle.circuit_model.specs.WellFormed.{IsWellFormed}
use Rattle.circuit_model.proofs.DifferingLemmas.{one_comparison}
use Rattle.circuit_model.proofs.OutLemmas.{one_out}
use Rattle.make_trial.specs.Turned.{turned_product}
use Rattle.spec_expand.specs.SpecListing.{spec_listing}
use Rattle.spec_expand.specs.Specification.{SpecTerms}
use Rattle.job_words.specs.declared.fault.Fault.{Fault}
use Rattle.job_words.specs.declared.fault.Fault.TheVariants as faults
use Rattle.job_words.specs.StageFault.{stage_text}
use Rattle.job_words.specs.Stop.{GivesBy}
use Rattle.job_words.specs.declared.stop.Stop.{Stop}
use Rattle.job_words.specs.declared.stop.Stop.TheVariants as stops
use Rattle.job_input.specs.FieldOf.{FieldOf, FieldValue}
use Rattle.job_input.specs.Labelling.{labels_of}
use Rattle.job_input.specs.SettingValue.{SettingValue}
use Rattle.job_input.proofs.FieldLemmas.{field_determined}
use Rattle.make_trial.specs.Trial.{product_terms, trial_circuit, trial_index, trial_place, trial_setting}
use Rattle.make_trial.proofs.NetLemmas.{net_sound}
use Rattle.make_trial.proofs.OutLemmas.{product_at, trial_differs, trial_out, trial_well}
use Rattle.answer_core.specs.Reply.{Reply}
use Rattle.answer_core.specs.Abstraction.{AbstractOf, taken_circuit}
use Rattle.answer_core.specs.Judged.{IsJudged, IsSpecified, JudgedOf}
use Rattle.answer_makers.specs.Trial.{TermsOf, ToldApart, TrialAnswer, TrialBeside, TrialOver, TrialReply, trial_reply}
use Rattle.answer_core.proofs.CircuitDetermined.{words_determined}
use Rattle.answer_core.proofs.SpecStageLemmas.{spec_ordered, spec_sizes}
use Rattle.answer_core.proofs.StagedDetermined.{staged_determined}

-- ---- at most one reply over a circuit

same_some : (a b : Difference) → ◌≡◌ {A = Option Difference} (Some a) (Some b) → a ≡ b
same_some a b e = cc

module _ (setting : SettingValue) (circuit : BoundNet) (spec : SpecTerms) (number bound : ℕ) (ring : IsRing setting.k setting.product) (field : HasNoZeroDivisors setting.k setting.product) (sound : IsSound circuit.net) (well : IsWellFormed (taken_circuit setting circuit)) where
  one_told : (a b : Difference) → IsJudged setting circuit spec (Some a) → IsJudged setting circuit spec (Some b) → a ≡ b
  one_told a b h g =
      let c = taken_circuit setting circuit in
      same_some a b
      (one_comparison c (IsOut c) (IsSpecified setting (taken_circuit setting circuit) spec) well (λ xs x y. one_out c xs x y well) (λ xs x y first second. sym first.value ∙ second.value) (Some a) (Some b) h g)

  told_determined : Determined (Within faults.Stage (ToldApart setting circuit spec bound))
  told_determined =
      let c = taken_circuit setting circuit in
      determined_within faults.Stage (ToldApart setting circuit spec bound)
      (staged_determined setting.k setting.product (spec_listing c spec) (stage_text (labels_of setting.k setting.signature.words)) bound (λ found. IsJudged setting circuit spec (Some found)) one_told (spec_ordered c spec) (spec_sizes c spec well))

  beside_determined : (terms : ℕ) → Determined (TrialBeside setting circuit spec number bound terms)
  beside_determined terms = determined_bind (Within faults.Stage (ToldApart setting circuit spec bound)) (λ found. Exactly (trial_reply setting circuit number terms found)) told_determined (λ found. determined_exactly (trial_reply setting circuit number terms found))

  reply_determined : Determined (TrialReply setting circuit spec number bound)
  reply_determined =
      determined_bind (TermsOf setting circuit bound) (λ terms. TrialBeside setting circuit spec number bound terms)
      (determined_bind (Within faults.Stage (AbstractOf setting circuit bound)) (λ ts. Exactly (length ts)) (words_determined setting circuit bound ring field sound well) (λ ts. determined_exactly (length ts))) (λ terms. beside_determined terms)

-- where the specification's stages stop the comparison they stop it here
pub told_stops : {X : Type 0} (setting : SettingValue) (circuit : BoundNet) (spec : SpecTerms) (bound : ℕ) (view : X → Option Difference) (stop : Stop) → GivesBy view (Err stop) (Within faults.Stage (JudgedOf setting circuit spec bound)) ⊥ ⊥ → GivesBy {X = Difference} (λ found. found) (Err stop) (Within faults.Stage (ToldApart setting circuit spec bound)) ⊥ ⊥
told_stops setting circuit spec bound view (stops.Refused fault) is = is
told_stops setting circuit spec bound view stops.Outside is = is
told_stops setting circuit spec bound view stops.OutOfMemory is = tt

-- what ends for lack of memory gives nothing
pub memory_alone : {X A : Type 0} (view : X → A) (result : Result X Stop) (outcome : Outcome Fault A) → IsErr result → IsErrAnd result (λ stop. stop ≡ stops.OutOfMemory) → GivesBy view result outcome ⊥ ⊥
memory_alone view (Ok x) outcome is and = absurd cc
memory_alone view (Err (stops.Refused fault)) outcome is and = absurd cc
memory_alone view (Err stops.Outside) outcome is and = absurd cc
memory_alone view (Err stops.OutOfMemory) outcome is and = tt

-- ---- over the field of a modulus

module _ (k g number : ℕ) (name : IsFieldModulus k g) where
  pub trial_ring : IsRing k (product 1 k bit_mul g)
  trial_ring = IsRing-from_modulus k g name.modulus

  pub trial_field : HasNoZeroDivisors k (product 1 k bit_mul g)
  trial_field = (field_by_modulus k g name.modulus).1 name.irreducible

  pub well_of_trial : IsWellFormed (taken_circuit (trial_setting k g) (trial_circuit k g number))
  well_of_trial = trial_well k g name.modulus number trial_field

  over_determined : (bound : ℕ) → Determined (TrialOver k g number bound)
  over_determined bound = reply_determined (trial_setting k g) (trial_circuit k g number) product_terms number bound trial_ring trial_field (net_sound k g name.modulus number) well_of_trial

-- the output and the product are not the same at every input
pub trial_apart : (k g number : ℕ) → (name : IsFieldModulus k g) → AreSame (taken_circuit (trial_setting k g) (trial_circuit k g number)) (IsOut (taken_circuit (trial_setting k g) (trial_circuit k g number))) (IsSpecified (trial_setting k g) (taken_circuit (trial_setting k g) (trial_circuit k g number)) product_terms) → ⊥
trial_apart k g number name same =
    let found = trial_differs k g name.modulus number (trial_field k g number name) in
    let a = found.0 in
    let b = found.1 in
    let out = trial_out k g name.modulus number (trial_field k g number name) a b found.2 found.3 in
    found.4
    (same (a ∷ b ∷ []) (turned_product k g (trial_place k number) (trial_index k number) a b) (product 1 k bit_mul g a b) out.is_run.open_run.input out
    (record { input = out.is_run.open_run.input; value = product_at k (product 1 k bit_mul g) (trial_ring k g number name) a b found.2 found.3 }))

pub trial_determined : (number modulus bound : ℕ) → Determined (TrialAnswer number modulus bound)
trial_determined number modulus bound =
    determined_after (Within faults.Signature (FieldOf modulus [] [])) (λ field. TrialOver field.k modulus number bound) (determined_within faults.Signature (FieldOf modulus [] []) (field_determined modulus [] []))
    (λ field named. let P : ℕ → Type 0 = λ d. Determined (TrialOver d modulus number bound) in subst P (sym (ap (λ (f : FieldValue). f.k) named.1)) (over_determined named.0.degree modulus number named.0.base bound))

pub trial_status : (number modulus bound : ℕ) (reply : Reply) → TrialAnswer number modulus bound (Ok reply) → (reply.status ≡ 0) ⊎ (reply.status ≡ 1)
trial_status number modulus bound reply (field, named, (terms, are, (found, told, same))) = inl (ap (λ (r : Reply). r.status) same)
