-- Some polynomial or some fault comes of the stages of a wired top without a cycle, and a top has no cycle or one that a walk finds.
use Rattle.std.proofs.Common.{◌≡◌, ◌∙◌, sym, refl, subst, inl, inr, ℕ, zero, suc, ◌+◌, ◌<◌, List, [], ◌∷◌, ◌++◌, length, None, Some, Ok, Err, arith}
use Rattle.std.specs.Prelude.{slice_get, slice_index}
use Rattle.std.proofs.lemmas.Bool.{cases_eq}
use Rattle.lists.specs.Lists.{Has}
use Rattle.lists.specs.laws.HasLaws.{all_in, Has_left, Has_right}
use Rattle.gf_field.specs.Field.{HasNoZeroDivisors}
use Rattle.gf_field.specs.Ring.{IsRing}
use Rattle.poly_mixed.specs.Polynomial.{Terms}
use Rattle.poly_mixed.specs.declared.stage.Stage.{Stage}
use Rattle.poly_mixed.specs.declared.stage.Stage.TheVariants.{Cut, InstanceProduct, InstanceSum, SpecProduct, SpecSum, WordProduct, WordSum}
use Rattle.circuit_model.specs.Circuit.{Circuit}
use Rattle.stage_model.specs.CircuitListing.{circuit_stages}
use Rattle.stage_model.specs.Listing.{Earlier, Joined, Later}
use Rattle.stage_model.specs.OutputInWords.{IsOutputInWords}
use Rattle.stage_model.proofs.OutputInWordsLemmas.{all_words_is_output}
use Rattle.stage_model.proofs.SearchLemmas.{IsDecided}
use Rattle.stage_model.proofs.SomeStageLemmas.{mix_polynomial}
use Rattle.stage_model.proofs.SortLemmas.{next, sorted, sorted_is}
use Rattle.abstraction.specs.Stages.{joined}
use Rattle.net_signature.specs.Body.{BlockValue}
use Rattle.compose_model.specs.Given.{IsGiven}
use Rattle.compose_model.specs.Hierarchy.{bases_at, Hierarchy}
use Rattle.compose_model.specs.Values.{IsTop}
use Rattle.compose_model.specs.Wiring.{feeding_graph, AreAllFeeds, HaveBlocks, IsWithoutCycle}
use Rattle.compose_model.specs.declared.feeder.Feeder.{Feeder}
use Rattle.compose_model.proofs.InstanceLemmas.{facts_of}
use Rattle.compose_polys.specs.LevelOrder.{first_numbers, IsLevelOrder, IsOrderBy}
use Rattle.compose_stages.specs.BlockStages.{BlockStage}
use Rattle.compose_stages.specs.CompositionStages.{composition_stages, IsFirstOfComposition}
use Rattle.compose_stages.proofs.DecidedBlockLemmas.{composition_decided}
use Rattle.compose_stages.proofs.LevelLemmas.{instance_levels}
use Rattle.block_compose.specs.Composed.{HasNoCycle, StagesOf}
use Rattle.block_compose.specs.declared.fault.ComposeFault.TheVariants.{InstanceLoop, TooManyTerms}
use Rattle.reader_laws.proofs.CycleExists.{first_of_cycle, some_cycle}
use Rattle.job_laws.specs.HasOutcome.{HasOutcome}

-- ---- cycles

has_first : (n i : ℕ) → i < n → Has (first_numbers n) i
has_first zero i less = absurd (omega (arith, less))
has_first (suc n) i less =
    elim (cases_eq i n) [
      | inl same ↦ (let P : ℕ → Type 0 = λ m. Has (first_numbers n ++ n ∷ []) m in subst P (sym same) (Has_right (first_numbers n) (n ∷ []) n (0, refl)))
      | inr other ↦ Has_left (first_numbers n) (n ∷ []) i (has_first n i (omega (arith, less, other)))
    ]

pub some_no_cycle : (rows : List (List Feeder)) → HasOutcome (HasNoCycle rows)
some_no_cycle rows =
    elim (some_cycle (feeding_graph rows) (first_numbers (length rows))) [
      | inl all ↦ (Ok tt, λ i less. all i (has_first (length rows) i less))
      | inr found ↦ (
          let first = first_of_cycle (feeding_graph rows) (first_numbers (length rows)) found.0 found.1 in
          (Err (InstanceLoop (first.0 + 1)), record { cycle = found.0; is = found.1; instance = first.0; first = first.1; number_is = refl })
          )
    ]

-- ---- an order by level

some_order : (levels : List ℕ) → (order : List ℕ) × IsOrderBy levels order
some_order levels =
    let key : ℕ → ℕ = λ a. slice_index levels a in
    let is = sorted_is key (length levels) in
    let order = sorted key (length levels) in
    (order, record { long = is.long; each = is.whole; within = λ a has. all_in (λ x. x < length levels) order a is.inside has; rises = λ i a b first second. next key order i a b is.rises first second })

-- ---- stages

module _ (k : ℕ) (mul : ℕ → ℕ → ℕ) (ring : IsRing k mul) (field : HasNoZeroDivisors k mul) (h : Hierarchy) (given : IsGiven k h) (rows : List (List Feeder)) (all : AreAllFeeds h rows) (have : HaveBlocks k mul h) (bound : ℕ) where
  some_levels : IsWithoutCycle rows → (order : List ℕ) × IsLevelOrder (feeding_graph rows) order
  some_levels free =
      let levels = instance_levels h rows all free in
      let order = some_order levels.0 in
      (order.0, (levels.0, levels.1, order.1))

  -- the output of a top in its words
  some_output : (top : Circuit) → IsTop k mul h top → (ts : Terms) × IsOutputInWords top ts
  some_output top is =
      let facts = facts_of k mul ring field h 0 h.words (bases_at h 0) given.top top is in
      let found = mix_polynomial top facts.2.well (length top.words) (omega arith) in
      (found.0, (all_words_is_output top facts.2.well found.0).0 found.1)

  -- a listed stage of a circuit by its name alone
  stage_by : (circuit : Circuit) (name : Joined Stage Stage) → (circuit_stages circuit).is_listed name → (stage : Stage) × (name ≡ joined stage)
  stage_by circuit (Earlier (Cut t)) listed = (Cut t, refl)
  stage_by circuit (Earlier (WordProduct w s j)) listed = absurd listed
  stage_by circuit (Earlier (WordSum w s)) listed = absurd listed
  stage_by circuit (Earlier (SpecProduct s j)) listed = absurd listed
  stage_by circuit (Earlier (SpecSum s)) listed = absurd listed
  stage_by circuit (Earlier (InstanceProduct i s j)) listed = absurd listed
  stage_by circuit (Earlier (InstanceSum i s)) listed = absurd listed
  stage_by circuit (Later (Cut t)) listed = absurd listed
  stage_by circuit (Later (WordProduct w s j)) listed = (WordProduct w s j, refl)
  stage_by circuit (Later (WordSum w s)) listed = (WordSum w s, refl)
  stage_by circuit (Later (SpecProduct s j)) listed = absurd listed
  stage_by circuit (Later (SpecSum s)) listed = absurd listed
  stage_by circuit (Later (InstanceProduct i s j)) listed = absurd listed
  stage_by circuit (Later (InstanceSum i s)) listed = absurd listed

  block_over : (number : ℕ) (name : Joined Stage Stage) (n : ℕ) → IsFirstOfComposition k mul h rows bound (Earlier (number, name)) n → (stage : Stage) → name ≡ joined stage → (block : BlockValue) → slice_get h.blocks number ≡ Some block → HasOutcome (StagesOf k mul h rows bound)
  block_over number name n over stage same block found =
      let P : Joined Stage Stage → Type 0 = λ m. IsFirstOfComposition k mul h rows bound (Earlier (number, m)) n in
      (Err (TooManyTerms (Some block.model) stage n), record { number = number; block = block; found = found; model_is = refl; over = subst P same over })

  one_over : (name : Joined BlockStage Stage) (n : ℕ) → IsFirstOfComposition k mul h rows bound name n → HasOutcome (StagesOf k mul h rows bound)
  one_over (Later stage) n over = (Err (TooManyTerms None stage n), over)
  one_over (Earlier (number, name)) n over =
      let circuit = over.listed.0 in
      let used = over.listed.1 in
      let stage = stage_by circuit name over.listed.2 in
      let first : Some number ≡ Some used.is.number = sym used.use_is.named ∙ used.is.named in
      let same : used.is.number ≡ number = cc in
      let P : ℕ → Type 0 = λ m. slice_get h.blocks m ≡ Some used.is.block in
      block_over number name n over stage.0 stage.1 used.is.block (subst P same used.is.found)

  pub some_stages : IsWithoutCycle rows → (top : Circuit) → IsTop k mul h top → HasOutcome (StagesOf k mul h rows bound)
  some_stages free top top_is =
      let order = some_levels free in
      by (composition_decided k mul h ring field given have bound rows all order.0 order.1)
    where
      by : IsDecided k mul (composition_stages k mul h rows) bound → HasOutcome (StagesOf k mul h rows bound)
      by (inl within) = let output = some_output top top_is in (Ok output.0, record { top = top; top_is = top_is; output = output.1; within = within })
      by (inr (name, n, over)) = one_over name n over
