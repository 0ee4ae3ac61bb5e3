-- At most one outcome comes of the wiring of a top, of the search for a cycle, and of the stages.
use Rattle.std.proofs.Common.{◌≡◌, ◌≢◌, ◌⊎◌, ◌∙◌, ap, sym, refl, subst, inl, inr, ℕ, ◌<◌, ◌+◌, List, [], ◌∷◌, length, None, Some, Ok, Err}
use Rattle.std.specs.Prelude.{slice_get}
use Rattle.outcome.specs.Outcome.{Determined}
use Rattle.graph_core.specs.Cycle.{IsGrounded}
use Rattle.graph_core.specs.Graph.{IsCycle}
use Rattle.graph_core.proofs.GroundLemmas.{grounded_no_cycle}
use Rattle.graph_core.proofs.LawLemmas.{is_cycle, is_only}
use Rattle.net_signature.specs.Body.{BlockValue}
use Rattle.net_blif.specs.Statement.{Token}
use Rattle.gf_field.specs.Field.{HasNoZeroDivisors}
use Rattle.gf_field.specs.Ring.{IsRing}
use Rattle.poly_mixed.specs.Polynomial.{Terms}
use Rattle.poly_mixed.specs.declared.stage.Stage.{Stage}
use Rattle.poly_mixed.specs.declared.stage.Stage.TheVariants.{Cut, WordProduct, WordSum, SpecProduct, SpecSum, InstanceProduct, InstanceSum}
use Rattle.circuit_model.specs.Circuit.{Circuit}
use Rattle.stage_model.specs.Listing.{Earlier, Joined, Later}
use Rattle.stage_model.specs.OutputInWords.{IsOutputInWords}
use Rattle.abstraction.specs.Stages.{joined}
use Rattle.compose_polys.specs.LevelOrder.{first_numbers}
use Rattle.compose_model.specs.Given.{IsGiven}
use Rattle.compose_model.specs.Hierarchy.{bases_at, Hierarchy}
use Rattle.compose_model.specs.Wiring.{feeding_graph, AreAllFeeds, HaveBlocks, IsWithoutCycle}
use Rattle.compose_model.specs.declared.feeder.Feeder.{Feeder}
use Rattle.compose_model.proofs.InstanceLemmas.{facts_of}
use Rattle.compose_blocks.proofs.OneCircuitLemmas.{one_circuit}
use Rattle.compose_stages.specs.BlockStages.{BlockStage}
use Rattle.compose_stages.specs.CompositionStages.{IsFirstOfComposition}
use Rattle.compose_stages.proofs.BlockLemmas.{one_polynomial}
use Rattle.compose_stages.proofs.JoinLemmas.{first_not_all, one_first}
use Rattle.compose_stages.proofs.LevelLemmas.{instance_levels}
use Rattle.compose_wiring.specs.Refusal.{IsWiringFault}
use Rattle.compose_wiring.specs.declared.fault.WiringFault.{WiringFault}
use Rattle.compose_wiring.specs.declared.fault.WiringFault.TheVariants as wirings
use Rattle.compose_wiring.proofs.OneAnswerLemmas.{one_refusal, one_wiring, wired_apart}
use Rattle.block_compose.specs.Composed.{HasNoCycle, IsBlockOver, IsComposed, IsCycleThrough, StagesOf, WiringOf}
use Rattle.block_compose.specs.declared.fault.ComposeFault.{ComposeFault}
use Rattle.block_compose.specs.declared.fault.ComposeFault.TheVariants.{InstanceLoop, TooManyTerms}
use Rattle.block_compose.proofs.ComposeLemmas.{first_of_cycle}

-- ---- the wiring

module _ (h : Hierarchy) where
  wiring_refused : (fault : WiringFault) → WiringOf h (Err fault) → IsWiringFault h fault × (fault ≢ wirings.OutOfMemory)
  wiring_refused (wirings.NotWords instance word) is = (is, λ e. cc)
  wiring_refused wirings.OutputNotWords is = (is, λ e. cc)
  wiring_refused wirings.OutOfMemory is = absurd is

  pub wiring_determined : Determined (WiringOf h)
  wiring_determined (Ok a) (Ok b) x y =
      let same = one_wiring h a.0 b.0 a.1 b.1 x y in
      let both : a ≡ b = λ i. (same.0 i, same.1 i) in
      ap Ok both
  wiring_determined (Ok a) (Err fault) x y = let refused = wiring_refused fault y in absurd (refused.1 (wired_apart h a.0 a.1 fault x refused.0))
  wiring_determined (Err fault) (Ok a) x y = let refused = wiring_refused fault x in absurd (refused.1 (wired_apart h a.0 a.1 fault y refused.0))
  wiring_determined (Err f) (Err g) x y =
      let a = wiring_refused f x in
      let b = wiring_refused g y in
      ap Err (one_refusal h f g a.0 b.0 a.1 b.1)

-- ---- cycles

module _ (rows : List (List Feeder)) where
  cycle_of : (fault : ComposeFault) → HasNoCycle rows (Err fault) → (number : ℕ) × IsCycleThrough rows number × (fault ≡ InstanceLoop number)
  cycle_of (InstanceLoop number) is = (number, is, refl)
  cycle_of fault is = absurd is

  one_number : (m n : ℕ) → IsCycleThrough rows m → IsCycleThrough rows n → m ≡ n
  one_number m n a b =
      let cycle : b.cycle ≡ a.cycle = is_only (feeding_graph rows) (first_numbers (length rows)) b.cycle a.cycle b.is a.is in
      let P : List ℕ → Type 0 = λ c. slice_get c 0 ≡ Some b.instance in
      let there : slice_get a.cycle 0 ≡ Some b.instance = subst P cycle b.first in
      let here : slice_get a.cycle 0 ≡ Some a.instance = a.first in
      let same : a.instance ≡ b.instance = cc in
      a.number_is ∙ ap (λ i. i + 1) same ∙ sym b.number_is

  -- where there is no cycle, none is found
  cycle_apart : (number : ℕ) → IsWithoutCycle rows → IsCycleThrough rows number → ⊥
  cycle_apart number free found = apart found.cycle (is_cycle (feeding_graph rows) (first_numbers (length rows)) found.cycle found.is) (first_of_cycle rows (first_numbers (length rows)) found.cycle found.is)
    where
      apart : (cycle : List ℕ) → IsCycle (feeding_graph rows) cycle → ((a : ℕ) × (slice_get cycle 0 ≡ Some a) × (a < length rows)) → ⊥
      apart [] is first = is
      apart (b ∷ around) is first =
          let got : Some b ≡ Some first.0 = first.1 in
          let same : b ≡ first.0 = cc in
          let P : ℕ → Type 0 = IsGrounded (feeding_graph rows) in
          grounded_no_cycle (feeding_graph rows) b (subst P (sym same) (free first.0 first.2)) around is

  pub cycle_determined : Determined (HasNoCycle rows)
  cycle_determined (Ok u) (Ok v) x y = refl
  cycle_determined (Ok u) (Err fault) x y = let found = cycle_of fault y in absurd (cycle_apart found.0 x found.1)
  cycle_determined (Err fault) (Ok u) x y = let found = cycle_of fault x in absurd (cycle_apart found.0 y found.1)
  cycle_determined (Err f) (Err g) x y =
      let a = cycle_of f x in
      let b = cycle_of g y in
      ap Err (a.2 ∙ ap InstanceLoop (one_number a.0 b.0 a.1 b.1) ∙ sym b.2)

-- ---- the stages

-- the stage of a name of one of two listings
abbrev either : Joined Stage Stage → Stage
either (Earlier stage) = stage
either (Later stage) = stage

either_joined : (stage : Stage) → either (joined stage) ≡ stage
either_joined (Cut t) = refl
either_joined (WordProduct w s j) = refl
either_joined (WordSum w s) = refl
either_joined (SpecProduct s j) = refl
either_joined (SpecSum s) = refl
either_joined (InstanceProduct i s j) = refl
either_joined (InstanceSum i s) = refl

same_earlier : (a b : BlockStage) → ◌≡◌ {A = Joined BlockStage Stage} (Earlier a) (Earlier b) → a ≡ b
same_earlier a b e = cc

same_later : (a b : Stage) → ◌≡◌ {A = Joined BlockStage Stage} (Later a) (Later b) → a ≡ b
same_later a b e = cc

not_same : (a : BlockStage) (b : Stage) → ◌≡◌ {A = Joined BlockStage Stage} (Earlier a) (Later b) → ⊥
not_same a b e = cc

module _ (k : ℕ) (mul : ℕ → ℕ → ℕ) (h : Hierarchy) (rows : List (List Feeder)) (bound : ℕ) where
  -- the first stage over the bound, of a block or of an instance
  record IsOfBlock (fault : ComposeFault) : Type 0 where
    model : Token
    stage : Stage
    terms : ℕ
    is : IsBlockOver k mul h rows bound model stage terms
    fault_is : fault ≡ TooManyTerms (Some model) stage terms

  record IsOfInstance (fault : ComposeFault) : Type 0 where
    stage : Stage
    terms : ℕ
    is : IsFirstOfComposition k mul h rows bound (Later stage) terms
    fault_is : fault ≡ TooManyTerms None stage terms

  over_of : (fault : ComposeFault) → StagesOf k mul h rows bound (Err fault) → IsOfBlock fault ⊎ IsOfInstance fault
  over_of (TooManyTerms (Some model) stage terms) is = inl (record { model = model; stage = stage; terms = terms; is = is; fault_is = refl })
  over_of (TooManyTerms None stage terms) is = inr (record { stage = stage; terms = terms; is = is; fault_is = refl })
  over_of fault is = absurd is

  module _ (ring : IsRing k mul) (field : HasNoZeroDivisors k mul) (given : IsGiven k h) (all : AreAllFeeds h rows) (have : HaveBlocks k mul h) (free : IsWithoutCycle rows) where
    same_first : (a b : Joined BlockStage Stage) (m n : ℕ) → IsFirstOfComposition k mul h rows bound a m → IsFirstOfComposition k mul h rows bound b n → (a ≡ b) × (m ≡ n)
    same_first a b m n x y = let levels = instance_levels h rows all free in one_first k mul h rows ring field given all have free bound levels.0 levels.1 a b m n x y

    -- the block of a number has one model
    same_model : (n m : ℕ) (one other : BlockValue) → n ≡ m → slice_get h.blocks n ≡ Some one → slice_get h.blocks m ≡ Some other → one.model ≡ other.model
    same_model n m one other number at there =
        let P : ℕ → Type 0 = λ i. slice_get h.blocks i ≡ Some one in
        let here : slice_get h.blocks m ≡ Some one = subst P number at in
        let same : one ≡ other = cc in
        ap (λ (b : BlockValue). b.model) same

    blocks_same : (f g : ComposeFault) → IsOfBlock f → IsOfBlock g → f ≡ g
    blocks_same f g a b =
        let first = same_first (Earlier (a.is.number, joined a.stage)) (Earlier (b.is.number, joined b.stage)) a.terms b.terms a.is.over b.is.over in
        let names = same_earlier (a.is.number, joined a.stage) (b.is.number, joined b.stage) first.0 in
        let number : a.is.number ≡ b.is.number = ap (λ (name : BlockStage). name.0) names in
        let model : a.model ≡ b.model = a.is.model_is ∙ same_model a.is.number b.is.number a.is.block b.is.block number a.is.found b.is.found ∙ sym b.is.model_is in
        let stage : a.stage ≡ b.stage = sym (either_joined a.stage) ∙ ap (λ (name : BlockStage). either name.1) names ∙ either_joined b.stage in
        let terms : a.terms ≡ b.terms = first.1 in
        a.fault_is ∙ (λ i. TooManyTerms (Some (model i)) (stage i) (terms i)) ∙ sym b.fault_is

    instances_same : (f g : ComposeFault) → IsOfInstance f → IsOfInstance g → f ≡ g
    instances_same f g a b =
        let first = same_first (Later a.stage) (Later b.stage) a.terms b.terms a.is b.is in
        let stage : a.stage ≡ b.stage = same_later a.stage b.stage first.0 in
        let terms : a.terms ≡ b.terms = first.1 in
        a.fault_is ∙ (λ i. TooManyTerms None (stage i) (terms i)) ∙ sym b.fault_is

    block_or_instance : (f g : ComposeFault) → IsOfBlock f → IsOfInstance g → ⊥
    block_or_instance f g a b = not_same (a.is.number, joined a.stage) b.stage (same_first (Earlier (a.is.number, joined a.stage)) (Later b.stage) a.terms b.terms a.is.over b.is).0

    one_fault : (f g : ComposeFault) → IsOfBlock f ⊎ IsOfInstance f → IsOfBlock g ⊎ IsOfInstance g → f ≡ g
    one_fault f g (inl a) (inl b) = blocks_same f g a b
    one_fault f g (inl a) (inr b) = absurd (block_or_instance f g a b)
    one_fault f g (inr a) (inl b) = absurd (block_or_instance g f b a)
    one_fault f g (inr a) (inr b) = instances_same f g a b

    -- the output of the top has one polynomial
    one_output : (ts us : Terms) → IsComposed k mul h rows bound ts → IsComposed k mul h rows bound us → ts ≡ us
    one_output ts us a b =
        let top : b.top ≡ a.top = one_circuit k mul h 0 h.words (bases_at h 0) b.top a.top b.top_is a.top_is in
        let facts = facts_of k mul ring field h 0 h.words (bases_at h 0) given.top a.top a.top_is in
        let P : Circuit → Type 0 = λ c. IsOutputInWords c us in
        one_polynomial a.top facts.2.well ts us a.output (subst P top b.output)

    -- a composition within the bound has no stage over it
    within_or_over : (ts : Terms) (fault : ComposeFault) → IsComposed k mul h rows bound ts → IsOfBlock fault ⊎ IsOfInstance fault → ⊥
    within_or_over ts fault a (inl b) = first_not_all k mul h rows ring field given all have free bound (Earlier (b.is.number, joined b.stage)) b.terms b.is.over a.within
    within_or_over ts fault a (inr b) = first_not_all k mul h rows ring field given all have free bound (Later b.stage) b.terms b.is a.within

    pub stages_determined : Determined (StagesOf k mul h rows bound)
    stages_determined (Ok ts) (Ok us) x y = ap Ok (one_output ts us x y)
    stages_determined (Ok ts) (Err fault) x y = absurd (within_or_over ts fault x (over_of fault y))
    stages_determined (Err fault) (Ok ts) x y = absurd (within_or_over ts fault y (over_of fault x))
    stages_determined (Err f) (Err g) x y = ap Err (one_fault f g (over_of f x) (over_of g y))
