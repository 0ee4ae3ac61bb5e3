-- Why no output comes where a composition is refused: what its fault says, and the word of its stage.
use Rattle.std.proofs.Common.{◌≡◌, ◌∙◌, ap, sym, refl, subst, inl, inr, ℕ, zero, suc, ◌+◌, Bool, true, false, cond, List, [], ◌∷◌, length, Option, None, Some, Err, arith}
use Rattle.std.specs.Prelude.{slice_get}
use Rattle.std.specs.Str.{bytes_eq}
use Rattle.std.proofs.lemmas.Slice.Eq.{bytes_eq-Decides}
use Rattle.outcome.specs.Outcome.{Outcome}
use Rattle.net_blif.specs.Design.{model_from, model_named, ModelValue}
use Rattle.net_blif.specs.Statement.{Token}
use Rattle.net_blif.specs.Top.{model_in}
use Rattle.net_signature.specs.Body.{BlockValue}
use Rattle.net_signature.specs.Signature.{SignatureValue}
use Rattle.net_words.specs.declared.word.WordText.{WordText}
use Rattle.poly_mixed.specs.Polynomial.{Terms}
use Rattle.poly_mixed.specs.declared.stage.Stage.{Stage}
use Rattle.poly_mixed.specs.declared.stage.Stage.TheVariants.{Cut, WordProduct, WordSum, SpecProduct, SpecSum, InstanceProduct, InstanceSum}
use Rattle.circuit_model.specs.Circuit.{Circuit}
use Rattle.stage_model.specs.CircuitListing.{circuit_stages}
use Rattle.abstraction.specs.Stages.{joined}
use Rattle.term_expand.specs.Sums.{SumOfProducts}
use Rattle.compose_polys.specs.InstanceListing.{is_instance_stage}
use Rattle.compose_model.specs.Hierarchy.{bases_at, block_from, Hierarchy}
use Rattle.compose_model.specs.Values.{IsCircuitOf}
use Rattle.compose_model.specs.declared.feeder.Feeder.{Feeder}
use Rattle.compose_blocks.specs.declared.plan_fault.PlanFault.{PlanFault}
use Rattle.compose_blocks.specs.declared.plan_fault.PlanFault.TheVariants as plans
use Rattle.compose_blocks.proofs.BlockLemmas.{found_block, name_is}
use Rattle.compose_wiring.specs.declared.fault.WiringFault.{WiringFault}
use Rattle.compose_wiring.specs.declared.fault.WiringFault.TheVariants as wirings
use Rattle.compose_stages.specs.InstanceStages.{instance_in}
use Rattle.block_compose.specs.Composed.{fault_of_plan, fault_of_wiring, ComposesIn, IsBlockOver, MayFault, StagesOf}
use Rattle.block_compose.specs.declared.fault.ComposeFault.{ComposeFault}
use Rattle.block_compose.specs.declared.fault.ComposeFault.TheVariants.{TooManyTerms, OutOfMemory}
use Rattle.job_words.specs.StageFault.{HasItsWord}
use Rattle.job_words.specs.Stop.{GivesBy}
use Rattle.job_words.specs.declared.fault.Fault.{Fault}
use Rattle.job_words.specs.declared.stop.Stop.{Stop}
use Rattle.job_input.specs.Labelling.{word_labels}
use Rattle.job_input.specs.SettingValue.{SettingValue}
use Rattle.job_input.proofs.CountLemmas.{as_many}
use Rattle.job_input.proofs.RoleLemmas.{binding_roles, roles_long}
use Rattle.answer_composition.specs.Compose.{compose_fault, hierarchy_with, words_in, ComposeOf}
use Rattle.answer_composition.specs.private.Composing.{HasNamedStage, IsStageIn}
use Rattle.answer_core.specs.StageStop.{IsStopOf}
use Rattle.answer_core.proofs.RefusalLemmas.{stopped, IsNoMiss}

-- ---- the fault itself

-- it is none of a missing file
no_miss : (setting : SettingValue) (design : List ModelValue) (bound : ℕ) (fault : ComposeFault) → IsNoMiss (compose_fault setting design bound fault)
no_miss setting design bound OutOfMemory = tt
no_miss setting design bound fault = λ miss. miss

-- a fault with a refusal is one that may come
module _ (outcome : Outcome ComposeFault Terms) (f : Fault) where
  composition_comes : (setting : SettingValue) (design : List ModelValue) (bound : ℕ) (found : ComposeFault) → MayFault outcome found → compose_fault setting design bound found ≡ Some f → outcome (Err found)
  composition_comes setting design bound OutOfMemory may same = absurd (cc)
  composition_comes setting design bound found may same = may

-- a refusal of the composition is one of the command
pub compose_stops : {X : Type 0} (view : X → Terms) (setting : SettingValue) (design : List ModelValue) (lists : List (List (List ℕ))) (bound : ℕ) (found : ComposeFault) (stop : Stop)
    → MayFault (ComposesIn setting.k setting.product setting.signature (hierarchy_with setting design lists) bound) found → IsStopOf (compose_fault setting design bound found) stop → GivesBy view (Err stop) (ComposeOf setting design lists bound) ⊥ ⊥
compose_stops view setting design lists bound found stop may is =
    stopped view (ComposeOf setting design lists bound) (compose_fault setting design bound found) stop (no_miss setting design bound found)
    (λ f same. (found, composition_comes (ComposesIn setting.k setting.product setting.signature (hierarchy_with setting design lists) bound) f setting design bound found may same, same)) is

-- ---- the models of a design

model_is : (n : ℕ) (models : List ModelValue) (name : Token) (number : ℕ) → model_from n models name ≡ Some number → (i : ℕ) × (model : ModelValue) × (number ≡ n + i) × (slice_get models i ≡ Some model) × (name ≡ model.name)
model_is n [] name number named = absurd (cc)
model_is n (model ∷ models) name number named = by (λ later. model_is (n + 1) models name number later) (bytes_eq name model.name) refl named
  where
    by : (model_from (n + 1) models name ≡ Some number → (i : ℕ) × (other : ModelValue) × (number ≡ (n + 1) + i) × (slice_get models i ≡ Some other) × (name ≡ other.name)) → (b : Bool) → bytes_eq name model.name ≡ b → cond b (Some n) (model_from (n + 1) models name) ≡ Some number
        → (i : ℕ) × (other : ModelValue) × (number ≡ n + i) × (slice_get (model ∷ models) i ≡ Some other) × (name ≡ other.name)
    by rest true hit e = let same : n ≡ number = cc in (zero, model, omega (arith, same), refl, (bytes_eq-Decides name model.name).0 hit)
    by rest false miss e = let found = rest e in (suc found.0, found.1, omega (arith, found.2), found.3, found.4)

-- the model of a name has it
pub found_model : (models : List ModelValue) (name : Token) (number : ℕ) → model_named models name ≡ Some number → (model : ModelValue) × (slice_get models number ≡ Some model) × (name ≡ model.name)
found_model models name number named =
    let found = model_is 0 models name number named in
    let P : ℕ → Type 0 = λ i. slice_get models i ≡ Some found.1 in
    let same : found.0 ≡ number = omega (arith, found.2) in
    (found.1, subst P same found.3, found.4)

-- ---- the words of a block

words_from : (n : ℕ) (blocks : List BlockValue) (model : Token) (number : ℕ) (block : BlockValue) → block_from n blocks model ≡ Some number → (i : ℕ) → number ≡ n + i → slice_get blocks i ≡ Some block → words_in blocks model ≡ block.words
words_from n [] model number block named i is got = absurd (cc)
words_from n (b ∷ bs) model number block named i is got = by (λ later j same at. words_from (n + 1) bs model number block later j same at) (bytes_eq model b.model) named i is got
  where
    by : (block_from (n + 1) bs model ≡ Some number → (j : ℕ) → number ≡ (n + 1) + j → slice_get bs j ≡ Some block → words_in bs model ≡ block.words) → (c : Bool) → cond c (Some n) (block_from (n + 1) bs model) ≡ Some number → (i : ℕ) → number ≡ n + i → slice_get (b ∷ bs) i ≡ Some block → cond c b.words (words_in bs model) ≡ block.words
    by rest true e zero is got = let same : b ≡ block = cc in ap (λ (x : BlockValue). x.words) same
    by rest true e (suc i) is got = let same : n ≡ number = cc in absurd (omega (arith, same, is))
    by rest false e zero is got = let found = name_is (n + 1) bs model number e in let there = found.2 in absurd (omega (arith, is, there))
    by rest false e (suc i) is got = rest e i (omega (arith, is)) got

-- the words of a model are those of its block
pub words_found : (blocks : List BlockValue) (model : Token) (number : ℕ) (block : BlockValue) → block_from 0 blocks model ≡ Some number → slice_get blocks number ≡ Some block → words_in blocks model ≡ block.words
words_found blocks model number block named got = words_from 0 blocks model number block named number (omega arith) got

-- ---- the word of a stage

has_word : (circuit : Circuit) (count : ℕ) → length circuit.words ≡ count → (stage : Stage) → (circuit_stages circuit).is_listed (joined stage) → HasItsWord count stage
has_word circuit count same (Cut t) is = tt
has_word circuit count same (WordProduct w s j) is = let less = is.word in omega (arith, same, less)
has_word circuit count same (WordSum w s) is = let less = is.word in omega (arith, same, less)
has_word circuit count same (SpecProduct s j) is = tt
has_word circuit count same (SpecSum s) is = tt
has_word circuit count same (InstanceProduct i s j) is = tt
has_word circuit count same (InstanceSum i s) is = tt

has_no_word : (count n : ℕ) (block : SumOfProducts) (stage : Stage) → is_instance_stage n block stage → HasItsWord count stage
has_no_word count n block (Cut t) is = tt
has_no_word count n block (WordProduct w s j) is = absurd is
has_no_word count n block (WordSum w s) is = absurd is
has_no_word count n block (SpecProduct s j) is = tt
has_no_word count n block (SpecSum s) is = tt
has_no_word count n block (InstanceProduct i s j) is = tt
has_no_word count n block (InstanceSum i s) is = tt

module _ (k : ℕ) (mul : ℕ → ℕ → ℕ) (h : Hierarchy) where
  -- there are as many labels as words
  pub counted : (model : ℕ) (words : List WordText) (bases : List (List ℕ)) (circuit : Circuit) → length bases ≡ length words → IsCircuitOf k mul h model words bases circuit → length circuit.words ≡ length (word_labels k words)
  counted model words bases circuit long is =
      let roles = binding_roles is.net words [] is.binding is.bound in
      ap (λ (c : Circuit). length c.words) (sym is.is) ∙ as_many k is.binding.words words bases (long ∙ sym (roles_long words is.binding.words roles)) roles

  module _ (based : (number : ℕ) (block : BlockValue) → slice_get h.blocks number ≡ Some block → length (bases_at h (number + 1)) ≡ length block.words) where
    stage_in : (rows : List (List Feeder)) (bound : ℕ) (model : Token) (stage : Stage) (terms : ℕ) → IsBlockOver k mul h rows bound model stage terms → IsStageIn k h.blocks model stage
    stage_in rows bound model stage terms over =
        let listed = over.over.listed in
        let circuit = listed.0 in
        let used = listed.1 in
        let named : block_from 0 h.blocks (model_in used.use_is.item) ≡ Some over.number = used.use_is.named in
        let named' : block_from 0 h.blocks (model_in used.use_is.item) ≡ Some used.is.number = used.is.named in
        let number : used.is.number ≡ over.number = cc in
        let found = found_block h.blocks (model_in used.use_is.item) over.number named in
        let at : slice_get h.blocks over.number ≡ Some found.0 = found.1 in
        let there : slice_get h.blocks over.number ≡ Some over.block = over.found in
        let same : found.0 ≡ over.block = cc in
        let model_is : model_in used.use_is.item ≡ model = found.2 ∙ (ap (λ (b : BlockValue). b.model) same ∙ sym over.model_is) in
        let P : Token → Type 0 = λ m. block_from 0 h.blocks m ≡ Some over.number in
        let Q : ℕ → Type 0 = λ n. slice_get h.blocks n ≡ Some used.is.block in
        let own : slice_get h.blocks over.number ≡ Some used.is.block = subst Q number used.is.found in
        let block_is : used.is.block ≡ over.block = cc in
        let R : BlockValue → Type 0 = λ b. HasItsWord (length (word_labels k b.words)) stage in
        record {
          block = over.block;
          has = (over.number, over.found);
          words_are = words_found h.blocks model over.number over.block (subst P model_is named) over.found;
          named = subst R block_is (has_word circuit (length (word_labels k used.is.block.words)) (counted used.is.model used.is.block.words (bases_at h (used.is.number + 1)) circuit (based used.is.number used.is.block used.is.found) used.is.is) stage listed.2);
        }

    -- ---- the stages come last

    plan_apart : (fault : PlanFault) (block : Option Token) (stage : Stage) (terms : ℕ) → ◌≡◌ {A = ComposeFault} (TooManyTerms block stage terms) (fault_of_plan fault) → ⊥
    plan_apart plans.FedInTop block stage terms e = cc
    plan_apart (plans.GateInTop line) block stage terms e = cc
    plan_apart (plans.NoBlock model) block stage terms e = cc
    plan_apart (plans.BlockNet model) block stage terms e = cc
    plan_apart (plans.BlockLatch model) block stage terms e = cc
    plan_apart (plans.BlockBind model) block stage terms e = cc
    plan_apart plans.OutOfMemory block stage terms e = cc

    wiring_apart : (fault : WiringFault) (block : Option Token) (stage : Stage) (terms : ℕ) → ◌≡◌ {A = ComposeFault} (TooManyTerms block stage terms) (fault_of_wiring fault) → ⊥
    wiring_apart (wirings.NotWords instance word) block stage terms e = cc
    wiring_apart wirings.OutputNotWords block stage terms e = cc
    wiring_apart wirings.OutOfMemory block stage terms e = cc

    stage_refused : (signature : SignatureValue) (bound : ℕ) (block : Option Token) (stage : Stage) (terms : ℕ) → ComposesIn k mul signature h bound (Err (TooManyTerms block stage terms)) → (rows : List (List Feeder)) × StagesOf k mul h rows bound (Err (TooManyTerms block stage terms))
    stage_refused signature bound block stage terms (inl (fault, is, same)) = absurd (plan_apart fault block stage terms same)
    stage_refused signature bound block stage terms (inr (uses, are, inl (fault, is, same))) = absurd (wiring_apart fault block stage terms same)
    stage_refused signature bound block stage terms (inr (uses, are, inr (wiring, wired, inl never))) = absurd never
    stage_refused signature bound block stage terms (inr (uses, are, inr (wiring, wired, inr (u, free, is)))) = (wiring.0, is)

    -- the word of a refused stage is one of the top, or of the block that the fault names
    pub named_stage : (signature : SignatureValue) (bound : ℕ) (fault : ComposeFault) → MayFault (ComposesIn k mul signature h bound) fault → HasNamedStage k h.words h.blocks fault
    named_stage signature bound (TooManyTerms (Some model) stage terms) may = let is = stage_refused signature bound (Some model) stage terms may in stage_in is.0 bound model stage terms is.1
    named_stage signature bound (TooManyTerms None stage terms) may = let is = stage_refused signature bound None stage terms may in let listed = is.1.listed in has_no_word (length (word_labels k h.words)) (instance_in stage) _ stage listed.is
    named_stage signature bound fault may = tt
