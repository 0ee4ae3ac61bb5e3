-- Each fault of `compose` is one line.
use Rattle.std.proofs.Common.{◌≡◌, ◌∙◌, ap, sym, refl, subst, inl, inr, ℕ, suc, ◌+◌, Bool, true, false, cond, List, [], ◌∷◌, ◌++◌, codes, Option, None, Some, Result, Ok, Err, arith}
use Rattle.std.specs.Prelude.{slice_get, IfSome}
use Rattle.std.specs.List.{AllByRecursion}
use Rattle.std.specs.Str.{bytes_eq}
use Rattle.std.proofs.lemmas.Slice.Eq.{bytes_eq-Decides}
use Rattle.lists.specs.Lists.{Has}
use Rattle.text_core.specs.Lines.{IsPrinting}
use Rattle.job_io.specs.Shelf.{Files}
use Rattle.net_blif.specs.Design.{model_from, model_named, ModelValue}
use Rattle.net_blif.specs.Models.{AreRight, BlifDesign}
use Rattle.net_blif.specs.Statement.{Token}
use Rattle.net_blif.specs.Top.{gate_line, instances_of, model_in}
use Rattle.net_blif.specs.declared.item.Item.{Item}
use Rattle.net_blif.proofs.TopLemmas.{some_named}
use Rattle.net_signature.specs.Body.{BlockValue}
use Rattle.net_signature.specs.Signature.{SignatureValue}
use Rattle.net_signature.specs.WordNames.{HaveNames}
use Rattle.net_words.specs.declared.word.WordText.{WordText}
use Rattle.compose_model.specs.Hierarchy.{block_from, Hierarchy}
use Rattle.compose_model.specs.declared.feeder.Feeder.{Feeder}
use Rattle.compose_blocks.specs.Plan.{UsesOf}
use Rattle.compose_blocks.specs.Structure.{gate_refused, has_feed, numbered}
use Rattle.compose_blocks.specs.Uses.{IsBlockAt, UseOf}
use Rattle.compose_blocks.specs.declared.plan_fault.PlanFault.{PlanFault}
use Rattle.compose_blocks.specs.declared.plan_fault.PlanFault.TheVariants as plans
use Rattle.compose_blocks.proofs.BlockLemmas.{found_block}
use Rattle.compose_wiring.specs.declared.fault.WiringFault.{WiringFault}
use Rattle.compose_wiring.specs.declared.fault.WiringFault.TheVariants as wirings
use Rattle.block_compose.specs.Composed.{fault_of_plan, fault_of_wiring, ComposesIn, HasNoCycle, StagesOf}
use Rattle.block_compose.specs.declared.fault.ComposeFault.{ComposeFault}
use Rattle.block_compose.specs.declared.fault.ComposeFault.TheVariants.{InstanceLoop, TooManyTerms}
use Rattle.job_words.specs.OneLine.{HasNoLineFeed, KeepsToItsLine}
use Rattle.job_words.specs.Operands.{Word}
use Rattle.job_words.specs.StageFault.{stage_text}
use Rattle.job_words.specs.declared.fault.Fault.{Fault}
use Rattle.job_words.specs.declared.fault.Fault.TheVariants as faults
use Rattle.job_words.specs.declared.netlist_fault.NetlistFault.{NetlistFault}
use Rattle.job_words.specs.declared.signature_fault.SignatureFault.{SignatureFault}
use Rattle.job_words.proofs.OneLineLemmas.{clean_kept, clean_then, kept_clean, stage_kept}
use Rattle.job_input.specs.HierarchyIn.{HierarchyIn, HierarchyOf}
use Rattle.job_input.specs.Labelling.{labels_of}
use Rattle.job_input.specs.NetlistOf.{Blif, BoundNetOf}
use Rattle.job_input.specs.SettingOf.{BasesOf}
use Rattle.job_input.specs.SettingValue.{SettingValue}
use Rattle.job_input.proofs.BlifLabelLemmas.{printing_kept}
use Rattle.job_input.proofs.BlifTextLemmas.{design_prints, ModelPrints}
use Rattle.job_input.proofs.FileLineLemmas.{file_keeps, labels_kept, setting_keeps, RepeatsKept, same_line}
use Rattle.job_input.proofs.NetlistLineLemmas.{netlist_keeps, word_kept}
use Rattle.answer_composition.specs.Compose.{compose_fault, hierarchy_with, instance_model, words_in, ComposeAnswer, ComposeOver, ListsOf, WithBlocks}
use Rattle.answer_composition.proofs.BlockSettingLemmas.{HaveBlockNames}

-- ---- the netlist

-- where the models of a text or their top are refused, so is the netlist
hierarchy_refused : (signature : SignatureValue) (text : List ℕ) (fault : NetlistFault) → HierarchyOf signature text (Err fault) → BoundNetOf signature (Blif text) (Err fault)
hierarchy_refused signature text fault (inl is) = inl (inl is)
hierarchy_refused signature text fault (inr (design, read, inl (inl is))) = inl (inr (design, read, is))
hierarchy_refused signature text fault (inr (design, read, inl (inr (net, flat, inl is)))) = inr (net, (design, read, flat), is)
hierarchy_refused signature text fault (inr (design, read, inl (inr (net, flat, inr (bound, is, never))))) = absurd never
hierarchy_refused signature text fault (inr (design, read, inr (u, binds, never))) = absurd never

hierarchy_keeps : (held : Option Files) (signature : SignatureValue) (name : Word) (fault : Fault) → HaveNames signature.words → HasNoLineFeed name → HierarchyIn held signature name (Err fault) → KeepsToItsLine fault
hierarchy_keeps held signature name fault names kept (inl is) = file_keeps held name fault kept is
hierarchy_keeps held signature name fault names kept (inr (text, read, (other, is, same))) = same_line fault (faults.Netlist name other) same (kept, netlist_keeps signature (Blif text) other names (hierarchy_refused signature text other is))

-- ---- the bases

words_kept : (k : ℕ) (product : ℕ → ℕ → ℕ) (signature : SignatureValue) (words : List WordText) (fault : SignatureFault) → BasesOf k product words (Err fault) → RepeatsKept fault
words_kept k product signature words fault is = setting_keeps (record { signature = record signature { words = words }; field = record { k = k; product = product } }) fault (inl is)

blocks_kept : (k : ℕ) (product : ℕ → ℕ → ℕ) (signature : SignatureValue) (lists : List (List (List ℕ))) (blocks : List BlockValue) (fault : SignatureFault) → WithBlocks k product lists blocks (Err fault) → RepeatsKept fault
blocks_kept k product signature lists [] fault never = absurd never
blocks_kept k product signature lists (block ∷ blocks) fault (inl is) = words_kept k product signature block.words fault is
blocks_kept k product signature lists (block ∷ blocks) fault (inr (bases, are, later)) = blocks_kept k product signature (lists ++ bases ∷ []) blocks fault later

lists_kept : (k : ℕ) (product : ℕ → ℕ → ℕ) (signature : SignatureValue) (fault : Fault) → ListsOf k product signature (Err fault) → KeepsToItsLine fault
lists_kept k product signature fault (inl (other, is, same)) = same_line fault (faults.Signature other) same (words_kept k product signature signature.words other is)
lists_kept k product signature fault (inr (top, are, (other, is, same))) = same_line fault (faults.Signature other) same (blocks_kept k product signature (top ∷ []) signature.blocks other is)

-- ---- names

both_kept : (first second : List ℕ) → HasNoLineFeed first → HasNoLineFeed second → HasNoLineFeed (first ++ second)
both_kept first second one two = clean_kept (first ++ second) (clean_then first second (kept_clean first one) (kept_clean second two))

nothing_kept : HasNoLineFeed []
nothing_kept k d less = absurd (omega arith)

-- a name that a model has prints
named_prints : (n : ℕ) (models : List ModelValue) (name : Token) (m : ℕ) → model_from n models name ≡ Some m → AllByRecursion ModelPrints models → IsPrinting name
named_prints n [] name m e prints = absurd (cc)
named_prints n (model ∷ models) name m e prints = by (λ later. named_prints (n + 1) models name m later prints.1) (bytes_eq name model.name) refl e
  where
    by : (model_from (n + 1) models name ≡ Some m → IsPrinting name) → (b : Bool) → bytes_eq name model.name ≡ b → cond b (Some n) (model_from (n + 1) models name) ≡ Some m → IsPrinting name
    by rest true hit e = let P : Token → Type 0 = IsPrinting in subst P (sym ((bytes_eq-Decides name model.name).0 hit)) prints.0.0
    by rest false miss e = rest e

-- the words of a model's block have names, or there are none
words_named : (blocks : List BlockValue) → ((block : BlockValue) → Has blocks block → HaveNames block.words) → (model : Token) → HaveNames (words_in blocks model)
words_named [] each model = record { names = λ word has. absurd (let got = has.1 in cc); apart = λ i j u v at other same. absurd (cc) }
words_named (block ∷ blocks) each model = by (bytes_eq model block.model) (words_named blocks (λ other has. each other (suc has.0, has.1)) model)
  where
    by : (b : Bool) → HaveNames (words_in blocks model) → HaveNames (cond b block.words (words_in blocks model))
    by true rest = each block (0, refl)
    by false rest = rest

-- ---- a composition

module _ (setting : SettingValue) (design : List ModelValue) (bound : ℕ) (prints : AllByRecursion ModelPrints design) (right : AreRight design (Ok tt)) (names : HaveNames setting.signature.words) (block_names : HaveBlockNames setting.signature) where
  abbrev Keeps : ComposeFault → Type 0
  Keeps fault = IfSome (compose_fault setting design bound fault) KeepsToItsLine

  same_keeps : (fault other : ComposeFault) → fault ≡ other → Keeps other → Keeps fault
  same_keeps fault other same keeps = let P : ComposeFault → Type 0 = Keeps in subst P (sym same) keeps

  -- the model of an instance
  model_kept : (model : Token) (m : ℕ) → model_named design model ≡ Some m → HasNoLineFeed model
  model_kept model m named = printing_kept model (named_prints 0 design model m named prints)

  instance_kept : (i : ℕ) (item : Item) → slice_get (instances_of design) i ≡ Some item → HasNoLineFeed (model_in item)
  instance_kept i item at = let named = some_named design i item right at in model_kept (model_in item) named.0 named.1

  -- the model of a block that an instance uses
  block_kept : (item : Item) (number : ℕ) (block : BlockValue) → block_from 0 setting.signature.blocks (model_in item) ≡ Some number → slice_get setting.signature.blocks number ≡ Some block → HasNoLineFeed (model_in item) → HasNoLineFeed block.model
  block_kept item number block named found kept =
      let own = found_block setting.signature.blocks (model_in item) number named in
      let at : slice_get setting.signature.blocks number ≡ Some own.0 = own.1 in
      let same : own.0 ≡ block = cc in
      let P : Token → Type 0 = HasNoLineFeed in
      subst P (own.2 ∙ ap (λ (b : BlockValue). b.model) same) kept

  -- ---- before the wiring

  used_kept : (item : Item) (number model : ℕ) (block : BlockValue) (name : Token) → IsBlockAt design setting.signature.blocks item number model block → name ≡ block.model → HasNoLineFeed name
  used_kept item number model block name is same =
      let P : Token → Type 0 = HasNoLineFeed in
      subst P (sym same) (block_kept item number block is.named is.found (model_kept (model_in item) model is.model_is))

  use_kept : (item : Item) (fault : PlanFault) → UseOf design setting.signature.blocks item (Err fault) → Keeps (fault_of_plan fault)
  use_kept item (plans.BlockNet name) is = (used_kept item is.number is.model is.block name is.is_block is.name_is, tt)
  use_kept item (plans.BlockLatch name) is = (used_kept item is.number is.model is.block name is.is_block is.name_is, tt)
  use_kept item (plans.BlockBind name) is = (used_kept item is.number is.model is.block name is.is_block is.name_is, tt)
  use_kept item fault is = absurd is

  same_plan : (fault other : PlanFault) → fault ≡ other → Keeps (fault_of_plan other) → Keeps (fault_of_plan fault)
  same_plan fault other same keeps = let P : PlanFault → Type 0 = λ f. Keeps (fault_of_plan f) in subst P (sym same) keeps

  fed_kept : (b : Bool) (fault : PlanFault) → ◌≡◌ {A = Result (Unit {0}) PlanFault} (Err fault) (cond b (Err plans.FedInTop) (Ok tt)) → Keeps (fault_of_plan fault)
  fed_kept true fault e = let same : fault ≡ plans.FedInTop = cc in same_plan fault plans.FedInTop same tt
  fed_kept false fault e = absurd (cc)

  gate_kept : (line : Option ℕ) (fault : PlanFault) → ◌≡◌ {A = Result (Unit {0}) PlanFault} (Err fault) (gate_refused line) → Keeps (fault_of_plan fault)
  gate_kept None fault e = absurd (cc)
  gate_kept (Some line) fault e = let same : fault ≡ plans.GateInTop line = cc in same_plan fault (plans.GateInTop line) same tt

  none_kept : (model : Token) (number : Option ℕ) (fault : PlanFault) → HasNoLineFeed model → ◌≡◌ {A = Result ℕ PlanFault} (Err fault) (numbered model number) → Keeps (fault_of_plan fault)
  none_kept model None fault kept e = let same : fault ≡ plans.NoBlock model = cc in same_plan fault (plans.NoBlock model) same (kept, tt)
  none_kept model (Some number) fault kept e = absurd (cc)

  plan_kept : (fault : PlanFault) → UsesOf design setting.signature (Err fault) → Keeps (fault_of_plan fault)
  plan_kept fault (inl unfed) = fed_kept (has_feed setting.signature) fault unfed
  plan_kept fault (inr (u, unfed, inl alone)) = gate_kept (gate_line design) fault alone
  plan_kept fault (inr (u, unfed, inr (v, alone, inl first))) = none_kept (model_in first.element) (block_from 0 setting.signature.blocks (model_in first.element)) fault (instance_kept first.place first.element first.at) first.is
  plan_kept fault (inr (u, unfed, inr (v, alone, inr (numbers, are, first)))) = use_kept first.element fault first.is

  -- ---- the wiring, cycles and stages

  wiring_kept : (fault : WiringFault) → Keeps (fault_of_wiring fault)
  wiring_kept (wirings.NotWords instance word) = (word_kept (words_in setting.signature.blocks (instance_model design instance)) word (words_named setting.signature.blocks block_names (instance_model design instance)), tt)
  wiring_kept wirings.OutputNotWords = tt
  wiring_kept wirings.OutOfMemory = tt

  cycle_kept : (rows : List (List Feeder)) (fault : ComposeFault) → HasNoCycle rows (Err fault) → Keeps fault
  cycle_kept rows (InstanceLoop instance) is = tt
  cycle_kept rows fault is = absurd is

  module _ (lists : List (List (List ℕ))) where
    abbrev h : Hierarchy
    h = hierarchy_with setting design lists

    stages_kept : (rows : List (List Feeder)) (fault : ComposeFault) → StagesOf setting.k setting.product h rows bound (Err fault) → Keeps fault
    stages_kept rows (TooManyTerms (Some model) stage terms) is =
        let used = is.over.listed.1 in
        let P : Token → Type 0 = HasNoLineFeed in
        let model_is = subst P (sym is.model_is) (block_kept used.use_is.item is.number is.block used.use_is.named is.found (instance_kept used.place used.use_is.item used.use_is.at)) in
        let labels = labels_of setting.k (words_in setting.signature.blocks model) in
        let name = stage_kept labels stage (labels_kept setting.k (words_in setting.signature.blocks model) (words_named setting.signature.blocks block_names model)) in (
          both_kept (codes "block ") (model ++ (codes " " ++ stage_text labels stage)) (clean_kept (codes "block ") refl) (both_kept model (codes " " ++ stage_text labels stage) model_is (both_kept (codes " ") (stage_text labels stage) (clean_kept (codes " ") refl) name)),
          tt,
        )
    stages_kept rows (TooManyTerms None stage terms) is = (stage_kept (labels_of setting.k setting.signature.words) stage (labels_kept setting.k setting.signature.words names), tt)
    stages_kept rows fault is = absurd is

    composed_kept : (fault : ComposeFault) → ComposesIn setting.k setting.product setting.signature h bound (Err fault) → Keeps fault
    composed_kept fault (inl (other, is, same)) = same_keeps fault (fault_of_plan other) same (plan_kept other is)
    composed_kept fault (inr (uses, are, inl (other, is, same))) = same_keeps fault (fault_of_wiring other) same (wiring_kept other)
    composed_kept fault (inr (uses, are, inr (wiring, wired, inl is))) = cycle_kept wiring.0 fault is
    composed_kept fault (inr (uses, are, inr (wiring, wired, inr (u, free, is)))) = stages_kept wiring.0 fault is

  over_kept : (fault : Fault) → ComposeOver setting design bound (Err fault) → KeepsToItsLine fault
  over_kept fault (inl is) = lists_kept setting.k setting.product setting.signature fault is
  over_kept fault (inr (lists, are, inl (other, is, same))) =
      let P : Option Fault → Type 0 = λ found. IfSome found KeepsToItsLine in
      subst P same (composed_kept lists other is)
  over_kept fault (inr (lists, are, inr (ts, of, never))) = absurd never

-- instances of a text's models have models
pub design_right : (text : List ℕ) (design : List ModelValue) → BlifDesign text (Ok design) → AreRight design (Ok tt)
design_right text design (u, has, (reading, reads, (v, right, same))) = let P : List ModelValue → Type 0 = λ models. AreRight models (Ok tt) in subst P (sym same) right

-- so have those of a hierarchical netlist
pub hierarchy_right : (signature : SignatureValue) (text : List ℕ) (design : List ModelValue) → HierarchyOf signature text (Ok design) → AreRight design (Ok tt)
hierarchy_right signature text design (models, is, (u, binds, same)) = let P : List ModelValue → Type 0 = λ ms. AreRight ms (Ok tt) in subst P (sym same) (design_right text models is)

pub compose_kept : (held : Option Files) (setting : SettingValue) (net : Word) (terms : ℕ) (fault : Fault) → HaveNames setting.signature.words → HaveBlockNames setting.signature → HasNoLineFeed net → ComposeAnswer held setting net terms (Err fault) → KeepsToItsLine fault
compose_kept held setting net terms fault names block_names kept (inl is) = hierarchy_keeps held setting.signature net fault names kept is
compose_kept held setting net terms fault names block_names kept (inr (design, (text, read, (models, is, (u, binds, same))), wrong)) =
    let P : List ModelValue → Type 0 = λ ms. BlifDesign text (Ok ms) in
    let own = subst P (sym same) is in
    over_kept setting design terms (design_prints text design own) (design_right text design own) names block_names fault wrong
