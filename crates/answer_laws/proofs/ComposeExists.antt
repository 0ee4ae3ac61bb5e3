-- Some reply or some fault comes of `compose`, over the setting of a text.
use Rattle.std.proofs.Common.{◌≡◌, sym, refl, subst, inl, inr, ℕ, List, [], ◌∷◌, ◌++◌, Option, Some, Result, Ok, Err}
use Rattle.outcome.specs.Outcome.{◌>>=◌, Exactly, Within}
use Rattle.outcome.proofs.SomeLemmas.{some_bind, some_exactly, some_within}
use Rattle.job_io.specs.Shelf.{Files}
use Rattle.net_blif.specs.Design.{ModelValue}
use Rattle.net_blif.specs.Models.{AreRight}
use Rattle.net_signature.specs.Body.{BlockValue}
use Rattle.net_signature.specs.Signature.{SignatureValue}
use Rattle.net_words.specs.Bind.{BindingOf}
use Rattle.net_words.specs.declared.feed.FeedText.{FeedText}
use Rattle.poly_mixed.specs.Polynomial.{Terms}
use Rattle.compose_model.specs.Given.{IsGiven}
use Rattle.compose_model.specs.Hierarchy.{Hierarchy}
use Rattle.compose_model.specs.declared.feeder.Feeder.{Feeder}
use Rattle.compose_blocks.specs.Plan.{UsesOf}
use Rattle.compose_blocks.specs.Uses.{BlockUse}
use Rattle.compose_blocks.specs.declared.plan_fault.PlanFault.{PlanFault}
use Rattle.compose_blocks.specs.declared.plan_fault.PlanFault.TheVariants as plans
use Rattle.compose_wiring.specs.Answer.{AreWired}
use Rattle.compose_wiring.specs.declared.fault.WiringFault.{WiringFault}
use Rattle.compose_wiring.specs.declared.fault.WiringFault.TheVariants as wirings
use Rattle.block_compose.specs.Composed.{fault_of_plan, fault_of_wiring, ComposesIn, HasNoCycle, StagesOf, WiringOf}
use Rattle.block_compose.specs.declared.fault.ComposeFault.{ComposeFault}
use Rattle.block_compose.specs.declared.fault.ComposeFault.TheVariants as composing
use Rattle.block_compose.proofs.GivenLemmas.{unfed_words}
use Rattle.job_words.specs.Operands.{Word}
use Rattle.job_words.specs.declared.fault.Fault.{Fault}
use Rattle.job_input.specs.HierarchyIn.{HierarchyIn, HierarchyOf, TopBinds}
use Rattle.job_input.specs.SettingOf.{BlocksHaveBases, SettingOf}
use Rattle.job_input.specs.SettingSound.{IsSoundSetting}
use Rattle.job_input.specs.SettingValue.{SettingValue}
use Rattle.job_input.proofs.SettingSoundLemmas.{setting_sound}
use Rattle.answer_core.specs.Reply.{prints}
use Rattle.answer_composition.specs.Compose.{compose_fault, hierarchy_with, ComposeAnswer, ComposeOf, ComposeOver, ComposeReply, ListsOf, WithBlocks}
use Rattle.answer_composition.proofs.BlockSettingLemmas.{setting_blocks, CanBindBlocks}
use Rattle.answer_composition.proofs.ComposeDetermined.{block_based, top_based}
use Rattle.answer_composition.proofs.ComposeLineLemmas.{hierarchy_right}
use Rattle.answer_makers.proofs.SettingFieldLemmas.{named_by}
use Rattle.reader_laws.specs.SoundModels.{AreSoundModels}
use Rattle.reader_laws.proofs.BlifSound.{sound_design}
use Rattle.job_laws.specs.HasOutcome.{HasOutcome}
use Rattle.job_laws.proofs.CircuitExists.{some_hierarchy}
use Rattle.answer_laws.proofs.StagesExist.{some_no_cycle, some_stages}
use Rattle.answer_laws.proofs.TopsExist.{blocks_there, some_top, some_wired}
use Rattle.answer_laws.proofs.UsesExist.{some_uses, uses_kept}

-- ---- the models of a text

module _ (signature : SignatureValue) (text : List ℕ) (design : List ModelValue) (of : HierarchyOf signature text (Ok design)) where
  sound_models : AreSoundModels design
  sound_models = let P : List ModelValue → Type 0 = AreSoundModels in subst P (sym of.2.2) (sound_design text of.0 of.1)

  binds : TopBinds signature design (Ok tt)
  binds = let P : List ModelValue → Type 0 = λ d. TopBinds signature d (Ok tt) in subst P (sym of.2.2) of.2.1

-- ---- bases

blocks_judged : (bytes : List ℕ) (setting : SettingValue) → SettingOf bytes (Ok setting) → BlocksHaveBases setting.k setting.product setting.signature.blocks (Ok tt)
blocks_judged bytes setting (signed, is_signed, (bases, have_bases, (u, judged, (feeds, within, is)))) = let P : SettingValue → Type 0 = λ s. BlocksHaveBases s.k s.product s.signature.blocks (Ok tt) in subst P (sym is) judged

with_blocks : (k : ℕ) (mul : ℕ → ℕ → ℕ) (lists : List (List (List ℕ))) (blocks : List BlockValue) → BlocksHaveBases k mul blocks (Ok tt) → (all : List (List (List ℕ))) × WithBlocks k mul lists blocks (Ok all)
with_blocks k mul lists [] judged = (lists, refl)
with_blocks k mul lists (block ∷ blocks) (bases, are, judged) = let more = with_blocks k mul (lists ++ bases ∷ []) blocks judged in (more.0, (bases, are, more.1))

-- ---- no fault is want of memory

plan_kept : (fault : PlanFault) → ◌≡◌ {A = ComposeFault} composing.OutOfMemory (fault_of_plan fault) → fault ≡ plans.OutOfMemory
plan_kept plans.FedInTop same = absurd (cc)
plan_kept (plans.GateInTop line) same = absurd (cc)
plan_kept (plans.NoBlock model) same = absurd (cc)
plan_kept (plans.BlockNet model) same = absurd (cc)
plan_kept (plans.BlockLatch model) same = absurd (cc)
plan_kept (plans.BlockBind model) same = absurd (cc)
plan_kept plans.OutOfMemory same = refl

wiring_kept : (fault : WiringFault) → ◌≡◌ {A = ComposeFault} composing.OutOfMemory (fault_of_wiring fault) → fault ≡ wirings.OutOfMemory
wiring_kept (wirings.NotWords instance word) same = absurd (cc)
wiring_kept wirings.OutputNotWords same = absurd (cc)
wiring_kept wirings.OutOfMemory same = refl

composition_kept : (k : ℕ) (mul : ℕ → ℕ → ℕ) (signature : SignatureValue) (h : Hierarchy) (bound : ℕ) → ComposesIn k mul signature h bound (Err composing.OutOfMemory) → ⊥
composition_kept k mul signature h bound (inl (fault, is, same)) = let P : PlanFault → Type 0 = λ f. UsesOf h.design signature (Err f) in uses_kept h.design signature (subst P (plan_kept fault same) is)
composition_kept k mul signature h bound (inr (uses, are, inl (fault, is, same))) = let P : WiringFault → Type 0 = λ f. WiringOf h (Err f) in subst P (wiring_kept fault same) is
composition_kept k mul signature h bound (inr (uses, are, inr (wiring, wired, inl is))) = is
composition_kept k mul signature h bound (inr (uses, are, inr (wiring, wired, inr (acyclic, free, is)))) = is

module _ (setting : SettingValue) (design : List ModelValue) (bound : ℕ) where
  called : (found : ComposeFault) → (found ≡ composing.OutOfMemory → ⊥) → (fault : Fault) × (compose_fault setting design bound found ≡ Some fault)
  called composing.FedInTop other = (_, refl)
  called (composing.GateInTop line) other = (_, refl)
  called (composing.NoBlock model) other = (_, refl)
  called (composing.BlockNet model) other = (_, refl)
  called (composing.BlockLatch model) other = (_, refl)
  called (composing.BlockBind model) other = (_, refl)
  called (composing.NotWords instance word) other = (_, refl)
  called composing.OutputNotWords other = (_, refl)
  called (composing.InstanceLoop instance) other = (_, refl)
  called (composing.TooManyTerms block stage terms) other = (_, refl)
  called composing.OutOfMemory other = absurd (other refl)

-- ---- the composition

module _ (bytes : List ℕ) (setting : SettingValue) (is_setting : SettingOf bytes (Ok setting)) (text : List ℕ) (design : List ModelValue) (of : HierarchyOf setting.signature text (Ok design)) (bound : ℕ) where
  sound : IsSoundSetting setting
  sound = setting_sound bytes setting is_setting

  blocks : CanBindBlocks setting
  blocks = setting_blocks bytes setting is_setting

  right : AreRight design (Ok tt)
  right = hierarchy_right setting.signature text design of

  module _ (lists : List (List (List ℕ))) (are : ListsOf setting.k setting.product setting.signature (Ok lists)) where
    abbrev h : Hierarchy
    h = hierarchy_with setting design lists

    abbrev After : List (List Feeder) → Type 0
    After rows = HasOutcome (HasNoCycle rows >>= (λ acyclic. StagesOf setting.k setting.product h rows bound))

    after_wiring : (uses : List BlockUse) → UsesOf design setting.signature (Ok uses) → (rows : List (List Feeder)) (output : Feeder) → AreWired h rows output → After rows
    after_wiring uses (u, unfed, (v, alone, (numbers, numbered, values))) rows output wired =
        let net = binds setting.signature text design of in
        let feeds = (unfed_words setting.signature unfed).1 in
        let P : List FeedText → Type 0 = λ fs. BindingOf net.0 setting.signature.words fs (Ok net.2.1.0) in
        let have = blocks_there setting.k setting.product h uses values in
        let top = some_top setting.k setting.product h uses values right alone net.0 net.1 net.2.1.0 (subst P feeds net.2.1.1) in
        let given : IsGiven setting.k h = record { depth = right.2.2; top = top_based setting sound blocks design right lists are bound unfed; blocks = block_based setting sound blocks design right lists are bound; outputs = wired.outputs } in
        some_bind (HasNoCycle rows) (λ acyclic. StagesOf setting.k setting.product h rows bound) (some_no_cycle rows) (λ acyclic free. some_stages setting.k setting.product sound.ring sound.field h given rows wired.feeds have bound free top.0 top.1)

    after_uses : (uses : List BlockUse) → UsesOf design setting.signature (Ok uses) → HasOutcome (Within fault_of_wiring (WiringOf h) >>= (λ wiring. HasNoCycle wiring.0 >>= (λ acyclic. StagesOf setting.k setting.product h wiring.0 bound)))
    after_uses uses used =
        let unfed = used.1 in
        let wired = some_wired setting.k setting.product h uses used.2.2.2 (top_based setting sound blocks design right lists are bound unfed) (block_based setting sound blocks design right lists are bound) in
        some_bind (Within fault_of_wiring (WiringOf h)) (λ wiring. HasNoCycle wiring.0 >>= (λ acyclic. StagesOf setting.k setting.product h wiring.0 bound)) (some_within fault_of_wiring (WiringOf h) wired) (λ wiring is. after_wiring uses used wiring.0 wiring.1 is)

    some_composition : HasOutcome (ComposesIn setting.k setting.product setting.signature h bound)
    some_composition =
        some_bind (Within fault_of_plan (UsesOf design setting.signature)) (λ uses. Within fault_of_wiring (WiringOf h) >>= (λ wiring. HasNoCycle wiring.0 >>= (λ acyclic. StagesOf setting.k setting.product h wiring.0 bound)))
        (some_within fault_of_plan (UsesOf design setting.signature) (some_uses design setting.signature right (sound_models setting.signature text design of))) after_uses

    composed_by : (outcome : Result Terms ComposeFault) → ComposesIn setting.k setting.product setting.signature h bound outcome → HasOutcome (ComposeOf setting design lists bound)
    composed_by (Ok ts) is = (Ok ts, is)
    composed_by (Err found) is =
        let P : ComposeFault → Type 0 = λ f. ComposesIn setting.k setting.product setting.signature h bound (Err f) in
        let fault = called setting design bound found (λ same. composition_kept setting.k setting.product setting.signature h bound (subst P same is)) in
        (Err fault.0, (found, is, fault.1))

    some_compose_reply : HasOutcome (ComposeReply setting design lists bound)
    some_compose_reply = some_bind (ComposeOf setting design lists bound) (λ ts. Exactly (prints setting ts)) (composed_by some_composition.0 some_composition.1) (λ ts may. some_exactly (prints setting ts))

  some_over : HasOutcome (ComposeOver setting design bound)
  some_over =
      let named = named_by bytes setting is_setting in
      let lists = with_blocks setting.k setting.product (setting.bases ∷ []) setting.signature.blocks (blocks_judged bytes setting is_setting) in
      some_bind (ListsOf setting.k setting.product setting.signature) (λ all. ComposeReply setting design all bound) (Ok lists.0, (setting.bases, named.bases, lists.1)) some_compose_reply

-- ---- the answer

module _ (held : Option Files) (bytes : List ℕ) (setting : SettingValue) (is_setting : SettingOf bytes (Ok setting)) (net : Word) (bound : ℕ) where
  pub some_compose : HasOutcome (ComposeAnswer held setting net bound)
  some_compose =
      some_bind (HierarchyIn held setting.signature net) (λ design. ComposeOver setting design bound) (some_hierarchy held setting.signature net)
      (λ design is. some_over bytes setting is_setting is.0 design is.2 bound)
