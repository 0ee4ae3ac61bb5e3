-- At most one reply or fault comes of `compose`.
use Rattle.std.proofs.Common.{◌≡◌, ◌∙◌, ap, sym, refl, subst, ℕ, zero, suc, ◌+◌, List, [], ◌∷◌, ◌++◌, length, Some, Result, Ok, Err, arith}
use Rattle.std.specs.Prelude.{slice_get}
use Rattle.std.specs.Option.{unwrap_or}
use Rattle.std.proofs.lemmas.List.{length-append}
use Rattle.std.proofs.lemmas.Option.{slice_get_within}
use Rattle.lists.specs.laws.OptionLaws.{same_some}
use Rattle.lists.specs.laws.ReadLaws.{get_below, get_front}
use Rattle.outcome.proofs.DeterminedLemmas.{determined_after, determined_bind, determined_exactly, determined_within}
use Rattle.outcome.specs.ForEach.{AreValues}
use Rattle.outcome.specs.Outcome.{◌>>=◌, Determined, Exactly, Within}
use Rattle.net_core.specs.NetList.{NetList}
use Rattle.net_blif.specs.Design.{ModelValue}
use Rattle.net_blif.specs.Models.{AreRight, BlifDesign}
use Rattle.net_blif.specs.Top.{instances_of}
use Rattle.net_blif.proofs.OutcomeLemmas.{determined_design}
use Rattle.net_flat.specs.Flat.{Flattens}
use Rattle.net_flat.proofs.FlatDetermined.{flattens_once}
use Rattle.net_signature.specs.Body.{BlockValue}
use Rattle.net_signature.specs.Signature.{SignatureValue}
use Rattle.net_words.specs.Bind.{BindingOf}
use Rattle.net_words.specs.Binding.{Binding, BoundNet}
use Rattle.net_words.specs.declared.binding.BindFault.{BindFault}
use Rattle.net_words.proofs.BindDetermined.{binding_determined}
use Rattle.poly_mixed.specs.Polynomial.{Terms}
use Rattle.circuit_model.specs.OfBinding.{circuit_with}
use Rattle.compose_model.specs.Given.{HaveBasesOf}
use Rattle.compose_model.specs.Hierarchy.{bases_at, Hierarchy}
use Rattle.compose_model.specs.Wiring.{HaveBlocks}
use Rattle.compose_blocks.specs.Plan.{UsesOf}
use Rattle.compose_blocks.specs.Structure.{IsUnfed}
use Rattle.compose_blocks.specs.Uses.{BlockUse, UseOf}
use Rattle.compose_blocks.proofs.PlanDetermined.{plan_determined}
use Rattle.block_compose.specs.Composed.{fault_of_plan, fault_of_wiring, ComposesIn, HasNoCycle, StagesOf, WiringOf}
use Rattle.block_compose.specs.declared.fault.ComposeFault.{ComposeFault}
use Rattle.block_compose.proofs.GivenLemmas.{unfed_words}
use Rattle.block_compose.proofs.StepsDetermined.{cycle_determined, stages_determined, wiring_determined}
use Rattle.job_words.specs.declared.fault.Fault.TheVariants as faults
use Rattle.job_words.specs.declared.netlist_fault.NetlistFault.{NetlistFault}
use Rattle.job_words.specs.declared.netlist_fault.NetlistFault.TheVariants as netlist
use Rattle.job_input.specs.HierarchyIn.{HierarchyOf, TopBinds}
use Rattle.job_input.specs.NetlistOf.{of_binding, of_model, of_text, WordsBound}
use Rattle.job_input.specs.SettingOf.{BasesOf}
use Rattle.job_input.specs.SettingSound.{IsSoundSetting}
use Rattle.job_input.specs.SettingValue.{SettingValue}
use Rattle.job_input.proofs.SettingDetermined.{bases_determined}
use Rattle.job_input.proofs.SettingSoundLemmas.{bases_sound}
use Rattle.job_input.proofs.SettingWordLemmas.{bases_long}
use Rattle.answer_core.specs.Reply.{prints}
use Rattle.answer_composition.specs.Compose.{compose_fault, hierarchy_with, ComposeOf, ComposeOver, ComposeReply, ListsOf, WithBlocks}
use Rattle.answer_composition.proofs.BlockBaseLemmas.{last_at}
use Rattle.answer_composition.proofs.BlockSettingLemmas.{CanBindBlocks}
use Rattle.answer_composition.proofs.ComposeLemmas.{all_unfed}

-- ---- the netlist

module _ (signature : SignatureValue) where
  words_bound : (net : NetList) → Determined (WordsBound signature.words signature.feeds net)
  words_bound net =
      determined_bind (Within named (BindingOf net signature.words signature.feeds)) (λ bound. Exactly (with_words bound)) (determined_within named (BindingOf net signature.words signature.feeds) (binding_determined net signature.words signature.feeds)) (λ bound. determined_exactly (with_words bound))
    where
      named : BindFault → NetlistFault
      named fault = netlist.Binding (of_binding signature.words net fault)

      with_words : Binding → BoundNet
      with_words bound = record { net = net; binding = bound }

  top_determined : (design : List ModelValue) → Determined (TopBinds signature design)
  top_determined design =
      determined_bind (Within of_model (Flattens design 0)) (λ net. WordsBound signature.words signature.feeds net >>= (λ bound. Exactly tt)) (determined_within of_model (Flattens design 0) (flattens_once design 0))
      (λ net. determined_bind (WordsBound signature.words signature.feeds net) (λ bound. Exactly tt) (words_bound net) (λ bound. determined_exactly tt))

  pub hierarchy_determined : (text : List ℕ) → Determined (HierarchyOf signature text)
  hierarchy_determined text =
      determined_bind (Within of_text (BlifDesign text)) (λ design. TopBinds signature design >>= (λ binds. Exactly design)) (determined_within of_text (BlifDesign text) (determined_design text))
      (λ design. determined_bind (TopBinds signature design) (λ binds. Exactly design) (top_determined design) (λ binds. determined_exactly design))

-- ---- the bases

module _ (k : ℕ) (product : ℕ → ℕ → ℕ) where
  blocks_determined : (lists : List (List (List ℕ))) (blocks : List BlockValue) → Determined (WithBlocks k product lists blocks)
  blocks_determined lists [] = determined_exactly lists
  blocks_determined lists (block ∷ blocks) = determined_bind (BasesOf k product block.words) (λ bases. WithBlocks k product (lists ++ bases ∷ []) blocks) (bases_determined k product block.words) (λ bases. blocks_determined (lists ++ bases ∷ []) blocks)

  lists_determined : (signature : SignatureValue) → Determined (ListsOf k product signature)
  lists_determined signature =
      determined_bind (Within faults.Signature (BasesOf k product signature.words)) (λ top. Within faults.Signature (WithBlocks k product (top ∷ []) signature.blocks)) (determined_within faults.Signature (BasesOf k product signature.words) (bases_determined k product signature.words))
      (λ top. determined_within faults.Signature (WithBlocks k product (top ∷ []) signature.blocks) (blocks_determined (top ∷ []) signature.blocks))

  -- a list that stands stays where it stands
  pub list_stays : (lists all : List (List (List ℕ))) (blocks : List BlockValue) (i : ℕ) (list : List (List ℕ)) → WithBlocks k product lists blocks (Ok all) → slice_get lists i ≡ Some list → slice_get all i ≡ Some list
  list_stays lists all [] i list is at = let P : List (List (List ℕ)) → Type 0 = λ ls. slice_get ls i ≡ Some list in subst P (sym is) at
  list_stays lists all (block ∷ blocks) i list (bases, are, rest) at = list_stays (lists ++ bases ∷ []) all blocks i list rest (get_front lists (bases ∷ []) i list at)

  -- the list of a block is that of its words
  pub record HasListAt (all : List (List (List ℕ))) (place : ℕ) (block : BlockValue) : Type 0 where
    pub list : List (List ℕ)
    pub at : slice_get all place ≡ Some list
    pub are : BasesOf k product block.words (Ok list)

  list_at : (lists all : List (List (List ℕ))) (blocks : List BlockValue) (number : ℕ) (block : BlockValue) → WithBlocks k product lists blocks (Ok all) → slice_get blocks number ≡ Some block → HasListAt all (length lists + number) block
  list_at lists all [] number block is found = absurd (cc)
  list_at lists all (b ∷ blocks) zero block (bases, are, rest) found =
      let same : b ≡ block = cc in
      let P : BlockValue → Type 0 = HasListAt all (length lists + 0) in
      let Q : ℕ → Type 0 = λ n. slice_get all n ≡ Some bases in
      subst P same (record { list = bases; at = subst Q plain (list_stays (lists ++ bases ∷ []) all blocks (length lists) bases rest (last_at lists bases)); are = are })
    where
      plain : length lists ≡ length lists + 0
      plain = omega arith
  list_at lists all (b ∷ blocks) (suc number) block (bases, are, rest) found =
      let P : ℕ → Type 0 = λ n. HasListAt all n block in
      subst P (longer lists bases number) (list_at (lists ++ bases ∷ []) all blocks number block rest found)
    where
      longer : (xs : List (List (List ℕ))) (x : List (List ℕ)) (n : ℕ) → length (xs ++ x ∷ []) + n ≡ length xs + suc n
      longer xs x n = let long : length (xs ++ x ∷ []) ≡ length xs + 1 = length-append xs (x ∷ []) in omega (arith, long)

-- ---- the composition

module _ (k : ℕ) (mul : ℕ → ℕ → ℕ) (h : Hierarchy) (uses : List BlockUse) (values : AreValues (UseOf h.design h.blocks) (instances_of h.design) uses) where
  -- each instance has a block with a circuit
  have_blocks : HaveBlocks k mul h
  have_blocks i item at =
      let one_use = get_below uses i (let less = slice_get_within (instances_of h.design) i item at in omega (arith, values.long, less)) in
      let is = values.each i item one_use.0 at one_use.1 in (
        circuit_with k mul one_use.0.circuit (bases_at h (one_use.0.number + 1)),
        record {
          number = one_use.0.number;
          named = is.is_block.named;
          block = one_use.0.block;
          found = is.is_block.found;
          model = is.model;
          model_is = is.is_block.model_is;
          is = record { net = one_use.0.circuit.net; flat = is.circuit.flat; latches = is.circuit.latches; binding = one_use.0.circuit.binding; bound = is.circuit.bound; is = refl };
        },
      )

module _ (setting : SettingValue) (sound : IsSoundSetting setting) (blocks : CanBindBlocks setting) (design : List ModelValue) (right : AreRight design (Ok tt)) (lists : List (List (List ℕ))) (are : ListsOf setting.k setting.product setting.signature (Ok lists)) (bound : ℕ) where
  abbrev h : Hierarchy
  h = hierarchy_with setting design lists

  pub top_based : IsUnfed setting.signature (Ok tt) → HaveBasesOf setting.k setting.signature.words (bases_at h 0)
  top_based unfed =
      let at = list_stays setting.k setting.product (are.0 ∷ []) lists setting.signature.blocks 0 are.0 are.2 refl in
      let P : List (List ℕ) → Type 0 = HaveBasesOf setting.k setting.signature.words in
      subst P (sym (ap (λ found. unwrap_or found []) at)) (record {
        words_are = sound.words;
        unfed = (unfed_words setting.signature unfed).0;
        long = bases_long setting.k setting.product setting.signature.words are.0 are.1;
        each = bases_sound setting.k setting.product sound.ring setting.signature.words are.0 are.1;
      })

  pub block_based : (number : ℕ) (block : BlockValue) → slice_get setting.signature.blocks number ≡ Some block → HaveBasesOf setting.k block.words (bases_at h (number + 1))
  block_based number block found =
      let own = list_at setting.k setting.product (are.0 ∷ []) lists setting.signature.blocks number block are.2 found in
      let binds = blocks block (number, found) in
      let Q : ℕ → Type 0 = λ n. slice_get lists n ≡ Some own.list in
      let place : 1 + number ≡ number + 1 = omega arith in
      let at : slice_get lists (number + 1) ≡ Some own.list = subst Q place own.at in
      let P : List (List ℕ) → Type 0 = HaveBasesOf setting.k block.words in
      subst P (sym (ap (λ found. unwrap_or found []) at)) (record {
        words_are = binds.words_are;
        unfed = all_unfed block.words binds.unfed;
        long = bases_long setting.k setting.product block.words own.list own.are;
        each = bases_sound setting.k setting.product sound.ring block.words own.list own.are;
      })

  pub composition_determined : Determined (ComposesIn setting.k setting.product setting.signature h bound)
  composition_determined =
      determined_after (Within fault_of_plan (UsesOf design setting.signature)) (λ uses. Within fault_of_wiring (WiringOf h) >>= (λ wiring. HasNoCycle wiring.0 >>= (λ acyclic. StagesOf setting.k setting.product h wiring.0 bound))) (determined_within fault_of_plan (UsesOf design setting.signature) (plan_determined design setting.signature)) (λ uses used.
      determined_after (Within fault_of_wiring (WiringOf h)) (λ wiring. HasNoCycle wiring.0 >>= (λ acyclic. StagesOf setting.k setting.product h wiring.0 bound)) (determined_within fault_of_wiring (WiringOf h) (wiring_determined h)) (λ wiring wired.
      determined_after (HasNoCycle wiring.0) (λ acyclic. StagesOf setting.k setting.product h wiring.0 bound) (cycle_determined wiring.0) (λ acyclic free.
      stages_determined setting.k setting.product h wiring.0 bound sound.ring sound.field (record { depth = right.2.2; top = top_based used.1; blocks = block_based; outputs = wired.outputs }) wired.feeds (have_blocks setting.k setting.product h uses used.2.2.2) free)))

  same_ok : (a b : Terms) → ◌≡◌ {A = Result Terms ComposeFault} (Ok a) (Ok b) → a ≡ b
  same_ok a b e = cc

  same_err : (f g : ComposeFault) → ◌≡◌ {A = Result Terms ComposeFault} (Err f) (Err g) → f ≡ g
  same_err f g e = cc

  apart : (a : Terms) (f : ComposeFault) → ◌≡◌ {A = Result Terms ComposeFault} (Ok a) (Err f) → ⊥
  apart a f e = cc

  composed_determined : Determined (ComposeOf setting design lists bound)
  composed_determined (Ok a) (Ok b) x y = ap Ok (same_ok a b (composition_determined (Ok a) (Ok b) x y))
  composed_determined (Ok a) (Err f) x (found, y, same) = absurd (apart a found (composition_determined (Ok a) (Err found) x y))
  composed_determined (Err f) (Ok b) (found, x, same) y = absurd (apart b found (composition_determined (Ok b) (Err found) y x))
  composed_determined (Err f) (Err g) (found, x, same) (found', y, same') =
      let equal : found ≡ found' = same_err found found' (composition_determined (Err found) (Err found') x y) in
      ap Err (same_some f g (sym same ∙ (ap (compose_fault setting design bound) equal ∙ same')))

  reply_determined : Determined (ComposeReply setting design lists bound)
  reply_determined = determined_bind (ComposeOf setting design lists bound) (λ ts. Exactly (prints setting ts)) composed_determined (λ ts. determined_exactly (prints setting ts))

pub compose_determined : (setting : SettingValue) → IsSoundSetting setting → CanBindBlocks setting → (design : List ModelValue) → AreRight design (Ok tt) → (bound : ℕ) → Determined (ComposeOver setting design bound)
compose_determined setting sound blocks design right bound =
    determined_after (ListsOf setting.k setting.product setting.signature) (λ lists. ComposeReply setting design lists bound) (lists_determined setting.k setting.product setting.signature) (λ lists are. reply_determined setting sound blocks design right lists are bound)
