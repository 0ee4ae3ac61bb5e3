-- A top of instances with blocks: its circuit exists, and so does its wiring or a fault of it.
use Rattle.std.proofs.Common.{◌≡◌, ◌∙◌, ap, sym, refl, subst, ℕ, suc, ◌+◌, ◌<◌, Bool, true, false, List, [], ◌∷◌, length, Option, None, Some, Ok, arith, if◌then◌else◌}
use Rattle.std.specs.Prelude.{slice_get}
use Rattle.std.specs.List.{filter}
use Rattle.std.proofs.lemmas.Option.{slice_get_within}
use Rattle.lists.specs.laws.ReadLaws.{get_below}
use Rattle.outcome.specs.ForEach.{AreValues}
use Rattle.net_blif.specs.Design.{model_named}
use Rattle.net_blif.specs.Models.{AreRight}
use Rattle.net_blif.specs.Top.{connections_in, gate_line, instances_of, model_in}
use Rattle.net_blif.specs.declared.item.Item.{Item}
use Rattle.net_core.specs.NetList.{NetList}
use Rattle.net_flat.specs.Flat.{nothing, walked, Flat, Flattens}
use Rattle.net_flat.specs.Walk.{walk_of}
use Rattle.net_flat.proofs.LatchLemmas.{no_latches}
use Rattle.net_signature.specs.Body.{BlockValue}
use Rattle.net_words.specs.Bind.{BindingOf}
use Rattle.net_words.specs.Binding.{Binding}
use Rattle.net_words.specs.Roles.{is_output, same_role}
use Rattle.net_words.specs.declared.word.Role.TheVariants.{Output}
use Rattle.net_words.specs.declared.word.WordText.{WordText}
use Rattle.circuit_model.specs.Circuit.{Circuit}
use Rattle.circuit_model.specs.OfBinding.{circuit_with}
use Rattle.compose_model.specs.Given.{HaveBasesOf}
use Rattle.compose_model.specs.Hierarchy.{bases_at, top_words, Hierarchy, IsInstance}
use Rattle.compose_model.specs.NamedWord.{named_words, outputs_among, NamedWord}
use Rattle.compose_model.specs.Values.{IsTop}
use Rattle.compose_model.specs.Wiring.{HaveBlocks}
use Rattle.compose_model.proofs.InstanceLemmas.{flat_of}
use Rattle.compose_blocks.specs.Structure.{gate_refused, HasInstancesAlone}
use Rattle.compose_blocks.specs.Uses.{BlockUse, IsUse, UseOf}
use Rattle.compose_wiring.specs.private.Plain.{PlacedValue}
use Rattle.block_compose.specs.Composed.{WiringOf}
use Rattle.job_laws.specs.HasOutcome.{HasOutcome}
use Rattle.exist_laws.proofs.ListedExist.{listed}
use Rattle.answer_laws.proofs.WiringExists.{some_wiring}

-- ---- output words

counted : (x : NamedWord) (w : WordText) (more : List NamedWord) (texts : List WordText) (b : Bool) → length more ≡ length texts → length (if b then x ∷ more else more) ≡ length (if b then w ∷ texts else texts)
counted x w more texts true same = ap suc same
counted x w more texts false same = same

outputs_count : (n : ℕ) (words : List WordText) (bases : List (List ℕ)) → length bases ≡ length words → length (filter is_output words) ≡ n → length (outputs_among (named_words words bases)) ≡ n
outputs_count n [] bases long count = count
outputs_count n (w ∷ ws) [] long count = absurd (omega (arith, long))
outputs_count n (w ∷ ws) (b ∷ bs) long count =
    counted (record { role = w.role; nets = w.nets; basis = b }) w (outputs_among (named_words ws bs)) (filter is_output ws) (same_role w.role Output) (outputs_count (length (filter is_output ws)) ws bs (omega (arith, long)) refl) ∙ count

one_output : (k : ℕ) (words : List WordText) (bases : List (List ℕ)) → HaveBasesOf k words bases → length (outputs_among (named_words words bases)) ≡ 1
one_output k words bases are = outputs_count 1 words bases are.long are.words_are.output

-- ---- a top

no_gate : (line : Option ℕ) → gate_refused line ≡ Ok tt → line ≡ None
no_gate None same = refl
no_gate (Some line) same = absurd (cc)

module _ (k : ℕ) (mul : ℕ → ℕ → ℕ) (h : Hierarchy) (uses : List BlockUse) (values : AreValues (UseOf h.design h.blocks) (instances_of h.design) uses) where
  use_at : (i : ℕ) (item : Item) → slice_get (instances_of h.design) i ≡ Some item → (one_use : BlockUse) × IsUse h.design h.blocks item one_use
  use_at i item at =
      let one_use = get_below uses i (let less = slice_get_within (instances_of h.design) i item at in let long = values.long in omega (arith, less, long)) in
      (one_use.0, values.each i item one_use.0 at one_use.1)

  -- each instance has a block
  pub blocks_there : HaveBlocks k mul h
  blocks_there i item at =
      let found = use_at i item at in
      let one_use = found.0 in
      let is = found.1 in (
        circuit_with k mul one_use.circuit (bases_at h (one_use.number + 1)),
        record {
          number = one_use.number;
          named = is.is_block.named;
          block = one_use.block;
          found = is.is_block.found;
          model = is.model;
          model_is = is.is_block.model_is;
          is = record { net = one_use.circuit.net; flat = is.circuit.flat; latches = is.circuit.latches; binding = one_use.circuit.binding; bound = is.circuit.bound; is = refl };
        },
      )

  -- ---- its circuit

  latchless : (i model : ℕ) (item : Item) → slice_get (instances_of h.design) i ≡ Some item → model_named h.design (model_in item) ≡ Some model → (flat : Flat) × (walked nothing (walk_of h.design model) ≡ Ok flat) × (flat.latches ≡ [])
  latchless i model item at named =
      let found = use_at i item at in
      let there : model_named h.design (model_in item) ≡ Some found.1.model = found.1.is_block.model_is in
      let same : found.1.model ≡ model = cc in
      let flat = flat_of h.design found.1.model found.0.circuit.net found.1.circuit.flat in
      let P : ℕ → Type 0 = λ m. walked nothing (walk_of h.design m) ≡ Ok flat.0 in
      (flat.0, subst P same flat.1, sym (ap (λ (n : NetList). n.latches) flat.2) ∙ found.1.circuit.latches)

  pub some_top : AreRight h.design (Ok tt) → HasInstancesAlone h.design (Ok tt) → (net : NetList) → Flattens h.design 0 (Ok net) → (binding : Binding) → BindingOf net h.words [] (Ok binding) → (top : Circuit) × IsTop k mul h top
  some_top right alone net flat binding bound =
      let whole = flat_of h.design 0 net flat in
      let none : whole.0.latches ≡ [] = no_latches h.design whole.0 right.2.2 (no_gate (gate_line h.design) (sym alone)) whole.1 latchless in
      (circuit_with k mul (record { net = net; binding = binding }) (bases_at h 0), record { net = net; flat = flat; latches = ap (λ (n : NetList). n.latches) whole.2 ∙ none; binding = binding; bound = bound; is = refl })

  -- ---- its wiring

  module _ (top_based : HaveBasesOf k h.words (bases_at h 0)) (block_based : (number : ℕ) (block : BlockValue) → slice_get h.blocks number ≡ Some block → HaveBasesOf k block.words (bases_at h (number + 1))) where
    -- an instance by its connections and words, with one output word
    abbrev IsPlaced : ℕ → PlacedValue → Type 0
    IsPlaced i placed = ((item : Item) × IsInstance h i item placed.words × (connections_in item ≡ placed.connections)) × (length (outputs_among placed.words) ≡ 1)

    placed_at : (i : ℕ) → i < length (instances_of h.design) → (placed : PlacedValue) × IsPlaced i placed
    placed_at i less =
        let item = get_below (instances_of h.design) i less in
        let found = use_at i item.0 item.1 in
        let block = found.0.block in
        let words : List NamedWord = named_words block.words (bases_at h (found.0.number + 1)) in
        let instance : IsInstance h i item.0 words = record { at = item.1; number = found.0.number; named = found.1.is_block.named; block = block; found = found.1.is_block.found; words_are = refl } in (
          record { connections = connections_in item.0; words = words },
          ((item.0, instance, refl), one_output k block.words (bases_at h (found.0.number + 1)) (block_based found.0.number block found.1.is_block.found)),
        )

    pub some_wired : HasOutcome (WiringOf h)
    some_wired =
        let placed = listed IsPlaced (length (instances_of h.design)) placed_at in
        some_wiring h (top_words h) placed.0 (record { top_is = refl; long = placed.1.0; each = λ i instance at. (placed.1.1 i instance at).0 }) (λ i instance at. (placed.1.1 i instance at).1) (one_output k h.words (bases_at h 0) top_based)
