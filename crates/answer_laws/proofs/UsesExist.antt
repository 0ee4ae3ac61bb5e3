-- Some blocks or some fault come of the instances of a top, in a design whose models are right and place sound items.
use Rattle.std.proofs.Common.{◌≡◌, ap, refl, inl, inr, ℕ, Bool, true, false, List, [], ◌∷◌, length, Option, None, Some, Result, Ok, Err, arith, if◌then◌else◌}
use Rattle.std.specs.Prelude.{slice_get}
use Rattle.std.proofs.lemmas.Option.{slice_get_within}
use Rattle.lists.specs.Lists.{Has}
use Rattle.lists.specs.laws.ReadLaws.{get_below}
use Rattle.outcome.specs.ForEach.{AreValues, ForEach}
use Rattle.outcome.specs.Outcome.{◌>>=◌}
use Rattle.outcome.proofs.SomeLemmas.{some_bind, some_returns}
use Rattle.net_blif.specs.Design.{ModelValue}
use Rattle.net_blif.specs.Models.{AreRight}
use Rattle.net_blif.specs.Statement.{Token}
use Rattle.net_blif.specs.Top.{gate_line, instances_of, model_in}
use Rattle.net_blif.specs.declared.item.Item.{Item}
use Rattle.net_blif.proofs.TopLemmas.{some_named}
use Rattle.net_core.specs.LatchValue.{LatchValue}
use Rattle.net_core.specs.NetList.{NetList}
use Rattle.net_flat.specs.Flat.{Flattens}
use Rattle.net_flat.specs.declared.flat_fault.FlatFault.{FlatFault}
use Rattle.net_signature.specs.Body.{BlockValue}
use Rattle.net_signature.specs.Signature.{SignatureValue}
use Rattle.net_words.specs.Bind.{BindingOf}
use Rattle.net_words.specs.Binding.{Binding}
use Rattle.net_words.specs.declared.binding.BindFault.{BindFault}
use Rattle.compose_model.specs.Hierarchy.{block_from}
use Rattle.compose_blocks.specs.Plan.{UsesOf}
use Rattle.compose_blocks.specs.Structure.{gate_refused, has_feed, numbered, HasInstancesAlone, IsUnfed, NumberOf}
use Rattle.compose_blocks.specs.Uses.{IsBlockAt, UseOf}
use Rattle.compose_blocks.specs.declared.plan_fault.PlanFault.{PlanFault}
use Rattle.compose_blocks.specs.declared.plan_fault.PlanFault.TheVariants.{BlockBind, BlockLatch, BlockNet, FedInTop, OutOfMemory}
use Rattle.compose_blocks.proofs.BlockLemmas.{found_block}
use Rattle.reader_laws.specs.SoundModels.{AreSoundModels}
use Rattle.reader_laws.proofs.BindingExists.{some_binding}
use Rattle.reader_laws.proofs.FlatExists.{some_flat}
use Rattle.job_laws.specs.HasOutcome.{HasOutcome}
use Rattle.answer_laws.proofs.ListExists.{some_for_each}

-- ---- one block

module _ (design : List ModelValue) (blocks : List BlockValue) (item : Item) (number model : ℕ) (block : BlockValue) (at : IsBlockAt design blocks item number model block) where
  by_binding : (net : NetList) → Flattens design model (Ok net) → net.latches ≡ [] → (outcome : Result Binding BindFault) → BindingOf net block.words [] outcome → HasOutcome (UseOf design blocks item)
  by_binding net flat none (Ok binding) bound = (Ok (record { number = number; block = block; circuit = record { net = net; binding = binding } }), record { model = model; is_block = at; circuit = record { flat = flat; latches = none; bound = bound } })
  by_binding net flat none (Err fault) refused =
      (Err (BlockBind block.model), record { number = number; model = model; block = block; is_block = at; name_is = refl; refused = record { net = net; flat = flat; latches = none; fault = fault; refused = refused } })

  by_latches : (net : NetList) → Flattens design model (Ok net) → (latches : List LatchValue) → net.latches ≡ latches → HasOutcome (UseOf design blocks item)
  by_latches net flat [] none = let bound = some_binding net block.words [] in by_binding net flat none bound.0 bound.1
  by_latches net flat (l ∷ ls) some =
      (Err (BlockLatch block.model), record { number = number; model = model; block = block; is_block = at; name_is = refl; refused = record { net = net; flat = flat; some = λ none. omega (arith, ap length some, ap length none) } })

  by_flat : (outcome : Result NetList FlatFault) → Flattens design model outcome → HasOutcome (UseOf design blocks item)
  by_flat (Ok net) flat = by_latches net flat net.latches refl
  by_flat (Err fault) refused = (Err (BlockNet block.model), record { number = number; model = model; block = block; is_block = at; name_is = refl; refused = (fault, refused) })

module _ (design : List ModelValue) (signature : SignatureValue) (right : AreRight design (Ok tt)) (sound : AreSoundModels design) where
  some_use : (i : ℕ) (item : Item) → slice_get (instances_of design) i ≡ Some item → (number : ℕ) → block_from 0 signature.blocks (model_in item) ≡ Some number → HasOutcome (UseOf design signature.blocks item)
  some_use i item at number named =
      let block = found_block signature.blocks (model_in item) number named in
      let model = some_named design i item right at in
      let flat = some_flat design model.0 sound in
      by_flat design signature.blocks item number model.0 block.0 (record { named = named; found = block.1; model_is = model.1 }) flat.0 flat.1

  number_is : (model : Token) (found : Option ℕ) (number : ℕ) → ◌≡◌ {A = Result ℕ PlanFault} (Ok number) (numbered model found) → found ≡ Some number
  number_is model None number same = absurd (cc)
  number_is model (Some n) number same = cc

  each_use : (numbers : List ℕ) → AreValues (NumberOf signature.blocks) (instances_of design) numbers → (item : Item) → Has (instances_of design) item → HasOutcome (UseOf design signature.blocks item)
  each_use numbers are item has =
      let number = get_below numbers has.0 (let less = slice_get_within (instances_of design) has.0 item has.1 in let long = are.long in omega (arith, less, long)) in
      some_use has.0 item has.1 number.0 (number_is (model_in item) (block_from 0 signature.blocks (model_in item)) number.0 (are.each has.0 item number.0 has.1 number.1))

  pub some_uses : HasOutcome (UsesOf design signature)
  some_uses =
      let blocks = signature.blocks in
      let items = instances_of design in
      some_bind (IsUnfed signature) (λ unfed. HasInstancesAlone design >>= (λ alone. ForEach (NumberOf blocks) items >>= (λ numbers. ForEach (UseOf design blocks) items))) (some_returns (if has_feed signature then Err FedInTop else Ok tt)) (λ unfed is_unfed.
      some_bind (HasInstancesAlone design) (λ alone. ForEach (NumberOf blocks) items >>= (λ numbers. ForEach (UseOf design blocks) items)) (some_returns (gate_refused (gate_line design))) (λ alone are_alone.
      some_bind (ForEach (NumberOf blocks) items) (λ numbers. ForEach (UseOf design blocks) items) (some_for_each (NumberOf blocks) items (λ item has. some_returns (numbered (model_in item) (block_from 0 blocks (model_in item))))) (λ numbers are.
      some_for_each (UseOf design blocks) items (each_use numbers are))))

-- ---- it is never want of memory

unfed_kept : (b : Bool) → ◌≡◌ {A = Result (Unit {0}) PlanFault} (Err OutOfMemory) (if b then Err FedInTop else Ok tt) → ⊥
unfed_kept true same = absurd (cc)
unfed_kept false same = absurd (cc)

gate_kept : (line : Option ℕ) → ◌≡◌ {A = Result (Unit {0}) PlanFault} (Err OutOfMemory) (gate_refused line) → ⊥
gate_kept None same = absurd (cc)
gate_kept (Some line) same = absurd (cc)

number_kept : (model : Token) (found : Option ℕ) → ◌≡◌ {A = Result ℕ PlanFault} (Err OutOfMemory) (numbered model found) → ⊥
number_kept model None same = absurd (cc)
number_kept model (Some n) same = absurd (cc)

pub uses_kept : (design : List ModelValue) (signature : SignatureValue) → UsesOf design signature (Err OutOfMemory) → ⊥
uses_kept design signature (inl same) = unfed_kept (has_feed signature) same
uses_kept design signature (inr (unfed, is, inl same)) = gate_kept (gate_line design) same
uses_kept design signature (inr (unfed, is, inr (alone, are, inl first))) = number_kept (model_in first.element) (block_from 0 signature.blocks (model_in first.element)) first.is
uses_kept design signature (inr (unfed, is, inr (alone, are, inr (numbers, known, first)))) = first.is
