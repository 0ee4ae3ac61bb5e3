-- The circuits of the blocks that instances use.
use Rattle.std.proofs.Common.{◌≡◌, ◌≢◌, ◌⊎◌, ◌∙◌, ap, sym, refl, subst, inl, inr, ℕ, zero, suc, ◌<◌, ◌+◌, List, [], ◌∷◌, length, map, Option, None, Some, Ok, Err, arith}
use Rattle.std.specs.Prelude.{slice_get}
use Rattle.std.proofs.Math.ListN.{set}
use Rattle.std.proofs.lemmas.List.{length-set}
use Rattle.std.proofs.lemmas.Option.{slice_get_within}
use Rattle.lists.specs.laws.NumberLaws.{nat_eq_or}
use Rattle.lists.specs.laws.ReadLaws.{get_set_other, got_set}
use Rattle.outcome.specs.ForEach.{ForEach, IsFirstFault}
use Rattle.net_words.specs.Binding.{BoundNet}
use Rattle.net_signature.specs.Body.{BlockValue}
use Rattle.net_signature.specs.Signature.{SignatureValue}
use Rattle.net_blif.specs.Design.{model_named, ModelValue}
use Rattle.net_blif.specs.Top.{instances_of, model_in}
use Rattle.net_blif.specs.declared.item.Item.{Item}
use Rattle.compose_blocks.specs.Block.{IsBlockCircuit, IsBlockFault}
use Rattle.compose_blocks.specs.declared.block_fault.BlockFault.{BlockFault}
use Rattle.compose_blocks.specs.declared.block_fault.BlockFault.TheVariants.{NoNet, HasLatch, NotBound}
use Rattle.compose_blocks.specs.declared.block_fault.BlockFault.TheVariants as blocks_
use Rattle.compose_blocks.specs.Plan.{UsesOf}
use Rattle.compose_blocks.specs.Planned.{refusal, AreKept, IsPlanned, MayFault}
use Rattle.compose_blocks.specs.Structure.{HasInstancesAlone, IsUnfed, NumberOf}
use Rattle.compose_blocks.specs.Uses.{BlockUse, IsBlockAt, IsUse, UseOf}
use Rattle.compose_blocks.specs.declared.plan_fault.PlanFault.{PlanFault}
use Rattle.compose_blocks.specs.declared.plan_fault.PlanFault.TheVariants.{OutOfMemory}
use Rattle.compose_blocks.specs.declared.uses.Found.{Found}
use Rattle.compose_blocks.specs.private.Found.{refused_as, AreCircuits, AreFound, HasCircuit, IsFound, IsRefusedBlock, KeepsCircuits}
use Rattle.compose_blocks.proofs.BlockLemmas.{found_block}
use Rattle.compose_blocks.proofs.FoundLemmas.{at_found, found_at, found_long, number_is}
use Rattle.compose_blocks.proofs.ListLemmas.{chosen, lifted}

-- the numbers of all blocks
pub numbers_found : (design : List ModelValue) (blocks : List BlockValue) (list : List Found) → AreFound design blocks (instances_of design) list → (numbers : List ℕ) × ForEach (NumberOf blocks) (instances_of design) (Ok numbers)
numbers_found design blocks list found =
    let numbers = chosen (instances_of design) IsNumber some in
    (numbers.0, record { long = numbers.1; each = λ i item number at got. is_number i item number at (numbers.2 i number got) })
  where
    IsNumber : ℕ → ℕ → Type 0
    IsNumber i number = (item : Item) × (slice_get (instances_of design) i ≡ Some item) × NumberOf blocks item (Ok number)

    some : (i : ℕ) (item : Item) → slice_get (instances_of design) i ≡ Some item → (number : ℕ) × IsNumber i number
    some i item at = let f = found_at design blocks (instances_of design) list i item found at in (f.0.block, (item, at, number_is design blocks item f.0 f.2))

    is_number : (i : ℕ) (item : Item) (number : ℕ) → slice_get (instances_of design) i ≡ Some item → IsNumber i number → NumberOf blocks item (Ok number)
    is_number i item number at kept =
        let there : slice_get (instances_of design) i ≡ Some kept.0 = kept.1 in
        let same : kept.0 ≡ item = cc in
        let P : Item → Type 0 = λ it. NumberOf blocks it (Ok number) in
        subst P same kept.2

-- what is known of an instance whose block is found
pub block_of_found : (design : List ModelValue) (blocks : List BlockValue) (item : Item) (found : Found) → IsFound design blocks item found → (block : BlockValue) → slice_get blocks found.block ≡ Some block → model_named design block.model ≡ Some found.model
block_of_found design blocks item found is block at =
    let named = found_block blocks (model_in item) found.block is.is.named in
    let read : slice_get blocks found.block ≡ Some named.0 = named.1 in
    let same : named.0 ≡ block = cc in
    sym (ap (λ (b : BlockValue). model_named design b.model) same) ∙ sym (ap (model_named design) named.2) ∙ is.is.model_is

module _ (design : List ModelValue) (blocks : List BlockValue) where
  -- one circuit more
  pub circuit_more : (circuits : List (Option BoundNet)) (number model : ℕ) (block : BlockValue) (circuit : BoundNet) → AreCircuits design blocks circuits → slice_get blocks number ≡ Some block → model_named design block.model ≡ Some model → IsBlockCircuit design model block.words circuit → AreCircuits design blocks (set circuits number (Some circuit))
  circuit_more circuits number model block circuit are at named is =
      record {
        long = length-set circuits number (Some circuit) ∙ are.long;
        each = λ n other b got found. by n other b found (got_set circuits number (Some circuit) n (Some other) got);
      }
    where
      by : (n : ℕ) (other : BoundNet) (b : BlockValue) → slice_get blocks n ≡ Some b → ((n ≡ number) × (Some other ≡ Some circuit)) ⊎ ((n ≢ number) × (slice_get circuits n ≡ Some (Some other))) → (m : ℕ) × (model_named design b.model ≡ Some m) × IsBlockCircuit design m b.words other
      by n other b found (inr old) = are.each n other b old.1 found
      by n other b found (inl new) =
          let P : ℕ → Type 0 = λ m. slice_get blocks m ≡ Some b in
          let here : slice_get blocks number ≡ Some b = subst P new.0 found in
          let same : block ≡ b = cc in
          let circuits_same : circuit ≡ other = cc in
          let Q : BlockValue → Type 0 = λ v. (m : ℕ) × (model_named design v.model ≡ Some m) × IsBlockCircuit design m v.words other in
          let R : BoundNet → Type 0 = λ c. (m : ℕ) × (model_named design block.model ≡ Some m) × IsBlockCircuit design m block.words c in
          subst Q same (subst R circuits_same (model, named, is))

  pub keeps_more : (circuits : List (Option BoundNet)) (number : ℕ) (circuit : BoundNet) → slice_get circuits number ≡ Some None → KeepsCircuits circuits (set circuits number (Some circuit))
  keeps_more circuits number circuit none n other got = get_set_other circuits number (Some circuit) n (Some other) differs got
    where
      differs : n ≡ number → ⊥
      differs same =
          let P : ℕ → Type 0 = λ m. slice_get circuits m ≡ Some (Some other) in
          let here : slice_get circuits number ≡ Some (Some other) = subst P same got in
          let both : None ≡ Some other = cc in
          absurd (cc)

  -- a refusal of a block as one of an instance
  pub use_refused : (item : Item) (found : Found) (block : BlockValue) (fault : PlanFault) → IsFound design blocks item found → slice_get blocks found.block ≡ Some block → IsRefusedBlock design block found.model fault → MayFault (UseOf design blocks item) fault
  use_refused item found block fault is at refused = by refused.is
    where
      place : IsBlockAt design blocks item found.block found.model block
      place = record { named = is.is.named; found = at; model_is = is.is.model_is }

      as_reason : (reason : BlockFault) → IsBlockFault design found.model block.words reason → MayFault (UseOf design blocks item) (refused_as reason block.model)
      as_reason NoNet why = record { number = found.block; model = found.model; block = block; is_block = place; name_is = refl; refused = why }
      as_reason HasLatch why = record { number = found.block; model = found.model; block = block; is_block = place; name_is = refl; refused = why }
      as_reason NotBound why = record { number = found.block; model = found.model; block = block; is_block = place; name_is = refl; refused = why }
      as_reason blocks_.OutOfMemory why = tt

      by : (fault ≡ OutOfMemory) ⊎ (fault ≡ refused_as refused.reason block.model) → MayFault (UseOf design blocks item) fault
      by (inl none) = let P : PlanFault → Type 0 = MayFault (UseOf design blocks item) in subst P (sym none) tt
      by (inr same) = let P : PlanFault → Type 0 = MayFault (UseOf design blocks item) in subst P (sym same) (as_reason refused.reason refused.refused)

  module _ (list : List Found) (found : AreFound design blocks (instances_of design) list) (circuits : List (Option BoundNet)) (are : AreCircuits design blocks circuits) where
    -- an instance's block that has a circuit
    pub use_at : (item : Item) (f : Found) (circuit : BoundNet) → IsFound design blocks item f → slice_get circuits f.block ≡ Some (Some circuit) → (one_use : BlockUse) × IsUse design blocks item one_use × (one_use.number ≡ f.block) × (one_use.circuit ≡ circuit)
    use_at item f circuit is got =
        let named = found_block blocks (model_in item) f.block is.is.named in
        let made = are.each f.block circuit named.0 got named.1 in
        let place : IsBlockAt design blocks item f.block made.0 named.0 = record { named = is.is.named; found = named.1; model_is = ap (model_named design) named.2 ∙ made.1 } in
        (record { number = f.block; block = named.0; circuit = circuit }, record { model = made.0; is_block = place; circuit = made.2 }, refl, refl)

    -- the first block that has none
    pub first_refused : (i : ℕ) (f : Found) (block : BlockValue) (fault : PlanFault) → slice_get list i ≡ Some f → ((j : ℕ) (g : Found) → j < i → slice_get list j ≡ Some g → HasCircuit circuits g.block) → slice_get blocks f.block ≡ Some block → IsRefusedBlock design block f.model fault → MayFault (ForEach (UseOf design blocks) (instances_of design)) fault
    first_refused i f block fault got done at refused =
        let here = at_found design blocks (instances_of design) list i f found got in
        lifted (UseOf design blocks here.0) (ForEach (UseOf design blocks) (instances_of design)) (first here.0 here.1) (refusal fault) (use_refused here.0 f block fault here.2 at refused)
      where
        before : (j : ℕ) (y : Item) → j < i → slice_get (instances_of design) j ≡ Some y → (one_use : BlockUse) × UseOf design blocks y (Ok one_use)
        before j y less there =
            let g = found_at design blocks (instances_of design) list j y found there in
            let has = done j g.0 less g.1 in
            let one_use = use_at y g.0 has.0 g.2 has.1 in
            (one_use.0, one_use.1)

        first : (item : Item) → slice_get (instances_of design) i ≡ Some item → (e : PlanFault) → UseOf design blocks item (Err e) → IsFirstFault (UseOf design blocks) (instances_of design) e
        first item there e why = record { place = i; element = item; at = there; is = why; before = before }

    -- the block of instance i, with its circuit, as it is kept
    record IsKept (i : ℕ) (one_use : BlockUse) : Type 0 where
      item : Item
      at : slice_get (instances_of design) i ≡ Some item
      is : IsUse design blocks item one_use
      number : slice_get (map (λ (f : Found). f.block) list) i ≡ Some one_use.number
      circuit : slice_get circuits one_use.number ≡ Some (Some one_use.circuit)

    mapped_at : (fs : List Found) (i : ℕ) (f : Found) → slice_get fs i ≡ Some f → slice_get (map (λ (g : Found). g.block) fs) i ≡ Some f.block
    mapped_at [] i f got = absurd (cc)
    mapped_at (g ∷ fs) zero f got = let same : g ≡ f = cc in ap (λ (h : Found). Some h.block) same
    mapped_at (g ∷ fs) (suc i) f got = mapped_at fs i f got

    mapped_long : (fs : List Found) → length (map (λ (g : Found). g.block) fs) ≡ length fs
    mapped_long [] = refl
    mapped_long (g ∷ fs) = ap suc (mapped_long fs)

    -- all blocks have circuits
    pub all_kept : ((i : ℕ) (f : Found) → slice_get list i ≡ Some f → HasCircuit circuits f.block) → (uses : List BlockUse) × ForEach (UseOf design blocks) (instances_of design) (Ok uses) × AreKept uses (map (λ (f : Found). f.block) list) circuits
    all_kept has =
        let uses = chosen (instances_of design) IsKept some in (
          uses.0,
          record { long = uses.1; each = λ i item one_use at got. is_use i item one_use at (uses.2 i one_use got) },
          record {
            long = mapped_long list ∙ found_long design blocks (instances_of design) list found ∙ sym uses.1;
            number = λ i one_use got. (uses.2 i one_use got).number;
            circuit = λ i one_use got. (uses.2 i one_use got).circuit;
          },
        )
      where
        some : (i : ℕ) (item : Item) → slice_get (instances_of design) i ≡ Some item → (one_use : BlockUse) × IsKept i one_use
        some i item at =
            let f = found_at design blocks (instances_of design) list i item found at in
            let circuit = has i f.0 f.1 in
            let one_use = use_at item f.0 circuit.0 f.2 circuit.1 in
            let P : ℕ → Type 0 = λ n. slice_get circuits n ≡ Some (Some circuit.0) in (
              one_use.0,
              record {
                item = item;
                at = at;
                is = one_use.1;
                number = mapped_at list i f.0 f.1 ∙ ap Some (sym one_use.2);
                circuit = subst P (sym one_use.2) circuit.1 ∙ ap (λ c. Some (Some c)) (sym one_use.3);
              },
            )

        is_use : (i : ℕ) (item : Item) (one_use : BlockUse) → slice_get (instances_of design) i ≡ Some item → IsKept i one_use → IsUse design blocks item one_use
        is_use i item one_use at kept =
            let there : slice_get (instances_of design) i ≡ Some kept.item = kept.at in
            let same : kept.item ≡ item = cc in
            let P : Item → Type 0 = λ it. IsUse design blocks it one_use in
            subst P same kept.is

-- what is found stands for a block
pub found_within : (design : List ModelValue) (blocks : List BlockValue) (list : List Found) (i : ℕ) (f : Found) → AreFound design blocks (instances_of design) list → slice_get list i ≡ Some f → f.block < length blocks
found_within design blocks list i f found got =
    let here = at_found design blocks (instances_of design) list i f found got in
    slice_get_within blocks f.block here.2.block here.2.is.found

pub found_model : (design : List ModelValue) (blocks : List BlockValue) (list : List Found) (i : ℕ) (f : Found) → AreFound design blocks (instances_of design) list → slice_get list i ≡ Some f → (block : BlockValue) → slice_get blocks f.block ≡ Some block → model_named design block.model ≡ Some f.model
found_model design blocks list i f found got block at =
    let here = at_found design blocks (instances_of design) list i f found got in
    block_of_found design blocks here.0 f here.2 block at

-- the blocks of the instances so far, and the next one
pub done_more : (list : List Found) (i : ℕ) (f : Found) (old new : List (Option BoundNet)) → slice_get list i ≡ Some f → KeepsCircuits old new → ((j : ℕ) (g : Found) → j < i → slice_get list j ≡ Some g → HasCircuit old g.block) → HasCircuit new f.block → (j : ℕ) (g : Found) → j < i + 1 → slice_get list j ≡ Some g → HasCircuit new g.block
done_more list i f old new at keeps done has j g less got = elim (nat_eq_or j i) [ inl same ↦ here same | inr other ↦ earlier other ]
  where
    here : j ≡ i → HasCircuit new g.block
    here same =
        let P : ℕ → Type 0 = λ n. slice_get list n ≡ Some g in
        let own : slice_get list i ≡ Some g = subst P same got in
        let equal : f ≡ g = cc in
        let Q : Found → Type 0 = λ h. HasCircuit new h.block in
        subst Q equal has

    earlier : j ≢ i → HasCircuit new g.block
    earlier other = let was = done j g (omega (arith, less, other)) got in (was.0, keeps g.block was.0 was.1)

-- the plan of a top, from its steps
pub planned : (design : List ModelValue) (signature : SignatureValue) (list : List Found) (circuits : List (Option BoundNet)) (numbers : List ℕ) → IsUnfed signature (Ok tt) → HasInstancesAlone design (Ok tt) → AreFound design signature.blocks (instances_of design) list → AreCircuits design signature.blocks circuits
    → ((i : ℕ) (f : Found) → slice_get list i ≡ Some f → HasCircuit circuits f.block) → numbers ≡ map (λ (f : Found). f.block) list → IsPlanned design signature numbers circuits
planned design signature list circuits numbers unfed alone found are has is =
    let kept = all_kept design signature.blocks list found circuits are has in
    let P : List ℕ → Type 0 = λ ns. AreKept kept.0 ns circuits in
    let steps = numbers_found design signature.blocks list found in
    record { uses = kept.0; are = (tt, unfed, (tt, alone, (steps.0, steps.1, kept.1))); kept = subst P (sym is) kept.2 }

-- a refusal of a step is one of the whole
module _ (design : List ModelValue) (signature : SignatureValue) where
  pub use_refused_first : (list : List Found) (fault : PlanFault) → IsUnfed signature (Ok tt) → HasInstancesAlone design (Ok tt) → AreFound design signature.blocks (instances_of design) list → MayFault (ForEach (UseOf design signature.blocks) (instances_of design)) fault → MayFault (UsesOf design signature) fault
  use_refused_first list fault unfed alone found may =
      let steps = numbers_found design signature.blocks list found in
      lifted (ForEach (UseOf design signature.blocks) (instances_of design)) (UsesOf design signature) (λ e last. inr (tt, unfed, inr (tt, alone, inr (steps.0, steps.1, last)))) (refusal fault) may
