-- At most one list of blocks with their circuits, or one refusal, comes of a top.
use Rattle.std.proofs.Common.{◌≡◌, ◌≢◌, ◌∙◌, ap, sym, refl, subst, ℕ, List, [], Some, Ok, Err}
use Rattle.std.specs.Prelude.{slice_get}
use Rattle.outcome.proofs.DeterminedLemmas.{determined_bind}
use Rattle.outcome.proofs.ForEachDetermined.{for_each_determined}
use Rattle.outcome.specs.ForEach.{ForEach}
use Rattle.outcome.specs.Outcome.{Determined, ◌>>=◌}
use Rattle.net_core.specs.NetList.{NetList}
use Rattle.net_words.specs.Bind.{BindingOf}
use Rattle.net_words.specs.Binding.{Binding, BoundNet}
use Rattle.net_words.specs.declared.binding.BindFault.{BindFault}
use Rattle.net_words.specs.declared.word.WordText.{WordText}
use Rattle.net_words.proofs.BindDetermined.{binding_determined}
use Rattle.net_signature.specs.Body.{BlockValue}
use Rattle.net_signature.specs.Signature.{SignatureValue}
use Rattle.net_blif.specs.Design.{model_named, ModelValue}
use Rattle.net_blif.specs.Statement.{Token}
use Rattle.net_blif.specs.Top.{instances_of, model_in}
use Rattle.net_blif.specs.declared.item.Item.{Item}
use Rattle.net_flat.specs.Flat.{Flattens}
use Rattle.net_flat.specs.declared.flat_fault.FlatFault.{FlatFault}
use Rattle.net_flat.proofs.FlatDetermined.{flattens_once}
use Rattle.compose_model.specs.Hierarchy.{block_from}
use Rattle.compose_blocks.specs.Block.{IsBlockCircuit, IsBlockFault}
use Rattle.compose_blocks.specs.declared.block_fault.BlockFault.{BlockFault}
use Rattle.compose_blocks.specs.declared.block_fault.BlockFault.TheVariants.{NoNet, HasLatch, NotBound, OutOfMemory}
use Rattle.compose_blocks.specs.Plan.{UsesOf}
use Rattle.compose_blocks.specs.Structure.{HasInstancesAlone, IsUnfed, NumberOf}
use Rattle.compose_blocks.specs.Uses.{BlockUse, IsBlockAt, IsRefused, IsUse, UseOf}
use Rattle.compose_blocks.specs.private.Found.{refused_as}
use Rattle.compose_blocks.specs.declared.plan_fault.PlanFault.{PlanFault}
use Rattle.compose_blocks.specs.declared.plan_fault.PlanFault.TheVariants as plans

-- ---- the circuit of a model

module _ (design : List ModelValue) (model : ℕ) (words : List WordText) where
  same_net : (net other : NetList) → Flattens design model (Ok net) → Flattens design model (Ok other) → net ≡ other
  same_net net other a b = let both = flattens_once design model (Ok net) (Ok other) a b in cc

  net_or_fault : (net : NetList) (fault : FlatFault) → Flattens design model (Ok net) → Flattens design model (Err fault) → ⊥
  net_or_fault net fault a b = let both = flattens_once design model (Ok net) (Err fault) a b in absurd (cc)

  same_binding : (net : NetList) (binding other : Binding) → BindingOf net words [] (Ok binding) → BindingOf net words [] (Ok other) → binding ≡ other
  same_binding net binding other a b = let both = binding_determined net words [] (Ok binding) (Ok other) a b in cc

  binding_or_fault : (net : NetList) (binding : Binding) (fault : BindFault) → BindingOf net words [] (Ok binding) → BindingOf net words [] (Err fault) → ⊥
  binding_or_fault net binding fault a b = let both = binding_determined net words [] (Ok binding) (Err fault) a b in absurd (cc)

  one_circuit : (circuit other : BoundNet) → IsBlockCircuit design model words circuit → IsBlockCircuit design model words other → circuit ≡ other
  one_circuit circuit other a b =
      let net : other.net ≡ circuit.net = same_net other.net circuit.net b.flat a.flat in
      let P : NetList → Type 0 = λ n. BindingOf n words [] (Ok other.binding) in
      let bound : circuit.binding ≡ other.binding = same_binding circuit.net circuit.binding other.binding a.bound (subst P net b.bound) in
      let nets : circuit.net ≡ other.net = sym net in
      λ i. record { net = nets i; binding = bound i }

  -- a model with a circuit is not refused
  circuit_or_fault : (circuit : BoundNet) (reason : BlockFault) → IsBlockCircuit design model words circuit → IsBlockFault design model words reason → reason ≢ OutOfMemory → ⊥
  circuit_or_fault circuit NoNet is refused some = net_or_fault circuit.net refused.0 is.flat refused.1
  circuit_or_fault circuit HasLatch is refused some = refused.some (ap (λ (n : NetList). n.latches) (same_net refused.net circuit.net refused.flat is.flat) ∙ is.latches)
  circuit_or_fault circuit NotBound is refused some =
      let P : NetList → Type 0 = λ n. BindingOf n words [] (Err refused.fault) in
      binding_or_fault circuit.net circuit.binding refused.fault is.bound (subst P (same_net refused.net circuit.net refused.flat is.flat) refused.refused)
  circuit_or_fault circuit OutOfMemory is refused some = some refl

  one_reason : (a b : BlockFault) → IsBlockFault design model words a → IsBlockFault design model words b → a ≢ OutOfMemory → b ≢ OutOfMemory → a ≡ b
  one_reason NoNet NoNet a b some other = refl
  one_reason NoNet HasLatch a b some other = absurd (net_or_fault b.net a.0 b.flat a.1)
  one_reason NoNet NotBound a b some other = absurd (net_or_fault b.net a.0 b.flat a.1)
  one_reason HasLatch NoNet a b some other = absurd (net_or_fault a.net b.0 a.flat b.1)
  one_reason HasLatch HasLatch a b some other = refl
  one_reason HasLatch NotBound a b some other = absurd (a.some (ap (λ (n : NetList). n.latches) (same_net a.net b.net a.flat b.flat) ∙ b.latches))
  one_reason NotBound NoNet a b some other = absurd (net_or_fault a.net b.0 a.flat b.1)
  one_reason NotBound HasLatch a b some other = absurd (b.some (ap (λ (n : NetList). n.latches) (same_net b.net a.net b.flat a.flat) ∙ a.latches))
  one_reason NotBound NotBound a b some other = refl
  one_reason OutOfMemory b is_a is_b some other = absurd (some refl)
  one_reason NoNet OutOfMemory a b some other = absurd (other refl)
  one_reason HasLatch OutOfMemory a b some other = absurd (other refl)
  one_reason NotBound OutOfMemory a b some other = absurd (other refl)

-- ---- the block of an instance

module _ (design : List ModelValue) (blocks : List BlockValue) (item : Item) where
  same_block : (n m : ℕ) (block : BlockValue) (n' m' : ℕ) (block' : BlockValue) → IsBlockAt design blocks item n m block → IsBlockAt design blocks item n' m' block' → (n ≡ n') × (m ≡ m') × (block ≡ block')
  same_block n m block n' m' block' a b =
      let named_a : block_from 0 blocks (model_in item) ≡ Some n = a.named in
      let named_b : block_from 0 blocks (model_in item) ≡ Some n' = b.named in
      let number : n ≡ n' = cc in
      let model_a : model_named design (model_in item) ≡ Some m = a.model_is in
      let model_b : model_named design (model_in item) ≡ Some m' = b.model_is in
      let model : m ≡ m' = cc in
      let P : ℕ → Type 0 = λ i. slice_get blocks i ≡ Some block in
      let found_a : slice_get blocks n' ≡ Some block = subst P number a.found in
      let found_b : slice_get blocks n' ≡ Some block' = b.found in
      let one_block : block ≡ block' = cc in
      (number, model, one_block)

  one_use : (a b : BlockUse) → IsUse design blocks item a → IsUse design blocks item b → a ≡ b
  one_use a b x y =
      let same = same_block a.number x.model a.block b.number y.model b.block x.is_block y.is_block in
      let P : ℕ → Type 0 = λ m. IsBlockCircuit design m a.block.words a.circuit in
      let Q : BlockValue → Type 0 = λ v. IsBlockCircuit design y.model v.words a.circuit in
      let number : a.number ≡ b.number = same.0 in
      let block : a.block ≡ b.block = same.2 in
      let circuit : a.circuit ≡ b.circuit = one_circuit design y.model b.block.words a.circuit b.circuit (subst Q same.2 (subst P same.1 x.circuit)) y.circuit in
      λ i. record { number = number i; block = block i; circuit = circuit i }

  -- a refusal by its reason and its name
  record IsReason (fault : PlanFault) : Type 0 where
    reason : BlockFault
    name : Token
    is : IsRefused design blocks item reason name
    some : reason ≢ OutOfMemory
    fault_is : fault ≡ refused_as reason name

  reason_of : (fault : PlanFault) → UseOf design blocks item (Err fault) → IsReason fault
  reason_of (plans.BlockNet name) is = record { reason = NoNet; name = name; is = is; some = λ e. cc; fault_is = refl }
  reason_of (plans.BlockLatch name) is = record { reason = HasLatch; name = name; is = is; some = λ e. cc; fault_is = refl }
  reason_of (plans.BlockBind name) is = record { reason = NotBound; name = name; is = is; some = λ e. cc; fault_is = refl }
  reason_of fault is = absurd is

  -- the reason is one of the block at this model
  module _ (n m : ℕ) (block : BlockValue) (at : IsBlockAt design blocks item n m block) (reason : BlockFault) (name : Token) (is : IsRefused design blocks item reason name) where
    reason_at : IsBlockFault design m block.words reason
    reason_at =
        let same = same_block is.number is.model is.block n m block is.is_block at in
        let P : ℕ → Type 0 = λ i. IsBlockFault design i is.block.words reason in
        let Q : BlockValue → Type 0 = λ v. IsBlockFault design m v.words reason in
        subst Q same.2 (subst P same.1 is.refused)

    name_at : name ≡ block.model
    name_at = is.name_is ∙ ap (λ (v : BlockValue). v.model) (same_block is.number is.model is.block n m block is.is_block at).2

  use_or_fault : (a : BlockUse) (fault : PlanFault) → IsUse design blocks item a → UseOf design blocks item (Err fault) → ⊥
  use_or_fault a fault x y =
      let b = reason_of fault y in
      circuit_or_fault design x.model a.block.words a.circuit b.reason x.circuit (reason_at a.number x.model a.block x.is_block b.reason b.name b.is) b.some

  one_fault : (f g : PlanFault) → UseOf design blocks item (Err f) → UseOf design blocks item (Err g) → f ≡ g
  one_fault f g x y =
      let a = reason_of f x in
      let b = reason_of g y in
      let reason : a.reason ≡ b.reason = one_reason design b.is.model b.is.block.words a.reason b.reason (reason_at b.is.number b.is.model b.is.block b.is.is_block a.reason a.name a.is) b.is.refused a.some b.some in
      let name : a.name ≡ b.name = name_at b.is.number b.is.model b.is.block b.is.is_block a.reason a.name a.is ∙ sym b.is.name_is in
      a.fault_is ∙ (λ i. refused_as (reason i) (name i)) ∙ sym b.fault_is

  use_determined : Determined (UseOf design blocks item)
  use_determined (Ok a) (Ok b) x y = ap Ok (one_use a b x y)
  use_determined (Ok a) (Err fault) x y = absurd (use_or_fault a fault x y)
  use_determined (Err fault) (Ok a) x y = absurd (use_or_fault a fault y x)
  use_determined (Err f) (Err g) x y = ap Err (one_fault f g x y)

-- ---- the whole

module _ (design : List ModelValue) (signature : SignatureValue) where
  unfed_determined : Determined (IsUnfed signature)
  unfed_determined x y a b = a ∙ sym b

  alone_determined : Determined (HasInstancesAlone design)
  alone_determined x y a b = a ∙ sym b

  number_determined : (item : Item) → Determined (NumberOf signature.blocks item)
  number_determined item x y a b = a ∙ sym b

  pub plan_determined : Determined (UsesOf design signature)
  plan_determined =
      determined_bind (IsUnfed signature) (λ unfed. HasInstancesAlone design >>= (λ alone. ForEach (NumberOf signature.blocks) (instances_of design) >>= (λ numbers. ForEach (UseOf design signature.blocks) (instances_of design)))) unfed_determined (λ unfed.
      determined_bind (HasInstancesAlone design) (λ alone. ForEach (NumberOf signature.blocks) (instances_of design) >>= (λ numbers. ForEach (UseOf design signature.blocks) (instances_of design))) alone_determined (λ alone.
      determined_bind (ForEach (NumberOf signature.blocks) (instances_of design)) (λ numbers. ForEach (UseOf design signature.blocks) (instances_of design)) (for_each_determined (NumberOf signature.blocks) (instances_of design) number_determined) (λ numbers.
      for_each_determined (UseOf design signature.blocks) (instances_of design) (use_determined design signature.blocks))))
