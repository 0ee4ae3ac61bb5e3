-- What comes of a model, from the walk over tables.
use Rattle.std.proofs.Common.{◌≡◌, ◌⊎◌, ◌∙◌, inl, inr, ap, sym, refl, subst, ℕ, List, [], Result, Ok, Err}
use Rattle.net_core.specs.NetList.{NetList}
use Rattle.net_core.specs.Finish.{Finishes}
use Rattle.net_core.specs.declared.fault.NetFault.{NetFault}
use Rattle.net_core.proofs.SettleLemmas.{settles}
use Rattle.net_blif.specs.Design.{ModelValue}
use Rattle.net_flat.specs.Walk.{walk_of}
use Rattle.net_flat.specs.Flat.{net_list, nothing, walked, Flat, Flattens}
use Rattle.net_flat.specs.private.LocalWalk.{IsFaultOf, IsWalked, State}
use Rattle.net_flat.specs.private.WholeWalk.{local_walk}
use Rattle.net_flat.specs.private.Stopping.{IsFaultBy}
use Rattle.net_flat.specs.declared.flat_fault.FlatFault.{FlatFault}
use Rattle.net_flat.specs.declared.flat_fault.FlatFault.TheVariants.{OutOfMemory}
use Rattle.net_flat.proofs.SameLemmas.{walk_same, Same}

flat_made : (a : Result Flat FlatFault) (b : Result State FlatFault) (net : NetList) → Same [] nothing a b → IsWalked b net → (flat : Flat) × (a ≡ Ok flat) × (net_list flat ≡ net)
flat_made (Ok flat) (Ok state) net (same, instances, grows) (s, is, made) =
    let equal : state ≡ s = cc in (flat, refl, same ∙ (ap (λ (x : State). x.net) equal ∙ made))
flat_made (Err e) (Ok state) net same walk = absurd same
flat_made (Ok flat) (Err f) net same walk = absurd same
flat_made (Err e) (Err f) net same (s, is, made) = absurd (cc)

flat_refused : (a : Result Flat FlatFault) (b : Result State FlatFault) (fault : FlatFault) → Same [] nothing a b → b ≡ Err fault → a ≡ Err fault
flat_refused (Err e) (Err f) fault same is = ap Err same ∙ is_fault f fault is
  where
    is_fault : (f fault : FlatFault) → ◌≡◌ {A = Result State FlatFault} (Err f) (Err fault) → ◌≡◌ {A = Result Flat FlatFault} (Err f) (Err fault)
    is_fault f fault e = let same : f ≡ fault = cc in ap Err same
flat_refused (Ok flat) (Ok state) fault same is = absurd (cc)
flat_refused (Ok flat) (Err f) fault same is = absurd same
flat_refused (Err e) (Ok state) fault same is = absurd same

pub flattens : (design : List ModelValue) (model : ℕ) (net made : NetList) → IsWalked (local_walk design model) net → Finishes net (Ok made) → Flattens design model (Ok made)
flattens design model net made walk finished =
    let flat = flat_made (walked nothing (walk_of design model)) (local_walk design model) net (walk_same design model) walk in
    let P : NetList → Type 0 = λ n. Finishes n (Ok made) in
    (flat.0, sym flat.1, subst P (sym flat.2) finished)

-- what comes of a net list that is not sound
pub unsound : (design : List ModelValue) (model : ℕ) (net : NetList) (refusal : NetFault) (fault : FlatFault) → IsWalked (local_walk design model) net → Finishes net (Err refusal) → IsFaultBy refusal fault → (fault ≡ OutOfMemory) ⊎ Flattens design model (Err fault)
unsound design model net refusal fault walk finished (inl (wanting, is)) = inl is
unsound design model net refusal fault walk finished (inr (other, is)) =
    let flat = flat_made (walked nothing (walk_of design model)) (local_walk design model) net (walk_same design model) walk in
    let P : NetList → Type 0 = λ n. Finishes n (Err refusal) in
    inr (inr (flat.0, sym flat.1, (refusal, settles (net_list flat.0) refusal other (subst P (sym flat.2) finished), is)))

-- what comes of a walk that passes a limit
pub refused_walk : (design : List ModelValue) (model : ℕ) (fault : FlatFault) → IsFaultOf (local_walk design model) fault → (fault ≡ OutOfMemory) ⊎ Flattens design model (Err fault)
refused_walk design model fault (inl is) = inl is
refused_walk design model fault (inr refused) = inr (inl (sym (flat_refused (walked nothing (walk_of design model)) (local_walk design model) fault (walk_same design model) refused)))
