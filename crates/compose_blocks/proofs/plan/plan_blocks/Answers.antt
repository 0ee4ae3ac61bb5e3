use Rattle.std.proofs.Common.{◌≡◌, ◌∙◌, ap, sym, subst, ℕ, List, map, Some}
use Rattle.std.specs.Prelude.{slice_get}
use Rattle.outcome.specs.ForEach.{ForEach}
use Rattle.net_signature.specs.Body.{BlockValue}
use Rattle.net_blif.specs.Top.{instances_of}
use Rattle.compose_blocks.specs.Planned.{CanAllBind, MayFault}
use Rattle.compose_blocks.specs.Uses.{UseOf}
use Rattle.compose_blocks.specs.declared.uses.Found.{Found}
use Rattle.compose_blocks.specs.private.Found.{AreCircuits, AreFound, HasCircuit}
use Rattle.compose_blocks.proofs.CircuitLemmas.{planned, use_refused_first}
use Rattle.compose_blocks.proofs.plan.plan_blocks.Goals as goal

pub circuits_of-requires-clause-words : goal.circuits_of-requires-clause-words
circuits_of-requires-clause-words c = let P : List BlockValue → Type 0 = CanAllBind c.requires.0 in (c.requires.0, subst P (sym c.blocks-blocks.ensures) c.requires.1)

pub returns-in-Err-circuits_of-clause-fault : goal.returns-in-Err-circuits_of-clause-fault
returns-in-Err-circuits_of-clause-fault c =
    let P : List BlockValue → Type 0 = λ blocks. AreFound c.args.design.now blocks (instances_of c.args.design.now) c.in-Ok-found_in.list.items in
    let Q : List BlockValue → Type 0 = λ blocks. MayFault (ForEach (UseOf c.args.design.now blocks) (instances_of c.args.design.now)) c.in-Err-circuits_of.fault in
    use_refused_first c.args.design.now c.args.signature.now c.in-Ok-found_in.list.items c.in-Err-circuits_of.fault c.in-Ok.ensures.unfed c.in-Ok-check_gates.ensures.alone (subst P c.blocks-blocks.ensures c.in-Ok-found_in.ensures.found) (subst Q c.blocks-blocks.ensures c.in-Err-circuits_of.ensures.fault)

pub returns-clause-planned : goal.returns-clause-planned
returns-clause-planned c =
    let list : List Found = c.in-Ok-found_in.list.items in
    let P : List BlockValue → Type 0 = λ blocks. AreFound c.args.design.now blocks (instances_of c.args.design.now) list in
    let Q : List BlockValue → Type 0 = λ blocks. AreCircuits c.args.design.now blocks c.in-Ok-circuits_of.circuits.items in
    let R : List Found → Type 0 = λ fs. (i : ℕ) (found : Found) → slice_get fs i ≡ Some found → HasCircuit c.in-Ok-circuits_of.circuits.items found.block in
    planned c.args.design.now c.args.signature.now list c.in-Ok-circuits_of.circuits.items c.in-Ok-numbers_in.numbers.items c.in-Ok.ensures.unfed c.in-Ok-check_gates.ensures.alone (subst P c.blocks-blocks.ensures c.in-Ok-found_in.ensures.found) (subst Q c.blocks-blocks.ensures c.in-Ok-circuits_of.ensures.circuits) (subst R c.deref.ensures.value c.in-Ok-circuits_of.ensures.all) (c.in-Ok-numbers_in.ensures ∙ ap (λ (fs : List Found). map (λ (f : Found). f.block) fs) c.deref-2.ensures.value)

pub returns-clause-right : goal.returns-clause-right
returns-clause-right c = c.in-Ok-found_in.ensures.right

pub returns-clause-few : goal.returns-clause-few
returns-clause-few c = c.in-Ok-found_in.ensures.few
