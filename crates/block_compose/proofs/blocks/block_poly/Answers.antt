use Rattle.std.proofs.Common.{◌≡◌, ◌⊎◌, ◌∙◌, ◌<◌, ap, sym, subst, ℕ, List, Some, map, arith}
use Rattle.std.specs.Prelude.{slice_get}
use Rattle.net_words.specs.Binding.{BoundNet}
use Rattle.net_signature.specs.Body.{BlockValue}
use Rattle.net_blif.specs.Statement.{Token}
use Rattle.gf_basis.specs.declared.bases.Basis.{Basis}
use Rattle.circuit_model.specs.Bases.{circuit_in}
use Rattle.stage_model.specs.Listing.{AreAllWithin}
use Rattle.stage_model.specs.OutputInWords.{IsOutputInWords}
use Rattle.abstraction.specs.Stages.{stages_in, IsFirstRefusal}
use Rattle.block_compose.specs.declared.fault.ComposeFault.TheVariants.{OutOfMemory}
use Rattle.block_compose.specs.private.Blocks.{block_fault_of}
use Rattle.block_compose.proofs.BlockLemmas.{same_block, same_list, stage_refused}
use Rattle.block_compose.proofs.blocks.block_poly.Goals as goal

pub returns-in-Err-clause-fault : goal.returns-in-Err-clause-fault
returns-in-Err-clause-fault g c =
    let k : ℕ = g.F.Ring.degree c.args.field.now in
    let mul : ℕ → ℕ → ℕ = g.F.Ring.product c.args.field.now in
    let bases : List (List Basis) = map (λ list. list.items) c.args.bases.now in
    let net : BoundNet = c.requires.kept.0 in
    let list : List Basis = c.requires.kept.1 in
    let kept = c.requires.kept.2 in
    let own : slice_get c.args.circuits.now c.args.number ≡ Some (Some net) = kept.at in
    let read : slice_get c.args.circuits.now c.args.number ≡ Some (Some c.circuit_at-circuit.result.now) = c.circuit_at-circuit.ensures in
    let nets : c.circuit_at-circuit.result.now ≡ net = cc in
    let lists : c.deref.result.now ≡ list = c.deref.ensures.value ∙ sym (same_list c.args.bases.now _ list c.index-bases-place.result kept.bases_at c.index-bases-place.is) in
    let P : BoundNet → Type 0 = λ n. IsFirstRefusal k mul (stages_in k mul n c.deref.result.now) c.args.bound c.in-Err.fault in
    let Q : List Basis → Type 0 = λ l. IsFirstRefusal k mul (stages_in k mul net l) c.args.bound c.in-Err.fault in
    let is = subst Q lists (subst P nets c.in-Err.ensures.fault) in
    let named : c.model.result.now ≡ kept.block.model = c.model.ensures ∙ sym (ap (λ (b : BlockValue). b.model) (same_block c.args.blocks.now c.args.number kept.block c.index-blocks-place.result kept.found c.index-blocks-place.is)) in
    let R : Token → Type 0 = λ name. (c.block_fault.result ≡ OutOfMemory) ⊎ (c.block_fault.result ≡ block_fault_of c.in-Err.fault name) in
    stage_refused k mul c.args.blocks.now c.args.circuits.now bases c.args.bound c.args.number net list c.in-Err.fault c.block_fault.result kept is (subst R named c.block_fault.ensures)

pub returns-clause-poly : goal.returns-clause-poly
returns-clause-poly g c =
    let k : ℕ = g.F.Ring.degree c.args.field.now in
    let mul : ℕ → ℕ → ℕ = g.F.Ring.product c.args.field.now in
    let net : BoundNet = c.requires.kept.0 in
    let list : List Basis = c.requires.kept.1 in
    let kept = c.requires.kept.2 in
    let own : slice_get c.args.circuits.now c.args.number ≡ Some (Some net) = kept.at in
    let read : slice_get c.args.circuits.now c.args.number ≡ Some (Some c.circuit_at-circuit.result.now) = c.circuit_at-circuit.ensures in
    let nets : c.circuit_at-circuit.result.now ≡ net = cc in
    let lists : c.deref.result.now ≡ list = c.deref.ensures.value ∙ sym (same_list c.args.bases.now _ list c.index-bases-place.result kept.bases_at c.index-bases-place.is) in
    let P : BoundNet → Type 0 = λ n. AreAllWithin k mul (stages_in k mul n c.deref.result.now) c.args.bound in
    let Q : List Basis → Type 0 = λ l. AreAllWithin k mul (stages_in k mul net l) c.args.bound in
    let R : BoundNet → Type 0 = λ n. IsOutputInWords (circuit_in k mul n c.deref.result.now) c.in-Ok.poly.terms in
    let S : List Basis → Type 0 = λ l. IsOutputInWords (circuit_in k mul net l) c.in-Ok.poly.terms in
    let small : c.len.result < 4294967296 = c.in-Ok-try_from.ensures.0 in
    record {
      circuit = net;
      list = list;
      kept = kept;
      within = subst Q lists (subst P nets c.in-Ok.ensures.within);
      output = subst S lists (subst R nets c.in-Ok.ensures.output);
      few = omega (arith, small, c.len.ensures);
    }
