use Rattle.std.proofs.Common.{◌≡◌, ◌∙◌, sym, subst, List, Option, None, Some, arith}
use Rattle.std.specs.Prelude.{slice_get}
use Rattle.lists.specs.laws.ReadLaws.{get_set_same, got_read}
use Rattle.net_words.specs.Binding.{BoundNet}
use Rattle.net_signature.specs.Body.{BlockValue}
use Rattle.compose_blocks.specs.private.Found.{AreCircuits, HasCircuit, KeepsCircuits}
use Rattle.compose_blocks.proofs.CircuitLemmas.{circuit_more, keeps_more}
use Rattle.compose_blocks.proofs.ListLemmas.{none_at, some_read}
use Rattle.compose_blocks.proofs.used_circuits.add_circuit.Goals as goal

pub index-requires : goal.index-requires
index-requires c = omega (arith, c.requires.kept.long, c.requires.block)

pub bounds-blocks-number : goal.bounds-blocks-number
bounds-blocks-number c = c.requires.block

pub put_circuit-requires : goal.put_circuit-requires
put_circuit-requires c = omega (arith, c.requires.kept.long, c.requires.block)

pub returns-then-is_some-clause-kept : goal.returns-then-is_some-clause-kept
returns-then-is_some-clause-kept c = c.requires.kept

pub returns-then-is_some-clause-keeps : goal.returns-then-is_some-clause-keeps
returns-then-is_some-clause-keeps c = λ number circuit got. got

pub circuit_of-requires : goal.circuit_of-requires
circuit_of-requires c =
    let block : BlockValue = c.index-blocks-number.result in
    record { words = (c.requires.words.0, c.requires.words.1 c.args.found.block block (got_read c.args.blocks.now c.args.found.block block c.requires.block c.index-blocks-number.is)) }

pub returns-in-Err-clause-fault : goal.returns-in-Err-clause-fault
returns-in-Err-clause-fault c =
    let block : BlockValue = c.index-blocks-number.result in
    (block, got_read c.args.blocks.now c.args.found.block block c.requires.block c.index-blocks-number.is, c.in-Err.ensures.fault)

pub returns-then-is_some-clause-has : goal.returns-then-is_some-clause-has
returns-then-is_some-clause-has c = some_read c.args.circuits.now.items c.args.found.block c.index.result.now (omega (arith, c.requires.kept.long, c.requires.block)) c.index.ensures (sym c.is_some.ensures ∙ c.if-is_some.true)

pub returns-clause-kept : goal.returns-clause-kept
returns-clause-kept c =
    let block : BlockValue = c.index-blocks-number.result in
    let at : slice_get c.args.blocks.now c.args.found.block ≡ Some block = got_read c.args.blocks.now c.args.found.block block c.requires.block c.index-blocks-number.is in
    let P : List (Option BoundNet) → Type 0 = AreCircuits c.args.design.now c.args.blocks.now in
    subst P (sym c.put_circuit.ensures) (circuit_more c.args.design.now c.args.blocks.now c.args.circuits.now.items c.args.found.block c.args.found.model block c.in-Ok.circuit c.requires.kept at (c.requires.model block at) c.in-Ok.ensures.circuit)

pub returns-clause-keeps : goal.returns-clause-keeps
returns-clause-keeps c =
    let none : slice_get c.args.circuits.now.items c.args.found.block ≡ Some None = none_at c.args.circuits.now.items c.args.found.block c.index.result.now (omega (arith, c.requires.kept.long, c.requires.block)) c.index.ensures (sym c.is_some.ensures ∙ c.if-is_some.false) in
    let P : List (Option BoundNet) → Type 0 = KeepsCircuits c.args.circuits.now.items in
    subst P (sym c.put_circuit.ensures) (keeps_more c.args.design.now c.args.blocks.now c.args.circuits.now.items c.args.found.block c.in-Ok.circuit none)

pub returns-clause-has : goal.returns-clause-has
returns-clause-has c =
    let none : slice_get c.args.circuits.now.items c.args.found.block ≡ Some None = none_at c.args.circuits.now.items c.args.found.block c.index.result.now (omega (arith, c.requires.kept.long, c.requires.block)) c.index.ensures (sym c.is_some.ensures ∙ c.if-is_some.false) in
    let P : List (Option BoundNet) → Type 0 = λ circuits. HasCircuit circuits c.args.found.block in
    subst P (sym c.put_circuit.ensures) (c.in-Ok.circuit, get_set_same c.args.circuits.now.items c.args.found.block None (Some c.in-Ok.circuit) none)
