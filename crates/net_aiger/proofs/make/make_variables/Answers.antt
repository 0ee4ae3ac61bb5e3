use Rattle.std.proofs.Common.{rules, ◌≡◌, ◌<◌, ap, refl, subst, sym, length, get_or}
use Rattle.std.proofs.lemmas.Option.{get_or_from_slice_get}
use Rattle.net_core.specs.NetList.{NetList, empty, nets}
use Rattle.net_aiger.specs.Nets.{variable_made, variables_made}
use Rattle.net_aiger.specs.private.Making.{AwaitsPort, IsFaultOf}
use Rattle.net_aiger.proofs.PortOrder.{next_port}
use Rattle.net_aiger.proofs.AwaitLemmas.{awaits_start, awaits_variable, outputs_awaited, port_is_new}
use Rattle.net_aiger.proofs.MakeLemmas.{fault_next, made_next}
use Rattle.net_aiger.proofs.make.make_variables.Goals as goal

pub loop-number-init : goal.loop-number-init
loop-number-init c =
    let reading = c.args.reader.now in
    let P : NetList → Type 0 = λ net. AwaitsPort reading (next_port reading 0) net in
    record {
      made = ap (λ (net : NetList). variables_made reading 0 reading.defined net) (sym c.keyed-maker.ensures);
      long = ap nets c.keyed-maker.ensures;
      awaits = subst P (sym c.keyed-maker.ensures) (awaits_start reading c.requires.apart);
    }

pub make_variable-requires-clause-is_new : goal.make_variable-requires-clause-is_new
make_variable-requires-clause-is_new c = λ less. port_is_new c.args.reader.now c.requires.complete c.loop-number.maker c.loop-number.number c.loop-number.invariant.awaits less

pub loop-number-preserved : goal.loop-number-preserved
loop-number-preserved c =
    let reading = c.args.reader.now in
    let less : c.loop-number.number < length reading.defined = rw c.defined-number-end.ensures at c.loop-number-test.true in
    let is : c.literal.result ≡ get_or reading.defined c.loop-number.number c.literal.result = sym (get_or_from_slice_get reading.defined c.loop-number.number c.literal.result c.literal.result c.literal.ensures) in
    record {
      made = made_next (λ p x n. variable_made reading p x n) (λ p xs n. variables_made reading p xs n) (λ p x xs n. refl) reading.defined c.loop-number.number c.loop-number.number c.literal.result c.literal.result c.loop-number.maker c.make_variable.new.maker _ less is c.loop-number.invariant.made c.in_ok-make_variable.ensures.made;
      long = search rules;
      awaits = awaits_variable reading c.requires.complete c.loop-number.maker c.loop-number.number c.literal.result c.make_variable.new.maker c.in_ok-make_variable.ensures.made c.loop-number.invariant.awaits;
    }

pub returns-in_err-make_variable-clause-fault : goal.returns-in_err-make_variable-clause-fault
returns-in_err-make_variable-clause-fault c =
    let reading = c.args.reader.now in
    let less : c.loop-number.number < length reading.defined = rw c.defined-number-end.ensures at c.loop-number-test.true in
    let is : c.literal.result ≡ get_or reading.defined c.loop-number.number c.literal.result = sym (get_or_from_slice_get reading.defined c.loop-number.number c.literal.result c.literal.result c.literal.ensures) in
    let fault : IsFaultOf (variables_made reading 0 reading.defined empty) c.in_err-make_variable.field-0.0 = fault_next (λ p x n. variable_made reading p x n) (λ p xs n. variables_made reading p xs n) (λ p x xs n. refl) reading.defined c.loop-number.number c.loop-number.number c.literal.result c.literal.result c.loop-number.maker _ c.in_err-make_variable.field-0.0 less is c.loop-number.invariant.made c.in_err-make_variable.ensures.fault in
    search rules

pub returns-clause-awaits : goal.returns-clause-awaits
returns-clause-awaits c = outputs_awaited c.args.reader.now c.requires.complete c.loop-number.maker c.loop-number.number c.loop-number.invariant.awaits
