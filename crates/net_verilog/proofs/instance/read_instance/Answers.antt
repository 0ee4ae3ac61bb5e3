use Rattle.std.proofs.Common.{◌≡◌, ◌⊎◌, ◌<◌, ◌≤◌, inl, inr, subst, arith, ℕ, List, Ok, Err, IfErr, IfOk, length}
use Rattle.std.proofs.lemmas.Result.{IfErr-weaker, IfOk-weaker}
use Rattle.net_verilog.specs.private.Nets.{EndsInstance}
use Rattle.net_verilog.specs.private.Places.{left}
use Rattle.net_verilog.specs.declared.fault.VerilogFault.TheVariants as faults
use Rattle.net_verilog.proofs.AfterLemmas.{over}
use Rattle.net_verilog.proofs.InputLemmas.{from_inputs}
use Rattle.net_verilog.proofs.instance.read_instance.Goals as goal

pub returns-in-Err-clause-fault : goal.returns-in-Err-clause-fault
returns-in-Err-clause-fault c = over (λ refuses. refuses c.args.kind) c.in-Err.ensures.fault

pub returns-in-Err-read_inputs-clause-fault : goal.returns-in-Err-read_inputs-clause-fault
returns-in-Err-read_inputs-clause-fault c = over (λ refuses. from_inputs c.args.declared.now c.args.kind c.args.maker.now c.begin_instance.new.maker (left c.args.place.now) (left c.in-Ok.found.1) c.in-Ok.found.0 c.in-Ok.ensures.made (Err c.in-Err-read_inputs.fault) (inl refuses)) c.in-Err-read_inputs.ensures.fault

pub returns-clause-made : goal.returns-clause-made
returns-clause-made c =
    let P : List ℕ → Type 0 = λ xs. IfOk c.end_instance.result (λ after. EndsInstance c.args.kind c.read_inputs.new.maker c.in-Ok.found.0 xs (left c.in-Ok-read_inputs.found.1) (Ok (c.end_instance.new.maker, left after))) in
    IfOk-weaker c.end_instance.result _ _ (λ after ends. from_inputs c.args.declared.now c.args.kind c.args.maker.now c.begin_instance.new.maker (left c.args.place.now) (left c.in-Ok.found.1) c.in-Ok.found.0 c.in-Ok.ensures.made (Ok (c.end_instance.new.maker, left after)) (((c.read_inputs.new.maker, c.in-Ok-read_inputs.found.0.items), left c.in-Ok-read_inputs.found.1), c.in-Ok-read_inputs.ensures.made, ends)) (subst P c.as_slice.ensures.value c.end_instance.ensures.made)

pub returns-clause-shorter : goal.returns-clause-shorter
returns-clause-shorter c =
    let first : length c.in-Ok.found.1.rest.now < length c.args.place.now.rest.now = c.in-Ok.ensures.shorter in
    let second : length c.in-Ok-read_inputs.found.1.rest.now ≤ length c.in-Ok.found.1.rest.now = c.in-Ok-read_inputs.ensures.shorter in
    IfOk-weaker c.end_instance.result _ _ (λ after less. omega (arith, first, second, less)) c.end_instance.ensures.shorter

pub returns-clause-fault : goal.returns-clause-fault
returns-clause-fault c =
    let P : List ℕ → Type 0 = λ xs. IfErr c.end_instance.result (λ e. (e ≡ faults.OutOfMemory) ⊎ EndsInstance c.args.kind c.read_inputs.new.maker c.in-Ok.found.0 xs (left c.in-Ok-read_inputs.found.1) (Err e)) in
    IfErr-weaker c.end_instance.result _ _ (λ e. over (λ ends. from_inputs c.args.declared.now c.args.kind c.args.maker.now c.begin_instance.new.maker (left c.args.place.now) (left c.in-Ok.found.1) c.in-Ok.found.0 c.in-Ok.ensures.made (Err e) (inr (((c.read_inputs.new.maker, c.in-Ok-read_inputs.found.0.items), left c.in-Ok-read_inputs.found.1), c.in-Ok-read_inputs.ensures.made, ends)))) (subst P c.as_slice.ensures.value c.end_instance.ensures.fault)
