use Rattle.std.proofs.Common.{◌≡◌, ◌⊎◌, inl, refl, subst, sym, Option, Ok, Err}
use Rattle.std.specs.Prelude.{IfErr, IfOk}
use Rattle.std.proofs.lemmas.Result.{IfErr-weaker, IfOk-weaker}
use Rattle.net_verilog.specs.declared.declared.Direction.{Direction}
use Rattle.net_verilog.specs.declared.fault.VerilogFault.TheVariants as faults
use Rattle.net_verilog.specs.private.Places.{left}
use Rattle.net_verilog.proofs.AfterLemmas.{over}
use Rattle.verilog_reader.specs.private.Ports.{NamesFrom}
use Rattle.verilog_reader.proofs.port_list.read_ports_from.Goals as goal

pub returns-in-None-clause-made : goal.returns-in-None-clause-made
returns-in-None-clause-made c =
    let P : Option Direction → Type 0 = λ start. IfOk c.read_plain_names.result (λ right. NamesFrom start (c.args.declared.now, c.args.maker.now) (left c.args.place.now) (Ok ((c.args.declared.now, c.args.maker.now), left right))) in
    subst P (sym c.in-None.is) (IfOk-weaker c.read_plain_names.result _ _ (λ right made. made (c.args.declared.now, c.args.maker.now)) c.read_plain_names.ensures.made)

pub returns-in-None-clause-fault : goal.returns-in-None-clause-fault
returns-in-None-clause-fault c =
    let P : Option Direction → Type 0 = λ start. IfErr c.read_plain_names.result (λ e. (e ≡ faults.OutOfMemory) ⊎ NamesFrom start (c.args.declared.now, c.args.maker.now) (left c.args.place.now) (Err e)) in
    subst P (sym c.in-None.is) (IfErr-weaker c.read_plain_names.result _ _ (λ e. over (λ refuses. refuses (c.args.declared.now, c.args.maker.now))) c.read_plain_names.ensures.fault)

pub returns-in-Ok-clause-made : goal.returns-in-Ok-clause-made
returns-in-Ok-clause-made c =
    let P : Option Direction → Type 0 = λ start. NamesFrom start (c.args.declared.now, c.args.maker.now) (left c.args.place.now) (Ok ((c.read_ports.new.declared, c.read_ports.new.maker), left c.in-Ok.right)) in
    subst P (sym c.in-Some.is) ((((c.in-Ok.field-0-0.direction, c.in-Ok.field-0-0.range), (c.read_ports.new.declared, c.read_ports.new.maker)), left c.in-Ok.right), c.in-Ok.ensures.made, refl)

pub returns-in-Err-clause-fault : goal.returns-in-Err-clause-fault
returns-in-Err-clause-fault c =
    let P : Option Direction → Type 0 = λ start. NamesFrom start (c.args.declared.now, c.args.maker.now) (left c.args.place.now) (Err c.in-Err.fault) in
    over (λ refuses. subst P (sym c.in-Some.is) (inl refuses)) c.in-Err.ensures.fault
