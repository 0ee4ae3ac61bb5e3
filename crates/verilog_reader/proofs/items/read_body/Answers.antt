use Rattle.std.proofs.Common.{◌≡◌, ◌⊎◌, ap, inl, refl, subst, sym, Ok, Err}
use Rattle.std.specs.Prelude.{IfErr, IfOk}
use Rattle.std.proofs.lemmas.Result.{IfErr-weaker, IfOk-weaker}
use Rattle.net_verilog.specs.Assigns.{Assigns}
use Rattle.net_verilog.specs.Declarations.{Declarations}
use Rattle.net_verilog.specs.Instances.{ReadsInstance}
use Rattle.net_verilog.specs.Several.{Several}
use Rattle.net_verilog.specs.declared.fault.VerilogFault.TheVariants as faults
use Rattle.net_verilog.specs.private.Places.{left, value_of}
use Rattle.net_verilog.proofs.AfterLemmas.{over}
use Rattle.verilog_reader.specs.private.Bodies.{Body}
use Rattle.verilog_reader.specs.declared.starts.ItemStart.{ItemStart}
use Rattle.verilog_reader.proofs.items.read_body.Goals as goal

pub returns-in-Declaration-clause-made : goal.returns-in-Declaration-clause-made
returns-in-Declaration-clause-made c =
    let P : ItemStart → Type 0 = λ start. IfOk c.read_declaration.result (λ end. Body start (c.args.declared.now, c.args.maker.now) (value_of c.args.token.now) (left c.args.place.now) (Ok ((c.read_declaration.new.declared, c.read_declaration.new.maker), left end))) in
    subst P (sym c.in-Declaration.is) c.read_declaration.ensures.made

pub returns-in-Declaration-clause-fault : goal.returns-in-Declaration-clause-fault
returns-in-Declaration-clause-fault c =
    let P : ItemStart → Type 0 = λ start. IfErr c.read_declaration.result (λ e. (e ≡ faults.OutOfMemory) ⊎ Body start (c.args.declared.now, c.args.maker.now) (value_of c.args.token.now) (left c.args.place.now) (Err e)) in
    subst P (sym c.in-Declaration.is) c.read_declaration.ensures.fault

pub returns-in-Assignments-clause-made : goal.returns-in-Assignments-clause-made
returns-in-Assignments-clause-made c =
    let P : ItemStart → Type 0 = λ start. IfOk c.read_assignments.result (λ end. Body start (c.args.declared.now, c.args.maker.now) (value_of c.args.token.now) (left c.args.place.now) (Ok ((c.args.declared.now, c.read_assignments.new.maker), left end))) in
    let T : Declarations → Type 0 = λ d. IfOk c.read_assignments.result (λ end. Several (Assigns d) c.args.maker.now (left c.args.place.now) (Ok (c.read_assignments.new.maker, left end))) in
    subst P (sym c.in-Assignments.is) (IfOk-weaker c.read_assignments.result _ _ (λ end made. ((c.read_assignments.new.maker, left end), made, refl)) (subst T c.table.ensures c.read_assignments.ensures.made))

pub returns-in-Assignments-clause-fault : goal.returns-in-Assignments-clause-fault
returns-in-Assignments-clause-fault c =
    let P : ItemStart → Type 0 = λ start. IfErr c.read_assignments.result (λ e. (e ≡ faults.OutOfMemory) ⊎ Body start (c.args.declared.now, c.args.maker.now) (value_of c.args.token.now) (left c.args.place.now) (Err e)) in
    let T : Declarations → Type 0 = λ d. IfErr c.read_assignments.result (λ e. (e ≡ faults.OutOfMemory) ⊎ Several (Assigns d) c.args.maker.now (left c.args.place.now) (Err e)) in
    subst P (sym c.in-Assignments.is) (IfErr-weaker c.read_assignments.result _ _ (λ e. over (λ refuses. inl refuses)) (subst T c.table.ensures c.read_assignments.ensures.fault))

pub returns-in-Instances-clause-made : goal.returns-in-Instances-clause-made
returns-in-Instances-clause-made c =
    let P : ItemStart → Type 0 = λ start. IfOk c.read_instances.result (λ end. Body start (c.args.declared.now, c.args.maker.now) (value_of c.args.token.now) (left c.args.place.now) (Ok ((c.args.declared.now, c.read_instances.new.maker), left end))) in
    let T : Declarations → Type 0 = λ d. IfOk c.read_instances.result (λ end. Several (ReadsInstance d c.in-Instances.kind) c.args.maker.now (left c.args.place.now) (Ok (c.read_instances.new.maker, left end))) in
    subst P (sym c.in-Instances.is) (IfOk-weaker c.read_instances.result _ _ (λ end made. ((c.read_instances.new.maker, left end), made, refl)) (subst T c.table-in-Instances.ensures c.read_instances.ensures.made))

pub returns-in-Instances-clause-fault : goal.returns-in-Instances-clause-fault
returns-in-Instances-clause-fault c =
    let P : ItemStart → Type 0 = λ start. IfErr c.read_instances.result (λ e. (e ≡ faults.OutOfMemory) ⊎ Body start (c.args.declared.now, c.args.maker.now) (value_of c.args.token.now) (left c.args.place.now) (Err e)) in
    let T : Declarations → Type 0 = λ d. IfErr c.read_instances.result (λ e. (e ≡ faults.OutOfMemory) ⊎ Several (ReadsInstance d c.in-Instances.kind) c.args.maker.now (left c.args.place.now) (Err e)) in
    subst P (sym c.in-Instances.is) (IfErr-weaker c.read_instances.result _ _ (λ e. over (λ refuses. inl refuses)) (subst T c.table-in-Instances.ensures c.read_instances.ensures.fault))

pub returns-in-Other-clause-fault : goal.returns-in-Other-clause-fault
returns-in-Other-clause-fault c =
    let P : ItemStart → Type 0 = λ start. Body start (c.args.declared.now, c.args.maker.now) (value_of c.args.token.now) (left c.args.place.now) (Err c.item_fault.result) in
    over (λ e. subst P (sym c.in-Other.is) (ap (λ f. Err f) e)) c.item_fault.ensures
