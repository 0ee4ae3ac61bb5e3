use Rattle.mult_gen.proofs.form.poly_ports.Goals as goal

pub returns-clause-unfit : goal.returns-clause-unfit
returns-clause-unfit c = λ unfit form. c.ports.ensures.unfit unfit form.ports
