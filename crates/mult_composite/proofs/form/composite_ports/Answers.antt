use Rattle.mult_composite.proofs.form.composite_ports.Goals as goal

pub returns-clause-unfit : goal.returns-clause-unfit
returns-clause-unfit c = λ unfit form. c.ports.ensures.unfit unfit form.ports
