use Rattle.job_input.proofs.HierarchyLemmas.{text_refuses}
use Rattle.job_input.proofs.hierarchy.design_of.Goals as goal

pub returns-in-Err : goal.returns-in-Err
returns-in-Err c = record { fits = rw c.text_fault.ensures (text_refuses c.args.signature.now c.args.text.items c.in-Err.fault c.in-Err.ensures.fault); top = tt }
