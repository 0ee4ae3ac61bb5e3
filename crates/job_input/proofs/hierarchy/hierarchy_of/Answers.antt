use Rattle.std.proofs.Common.{List}
use Rattle.net_blif.specs.Design.{ModelValue}
use Rattle.job_input.specs.HierarchyIn.{HierarchyOf}
use Rattle.job_input.proofs.StopLemmas.{netlist_stops}
use Rattle.job_input.proofs.hierarchy.hierarchy_of.Goals as goal

pub returns-in-Ok : goal.returns-in-Ok
returns-in-Ok c = record { gives = c.in-Ok.ensures.fits; top = c.in-Ok.ensures.top }

pub returns-in-Err : goal.returns-in-Err
returns-in-Err c = record {
  gives = netlist_stops {X = List ModelValue} (λ design. design) c.args.file.now c.in-Err.refusal c.netlist_stop.result (HierarchyOf c.args.signature.now c.args.text.items) c.in-Err.ensures.fits c.netlist_stop.ensures;
  top = tt;
}
