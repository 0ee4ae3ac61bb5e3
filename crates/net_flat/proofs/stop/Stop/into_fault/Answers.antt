use Rattle.std.proofs.Common.{◌∙◌, ap, sym}
use Rattle.net_flat.specs.private.Stopping.{fault_in}
use Rattle.net_flat.proofs.stop.Stop.into_fault.Goals as goal

pub returns-in-TooManyNets : goal.returns-in-TooManyNets
returns-in-TooManyNets c = sym (ap fault_in c.in-TooManyNets.is) ∙ c.self.view_is

pub returns-in-TooManyGates : goal.returns-in-TooManyGates
returns-in-TooManyGates c = sym (ap fault_in c.in-TooManyGates.is) ∙ c.self.view_is

pub returns-in-TooManyInstances : goal.returns-in-TooManyInstances
returns-in-TooManyInstances c = sym (ap fault_in c.in-TooManyInstances.is) ∙ c.self.view_is

pub returns-in-OutOfMemory : goal.returns-in-OutOfMemory
returns-in-OutOfMemory c = sym (ap fault_in c.in-OutOfMemory.is) ∙ c.self.view_is
