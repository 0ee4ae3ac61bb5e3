use Rattle.std.proofs.Common.{subst, List, Ok}
use Rattle.net_blif.specs.Design.{ModelValue}
use Rattle.net_blif.specs.Models.{AreRight}
use Rattle.net_blif.proofs.design.Design.top_items.Goals as goal

pub returns-clause-right : goal.returns-clause-right
returns-clause-right c = let P : List ModelValue → Type 0 = λ ms. AreRight ms (Ok tt) in subst P c.self.view_is c.self.invariant.1
