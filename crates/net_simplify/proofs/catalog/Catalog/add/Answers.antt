use Rattle.std.proofs.Common.{Some}
use Rattle.net_simplify.specs.private.Catalog.{net_of}
use Rattle.net_simplify.proofs.CatalogLemmas.{updated}
use Rattle.net_simplify.proofs.catalog.Catalog.add.Goals as goal

pub returns : goal.returns
returns c = λ q. updated c.args.key q (Some c.args.net) (net_of c.args.self.now q) _ (c.in_ok-insert.ensures.updates.0 q)
