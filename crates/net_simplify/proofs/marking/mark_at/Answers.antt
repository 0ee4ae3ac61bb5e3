use Rattle.std.proofs.Common.{ap, sym, ℕ, Option}
use Rattle.std.specs.Prelude.{unwrap_or}
use Rattle.net_simplify.proofs.LookLemmas.{item_found, item_lost}
use Rattle.net_simplify.proofs.marking.mark_at.Goals as goal

pub returns-in-Some : goal.returns-in-Some
returns-in-Some c = sym (ap (λ (o : Option ℕ). unwrap_or o 0) (item_found c.args.marks.now c.args.net c.get.result c.in-Some.mark c.get.ensures.lookup c.in-Some.is))

pub returns-in-None : goal.returns-in-None
returns-in-None c = sym (ap (λ (o : Option ℕ). unwrap_or o 0) (item_lost c.args.marks.now c.args.net c.get.result c.get.ensures.lookup c.in-None.is))
