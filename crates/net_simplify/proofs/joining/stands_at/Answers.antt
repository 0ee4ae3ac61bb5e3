use Rattle.std.proofs.Common.{ap, sym, ℕ, false, Option}
use Rattle.std.specs.Prelude.{◌==◌}
use Rattle.std.specs.Option.{option_map_or}
use Rattle.net_simplify.proofs.LookLemmas.{item_found, item_lost}
use Rattle.net_simplify.proofs.joining.stands_at.Goals as goal

pub returns-in-Some : goal.returns-in-Some
returns-in-Some c = sym (ap (λ (o : Option ℕ). option_map_or (λ (y : ℕ). y == c.args.leaf) o false) (item_found c.args.leaves.now c.args.place c.get.result c.in-Some.found c.get.ensures.lookup c.in-Some.is))

pub returns-in-None : goal.returns-in-None
returns-in-None c = sym (ap (λ (o : Option ℕ). option_map_or (λ (y : ℕ). y == c.args.leaf) o false) (item_lost c.args.leaves.now c.args.place c.get.result c.get.ensures.lookup c.in-None.is))
