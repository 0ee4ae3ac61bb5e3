use Rattle.std.proofs.Common.{◌≤◌, ℕ, length, subst}
use Rattle.std.proofs.lemmas.Bool.{leb-true}
use Rattle.rato_reduce.specs.private.Buckets.{ListedPolynomial}
use Rattle.rato_reduce.proofs.BucketLemmas.{within_count}
use Rattle.rato_reduce.proofs.buckets.Buckets.is_within.Goals as goal

pub returns : goal.returns
returns c within =
    let low : c.self.inside.count ≤ c.from.result = leb-true c.self.inside.count c.from.result within in
    let P : ℕ → Type 0 = λ n. c.self.inside.count ≤ n in
    let Q : ListedPolynomial → Type 0 = λ q. length q.terms ≤ c.args.bound in
    subst Q c.self.view_is (within_count c.self.inside.count c.args.bound c.self.inside.list.items c.self.invariant.1 (subst P c.from.ensures low) c.ranges.bound.fits)
