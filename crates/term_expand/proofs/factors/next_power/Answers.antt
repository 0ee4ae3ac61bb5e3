use Rattle.std.proofs.Common.{ℕ, map}
use Rattle.std.proofs.lemmas.Result.{IfOk-weaker}
use Rattle.term_expand.proofs.PowerLemmas.{power_next}
use Rattle.term_expand.proofs.factors.next_power.Goals as goal

pub returns : goal.returns
returns g c =
    let k : ℕ = g.F.Ring.degree c.args.field.now in
    let mul : ℕ → ℕ → ℕ = g.F.Ring.product c.args.field.now in
    let ring = g.met.F.Ring.laws c.args.field.now in
    let free = g.met.F.Field.no_zero_divisors c.args.field.now in
    IfOk-weaker c.squared.result _ _ (λ q is some. power_next k mul ring free (map (λ f. f.now.terms) c.args._feeds.now) c.args._word c.args._j c.args.power.terms q.terms (c.requires.power some) is) c.squared.ensures
