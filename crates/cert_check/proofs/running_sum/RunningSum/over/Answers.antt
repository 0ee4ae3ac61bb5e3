use Rattle.std.proofs.Common.{◌≡◌, rules, length, arith}
use Rattle.std.proofs.lemmas.Grind.{common_steps}
use Rattle.cert_check.proofs.HeldLemmas.{whole_within}
use Rattle.cert_check.proofs.running_sum.RunningSum.over.Goals as goal

pub returns-then-is_within-clause-within : goal.returns-then-is_within-clause-within
returns-then-is_within-clause-within c mul dual =
    let rows : c.len.result ≡ length c.args.self.now.rows.items = first_of (search rules, grind (arith, common_steps)) in
    whole_within c.args.k mul dual c.args.bound c.args.self.now c.len.result rows (c.is_within.ensures.within c.if-is_within.true)
