use Rattle.std.proofs.Common.{◌≤◌, ℕ, subst, sym}
use Rattle.cert_check.proofs.text_verdict.check.Goals as goal

pub verdict_on-requires-clause-few : goal.verdict_on-requires-clause-few
verdict_on-requires-clause-few g c =
    let P : ℕ → Type 0 = λ n. n ≤ 8 in
    subst P (sym c.requires.labels.count) c.drivers.ensures.is_bound.parts.few

pub returns : goal.returns
returns g c = c.verdict_on.ensures
