use Rattle.std.proofs.Common.{◌<◌, List, ℕ, sym, ap, subst}
use Rattle.std.proofs.lemmas.Map.Iter.{rest_more}
use Rattle.std.specs.Map.Iter.{deref_pair}
use Rattle.std.specs.List.{AllByRecursion}
use Rattle.poly_mixed.specs.Polynomial.{Terms}
use Rattle.poly_mixed.specs.Text.{HasNames}
use Rattle.poly_mixed.specs.private.Indexed.{terms_in}
use Rattle.poly_mixed.proofs.named.has_names.Goals as goal

pub loop-mono-preserved : goal.loop-mono-preserved
loop-mono-preserved c =
    let next = rest_more deref_pair _ _ _ _ c.in-Some.is c.next.ensures.steps in
    let P : Terms → Type 0 = HasNames c.args.labels.now in
    let B : List ℕ → Type 0 = AllByRecursion (λ r. r < c.ranks-count.result) in
    let N : ℕ → Type 0 = λ n. AllByRecursion (λ r. r < n) c.in-Some.mono.now.bits in
    let low = subst N c.ranks-count.ensures (subst B c.bits.ensures.value (c.are_below.ensures.0 c.if-not-are_below.false)) in
    (λ h. c.loop-mono.invariant.0 (subst P (sym (ap terms_in next)) (low, h)), λ h. (subst P (ap terms_in next) (c.loop-mono.invariant.1 h)).1)
