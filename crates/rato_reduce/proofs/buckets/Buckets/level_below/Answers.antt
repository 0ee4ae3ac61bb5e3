use Rattle.std.proofs.Common.{◌≡◌, ◌-◌, ℕ, List, length, take, sym, ◌∙◌, ap, subst}
use Rattle.rato_reduce.specs.private.Buckets.{AreUpTo, ListedPolynomial}
use Rattle.rato_reduce.proofs.BucketLemmas.{up_to_first}
use Rattle.rato_reduce.proofs.buckets.Buckets.level_below.Goals as goal

pub returns-clause-up_to : goal.returns-clause-up_to
returns-clause-up_to c =
    let places = c.as_slice-places.result.now in
    let bits = take c.first_below-at.result.0 c.args.bits.now in
    let first : ℕ = c.first_below-at.result.1 in
    let level : c.saturating_sub.result ≡ length places - first = c.saturating_sub.ensures in
    let P : ℕ → Type 0 = λ n. AreUpTo places n bits in
    let Q : List ℕ → Type 0 = λ ps. AreUpTo ps c.saturating_sub.result bits in
    subst Q (c.as_slice-places.ensures.value ∙ ap (λ (q : ListedPolynomial). q.places) c.self.view_is) (subst P (sym level) (up_to_first places first bits c.first_below-at.ensures.each))
