use Rattle.std.proofs.Common.{◌≡◌, ◌-◌, ℕ, List, length, sym, ◌∙◌, ap, subst}
use Rattle.rato_reduce.specs.private.CutKey.{first_from}
use Rattle.rato_reduce.specs.private.Buckets.{AreUpTo, ListedPolynomial}
use Rattle.rato_reduce.proofs.BucketLemmas.{first_of_all, up_to_first}
use Rattle.rato_reduce.proofs.buckets.Buckets.level_for.Goals as goal

pub returns : goal.returns
returns c =
    let places = c.as_slice-places.result.now in
    let bits = c.args.bits.now in
    let first : ℕ = first_from places 4294967295 bits in
    let level : c.saturating_sub.result ≡ length places - first = c.saturating_sub.ensures ∙ ap (λ n. length places - n) c.first_place.ensures in
    let P : ℕ → Type 0 = λ n. AreUpTo places n bits in
    let Q : List ℕ → Type 0 = λ ps. AreUpTo ps c.saturating_sub.result bits in
    subst Q (c.as_slice-places.ensures.value ∙ ap (λ (q : ListedPolynomial). q.places) c.self.view_is) (subst P (sym level) (up_to_first places first bits (first_of_all places 4294967295 bits)))
