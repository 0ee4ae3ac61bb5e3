use Rattle.std.proofs.Common.{◌≡◌, subst, ℕ, ◌+◌, ◌*◌, List, length, map, take, arith, rules}
use Rattle.gf_basis.specs.BasisParts.{elements_of}
use Rattle.poly_mixed.specs.Polynomial.{Terms}
use Rattle.word_subst.specs.Whole.{with_first}
use Rattle.word_subst.proofs.OneTermLemmas.{rank_low}
use Rattle.word_subst.proofs.WholeReadLemmas.{block_more}
use Rattle.word_subst.proofs.whole.are_blocks.Goals as goal

pub loop-place-preserved : goal.loop-place-preserved
loop-place-preserved g c =
    λ next.
    let k : ℕ = g.F.Ring.degree c.args.field.now in
    let mul : ℕ → ℕ → ℕ = g.F.Ring.product c.args.field.now in
    let els : List ℕ = elements_of c.args.basis.now in
    let parts : Terms = c.args.parts.now in
    let rest : Terms = c.loop-place.rest.now in
    let place : ℕ = c.loop-place.place in
    let same : c.k.result ≡ k = c.k.ensures in
    let block : take (length parts) rest ≡ map (with_first mul (c.k.result * c.args.word + place) c.element.result) parts = search rules in
    let R : ℕ → Type 0 = λ n. take (length parts) rest ≡ map (with_first mul (n * c.args.word + place) c.element.result) parts in
    c.loop-place.invariant (block_more mul (k * c.args.word) place (length parts) c.element.result els parts rest (omega arith) (omega (arith, c.requires.over.elements.size)) c.element.ensures (subst R same block) next)

pub overflow_mul-rank : goal.overflow_mul-rank
overflow_mul-rank g c = omega (arith, rank_low (g.F.Ring.degree c.args.field.now) c.k.result c.args.word c.k.ensures (g.met.F.Ring.laws c.args.field.now).small c.requires.word)
