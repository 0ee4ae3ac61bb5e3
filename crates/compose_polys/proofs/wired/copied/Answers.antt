use Rattle.std.proofs.Common.{◌≡◌, ◌∙◌, ap, bit_xor, sym, subst, ℕ, List, [], ◌∷◌, map}
use Rattle.poly_mixed.specs.Polynomial.{value, IsReduced, Terms}
use Rattle.poly_mixed.proofs.FieldLaws.{field_of}
use Rattle.poly_mixed.proofs.SimpleLemmas.{reduced_nothing}
use Rattle.compose_polys.specs.Words.{feed_terms}
use Rattle.compose_polys.proofs.FeedLemmas.{feeds_reduced}
use Rattle.compose_polys.proofs.wired.copied.Goals as goal

pub add_into-requires-clause-over : goal.add_into-requires-clause-over
add_into-requires-clause-over g c =
    let P : Terms → Type 0 = IsReduced (g.F.Ring.degree c.args.field.now) in
    subst P (sym c.zero-copy.ensures) (reduced_nothing (field_of _ _ (g.met.F.Ring.laws c.args.field.now) (g.met.F.Field.no_zero_divisors c.args.field.now)))

pub add_into-requires-clause-other_over : goal.add_into-requires-clause-other_over
add_into-requires-clause-other_over g c =
    let k : ℕ = g.F.Ring.degree c.args.field.now in
    let words : List Terms = map (λ q. q.terms) c.args.words.now in
    let polys : List Terms = map (λ q. q.terms) c.args.polys.now in
    let P : Terms → Type 0 = IsReduced k in
    let all = feeds_reduced k words polys (c.args.feed ∷ []) c.requires.words c.requires.polys (reduced_nothing (field_of _ _ (g.met.F.Ring.laws c.args.field.now) (g.met.F.Field.no_zero_divisors c.args.field.now))) in
    subst P (sym c.poly_of-poly.ensures) all.0

pub returns-clause-values : goal.returns-clause-values
returns-clause-values g c =
    let mul : ℕ → ℕ → ℕ = g.F.Ring.product c.args.field.now in
    let other : Terms = feed_terms (map (λ q. q.terms) c.args.words.now) (map (λ q. q.terms) c.args.polys.now) c.args.feed in
    let same : c.poly_of-poly.result.now.terms ≡ other = c.poly_of-poly.ensures in
    record {
      reduced = c.in_ok-add_into.ensures.reduced;
      values = λ p at. c.in_ok-add_into.ensures.values p at ∙ ap (λ (ts : Terms). bit_xor (value mul p ts) (value mul p c.poly_of-poly.result.now.terms)) c.zero-copy.ensures ∙ ap (value mul p) same;
    }
