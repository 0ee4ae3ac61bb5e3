use Rattle.std.proofs.Common.{◌∙◌, ap, sym, subst, ℕ, map, bit_xor}
use lib.Bits.{xor_zero_l}
use Rattle.lists.specs.laws.ReadLaws.{got_read}
use Rattle.poly_mixed.specs.Polynomial.{IsReduced, Terms, value}
use Rattle.poly_mixed.proofs.FieldLaws.{field_of}
use Rattle.poly_mixed.proofs.SimpleLemmas.{reduced_nothing}
use Rattle.term_expand.proofs.PowerLemmas.{fed, feed_reduced, power_first}
use Rattle.term_expand.proofs.factors.first_power.Goals as goal

pub add_into-requires-clause-over : goal.add_into-requires-clause-over
add_into-requires-clause-over g c =
    let k : ℕ = g.F.Ring.degree c.args.field.now in
    let P : Terms → Type 0 = IsReduced k in
    subst P (sym c.zero-power.ensures) (reduced_nothing (field_of k (g.F.Ring.product c.args.field.now) (g.met.F.Ring.laws c.args.field.now) (g.met.F.Field.no_zero_divisors c.args.field.now)))

pub add_into-requires-clause-other_over : goal.add_into-requires-clause-other_over
add_into-requires-clause-other_over g c =
    let got = got_read c.args.feeds.now c.args.word c.index-feeds-word.result c.requires.word c.index-feeds-word.is in
    feed_reduced (g.F.Ring.degree c.args.field.now) (map (λ f. f.now.terms) c.args.feeds.now) c.args.word c.index-feeds-word.result.now.terms c.requires.feeds (fed (λ f. f.now.terms) c.args.feeds.now c.args.word c.index-feeds-word.result got)

pub returns : goal.returns
returns g c =
    let k : ℕ = g.F.Ring.degree c.args.field.now in
    let mul : ℕ → ℕ → ℕ = g.F.Ring.product c.args.field.now in
    let ring = g.met.F.Ring.laws c.args.field.now in
    let free = g.met.F.Field.no_zero_divisors c.args.field.now in
    let feed : Terms = c.index-feeds-word.result.now.terms in
    let got = got_read c.args.feeds.now c.args.word c.index-feeds-word.result c.requires.word c.index-feeds-word.is in
    power_first k mul ring free (map (λ f. f.now.terms) c.args.feeds.now) c.args.word feed c.add_into.new.self.terms c.requires.feeds (fed (λ f. f.now.terms) c.args.feeds.now c.args.word c.index-feeds-word.result got) (record {
      reduced = c.in_ok-add_into.ensures.reduced;
      values = λ p at. c.in_ok-add_into.ensures.values p at ∙ (ap (λ (ts : Terms). bit_xor (value mul p ts) (value mul p feed)) c.zero-power.ensures ∙ xor_zero_l (value mul p feed));
    })
