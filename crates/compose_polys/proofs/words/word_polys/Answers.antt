use Rattle.std.proofs.Common.{rules, ◌∙◌, ap, ℕ, map}
use Rattle.lists.specs.laws.ListLaws.{length_map as mapped_long}
use Rattle.compose_polys.proofs.FeedLemmas.{mapped_more, words_more}
use Rattle.compose_polys.proofs.words.word_polys.Goals as goal

pub loop-word-preserved : goal.loop-word-preserved
loop-word-preserved g c =
    let k : ℕ = g.F.Ring.degree c.args.field.now in
    let mul : ℕ → ℕ → ℕ = g.F.Ring.product c.args.field.now in
    record {
      count = search rules;
      words = words_more k mul (map (λ q. q.terms) c.loop-word.polys.items) (map (λ q. q.terms) c.push.new.self.items) c.loop-word.word c.in_ok-word_poly.field-0.terms (ap (map (λ q. q.terms)) c.in_ok-push.ensures.items ∙ mapped_more (λ q. q.terms) c.loop-word.polys.items c.in_ok-word_poly.field-0) (mapped_long (λ q. q.terms) c.loop-word.polys.items ∙ c.loop-word.invariant.count) c.loop-word.invariant.words c.in_ok-word_poly.ensures;
    }
