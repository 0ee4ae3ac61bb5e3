use Rattle.std.proofs.Common.{rules, ◌≡◌, arith}
use Rattle.word_subst.specs.Rest.{rest_of}
use Rattle.word_subst.proofs.ReadFromLemmas.{one_item_more, all_taken}
use Rattle.word_subst.proofs.at_once.have_rest.Goals as goal

pub loop-term-preserved : goal.loop-term-preserved
loop-term-preserved c =
    let is : rest_of c.args.k c.args.word c.term-item.result.0 ≡ c.args.first.now = search rules in
    one_item_more c.args.terms.now c.loop-term.term-index c.term-item.result (λ t. rest_of c.args.k c.args.word t.0 ≡ c.args.first.now) c.loop-term-test.true c.term-item.is c.loop-term.invariant is

pub returns : goal.returns
returns c = λ holds. all_taken c.args.terms.now c.loop-term.term-index (λ t. rest_of c.args.k c.args.word t.0 ≡ c.args.first.now) (omega (arith, c.loop-term-test.false)) c.loop-term.invariant
