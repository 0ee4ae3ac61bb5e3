use Rattle.std.proofs.Common.{refl, arith, sym}
use Rattle.std.proofs.lemmas.Bool.{true≢false}
use Rattle.net_words.proofs.FlatLemmas.{has_no_nets, have_more, have_all}
use Rattle.net_words.proofs.combinational.have_nets.Goals as goal

pub returns-then-not-has_nets : goal.returns-then-not-has_nets
returns-then-not-has_nets c =
    (λ t. absurd (true≢false (sym t)), λ all. absurd (has_no_nets c.args.binding.now.k c.args.binding.now.words c.loop-w.w c.has_nets.result (omega (arith, c.words-w-end.ensures.count)) c.has_nets.ensures c.if-not-has_nets.true all))

pub loop-w-preserved : goal.loop-w-preserved
loop-w-preserved c = have_more c.args.binding.now.k c.args.binding.now.words c.loop-w.w c.has_nets.result c.has_nets.ensures c.if-not-has_nets.false c.loop-w.invariant

pub returns : goal.returns
returns c = (λ t. have_all c.args.binding.now.k c.args.binding.now.words c.loop-w.w (omega (arith, c.words-w-end.ensures.count)) c.loop-w.invariant, λ all. refl)
