use Rattle.std.proofs.Common.{arith, not, ap}
use Rattle.stage_model.specs.WordStage.{is_of_word}
use Rattle.word_subst.proofs.KeptLemmas.{kept_at, kept_all}
use Rattle.word_subst.proofs.rest.other_ranks.Goals as goal

pub loop-rank-preserved : goal.loop-rank-preserved
loop-rank-preserved c = kept_at (λ r. not (is_of_word c.args.k c.args.word r)) c.args.ranks.now c.loop-rank.list.items c.add_rank.new.list.items c.loop-rank.rank-index (not c.is_own.result) (omega (arith, c.loop-rank-test.true)) (ap not c.is_own.ensures) c.in_ok-add_rank.ensures c.loop-rank.invariant

pub returns : goal.returns
returns c = kept_all (λ r. not (is_of_word c.args.k c.args.word r)) c.args.ranks.now c.loop-rank.list.items c.loop-rank.rank-index (omega (arith, c.loop-rank-test.false)) c.loop-rank.invariant
