use Rattle.std.proofs.lemmas.Map.Iter.{rest_more}
use Rattle.std.specs.Map.Iter.{deref_pair}
use Rattle.word_subst.proofs.GroupLemmas.{groups_turn}
use Rattle.word_subst.proofs.sums.Sums.to_poly.Goals as goal

pub loop-rest-preserved : goal.loop-rest-preserved
loop-rest-preserved c =
    let next = rest_more deref_pair _ _ _ _ c.in-Some.is c.next.ensures.steps in
    let turn = groups_turn c.args.word c.in-Some.rest.now c.in-Some.powers.now c.loop-rest.rest-iterator c.next.new.self c.loop-rest.poly.terms c.add_spread.new.poly.terms _ next c.in_ok-add_spread.ensures c.loop-rest.invariant.some c.loop-rest.invariant.sum in
    record { some = turn.0; sum = turn.1 }
