use Rattle.std.proofs.Common.{arith}
use Rattle.std.proofs.lemmas.Result.{IfOk-weaker}
use Rattle.net_simplify.proofs.WordLemmas.{flat_between, nets_between}
use Rattle.net_simplify.proofs.circuit.simplified_twice.Goals as goal

pub simplified-requires : goal.simplified-requires
simplified-requires c = record { flat = c.requires.flat; ends = c.requires.ends }

pub simplified-requires-2 : goal.simplified-requires-2
simplified-requires-2 c = record {
  flat = flat_between c.args.ends.now c.args.net.now c.in_ok-between.between c.requires.flat c.in_ok-between.ensures;
  ends = λ n has. omega (arith, c.requires.ends n has, nets_between c.args.ends.now c.args.net.now c.in_ok-between.between c.in_ok-between.ensures);
}

pub returns : goal.returns
returns c = IfOk-weaker c.simplified-2.result _ _ (λ simple is. record { between = c.in_ok-between.between; first = c.in_ok-between.ensures; second = is }) c.simplified-2.ensures
