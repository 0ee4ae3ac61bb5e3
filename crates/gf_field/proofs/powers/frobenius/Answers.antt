use Rattle.std.proofs.Common.{refl}
use Rattle.gf_field.specs.Trace.{frobenius}
use Rattle.gf_field.specs.laws.TraceLaws.{frobenius_next}
use Rattle.gf_field.proofs.powers.frobenius.Goals as goal

pub loop-init : goal.loop-init
unfolding frobenius
loop-init g c = record { element = c.requires; squares = refl }

pub loop-preserved : goal.loop-preserved
loop-preserved g c = record {
  element = c.square-square.ensures.element;
  squares = frobenius_next _ c.args.a c.loop.counter c.loop.square _ c.loop.invariant.squares c.square-square.ensures.product;
}
