use Rattle.gf_field.specs.laws.ConvolutionLaws.{IsSumOverPairs-convolution}
use Rattle.gf_field.proofs.laws.convolution_sum.Goals as goal

pub returns : goal.returns
returns g c = IsSumOverPairs-convolution (g.R.Ring.product c.args._ring.now)
