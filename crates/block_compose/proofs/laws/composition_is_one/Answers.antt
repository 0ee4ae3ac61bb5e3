use Rattle.block_compose.proofs.CompositionDetermined.{one_composition}
use Rattle.block_compose.proofs.laws.composition_is_one.Goals as goal

pub returns : goal.returns
returns c = λ given bound can. one_composition given.k given.product given.design given.signature given.bases bound can.ring can.no_zero_divisors can.right can.composable
