use Rattle.irreducible.specs.BitMatrix.{rows_of}
use Rattle.irreducible.proofs.KernelLemmas.{kernel_end}
use Rattle.irreducible.proofs.bit_matrix.BitMatrix.kernel.Goals as goal

pub returns : goal.returns
returns c = kernel_end (rows_of c.args.self.now) c.eliminated.result.vectors c.eliminated.ensures.kernel
