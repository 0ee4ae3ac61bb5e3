use Rattle.std.proofs.Common.{suc, ◌<◌, ◌^◌, subst}
use Rattle.std.specs.Prelude.{slice_index}
use Rattle.gf_field.specs.Polynomial.{coefficient}
use Rattle.irreducible.specs.BitMatrix.{rows_of}
use Rattle.gf_iso.specs.Root.{value_at}
use Rattle.gf_iso.proofs.IsoLaws.{base_none, base_least}
use Rattle.gf_iso.proofs.StepLaws.{found_some}
use Rattle.gf_iso.proofs.roots.base_root.Goals as goal

pub least_root-requires-clause-vectors : goal.least_root-requires-clause-vectors
least_root-requires-clause-vectors g c = λ i. subst (λ m. slice_index c.kernel-vectors.result i < 2 ^ m) c.fixed_matrix.ensures.size (c.kernel-vectors.ensures.words i)

pub unwrap-requires : goal.unwrap-requires
unwrap-requires g c =
    found_some (g.F.Ring.degree c.args.field.now) (value_at (g.F.Ring.product c.args.field.now) (suc c.args.n) (coefficient 1 c.args.modulus)) c.kernel-vectors.result 0 c.least_root.result c.least_root.ensures
    (base_none _ _ (g.met.F.Ring.laws c.args.field.now) (g.met.F.Field.no_zero_divisors c.args.field.now) c.args.n c.args.modulus c.requires.base c.requires.double (rows_of c.fixed_matrix.result) c.kernel-vectors.result c.fixed_matrix.ensures.size c.fixed_matrix.ensures.rows c.kernel-vectors.ensures)

pub returns : goal.returns
returns g c =
    base_least _ _ (g.met.F.Ring.laws c.args.field.now) (g.met.F.Field.no_zero_divisors c.args.field.now) c.args.n c.args.modulus c.requires.base c.requires.double (rows_of c.fixed_matrix.result) c.kernel-vectors.result c.fixed_matrix.ensures.size c.fixed_matrix.ensures.rows c.kernel-vectors.ensures
    c.unwrap.result (rw (c.unwrap.ensures) at c.least_root.ensures)
