use Rattle.std.proofs.Common.{◌≡◌, ◌<◌, ℕ}
use Rattle.std.specs.Prelude.{slice_index}
use Rattle.gf_basis.specs.BasisParts.{elements_of}
use Rattle.cert_check.proofs.squares.are_multiples.Given as goal

abbrev pub invariant-loop-place : goal.invariant-loop-place
invariant-loop-place g l = (i : ℕ) → i < l.place → slice_index l.coefficients i ≡ g.F.Ring.product l.field l.c (slice_index (elements_of l.basis) i)
