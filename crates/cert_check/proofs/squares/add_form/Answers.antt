use Rattle.std.proofs.Common.{arith}
use Rattle.std.specs.Prelude.{slice_index}
use Rattle.gf_basis.specs.BasisParts.{duals_of}
use Rattle.cert_check.proofs.SquareLemmas.{form_elements, form_grows, no_form}
use Rattle.cert_check.proofs.squares.add_form.Goals as goal

pub add_multiples-requires-clause-elements : goal.add_multiples-requires-clause-elements
add_multiples-requires-clause-elements g c =
    form_elements (g.met.F.Ring.laws c.args.field.now) (g.met.F.Field.no_zero_divisors c.args.field.now) c.linear_of-form.result (slice_index (duals_of c.args.basis.now) c.args.place)
    (c.requires.over.dual.inside c.args.place (omega (arith, c.requires.place, c.requires.over.dual.size))) c.linear_of-form.ensures.squares

pub returns-then-c-ne0-clause-sums : goal.returns-then-c-ne0-clause-sums
returns-then-c-ne0-clause-sums g c =
    form_grows (g.met.F.Ring.laws c.args.field.now) (g.met.F.Field.no_zero_divisors c.args.field.now) c.linear_of-form.result c.args.to.now c.add_multiples.new.to (slice_index (duals_of c.args.basis.now) c.args.place) c.args.c c.linear_of-form.ensures.squares c.add_multiples.ensures.sums

pub returns-else-c-ne0-clause-sums : goal.returns-else-c-ne0-clause-sums
returns-else-c-ne0-clause-sums g c =
    no_form (g.met.F.Ring.laws c.args.field.now) (g.met.F.Field.no_zero_divisors c.args.field.now) (slice_index (duals_of c.args.basis.now) c.args.place) c.args.c c.args.to.now c.if-c-ne0.false
