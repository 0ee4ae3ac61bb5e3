use Rattle.std.proofs.Common.{◌≡◌, ◌∙◌, ap, sym, refl, subst, ◌+◌, ℕ, List, length}
use Rattle.std.specs.Prelude.{slice_index}
use Rattle.gf_basis.specs.BasisParts.{duals_of}
use Rattle.cert_check.specs.private.Squares.{conjugates, AreSquares, GrowByMultiples}
use Rattle.cert_check.proofs.PlaceLemmas.{refilled}
use Rattle.cert_check.proofs.SquareLemmas.{no_forms, form_more}
use Rattle.cert_check.proofs.squares.squares.Goals as goal

pub loop-place-init : goal.loop-place-init
loop-place-init g c = no_forms (g.met.F.Ring.laws c.args.field.now) (g.met.F.Field.no_zero_divisors c.args.field.now) (duals_of c.args.basis.now) c.args.coefficients.now c.in_ok-list.list.items c.k-k.result c.in_ok-list.ensures c.k-k.ensures

pub loop-place-preserved : goal.loop-place-preserved
loop-place-preserved g c =
    let k : ℕ = g.F.Ring.degree c.args.field.now in
    let mul : ℕ → ℕ → ℕ = g.F.Ring.product c.args.field.now in
    let duals : List ℕ = duals_of c.args.basis.now in
    let place : ℕ = c.loop-place.place in
    let factor : ℕ = slice_index c.args.coefficients.now place in
    let old : List ℕ = c.loop-place.list.items in
    let new : List ℕ = c.add_form.new.to in
    let long : length new ≡ length old = c.add_form.ensures.long ∙ ap length c.as_mut_slice.ensures.value in
    let is = refilled old new c.loop-place.list.len long (sym c.as_mut_slice.ensures.len ∙ ap length c.as_mut_slice.ensures.value) in
    let Q : List ℕ → Type 0 = λ xs. GrowByMultiples k mul factor (conjugates mul (slice_index duals place)) xs new in
    let P : List ℕ → Type 0 = AreSquares k mul duals c.args.coefficients.now (place + 1) in
    subst P (sym is) (form_more (g.met.F.Ring.laws c.args.field.now) (g.met.F.Field.no_zero_divisors c.args.field.now) duals c.args.coefficients.now old new place factor refl c.loop-place.invariant long (subst Q c.as_mut_slice.ensures.value c.add_form.ensures.sums))
