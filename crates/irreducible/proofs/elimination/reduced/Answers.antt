use Rattle.std.proofs.Common.{◌≡◌, suc, ◌-◌, ◌∙◌, sym, subst, arith}
use Rattle.std.proofs.lemmas.Nat.{one_shl}
use Rattle.std.proofs.lemmas.Nat.Bits.{shr_and_one}
use Rattle.irreducible.specs.private.Pivots.{IsCleared}
use Rattle.irreducible.proofs.PivotLaws.{reduced_start, reduced_more}
use Rattle.irreducible.proofs.elimination.reduced.Goals as goal

pub loop-place-init : goal.loop-place-init
loop-place-init c = reduced_start _ c.args.row 64 c.ranges.row.fits

pub loop-place-preserved-then-left-place-eq1 : goal.loop-place-preserved-then-left-place-eq1
loop-place-preserved-then-left-place-eq1 c =
    let same : suc (c.loop-place.place - 1) ≡ c.loop-place.place = omega arith in
    rw (one_shl (c.loop-place.place - 1) 64 (omega arith))
    (reduced_more c.args.sums.now c.args.row c.loop-place.left c.loop-place.used (c.loop-place.place - 1) c.requires
    (subst (λ i. IsCleared c.args.sums.now c.args.row c.loop-place.left c.loop-place.used i) (sym same) c.loop-place.invariant)
    (sym (shr_and_one c.loop-place.left (c.loop-place.place - 1)) ∙ c.if-left-place-eq1.true))
