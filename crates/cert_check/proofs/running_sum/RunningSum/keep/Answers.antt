use Rattle.std.proofs.Common.{sym, subst, List}
use Rattle.poly_mixed.specs.Monomial.{Monomial}
use Rattle.cert_check.specs.declared.row.Row.{Row}
use Rattle.cert_check.specs.private.Held.{IsRowAt}
use Rattle.cert_check.proofs.running_sum.RunningSum.keep.Goals as goal

pub add_at-requires-clause-place : goal.add_at-requires-clause-place
add_at-requires-clause-place g c =
    let M : Monomial → Type 0 = λ m. IsRowAt c.args.self.now.rows.items c.in-Some.i m c.args.form.now.word in
    let R : List Row → Type 0 = λ rows. IsRowAt rows c.in-Some.i c.args.term.now.0 c.args.form.now.word in
    subst R (sym c.as_mut_slice.ensures.value) (subst M c.mono.ensures c.in-Some.ensures)
