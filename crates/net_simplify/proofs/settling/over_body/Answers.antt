use Rattle.std.proofs.Common.{◌∙◌, ℕ, List, length, ap, arith}
use Rattle.std.specs.Prelude.{slice_index_or}
use Rattle.std.proofs.lemmas.Result.{IfOk-weaker}
use Rattle.net_simplify.specs.Form.{complement}
use Rattle.net_simplify.specs.private.Lists.{form_at}
use Rattle.net_simplify.proofs.SettleLemmas.{body_constant, body_same, body_turned}
use Rattle.net_simplify.proofs.settling.over_body.Goals as goal

pub returns-then-table-eq2 : goal.returns-then-table-eq2
returns-then-table-eq2 c =
    IfOk-weaker c.copy-then-table-eq2.result _ _ (λ body made is few each.
    body_same c.args.form.now (form_at c.args.known.now.bodies) (slice_index_or c.leaves.result.now 0 0) c.table.result body (omega (arith, few, c.in-len1-up.len_at_least, ap (λ (ls : List ℕ). length ls) c.leaves.ensures.leaves)) (ap (λ (ls : List ℕ). slice_index_or ls 0 0) c.leaves.ensures.leaves) c.table.ensures.table c.if-table-eq2.true (made ∙ c.body.ensures) each) c.copy-then-table-eq2.ensures

pub returns-else-table-eq2 : goal.returns-else-table-eq2
returns-else-table-eq2 c =
    IfOk-weaker c.complement.result _ _ (λ body made is few each.
    body_turned c.args.form.now (form_at c.args.known.now.bodies) (slice_index_or c.leaves.result.now 0 0) c.table.result body is (omega (arith, few, c.in-len1-up.len_at_least, ap (λ (ls : List ℕ). length ls) c.leaves.ensures.leaves)) (ap (λ (ls : List ℕ). slice_index_or ls 0 0) c.leaves.ensures.leaves) c.table.ensures.table c.if-table-eq2.false (made ∙ ap complement c.body-else-table-eq2.ensures) each) c.complement.ensures

pub returns-in-empty : goal.returns-in-empty
returns-in-empty c =
    IfOk-weaker c.copy.result _ _ (λ body made is few each.
    body_constant c.args.form.now (form_at c.args.known.now.bodies) body is few (λ one. omega (arith, one, c.in-empty.len_below, ap (λ (ls : List ℕ). length ls) c.leaves.ensures.leaves)) made) c.copy.ensures
