use Rattle.std.proofs.Common.{◌∙◌, sym, refl, subst, inl, List, ℕ, Err, length}
use Rattle.std.specs.Str.Lines.{lines}
use Rattle.std.proofs.lemmas.Bool.{eqb-true}
use Rattle.lists.specs.laws.LineLaws.{no_lines}
use Rattle.cert_check.specs.Certificate.{NoLine}
use Rattle.cert_check.specs.declared.fault.CertFault.TheVariants.{Syntax}
use Rattle.cert_check.specs.private.Held.{dual_of, whole}
use Rattle.cert_check.specs.private.Kept.{terms_of}
use Rattle.cert_check.proofs.EndLemmas.{flushed_size, at_end_valid, at_end_invalid}
use Rattle.cert_check.proofs.KeptLemmas.{some_line, not_empty}
use Rattle.cert_check.proofs.checking.Checking.ended.Goals as goal

pub returns-else-is_empty : goal.returns-else-is_empty
returns-else-is_empty g c most d kept =
    let found = some_line c.args.rest.now (not_empty (length c.args.rest.now) c.if-is_empty.ensures) in
    let P : List (List ℕ) → Type 0 = λ ls. NoLine c.args.number ls d (Err (Syntax c.args.number)) in
    inl (subst P (sym found.2) refl)

pub returns-then-remaining-eq0 : goal.returns-then-remaining-eq0
returns-then-remaining-eq0 g c most d kept =
    let k : ℕ = g.F.Ring.degree c.args.field.now in
    let mul : ℕ → ℕ → ℕ = g.F.Ring.product c.args.field.now in
    let bound = c.args.circuit.now in
    let bases = c.args.bases.now in
    let dual : ℕ → ℕ → ℕ = dual_of bound bases in
    let size = flushed_size k mul dual c.len-remaining.result c.args.self.sum c.flush.new.self c.in_ok-flush.ensures.rows c.in_ok-flush.ensures.poly (c.len-remaining.ensures k mul dual) in
    at_end_valid k mul bound bases most c.args.number d c.args.self.claim.terms (terms_of c.args.self.shared.items) (whole k mul dual c.args.self.sum) (lines c.args.rest.now) (no_lines c.args.rest.now (eqb-true (length c.args.rest.now) 0 (sym c.if-is_empty.ensures))) kept (sym size ∙ c.if-remaining-eq0.true)

pub returns-else-remaining-eq0 : goal.returns-else-remaining-eq0
returns-else-remaining-eq0 g c most d kept =
    let k : ℕ = g.F.Ring.degree c.args.field.now in
    let mul : ℕ → ℕ → ℕ = g.F.Ring.product c.args.field.now in
    let bound = c.args.circuit.now in
    let bases = c.args.bases.now in
    let dual : ℕ → ℕ → ℕ = dual_of bound bases in
    let size = flushed_size k mul dual c.len-remaining.result c.args.self.sum c.flush.new.self c.in_ok-flush.ensures.rows c.in_ok-flush.ensures.poly (c.len-remaining.ensures k mul dual) in
    at_end_invalid k mul bound bases most c.args.number d c.args.self.claim.terms (terms_of c.args.self.shared.items) (whole k mul dual c.args.self.sum) (lines c.args.rest.now) (no_lines c.args.rest.now (eqb-true (length c.args.rest.now) 0 (sym c.if-is_empty.ensures))) kept c.len-remaining.result size c.if-remaining-eq0.false
