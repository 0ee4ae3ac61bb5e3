use Rattle.std.proofs.Common.{ap, sym, subst, ℕ, List, length, drop, Ok, eqb-true}
use Rattle.std.specs.Str.Lines.{lines}
use Rattle.lists.specs.laws.LineLaws.{no_lines}
use Rattle.poly_mixed.specs.Polynomial.{Polynomial}
use Rattle.cert_check.specs.Certificate.{ClaimOf, FirstLine}
use Rattle.cert_check.specs.declared.head.Head.{Head}
use Rattle.cert_check.proofs.HeadLemmas.{no_first, first_fault}
use Rattle.cert_check.proofs.head.second_line.Goals as goal

pub returns-then-is_empty-clause-value : goal.returns-then-is_empty-clause-value
returns-then-is_empty-clause-value c = no_first (λ (h : Head). h.claim.terms) 2 (ClaimOf c.args.k c.args.labels.now) (lines c.args.bytes.now) (no_lines c.args.bytes.now (eqb-true (length c.args.bytes.now) 0 (sym c.if-is_empty.ensures)))

pub returns-in-Err-clause-value : goal.returns-in-Err-clause-value
returns-in-Err-clause-value c =
    first_fault (λ (p : Polynomial). p.terms) (λ (h : Head). h.claim.terms) 2 (ClaimOf c.args.k c.args.labels.now) (lines c.args.bytes.now) (lines c.next_line.result.1.now) c.next_line.result.0.now c.in-Err.fault c.at_line.result c.next_line.ensures.lines c.at_line.ensures c.in-Err.ensures.value

pub returns-in-Ok-clause-value : goal.returns-in-Ok-clause-value
returns-in-Ok-clause-value c =
    let P : List (List ℕ) → Type 0 = λ ls. FirstLine 2 (ClaimOf c.args.k c.args.labels.now) ls (Ok c.in-Ok.claim.terms) in
    subst P (sym c.next_line.ensures.lines) c.in-Ok.ensures.value

pub returns-in-Ok-clause-rest : goal.returns-in-Ok-clause-rest
returns-in-Ok-clause-rest c = sym (ap (λ (ls : List (List ℕ)). drop 1 ls) c.next_line.ensures.lines)
