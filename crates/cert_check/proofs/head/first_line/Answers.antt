use Rattle.std.proofs.Common.{◌∙◌, ap, sym, subst, inr, ℕ, List, length, drop, Ok, eqb-true}
use Rattle.std.specs.Str.Lines.{lines}
use denote.Ref.{Bor}
use Rattle.lists.specs.laws.LineLaws.{no_lines}
use Rattle.outcome.specs.Outcome.{Returns}
use Rattle.cert_check.specs.Certificate.{FirstLine}
use Rattle.cert_check.specs.Fault.{fault_at}
use Rattle.cert_check.specs.Frame.{version_of}
use Rattle.cert_check.proofs.HeadLemmas.{no_first, first_fault, returned, version_fault}
use Rattle.cert_check.proofs.head.first_line.Goals as goal

pub returns-then-is_empty-clause-value : goal.returns-then-is_empty-clause-value
returns-then-is_empty-clause-value c = no_first (λ (found : ℕ × Bor (List ℕ)). found.0) 1 (λ text. Returns (version_of text)) (lines c.args.bytes.now) (no_lines c.args.bytes.now (eqb-true (length c.args.bytes.now) 0 (sym c.if-is_empty.ensures)))

pub returns-in-Err-clause-value : goal.returns-in-Err-clause-value
returns-in-Err-clause-value c =
    first_fault (λ (v : ℕ). v) (λ (found : ℕ × Bor (List ℕ)). found.0) 1 (λ text. Returns (version_of text)) (lines c.args.bytes.now) (lines c.next_line.result.1.now) c.next_line.result.0.now c.in-Err.fault c.at_line.result c.next_line.ensures.lines c.at_line.ensures (returned (version_of c.next_line.result.0.now) c.in-Err.fault c.in-Err.ensures)

pub returns-in-Err-clause-fault : goal.returns-in-Err-clause-fault
returns-in-Err-clause-fault c = inr (c.at_line.ensures ∙ ap (fault_at 1) (version_fault c.next_line.result.0.now c.in-Err.fault c.in-Err.ensures))

pub returns-in-Ok-clause-value : goal.returns-in-Ok-clause-value
returns-in-Ok-clause-value c =
    let P : List (List ℕ) → Type 0 = λ ls. FirstLine 1 (λ text. Returns (version_of text)) ls (Ok c.in-Ok.version) in
    subst P (sym c.next_line.ensures.lines) c.in-Ok.ensures

pub returns-in-Ok-clause-rest : goal.returns-in-Ok-clause-rest
returns-in-Ok-clause-rest c = sym (ap (λ (ls : List (List ℕ)). drop 1 ls) c.next_line.ensures.lines)
