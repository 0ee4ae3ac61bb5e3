use Rattle.std.proofs.Common.{subst, ℕ, List, drop, Ok, Err}
use Rattle.std.specs.Str.Lines.{lines}
use Rattle.outcome.specs.Outcome.{Fits}
use Rattle.cert_check.specs.Fault.{refusal}
use Rattle.cert_check.specs.Certificate.{HeadOf, begun}
use Rattle.cert_check.specs.Verdict.{VerdictFrom, Check, verdict_of}
use Rattle.cert_check.specs.private.Reading.{head_of}
use Rattle.cert_check.proofs.StepLemmas.{cert_moved}
use Rattle.cert_check.proofs.TurnLemmas.{head_fails, claim_over, claim_within}
use Rattle.cert_check.proofs.text_verdict.verdict_on.Goals as goal

pub returns-in-Err : goal.returns-in-Err
returns-in-Err g c =
    let mul : ℕ → ℕ → ℕ = g.F.Ring.product c.args.field.now in
    let H : ℕ → Type 0 = λ d. Fits refusal head_of (Err c.in-Err.fault) (HeadOf d c.args.labels.now (lines c.args.bytes.now)) in
    head_fails (g.F.Ring.degree c.args.field.now) mul c.args.circuit.now c.args.bases.now c.args.labels.now c.args.bound (lines c.args.bytes.now) head_of verdict_of c.in-Err.fault (subst H c.k-k.ensures c.in-Err.ensures.value)

pub returns-in-Err-check_size : goal.returns-in-Err-check_size
returns-in-Err-check_size g c =
    let k : ℕ = g.F.Ring.degree c.args.field.now in
    let mul : ℕ → ℕ → ℕ = g.F.Ring.product c.args.field.now in
    let H : ℕ → Type 0 = λ d. HeadOf d c.args.labels.now (lines c.args.bytes.now) (Ok (c.in-Ok.head.version, c.in-Ok.head.claim.terms)) in
    claim_over k mul c.args.circuit.now c.args.bases.now c.args.labels.now c.args.bound (lines c.args.bytes.now) c.in-Ok.head.version c.in-Ok.head.claim.terms c.in_ok-sum.sum.terms (subst H c.k-k.ensures c.in-Ok.ensures.value) c.in_ok-sum.ensures verdict_of c.in-Err-check_size.fault
    c.in-Err-check_size.ensures.over.0 c.in-Err-check_size.ensures.over.1

pub returns-in-Ok-check_size : goal.returns-in-Ok-check_size
returns-in-Ok-check_size g c =
    let k : ℕ = g.F.Ring.degree c.args.field.now in
    let mul : ℕ → ℕ → ℕ = g.F.Ring.product c.args.field.now in
    let H : ℕ → Type 0 = λ d. HeadOf d c.args.labels.now (lines c.args.bytes.now) (Ok (c.in-Ok.head.version, c.in-Ok.head.claim.terms)) in
    let comes = claim_within k mul c.args.circuit.now c.args.bases.now c.args.labels.now c.args.bound (lines c.args.bytes.now) c.in-Ok.head.version c.in-Ok.head.claim.terms c.in_ok-sum.sum.terms (subst H c.k-k.ensures c.in-Ok.ensures.value) c.in_ok-sum.ensures c.in-Ok-check_size.ensures.within in
    let R : List (List ℕ) → Type 0 = λ ls. Fits refusal verdict_of c.verdict_from.result (VerdictFrom k mul c.args.circuit.now c.args.bases.now c.args.labels.now c.args.bound c.in-Ok.head.version ls 3 (begun c.in-Ok.head.claim.terms)) in
    cert_moved verdict_of verdict_of c.verdict_from.result (VerdictFrom k mul c.args.circuit.now c.args.bases.now c.args.labels.now c.args.bound c.in-Ok.head.version (drop 2 (lines c.args.bytes.now)) 3 (begun c.in-Ok.head.claim.terms)) (Check k mul c.args.circuit.now c.args.bases.now c.args.labels.now c.args.bound c.args.bytes.now)
    (λ x. comes (Ok (verdict_of x))) (λ f. comes (Err f)) (subst R c.in-Ok.ensures.rest c.verdict_from.ensures)

pub verdict_from-requires-clause-few : goal.verdict_from-requires-clause-few
verdict_from-requires-clause-few g c = c.requires.few
