use Rattle.std.proofs.Common.{◌≡◌, ◌∙◌, ap, sym, subst, ℕ, ◌+◌, ◌≤◌, length, Ok, Err, arith, rules}
use Rattle.std.proofs.lemmas.Grind.{common_steps}
use Rattle.std.specs.Prelude.{Option}
use Rattle.std.specs.Str.Lines.{lines}
use Rattle.std.proofs.lemmas.List.{length-map}
use Rattle.lists.specs.laws.LineLaws.{no_lines}
use Rattle.outcome.specs.Outcome.{Fits}
use Rattle.poly_mixed.specs.Polynomial.{Polynomial, Terms}
use Rattle.cert_check.specs.Fault.{line_refusal, refusal}
use Rattle.cert_check.specs.Certificate.{begun, LineOf}
use Rattle.cert_check.specs.Verdict.{IsRunningSum, VerdictFrom, VerdictAtEnd, verdict_of}
use Rattle.cert_check.specs.declared.fault.CertFault.{CertFault}
use Rattle.cert_check.specs.declared.line.Line.{Line}
use Rattle.cert_check.specs.private.Held.{dual_of, whole as held_terms, IsHeld}
use Rattle.cert_check.specs.private.Kept.{terms_of}
use Rattle.cert_check.specs.private.Reading.{said_in, IsLine}
use Rattle.cert_check.proofs.CheckLemmas.{is_line}
use Rattle.cert_check.proofs.StepLemmas.{cert_moved}
use Rattle.cert_check.proofs.TurnLemmas.{turn_fails, turn_ends, turn_refused, turn_more, turn_over}
use Rattle.cert_check.proofs.checking.verdict_from.Goals as goal

pub turns-init : goal.turns-init
turns-init g c =
    let k : ℕ = g.F.Ring.degree c.args.field.now in
    let mul : ℕ → ℕ → ℕ = g.F.Ring.product c.args.field.now in
    let dual : ℕ → ℕ → ℕ = dual_of c.args.circuit.now c.args.bases.now in
    let S : Terms → Type 0 = IsRunningSum k mul c.args.circuit.now c.args.bases.now (begun c.args.claim.terms) in
    let L : Terms → Type 0 = λ ts. length ts ≤ c.args.bound in
    let is_held : IsHeld c.args.circuit.now c.args.bases.now k c.new-held.result = c.new-held.ensures.held c.args.circuit.now c.args.bases.now k c.requires.sum.reduced in
    let is_sum : IsRunningSum k mul c.args.circuit.now c.args.bases.now (begun c.args.claim.terms) (held_terms k mul dual c.new-held.result) = subst S (sym (c.new-held.ensures.whole k mul dual)) c.requires.sum in
    let is_within : length (held_terms k mul dual c.new-held.result) ≤ c.args.bound = subst L (sym (c.new-held.ensures.whole k mul dual)) c.requires.within in
    search rules

pub returns-in-Err : goal.returns-in-Err
returns-in-Err g c =
    let k : ℕ = g.F.Ring.degree c.args.field.now in
    let mul : ℕ → ℕ → ℕ = g.F.Ring.product c.args.field.now in
    let at = c.turns.invariant.at in
    let count : length at.certificate.shared ≡ length c.turns.checking.shared.items = ap length (sym at.kept.shared_are) ∙ length-map c.turns.checking.shared.items (λ (p : Polynomial). p.terms) in
    let whole = VerdictFrom k mul c.args.circuit.now c.args.bases.now c.args.labels.now c.args.bound c.args.version (lines c.args.bytes.now) 3 (begun c.args.claim.terms) in
    let P : CertFault → Type 0 = λ f. Fits refusal verdict_of (Err f) (VerdictFrom k mul c.args.circuit.now c.args.bases.now c.args.labels.now c.args.bound c.args.version (lines c.args.bytes.now) 3 (begun c.args.claim.terms)) in
    subst P (sym c.at_line.ensures)
    (turn_fails k mul c.args.circuit.now c.args.bases.now c.args.labels.now c.args.bound c.args.version whole c.turns.number (lines c.turns.rest.now) (lines c.next_line.result.1.now) c.next_line.result.0.now c.turns.checking.claim.terms (terms_of c.turns.checking.shared.items) (held_terms k mul (dual_of c.args.circuit.now c.args.bases.now) c.turns.checking.sum) c.next_line.ensures.lines at verdict_of c.in-Err.fault (c.in-Err.ensures.value at.certificate.shared (count ∙ sym (ap length c.as_slice.ensures.value))))

pub returns-in-None : goal.returns-in-None
returns-in-None g c =
    let k : ℕ = g.F.Ring.degree c.args.field.now in
    let mul : ℕ → ℕ → ℕ = g.F.Ring.product c.args.field.now in
    let at = c.turns.invariant.at in
    let count : length at.certificate.shared ≡ length c.turns.checking.shared.items = ap length (sym at.kept.shared_are) ∙ length-map c.turns.checking.shared.items (λ (p : Polynomial). p.terms) in
    let whole = VerdictFrom k mul c.args.circuit.now c.args.bases.now c.args.labels.now c.args.bound c.args.version (lines c.args.bytes.now) 3 (begun c.args.claim.terms) in
    let P : Option Line → Type 0 = λ o. Fits line_refusal (said_in at.certificate.shared) (Ok o) (LineOf k c.args.circuit.now.net c.args.labels.now c.args.version at.certificate.shared c.next_line.result.0.now) in
    let fits = subst P c.in-None.is (c.in-Ok.ensures.value at.certificate.shared (count ∙ sym (ap length c.as_slice.ensures.value))) in
    let ends = turn_ends k mul c.args.circuit.now c.args.bases.now c.args.labels.now c.args.bound c.args.version whole c.turns.number (lines c.turns.rest.now) (lines c.next_line.result.1.now) c.next_line.result.0.now c.turns.checking.claim.terms (terms_of c.turns.checking.shared.items) (held_terms k mul (dual_of c.args.circuit.now c.args.bases.now) c.turns.checking.sum) c.next_line.ensures.lines at fits in
    cert_moved verdict_of verdict_of c.ended.result (VerdictAtEnd k mul c.args.circuit.now c.args.bases.now (c.turns.number + 1) (lines c.next_line.result.1.now) at.certificate) whole (λ x comes. ends (Ok (verdict_of x)) comes) (λ f comes. ends (Err f) comes)
    (c.ended.ensures c.args.bound at.certificate at.kept)

pub add-requires-clause-kept : goal.add-requires-clause-kept
add-requires-clause-kept g c = (c.turns.invariant.at.certificate, c.turns.invariant.at.kept)

pub add-requires-clause-line : goal.add-requires-clause-line
add-requires-clause-line g c =
    let k : ℕ = g.F.Ring.degree c.args.field.now in
    let mul : ℕ → ℕ → ℕ = g.F.Ring.product c.args.field.now in
    let N : ℕ → Type 0 = λ n. IsLine k c.args.circuit.now.net c.args.labels.now n c.in-Some.line in
    is_line k mul c.args.circuit.now c.args.bases.now c.args.labels.now (length c.turns.checking.shared.items) c.in-Some.line c.requires.bases.long c.requires.labels c.requires.k c.requires.few (subst N (ap length c.as_slice.ensures.value) (rw c.in-Some.is at c.in-Ok.ensures.is))

pub returns-in-Err-add : goal.returns-in-Err-add
returns-in-Err-add g c =
    let k : ℕ = g.F.Ring.degree c.args.field.now in
    let mul : ℕ → ℕ → ℕ = g.F.Ring.product c.args.field.now in
    let at = c.turns.invariant.at in
    let count : length at.certificate.shared ≡ length c.turns.checking.shared.items = ap length (sym at.kept.shared_are) ∙ length-map c.turns.checking.shared.items (λ (p : Polynomial). p.terms) in
    let whole = VerdictFrom k mul c.args.circuit.now c.args.bases.now c.args.labels.now c.args.bound c.args.version (lines c.args.bytes.now) 3 (begun c.args.claim.terms) in
    let P : Option Line → Type 0 = λ o. Fits line_refusal (said_in at.certificate.shared) (Ok o) (LineOf k c.args.circuit.now.net c.args.labels.now c.args.version at.certificate.shared c.next_line.result.0.now) in
    let fits = subst P c.in-Some.is (c.in-Ok.ensures.value at.certificate.shared (count ∙ sym (ap length c.as_slice.ensures.value))) in
    turn_refused k mul c.args.circuit.now c.args.bases.now c.args.labels.now c.args.bound c.args.version whole c.turns.number (lines c.turns.rest.now) (lines c.next_line.result.1.now) c.next_line.result.0.now c.turns.checking.claim.terms (terms_of c.turns.checking.shared.items) (held_terms k mul (dual_of c.args.circuit.now c.args.bases.now) c.turns.checking.sum) c.next_line.ensures.lines at {X = Unit {0}} (λ u. tt) verdict_of c.in-Some.line c.in-Err-add.fault fits
    (c.in-Err-add.ensures.asks at.certificate at.kept)

pub turns-preserved : goal.turns-preserved
turns-preserved g c =
    let k : ℕ = g.F.Ring.degree c.args.field.now in
    let mul : ℕ → ℕ → ℕ = g.F.Ring.product c.args.field.now in
    let at = c.turns.invariant.at in
    let count : length at.certificate.shared ≡ length c.turns.checking.shared.items = ap length (sym at.kept.shared_are) ∙ length-map c.turns.checking.shared.items (λ (p : Polynomial). p.terms) in
    let whole = VerdictFrom k mul c.args.circuit.now c.args.bases.now c.args.labels.now c.args.bound c.args.version (lines c.args.bytes.now) 3 (begun c.args.claim.terms) in
    let P : Option Line → Type 0 = λ o. Fits line_refusal (said_in at.certificate.shared) (Ok o) (LineOf k c.args.circuit.now.net c.args.labels.now c.args.version at.certificate.shared c.next_line.result.0.now) in
    let fits = subst P c.in-Some.is (c.in-Ok.ensures.value at.certificate.shared (count ∙ sym (ap length c.as_slice.ensures.value))) in
    record {
      at = turn_more k mul c.args.circuit.now c.args.bases.now c.args.labels.now c.args.bound c.args.version whole c.turns.number (lines c.turns.rest.now) (lines c.next_line.result.1.now) c.next_line.result.0.now c.turns.checking.claim.terms (terms_of c.turns.checking.shared.items) (held_terms k mul (dual_of c.args.circuit.now c.args.bases.now) c.turns.checking.sum) c.next_line.ensures.lines at c.in-Some.line
          c.add.new.self.claim.terms (terms_of c.add.new.self.shared.items) (held_terms k mul (dual_of c.args.circuit.now c.args.bases.now) c.add.new.self.sum) fits (c.in-Ok-add.ensures.asks at.certificate at.kept) (c.in-Ok-add.ensures.kept at.certificate at.kept);
      held = c.in-Ok-add.ensures.held;
      last = c.in-Ok-add.ensures.last;
      long = omega (arith, c.turns.invariant.long, c.next_line.ensures.shorter);
      shared = omega (arith, c.turns.invariant.shared, c.in-Ok-add.ensures.few);
    }

pub returns : goal.returns
returns g c =
    let k : ℕ = g.F.Ring.degree c.args.field.now in
    let mul : ℕ → ℕ → ℕ = g.F.Ring.product c.args.field.now in
    let empty : length c.turns.rest.now ≡ 0 = first_of (search rules, grind (arith, common_steps)) in
    turn_over k mul c.args.circuit.now c.args.bases.now c.args.labels.now c.args.bound c.args.version
    (VerdictFrom k mul c.args.circuit.now c.args.bases.now c.args.labels.now c.args.bound c.args.version (lines c.args.bytes.now) 3 (begun c.args.claim.terms)) c.turns.number (lines c.turns.rest.now)
    c.turns.checking.claim.terms (terms_of c.turns.checking.shared.items) (held_terms k mul (dual_of c.args.circuit.now c.args.bases.now) c.turns.checking.sum) (no_lines c.turns.rest.now empty) c.turns.invariant.at
