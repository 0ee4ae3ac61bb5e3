use Rattle.std.proofs.Common.{◌≡◌, ap, sym, subst, ℕ, ◌+◌, List, length, Ok, Err, arith}
use Rattle.std.specs.Prelude.{Option}
use Rattle.std.specs.Str.Lines.{lines}
use Rattle.outcome.specs.Outcome.{Fits}
use Rattle.net_core.specs.NetList.{NetList}
use Rattle.poly_mixed.specs.Labels.{Labelling}
use Rattle.cert_check.specs.Fault.{fault_at, line_refusal, refusal}
use Rattle.cert_check.specs.Certificate.{Certificate, begun, NoLine, AsksNothing, LineOf, LinesOf}
use Rattle.cert_check.specs.declared.fault.CertFault.{CertFault}
use Rattle.cert_check.specs.declared.line.Line.{Line}
use Rattle.cert_check.specs.private.Kept.{with_line}
use Rattle.cert_check.specs.private.Reading.{said_in}
use Rattle.cert_check.proofs.LoopLemmas.{line_fails, line_ends, line_more}
use Rattle.cert_check.proofs.PairsLemmas.{nothing_asked, added_pairs, added_shared, is_in}
use Rattle.cert_check.proofs.StepLemmas.{cert_moved}
use Rattle.cert_check.proofs.TurnLemmas.{cert_fails}
use Rattle.cert_check.proofs.reading.pairs_from.Goals as goal

pub returns-in-Err : goal.returns-in-Err
returns-in-Err c =
    let k : ℕ = c.args.k in
    let net : NetList = c.args.net.now in
    let labels : Labelling = c.args.labels.now in
    let ps : Certificate = c.loop-rest.pairs in
    let n : ℕ = c.loop-rest.number in
    let same : Certificate → Certificate = λ x. x in
    let P : CertFault → Type 0 = λ f. Fits refusal same (Err f) (LinesOf k net labels (AsksNothing k net labels) c.args.version (lines c.args.bytes.now) 3 (begun c.args.claim.terms)) in
    let fits = line_fails k net labels (AsksNothing k net labels) c.args.version n (lines c.loop-rest.rest.now) (lines c.next_line.result.1.now) c.next_line.result.0.now ps c.next_line.ensures.lines same c.in-Err.fault (c.in-Err.ensures.value ps.shared (sym c.shares-count.ensures)) in
    subst P (sym c.at_line.ensures)
    (cert_fails same same (fault_at n c.in-Err.fault) (LinesOf k net labels (AsksNothing k net labels) c.args.version (lines c.loop-rest.rest.now) n ps) (LinesOf k net labels (AsksNothing k net labels) c.args.version (lines c.args.bytes.now) 3 (begun c.args.claim.terms)) (λ f comes. c.loop-rest.invariant.rest (Err f) comes) fits)

pub returns-in-None : goal.returns-in-None
returns-in-None c =
    let k : ℕ = c.args.k in
    let net : NetList = c.args.net.now in
    let labels : Labelling = c.args.labels.now in
    let ps : Certificate = c.loop-rest.pairs in
    let n : ℕ = c.loop-rest.number in
    let same : Certificate → Certificate = λ x. x in
    let P : Option Line → Type 0 = λ o. Fits line_refusal (said_in ps.shared) (Ok o) (LineOf k net labels c.args.version ps.shared c.next_line.result.0.now) in
    let fits = subst P c.in-None.is (c.in-Ok.ensures.value ps.shared (sym c.shares-count.ensures)) in
    let ends = line_ends k net labels (AsksNothing k net labels) c.args.version n (lines c.loop-rest.rest.now) (lines c.next_line.result.1.now) c.next_line.result.0.now ps c.next_line.ensures.lines fits in
    cert_moved same same c.ended.result (NoLine (n + 1) (lines c.next_line.result.1.now) ps) (LinesOf k net labels (AsksNothing k net labels) c.args.version (lines c.args.bytes.now) 3 (begun c.args.claim.terms))
    (λ x comes. c.loop-rest.invariant.rest (Ok x) (ends (Ok x) comes)) (λ f comes. c.loop-rest.invariant.rest (Err f) (ends (Err f) comes)) c.ended.ensures.value

pub add-requires : goal.add-requires
add-requires c =
    let ps : Certificate = c.loop-rest.pairs in
    is_in c.args.k c.args.net.now c.args.labels.now c.shares-count.result ps c.in-Some.line (sym c.shares-count.ensures) (omega (arith, c.loop-rest.invariant.pairs, c.loop-rest.invariant.long, c.requires.size)) (rw c.in-Some.is at c.in-Ok.ensures.is)

pub loop-rest-preserved : goal.loop-rest-preserved
loop-rest-preserved c =
    let k : ℕ = c.args.k in
    let net : NetList = c.args.net.now in
    let labels : Labelling = c.args.labels.now in
    let ps : Certificate = c.loop-rest.pairs in
    let n : ℕ = c.loop-rest.number in
    let line : Line = c.in-Some.line in
    let more : List (List ℕ) = lines c.next_line.result.1.now in
    let P : Option Line → Type 0 = λ o. Fits line_refusal (said_in ps.shared) (Ok o) (LineOf k net labels c.args.version ps.shared c.next_line.result.0.now) in
    let fits = subst P c.in-Some.is (c.in-Ok.ensures.value ps.shared (sym c.shares-count.ensures)) in
    let asked = nothing_asked k net labels c.args.version n (lines c.loop-rest.rest.now) more c.next_line.result.0.now ps c.next_line.ensures.lines line in
    let new : c.add.new.self ≡ with_line ps line = c.in_ok-add.ensures in
    let pairs_long : length c.add.new.self.pairs ≡ length (with_line ps line).pairs = ap (λ (x : Certificate). length x.pairs) new in
    let shared_long : length c.add.new.self.shared ≡ length (with_line ps line).shared = ap (λ (x : Certificate). length x.shared) new in
    record {
      rest = λ outcome comes.
          let Q : Certificate → Type 0 = λ x. LinesOf k net labels (AsksNothing k net labels) c.args.version more (n + 1) x outcome in
          c.loop-rest.invariant.rest outcome (line_more k net labels (AsksNothing k net labels) c.args.version n (lines c.loop-rest.rest.now) more c.next_line.result.0.now ps c.next_line.ensures.lines line fits asked outcome (subst Q new comes));
      long = omega (arith, c.loop-rest.invariant.long, c.next_line.ensures.shorter);
      pairs = omega (arith, c.loop-rest.invariant.pairs, added_pairs ps line, pairs_long);
      shared = omega (arith, c.loop-rest.invariant.shared, added_shared ps line, shared_long);
    }
