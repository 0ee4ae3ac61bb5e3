use Rattle.std.proofs.Common.{refl, sym, subst, inl, ℕ, List, drop, Result, Ok, Err}
use Rattle.std.specs.Str.Lines.{lines}
use Rattle.outcome.specs.Outcome.{◌>>=◌, Fits}
use Rattle.net_core.specs.NetList.{NetList}
use Rattle.poly_mixed.specs.Labels.{Labelling}
use Rattle.cert_check.specs.Fault.{refusal}
use Rattle.cert_check.specs.Certificate.{Certificate, begun, HeadOf, AsksNothing, LinesOf, CertificateOf}
use Rattle.cert_check.specs.declared.fault.CertFault.{CertFault}
use Rattle.cert_check.specs.private.Reading.{head_of, AreDrivers}
use Rattle.cert_check.proofs.StepLemmas.{bind_step, cert_moved}
use Rattle.cert_check.proofs.TurnLemmas.{cert_fails}
use Rattle.cert_check.proofs.reading.pairs_of.Goals as goal

pub returns-in-Err : goal.returns-in-Err
returns-in-Err c =
    let same : Certificate → Certificate = λ x. x in
    cert_fails head_of same c.in-Err.fault (HeadOf c.args.k c.args.labels.now (lines c.args.bytes.now)) (CertificateOf c.args.k c.args.circuit.now.net c.args.labels.now c.args.bytes.now) (λ f comes. inl comes) c.in-Err.ensures.value

pub returns-in-Ok : goal.returns-in-Ok
returns-in-Ok c =
    let k : ℕ = c.args.k in
    let net : NetList = c.args.circuit.now.net in
    let labels : Labelling = c.args.labels.now in
    let text : List (List ℕ) = lines c.args.bytes.now in
    let version : ℕ = c.in-Ok.head.version in
    let claim = c.in-Ok.head.claim.terms in
    let same : Certificate → Certificate = λ x. x in
    let R : List (List ℕ) → Type 0 = λ ls. Fits refusal same c.pairs_from.result (LinesOf k net labels (AsksNothing k net labels) version ls 3 (begun claim)) in
    let whole : (outcome : Result Certificate CertFault) → LinesOf k net labels (AsksNothing k net labels) version (drop 2 text) 3 (begun claim) outcome → CertificateOf k net labels c.args.bytes.now outcome =
    λ outcome comes. bind_step (HeadOf k labels text) (λ head. AsksNothing k net labels 2 (begun head.1) >>= (λ met. LinesOf k net labels (AsksNothing k net labels) head.0 (drop 2 text) 3 (begun head.1))) (version, claim) c.in-Ok.ensures.value outcome
    (bind_step (AsksNothing k net labels 2 (begun claim)) (λ met. LinesOf k net labels (AsksNothing k net labels) version (drop 2 text) 3 (begun claim)) tt refl outcome comes) in
    let N : NetList → Type 0 = λ n. Fits refusal same c.pairs_from.result (LinesOf k n labels (AsksNothing k n labels) version (lines c.in-Ok.head.rest.now) 3 (begun claim)) in
    cert_moved same same c.pairs_from.result (LinesOf k net labels (AsksNothing k net labels) version (drop 2 text) 3 (begun claim)) (CertificateOf k net labels c.args.bytes.now) (λ x. whole (Ok x)) (λ f. whole (Err f)) (subst R c.in-Ok.ensures.rest (subst N c.net-net.ensures.net c.pairs_from.ensures))

pub pairs_from-requires-clause-drivers : goal.pairs_from-requires-clause-drivers
pairs_from-requires-clause-drivers c = let P : NetList → Type 0 = λ n. AreDrivers n c.args.drivers.now in subst P (sym c.net-net.ensures.net) c.requires.drivers
