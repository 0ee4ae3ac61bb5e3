use Rattle.std.proofs.Common.{sym, subst, inl, ℕ, List}
use Rattle.net_core.specs.NetList.{NetList}
use Rattle.poly_mixed.specs.Labels.{Labelling}
use Rattle.poly_mixed.specs.Polynomial.{Terms}
use Rattle.poly_mixed.specs.Steps.{Step}
use Rattle.cert_check.specs.Certificate.{Certificate, CertificateOf, AsksNothing}
use Rattle.cert_check.proofs.TurnLemmas.{cert_fails}
use Rattle.cert_make.specs.Upgrade.{UpgradeOf}
use Rattle.cert_make.specs.Writable.{IsWritable}
use Rattle.cert_make.proofs.UpgradeLemmas.{text_good, good_writable}
use Rattle.cert_make.proofs.upgrading.upgrade.Goals as goal

pub returns-in-Err : goal.returns-in-Err
returns-in-Err c =
    let k : ℕ = c.args.k in
    let net : NetList = c.args.circuit.now.net in
    let labels : Labelling = c.args.labels.now in
    let bytes : List ℕ = c.args.bytes.now in
    let said : Certificate → Certificate = λ x. x in
    let written : List ℕ → List ℕ = λ x. x in
    cert_fails said written c.in-Err.fault (CertificateOf k net labels bytes) (UpgradeOf k net labels bytes) (λ f comes. inl comes) c.in-Err.ensures

pub write-requires : goal.write-requires
write-requires c =
    let k : ℕ = c.args.k in
    let net : NetList = c.args.circuit.now.net in
    let labels : Labelling = c.args.labels.now in
    let pairs : Certificate = c.in-Ok.pairs in
    let good = text_good k net labels c.requires.numbers (AsksNothing k net labels) c.args.bytes.now pairs c.in-Ok.ensures in
    let can : IsWritable labels k pairs.claim pairs.pairs = (good_writable k net labels c.requires.numbers pairs good.0).0 in
    let P : Terms → Type 0 = λ claim. IsWritable labels k claim pairs.pairs in
    let Q : List Step → Type 0 = λ steps. IsWritable labels k c.claim.result.now.terms steps in
    (k, subst Q (sym c.in_ok-certificate.ensures) (subst P (sym c.claim.ensures) can))
