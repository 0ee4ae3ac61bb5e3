-- That each text has a certificate and a verdict, or a fault. Source: this project's own.
use Rattle.std.specs.Prelude.{◌≤◌, ℕ, List, Result}
use Rattle.gf_field.specs.Field.{HasNoZeroDivisors}
use Rattle.gf_field.specs.Ring.{IsRing}
use Rattle.gf_basis.specs.declared.bases.Basis.{Basis}
use Rattle.net_core.specs.NetList.{NetList}
use Rattle.net_words.specs.Binding.{BoundNet}
use Rattle.poly_mixed.specs.Labels.{AreLabels, Labelling}
use Rattle.circuit_model.specs.Bases.{AreBases}
use Rattle.cert_check.specs.Certificate.{Certificate, CertificateOf}
use Rattle.cert_check.specs.Verdict.{Check, Verdict}
use Rattle.cert_check.specs.declared.fault.CertFault.{CertFault}

-- under right labels each text says a certificate or has a fault
abbrev pub HaveCertificates : Type 0
HaveCertificates = (k : ℕ) (net : NetList) (labels : Labelling) (bytes : List ℕ) → 1 ≤ k → AreLabels labels → (outcome : Result Certificate CertFault) × CertificateOf k net labels bytes outcome

-- over a field, where each word has a basis, each text has a verdict or a fault under right labels, whatever the bound of terms is
abbrev pub HaveVerdicts : Type 0
HaveVerdicts = (k : ℕ) (mul : ℕ → ℕ → ℕ) (netlist : BoundNet) (bases : List Basis) (labels : Labelling) (most : ℕ) (bytes : List ℕ) → IsRing k mul → HasNoZeroDivisors k mul → AreBases k mul netlist bases → AreLabels labels
    → (outcome : Result Verdict CertFault) × Check k mul netlist bases labels most bytes outcome
