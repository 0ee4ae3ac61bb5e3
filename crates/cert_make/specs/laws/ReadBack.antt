-- That a written certificate is read back, and that an upgrade keeps the claim, the pairs and the verdict.
-- Source: this project's own.
use Rattle.std.specs.Prelude.{◌≡◌, ℕ, ◌<◌, ◌^◌, List, [], length, Ok}
use Rattle.std.specs.List.{AllByRecursion}
use Rattle.gf_field.specs.Field.{HasNoZeroDivisors}
use Rattle.gf_field.specs.Ring.{IsRing}
use Rattle.gf_basis.specs.declared.bases.Basis.{Basis}
use Rattle.net_core.specs.NetList.{NetList}
use Rattle.net_words.specs.Binding.{BoundNet}
use Rattle.poly_mixed.specs.Labels.{Labelling}
use Rattle.poly_mixed.specs.Polynomial.{Terms}
use Rattle.poly_mixed.specs.Steps.{Step}
use Rattle.cert_check.specs.Certificate.{Certificate, CertificateOf}
use Rattle.cert_check.specs.Verdict.{Verdict, Check}
use Rattle.cert_make.specs.CertText.{cert_text}
use Rattle.cert_make.specs.Sharing.{shares_of}
use Rattle.cert_make.specs.Upgrade.{UpgradeOf}
use Rattle.cert_make.specs.Writable.{IsWritable, IsOfNet, HaveNumbers}

-- The text of a claim in words alone and of pairs whose generators the net and the labels have says these, and as shared
-- multipliers those of at least two pairs.
abbrev pub WrittenIsRead : Type 0
WrittenIsRead = (k : ℕ) (net : NetList) (labels : Labelling) (claim : Terms) (pairs : List Step) → IsWritable labels k claim pairs → AllByRecursion (λ t. t.0.bits ≡ []) claim → AllByRecursion (λ s. IsOfNet net labels s.0) pairs → length pairs < 2 ^ 64
    → CertificateOf k net labels (cert_text labels claim pairs) (Ok (record { claim = claim; shared = shares_of pairs; pairs = pairs }))

-- the certificates have one claim and the same pairs
pub record AreAlike (c d : Certificate) : Type 0 where
  pub claim : c.claim ≡ d.claim
  pub pairs : c.pairs ≡ d.pairs

-- an upgraded text says a certificate, with the claim and the pairs of the text
abbrev pub UpgradeKeepsPairs : Type 0
UpgradeKeepsPairs = (k : ℕ) (net : NetList) (labels : Labelling) (bytes upgraded : List ℕ) → HaveNumbers k net labels → length bytes < 2 ^ 32 → UpgradeOf k net labels bytes (Ok upgraded)
    → (c : Certificate) × (d : Certificate) × CertificateOf k net labels bytes (Ok c) × CertificateOf k net labels upgraded (Ok d) × AreAlike c d

-- both texts have the same verdict, with the same number of remaining terms, where both have one
abbrev pub UpgradeKeepsVerdict : Type 0
UpgradeKeepsVerdict = (k : ℕ) (mul : ℕ → ℕ → ℕ) (netlist : BoundNet) (bases : List Basis) (labels : Labelling) (most other : ℕ) (bytes upgraded : List ℕ) (first second : Verdict) → IsRing k mul → HasNoZeroDivisors k mul → HaveNumbers k netlist.net labels → length bytes < 2 ^ 32 → UpgradeOf k netlist.net labels bytes (Ok upgraded)
    → Check k mul netlist bases labels most bytes (Ok first) → Check k mul netlist bases labels other upgraded (Ok second) → first ≡ second
