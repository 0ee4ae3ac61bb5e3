-- That the certificate of a circuit can be written with its labels. Source: this project's own.
use Rattle.std.specs.Prelude.{◌≡◌, ℕ, List, []}
use Rattle.std.specs.List.{AllByRecursion}
use Rattle.gf_field.specs.Field.{HasNoZeroDivisors}
use Rattle.gf_field.specs.Ring.{IsRing}
use Rattle.gf_basis.specs.declared.bases.Basis.{Basis}
use Rattle.net_core.specs.Sound.{IsSound}
use Rattle.net_words.specs.Binding.{BoundNet}
use Rattle.net_words.specs.OneCycle.{IsOneCycle}
use Rattle.poly_mixed.specs.Labels.{Labelling}
use Rattle.poly_mixed.specs.Polynomial.{Terms}
use Rattle.poly_mixed.specs.Steps.{Step}
use Rattle.circuit_model.specs.Bases.{AreBases}
use Rattle.cert_make.specs.CircuitLabels.{NameVariables}
use Rattle.cert_make.specs.Recorded.{IsCertificateOf}
use Rattle.cert_make.specs.Writable.{IsWritable, IsOfNet, HaveNumbers}

-- the claim in words alone and the pairs, whose generators the net has, can be written
pub record IsWritableCertificate (k : ℕ) (netlist : BoundNet) (labels : Labelling) (claim : Terms) (pairs : List Step) : Type 0 where
  pub writable : IsWritable labels k claim pairs
  pub no_bits : AllByRecursion (λ t. t.0.bits ≡ []) claim
  pub generators : AllByRecursion (λ s. IsOfNet netlist.net labels s.0) pairs

-- the labels of a circuit name all that stands in its certificate
abbrev pub IsNamed : Type 0
IsNamed = (k : ℕ) (mul : ℕ → ℕ → ℕ) (netlist : BoundNet) (bases : List Basis) (labels : Labelling) (claim : Terms) (pairs : List Step) → IsRing k mul → HasNoZeroDivisors k mul → IsSound netlist.net → IsOneCycle netlist.net netlist.binding → netlist.binding.k ≡ k → AreBases k mul netlist bases → HaveNumbers k netlist.net labels → NameVariables netlist labels
    → IsCertificateOf k mul netlist bases claim pairs → IsWritableCertificate k netlist labels claim pairs
