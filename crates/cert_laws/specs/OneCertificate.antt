-- That a circuit has one certificate. Source: this project's own.
use Rattle.std.specs.Prelude.{◌≡◌, ℕ, List}
use Rattle.gf_field.specs.Field.{HasNoZeroDivisors}
use Rattle.gf_field.specs.Ring.{IsRing}
use Rattle.gf_basis.specs.declared.bases.Basis.{Basis}
use Rattle.net_core.specs.Sound.{IsSound}
use Rattle.net_words.specs.Binding.{BoundNet}
use Rattle.net_words.specs.OneCycle.{IsOneCycle}
use Rattle.poly_mixed.specs.Polynomial.{Terms}
use Rattle.poly_mixed.specs.Steps.{Step}
use Rattle.circuit_model.specs.Bases.{AreBases}
use Rattle.cert_make.specs.Recorded.{IsCertificateOf}

-- two certificates of a circuit have one claim and the same pairs
abbrev pub IsOnlyCertificate : Type 0
IsOnlyCertificate = (k : ℕ) (mul : ℕ → ℕ → ℕ) (netlist : BoundNet) (bases : List Basis) (claim other : Terms) (pairs others : List Step) → IsRing k mul → HasNoZeroDivisors k mul → IsSound netlist.net → IsOneCycle netlist.net netlist.binding → netlist.binding.k ≡ k → AreBases k mul netlist bases
    → IsCertificateOf k mul netlist bases claim pairs → IsCertificateOf k mul netlist bases other others → (claim ≡ other) × (pairs ≡ others)
