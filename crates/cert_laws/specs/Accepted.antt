-- That the certificate of a circuit is accepted. Source: this project's own.
use Rattle.std.specs.Prelude.{◌≡◌, ℕ, ◌*◌, ◌<◌, ◌≤◌, ◌^◌, List, length, Ok}
use Rattle.gf_field.specs.Field.{HasNoZeroDivisors}
use Rattle.gf_field.specs.Ring.{IsRing}
use Rattle.gf_basis.specs.declared.bases.Basis.{Basis}
use Rattle.net_core.specs.Sound.{IsSound}
use Rattle.net_words.specs.Binding.{BoundNet}
use Rattle.net_words.specs.OneCycle.{IsOneCycle}
use Rattle.poly_mixed.specs.Labels.{Labelling}
use Rattle.poly_mixed.specs.Polynomial.{Terms}
use Rattle.poly_mixed.specs.Steps.{Step}
use Rattle.circuit_model.specs.Bases.{AreBases, circuit_in}
use Rattle.stage_model.specs.CircuitListing.{circuit_stages}
use Rattle.stage_model.specs.Listing.{AreAllWithin}
use Rattle.cert_check.specs.Verdict.{valid, Check}
use Rattle.cert_make.specs.CertText.{cert_text}
use Rattle.cert_make.specs.CircuitLabels.{NameVariables}
use Rattle.cert_make.specs.Recorded.{IsCertificateOf}
use Rattle.cert_make.specs.Writable.{HaveNumbers}

-- Where no stage of a circuit has more than n terms, the verdict on its certificate is `valid` with its claim, and no running
-- sum has more than 4n terms.
abbrev pub IsAccepted : Type 0
IsAccepted = (k : ℕ) (mul : ℕ → ℕ → ℕ) (netlist : BoundNet) (bases : List Basis) (labels : Labelling) (claim : Terms) (pairs : List Step) (n most : ℕ) → IsRing k mul → HasNoZeroDivisors k mul → IsSound netlist.net → IsOneCycle netlist.net netlist.binding → netlist.binding.k ≡ k → AreBases k mul netlist bases → HaveNumbers k netlist.net labels → NameVariables netlist labels
    → IsCertificateOf k mul netlist bases claim pairs → AreAllWithin k mul (circuit_stages (circuit_in k mul netlist bases)) n → length pairs < 2 ^ 64 → 4 * n ≤ most
    → Check k mul netlist bases labels most (cert_text labels claim pairs) (Ok (valid claim))
