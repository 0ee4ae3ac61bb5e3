-- The verdict on a certificate: whether its last running sum is the polynomial without terms.
-- Source: this project's own.
use Rattle.std.specs.Prelude.{◌≡◌, ◌≢◌, ℕ, ◌<◌, ◌≤◌, List, [], length, Ok, Err}
use Rattle.outcome.specs.Outcome.{Outcome, Determined, ◌>>=◌}
use Rattle.gf_basis.specs.declared.bases.Basis.{Basis}
use Rattle.net_words.specs.Binding.{BoundNet}
use Rattle.poly_mixed.specs.Labels.{Labelling}
use Rattle.poly_mixed.specs.Polynomial.{Terms, IsPolynomialOf}
use Rattle.cert_check.specs.Certificate.{Certificate, NoLine, LinesOf, CertificateBy}
use Rattle.cert_check.specs.Running.{running}
use Rattle.cert_check.specs.declared.checking.CertVerdict.{CertVerdict}
use Rattle.cert_check.specs.declared.checking.CertVerdict.TheVariants as answer
use Rattle.cert_check.specs.declared.fault.CertFault.{CertFault}
use Rattle.cert_check.specs.declared.fault.CertFault.TheVariants.{TooManyTerms}

-- the claim is proved, or so many terms are left of the sum
pub data Verdict : Type 0 where
  valid : Terms → Verdict
  invalid : ℕ → Verdict

module _ (k : ℕ) (mul : ℕ → ℕ → ℕ) (netlist : BoundNet) (bases : List Basis) where
  -- the polynomial of the running sum
  abbrev pub IsRunningSum : Certificate → Terms → Type 0
  IsRunningSum c sum = IsPolynomialOf k mul (running k mul netlist bases c) sum

  -- after the line of this number the running sum has at most so many terms
  abbrev pub AsksAtMost : ℕ → ℕ → Certificate → Outcome CertFault (Unit {0})
  AsksAtMost most n c (Ok met) = (sum : Terms) × IsRunningSum c sum × (length sum ≤ most)
  AsksAtMost most n c (Err fault) = (sum : Terms) × IsRunningSum c sum × (most < length sum) × (fault ≡ TooManyTerms n (length sum))

  abbrev pub VerdictOn : Certificate → Outcome CertFault Verdict
  VerdictOn c (Ok (valid claim)) = (claim ≡ c.claim) × IsRunningSum c []
  VerdictOn c (Ok (invalid remaining)) = (sum : Terms) × IsRunningSum c sum × (sum ≢ []) × (remaining ≡ length sum)
  VerdictOn c (Err fault) = ⊥

  -- the verdict on a text, where no running sum may have more than so many terms
  abbrev pub Check : Labelling → ℕ → List ℕ → Outcome CertFault Verdict
  Check labels most bytes = do
    certificate ← CertificateBy k netlist.net labels (AsksAtMost most) bytes
    VerdictOn certificate

  -- whatever the labels, the bound and the text are, one verdict or one fault comes of them
  abbrev pub OneVerdict : Type 0
  OneVerdict = (labels : Labelling) (most : ℕ) (bytes : List ℕ) → Determined (Check labels most bytes)

  -- the verdict of these lines after the claim, of which the first has the number n
  abbrev pub VerdictFrom : Labelling → ℕ → ℕ → List (List ℕ) → ℕ → Certificate → Outcome CertFault Verdict
  VerdictFrom labels most version lines n c = LinesOf k netlist.net labels (AsksAtMost most) version lines n c >>= VerdictOn

  -- the verdict after `end`
  abbrev pub VerdictAtEnd : ℕ → List (List ℕ) → Certificate → Outcome CertFault Verdict
  VerdictAtEnd n lines c = NoLine n lines c >>= VerdictOn

-- what the code answers, as a verdict
abbrev pub verdict_of : CertVerdict → Verdict
verdict_of (answer.Valid claim) = valid claim.terms
verdict_of (answer.Invalid remaining) = invalid remaining
