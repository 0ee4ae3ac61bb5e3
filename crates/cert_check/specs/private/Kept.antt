-- What the code keeps of a certificate. Source: this project's own.
use Rattle.std.specs.Prelude.{◌≡◌, ℕ, ◌<◌, ◌≤◌, ◌+◌, ◌^◌, List, [], ◌∷◌, ◌++◌, length, map, Option, Result, OnOk}
use Rattle.std.specs.List.{AllByRecursion}
use Rattle.outcome.specs.Outcome.{Outcome, Exactly, Fits}
use Rattle.gf_basis.specs.declared.bases.Basis.{Basis}
use Rattle.net_words.specs.Binding.{BoundNet}
use Rattle.poly_mixed.specs.Polynomial.{Polynomial, Terms, IsReduced}
use Rattle.poly_mixed.specs.Steps.{Step}
use Rattle.poly_mixed.specs.declared.steps.Generator.{Generator}
use Rattle.cert_check.specs.Certificate.{Certificate, LineOf, begun, with_shared, with_pair}
use Rattle.cert_check.specs.Fault.{line_refusal, refusal}
use Rattle.cert_check.specs.declared.cert_pairs.Entry.{Entry}
use Rattle.cert_check.specs.Running.{dual_words}
use Rattle.cert_check.specs.Verdict.{IsRunningSum, AsksAtMost, VerdictAtEnd, VerdictFrom, verdict_of}
use Rattle.cert_check.specs.declared.checking.CertVerdict.{CertVerdict}
use Rattle.cert_check.specs.declared.checking.Checking.{Checking}
use Rattle.cert_check.specs.declared.fault.CertFault.{CertFault}
use Rattle.cert_check.specs.declared.fault.CertFault.TheVariants.{TooManyTerms}
use Rattle.cert_check.specs.declared.fault.LineFault.{LineFault}
use Rattle.cert_check.specs.declared.line.Multiplier.{Multiplier}
use Rattle.cert_check.specs.declared.line.Multiplier.TheVariants as multiplier
use Rattle.net_core.specs.NetList.{NetList, nets}
use Rattle.poly_mixed.specs.Labels.{Labelling}
use Rattle.poly_mixed.specs.declared.steps.Generator.TheVariants.{Net, Bit}
use Rattle.cert_check.specs.declared.line.Line.{Line}
use Rattle.cert_check.specs.declared.line.Line.TheVariants as line
use Rattle.cert_check.specs.private.Held.{dual_of, whole, IsHeld, IsLast}
use Rattle.cert_check.specs.private.Reading.{multiplier_in, said_in, IsMultiplier}

-- the terms of each polynomial
abbrev pub terms_of : List Polynomial → List Terms
terms_of polys = map (λ (p : Polynomial). p.terms) polys

-- a pair, where these multipliers are shared
abbrev pub step_in : List Terms → Entry → Step
step_in shared e = (e.generator, multiplier_in shared e.multiplier)

-- the certificate of a claim, shared multipliers and entries
abbrev pub certificate_of : Polynomial → List Polynomial → List Entry → Certificate
certificate_of claim shared entries = record {
  claim = claim.terms;
  shared = terms_of shared;
  pairs = map (step_in (terms_of shared)) entries;
}

-- the number of a shared multiplier, of which there are so many
abbrev pub IsNumbered : ℕ → Multiplier → Type 0
IsNumbered count (multiplier.Own p) = Unit {0}
IsNumbered count (multiplier.Shared n) = n < count

-- fewer than 2^32 entries, each with a multiplier that there is
pub record AreEntries (count : ℕ) (entries : List Entry) : Type 0 where
  pub few : length entries < 2 ^ 32
  pub each : AllByRecursion (λ (e : Entry). IsNumbered count e.multiplier) entries

-- the certificate with one more line
abbrev pub with_line : Certificate → Line → Certificate
with_line c (line.Pair g m) = with_pair c g (multiplier_in c.shared m)
with_line c (line.Share p) = with_shared c p.terms

-- the line's multiplier is one that there is
abbrev pub IsLineIn : Certificate → Line → Type 0
IsLineIn c (line.Pair g m) = IsNumbered (length c.shared) m × (length c.pairs + 1 < 2 ^ 32)
IsLineIn c (line.Share p) = Unit {0}

-- a net, or a bit of an input, state or fed word, of which there are at most 8
abbrev pub IsGeneratorOf : ℕ → BoundNet → List Basis → Generator → Type 0
IsGeneratorOf k netlist bases (Net n) = n < nets netlist.net
IsGeneratorOf k netlist bases (Bit w i) = (w < length (dual_words netlist bases)) × (w < 8) × (i < k)

-- a generator and a multiplier that there are
abbrev pub IsLineOf : ℕ → BoundNet → List Basis → ℕ → Line → Type 0
IsLineOf k netlist bases count (line.Pair g m) = IsGeneratorOf k netlist bases g × IsMultiplier k count m
IsLineOf k netlist bases count (line.Share p) = IsReduced k p.terms

-- the claim, the shared multipliers and the running sum of a certificate, which is within the bound
pub record IsKept (k : ℕ) (mul : ℕ → ℕ → ℕ) (netlist : BoundNet) (bases : List Basis) (most : ℕ) (c : Certificate) (claim : Terms) (shared : List Terms) (sum : Terms) : Type 0 where
  pub claim_is : claim ≡ c.claim
  pub shared_are : shared ≡ c.shared
  pub reduced : AllByRecursion (IsReduced k) shared
  pub sum_is : IsRunningSum k mul netlist bases c sum
  pub within : length sum ≤ most

-- what is asked after a line
abbrev pub LineAsks : ℕ → (ℕ → ℕ → ℕ) → BoundNet → List Basis → ℕ → ℕ → Certificate → Line → Outcome CertFault (Unit {0})
LineAsks k mul netlist bases most n c (line.Pair g m) = AsksAtMost k mul netlist bases most n (with_pair c g (multiplier_in c.shared m))
LineAsks k mul netlist bases most n c (line.Share p) = Exactly tt

-- the fault of a sum of too many terms after the line of this number
abbrev pub IsOver : ℕ → ℕ → ℕ → CertFault → Type 0
IsOver n most size fault = (fault ≡ TooManyTerms n size) × (most < size)

-- what a line says, where so many multipliers are shared before it
abbrev pub SaysLine : ℕ → NetList → Labelling → ℕ → ℕ → List ℕ → Result (Option Line) LineFault → Type 0
SaysLine k net labels version count line result = (shared : List Terms) → length shared ≡ count → Fits line_refusal (said_in shared) result (LineOf k net labels version shared line)

-- one more multiplier is shared, and nothing else changes
pub record IsShared (old new : Checking) (p : Terms) : Type 0 where
  pub claim : new.claim ≡ old.claim
  pub shared : terms_of new.shared.items ≡ terms_of old.shared.items ++ p ∷ []
  pub few : length new.shared.items ≤ length old.shared.items + 1
  pub sum : new.sum ≡ old.sum
  pub last : new.last ≡ old.last

module _ (k : ℕ) (mul : ℕ → ℕ → ℕ) (netlist : BoundNet) (bases : List Basis) where
  -- the state is that of a certificate, whose running sum is within the bound
  abbrev pub Keeps : ℕ → Checking → Certificate → Type 0
  Keeps most state c = IsKept k mul netlist bases most c state.claim.terms (terms_of state.shared.items) (whole k mul (dual_of netlist bases) state.sum)

  -- of whatever certificate the old state is, the line asks this
  abbrev pub AsksLine : ℕ → ℕ → Result (Unit {0}) CertFault → Checking → Line → Type 0
  AsksLine most n result old said = (c : Certificate) → Keeps most old c → Fits refusal (λ u. tt) result (LineAsks k mul netlist bases most n c said)

  -- of whatever certificate the old state is, the new one is of that with the line
  abbrev pub KeepsLine : ℕ → Result (Unit {0}) CertFault → Checking → Checking → Line → Type 0
  KeepsLine most result old new said = (c : Certificate) → Keeps most old c → OnOk result (Keeps most new (with_line c said))

  -- what a line adds to a state
  pub record AddsLine (most n : ℕ) (result : Result (Unit {0}) CertFault) (old new : Checking) (said : Line) : Type 0 where
    pub asks : AsksLine most n result old said
    pub kept : KeepsLine most result old new said
    pub few : OnOk result (length new.shared.items ≤ length old.shared.items + 1)
    pub held : OnOk result (IsHeld netlist bases k new.sum)
    pub last : OnOk result (IsLast k mul netlist bases new.last)

  -- the verdict after `end`, of whatever certificate the state is
  abbrev pub EndsWith : Checking → ℕ → List (List ℕ) → Result CertVerdict CertFault → Type 0
  EndsWith state n left result = (most : ℕ) (c : Certificate) → Keeps most state c → Fits refusal verdict_of result (VerdictAtEnd k mul netlist bases n left c)

  -- the verdict of the lines after a claim
  abbrev pub IsVerdictAfter : Labelling → ℕ → ℕ → List (List ℕ) → Terms → Result CertVerdict CertFault → Type 0
  IsVerdictAfter labels most version left claim result = Fits refusal verdict_of result (VerdictFrom k mul netlist bases labels most version left 3 (begun claim))
