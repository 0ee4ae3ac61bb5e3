-- What the text of a certificate says, line by line: a claim in words, shared multipliers, and pairs of a generator and a
-- multiplier, in which `#n` stands for shared multiplier n. The first line that has a fault decides.
-- Source: this project's own, docs/FORMATS.md.
use Rattle.std.specs.Prelude.{◌≡◌, ◌≢◌, ℕ, ◌+◌, cond, List, [], ◌∷◌, ◌++◌, length, drop, ◌==◌, Option, Some, None, Result, Ok, Err, slice_get}
use Rattle.std.specs.List.{AllByRecursion}
use Rattle.std.specs.Str.Lines.{lines}
use Rattle.outcome.specs.Outcome.{Outcome, ◌>>=◌, Exactly, Within, Returns}
use Rattle.text_core.specs.Numbers.{value_of}
use Rattle.net_core.specs.NetList.{NetList}
use Rattle.poly_mixed.specs.Labels.{Labelling}
use Rattle.poly_mixed.specs.Polynomial.{Terms}
use Rattle.poly_mixed.specs.Steps.{Step}
use Rattle.poly_mixed.specs.TextOutcome.{TextFault, no_polynomial, no_such_net, no_such_bit, TextOutcome}
use Rattle.poly_mixed.specs.declared.steps.Generator.{Generator}
use Rattle.cert_check.specs.Scan.{is_blank, after_sign, digits_first}
use Rattle.cert_check.specs.Frame.{Frame, pair_of, share_of, end_of, frame_of, version_of, claim_text}
use Rattle.cert_check.specs.declared.fault.LineFault.{LineFault}
use Rattle.cert_check.specs.declared.fault.LineFault.TheVariants.{Syntax, NoSuchNet, NoSuchBit, NoSuchLet}
use Rattle.cert_check.specs.declared.fault.CertFault.{CertFault}
use Rattle.cert_check.specs.Fault.{fault_at, no_end}

-- what a line says: a pair, a shared multiplier, or that the certificate ends
pub data Said : Type 0 where
  pairs : Generator → Terms → Said
  shares : Terms → Said
  ends : Said

-- the claim, the shared multipliers, and the pairs with each number in them replaced by its multiplier
pub record Certificate : Type 0 where
  pub claim : Terms
  pub shared : List Terms
  pub pairs : List Step

-- the claim alone
abbrev pub begun : Terms → Certificate
begun claim = record { claim = claim; shared = []; pairs = [] }

abbrev pub with_shared : Certificate → Terms → Certificate
with_shared c m = record { claim = c.claim; shared = c.shared ++ m ∷ []; pairs = c.pairs }

abbrev pub with_pair : Certificate → Generator → Terms → Certificate
with_pair c g m = record { claim = c.claim; shared = c.shared; pairs = c.pairs ++ (g, m) ∷ [] }

-- a fault of a polynomial's text as one of the line
abbrev pub poly_fault : TextFault → LineFault
poly_fault no_polynomial = Syntax
poly_fault no_such_net = NoSuchNet
poly_fault no_such_bit = NoSuchBit

-- the shared multiplier, where there is one
abbrev pub shared_or : Option Terms → Result Terms LineFault
shared_or None = Err NoSuchLet
shared_or (Some m) = Ok m

-- the shared multiplier whose number stands after `#`, with nothing after it
abbrev pub shared_by : List Terms → Option (List ℕ × List ℕ) → Result Terms LineFault
shared_by shared None = Err Syntax
shared_by shared (Some found) = cond (is_blank found.1) (shared_or (slice_get shared (value_of 10 found.0))) (Err Syntax)

-- what stands after `#`, which begins a multiplier in version 2 alone
abbrev pub after_hash : ℕ → List ℕ → Option (List ℕ)
after_hash version text = cond (version == 2) (after_sign 35 text) None

-- In a polynomial's text `[` stands in bits alone and `@` in nets alone: one without them is in words alone.
abbrev pub IsInWords : List ℕ → Type 0
IsInWords text = AllByRecursion (λ b. (b ≢ 91) × (b ≢ 64)) text

-- no fault but this one
abbrev pub Refused : {F A : Type 0} → F → Outcome F A
Refused fault (Ok value) = ⊥
Refused fault (Err other) = other ≡ fault

-- the first of these lines, which has the number n
abbrev pub FirstLine : {A : Type 0} → ℕ → (List ℕ → Outcome LineFault A) → List (List ℕ) → Outcome CertFault A
FirstLine n Reads [] = Refused no_end
FirstLine n Reads (line ∷ more) = Within (fault_at n) (Reads line)

-- no line follows, of which the first would have the number n
abbrev pub NoLine : ℕ → List (List ℕ) → Certificate → Outcome CertFault Certificate
NoLine n [] c = Exactly c
NoLine n (line ∷ more) c = Refused (fault_at n Syntax)

module _ (k : ℕ) (labels : Labelling) where
  -- the polynomial that a text says
  abbrev pub PolynomialOf : List ℕ → Outcome LineFault Terms
  PolynomialOf text = Within poly_fault (TextOutcome labels k text)

  abbrev pub MultiplierBy : List Terms → Option (List ℕ) → List ℕ → Outcome LineFault Terms
  MultiplierBy shared None text = PolynomialOf text
  MultiplierBy shared (Some rest) text = Returns (shared_by shared (digits_first rest))

  -- a polynomial, or in version 2 also `#` and the number of a shared multiplier
  abbrev pub MultiplierOf : ℕ → List Terms → List ℕ → Outcome LineFault Terms
  MultiplierOf version shared text = MultiplierBy shared (after_hash version text) text

  -- a polynomial in words alone
  abbrev pub InWords : List ℕ → Outcome LineFault Terms
  InWords text (Ok claim) = TextOutcome labels k text (Ok claim) × IsInWords text
  InWords text (Err fault) = (fault ≡ Syntax) × ((claim : Terms) → TextOutcome labels k text (Ok claim) → IsInWords text → ⊥)

  -- the claim of the second line
  abbrev pub ClaimOf : List ℕ → Outcome LineFault Terms
  ClaimOf line = do
    text ← Returns (claim_text labels line)
    InWords text

  -- the version and the claim of the first two lines
  abbrev pub HeadOf : List (List ℕ) → Outcome CertFault (ℕ × Terms)
  HeadOf text = do
    version ← FirstLine 1 (λ line. Returns (version_of line)) text
    claim ← FirstLine 2 ClaimOf (drop 1 text)
    Exactly (version, claim)

module _ (k : ℕ) (net : NetList) (labels : Labelling) where
  abbrev pub SaidBy : ℕ → List Terms → Frame → Outcome LineFault Said
  SaidBy version shared (pair_of g text) = do
    m ← MultiplierOf k labels version shared text
    Exactly (pairs g m)
  SaidBy version shared (share_of text) = do
    m ← PolynomialOf k labels text
    Exactly (shares m)
  SaidBy version shared end_of = Exactly ends

  -- what a line after the claim says, where these multipliers are shared before it
  abbrev pub LineOf : ℕ → List Terms → List ℕ → Outcome LineFault Said
  LineOf version shared line = do
    frame ← Returns (frame_of net labels version (length shared) line)
    SaidBy version shared frame

  -- below, what else is asked of a certificate after the line of this number
  module _ (Asks : ℕ → Certificate → Outcome CertFault (Unit {0})) where
    -- what line n adds, and then the lines after it
    abbrev pub AfterLine : ℕ → Said → List (List ℕ) → Certificate → (Certificate → Outcome CertFault Certificate) → Outcome CertFault Certificate
    AfterLine n ends more c Rest = NoLine (n + 1) more c
    AfterLine n (shares m) more c Rest = Rest (with_shared c m)
    AfterLine n (pairs g m) more c Rest = do
      met ← Asks n (with_pair c g m)
      Rest (with_pair c g m)

    -- these lines up to `end`, of which the first has the number n
    abbrev pub LinesOf : ℕ → List (List ℕ) → ℕ → Certificate → Outcome CertFault Certificate
    LinesOf version [] n c = Refused no_end
    LinesOf version (line ∷ more) n c = do
      said ← Within (fault_at n) (LineOf version c.shared line)
      AfterLine n said more c (LinesOf version more (n + 1))

    -- the whole text
    abbrev pub CertificateBy : List ℕ → Outcome CertFault Certificate
    CertificateBy bytes = do
      head ← HeadOf k labels (lines bytes)
      met ← Asks 2 (begun head.1)
      LinesOf head.0 (drop 2 (lines bytes)) 3 (begun head.1)

  -- nothing else is asked
  abbrev pub AsksNothing : ℕ → Certificate → Outcome CertFault (Unit {0})
  AsksNothing n c = Exactly tt

  -- the certificate that a text says, or its first fault
  abbrev pub CertificateOf : List ℕ → Outcome CertFault Certificate
  CertificateOf bytes = CertificateBy AsksNothing bytes
