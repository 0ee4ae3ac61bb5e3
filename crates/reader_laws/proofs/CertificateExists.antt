-- Of each text there is a certificate or a fault, and a verdict or a fault, where the labels are right.
use Rattle.std.proofs.Common.{◌≡◌, ◌⊎◌, sym, refl, subst, inl, inr, ℕ, ◌+◌, ◌≤◌, true, false, cond, List, [], ◌∷◌, drop, length, Result, Ok, Err}
use Rattle.std.specs.Prelude.{Option, None, Some, slice_get}
use Rattle.std.specs.List.{AllByRecursion}
use Rattle.std.specs.Str.Lines.{lines}
use Rattle.std.proofs.lemmas.Bool.{cases_eq, cases_lt}
use Rattle.lists.specs.laws.ListLaws.{all_append}
use Rattle.lists.specs.laws.OptionLaws.{ok_no_fault, same_ok}
use Rattle.lists.specs.laws.ReadLaws.{all_at}
use Rattle.outcome.proofs.SomeLemmas.{some_bind, some_exactly, some_returns, some_within}
use Rattle.outcome.specs.Outcome.{Outcome, ◌>>=◌, Exactly, Returns, Within}
use Rattle.gf_field.specs.Field.{HasNoZeroDivisors}
use Rattle.gf_field.specs.Ring.{IsRing}
use Rattle.gf_basis.specs.declared.bases.Basis.{Basis}
use Rattle.net_core.specs.NetList.{NetList}
use Rattle.net_words.specs.Binding.{BoundNet}
use Rattle.poly_mixed.specs.Labels.{Labelling, AreLabels}
use Rattle.poly_mixed.specs.Polynomial.{Terms, IsReduced}
use Rattle.poly_mixed.specs.Steps.{Step}
use Rattle.poly_mixed.specs.TextOutcome.{TextFault, no_polynomial, no_such_net, no_such_bit, TextOutcome}
use Rattle.poly_mixed.specs.declared.fault.PolyFault.{PolyFault}
use Rattle.poly_mixed.specs.declared.fault.PolyFault.TheVariants as poly
use Rattle.poly_mixed.specs.declared.steps.Generator.{Generator}
use Rattle.poly_mixed.specs.private.Reading.{reading}
use Rattle.poly_mixed.proofs.OneOutcomeLemmas.{one_outcome}
use Rattle.poly_mixed.proofs.ReadPlaceLemmas.{MayCome}
use Rattle.poly_mixed.proofs.ReadReducedLemmas.{read_reduced}
use Rattle.poly_mixed.proofs.ReadTurnLemmas.{reading_comes}
use Rattle.circuit_model.specs.Bases.{AreBases}
use Rattle.cert_check.specs.Certificate.{Said, pairs, shares, ends, Certificate, begun, with_shared, with_pair, poly_fault, shared_by, shared_or, after_hash, IsInWords, FirstLine, NoLine, PolynomialOf, MultiplierBy, MultiplierOf, InWords, ClaimOf, HeadOf, SaidBy, LineOf, AfterLine, LinesOf, CertificateBy, AsksNothing, CertificateOf}
use Rattle.cert_check.specs.Fault.{fault_at, no_end}
use Rattle.cert_check.specs.Frame.{Frame, pair_of, share_of, end_of, frame_of, version_of, claim_text}
use Rattle.cert_check.specs.Scan.{digits_first, is_blank}
use Rattle.cert_check.specs.Verdict.{Verdict, valid, invalid, IsRunningSum, AsksAtMost, VerdictOn, Check}
use Rattle.cert_check.specs.declared.fault.CertFault.{CertFault}
use Rattle.cert_check.specs.declared.fault.CertFault.TheVariants.{TooManyTerms}
use Rattle.cert_check.specs.declared.fault.LineFault.{LineFault}
use Rattle.cert_check.specs.declared.fault.LineFault.TheVariants.{Syntax}
use Rattle.text_core.specs.Numbers.{value_of}
use Rattle.reader_laws.proofs.CertificateSums.{AreReduced, some_running}

-- what a line says is reduced
abbrev IsReducedSaid : ℕ → Said → Type 0
IsReducedSaid k (pairs g m) = IsReduced k m
IsReducedSaid k (shares m) = IsReduced k m
IsReducedSaid k ends = Unit {0}

begun_reduced : (k : ℕ) (claim : Terms) → IsReduced k claim → AreReduced k (begun claim)
begun_reduced k claim is = record { claim = is; shared = tt; pairs = tt }

shared_reduced : (k : ℕ) (c : Certificate) (m : Terms) → AreReduced k c → IsReduced k m → AreReduced k (with_shared c m)
shared_reduced k c m are is = record { claim = are.claim; shared = all_append (IsReduced k) c.shared (m ∷ []) are.shared (is, tt); pairs = are.pairs }

pair_reduced : (k : ℕ) (c : Certificate) (g : Generator) (m : Terms) → AreReduced k c → IsReduced k m → AreReduced k (with_pair c g m)
pair_reduced k c g m are is = record { claim = are.claim; shared = are.shared; pairs = all_append (λ (s : Step). IsReduced k s.1) c.pairs ((g, m) ∷ []) are.pairs (is, tt) }

-- it is in words alone, or it is not
words_or : (text : List ℕ) → IsInWords text ⊎ (IsInWords text → ⊥)
words_or [] = inl tt
words_or (b ∷ text) =
    elim (words_or text) [
      | inl rest ↦ elim (cases_eq b 91) [
        | inl bracket ↦ inr (λ are. are.0.0 bracket)
        | inr other ↦ elim (cases_eq b 64) [ inl sign ↦ inr (λ are. are.0.1 sign) | inr another ↦ inl ((other, another), rest) ]
      ]
      | inr other ↦ inr (λ are. other are.1)
    ]

-- a multiplier that was shared is reduced
shared_is : (k : ℕ) (shared : List Terms) (found : Option Terms) (n : ℕ) (m : Terms) → AllByRecursion (IsReduced k) shared → slice_get shared n ≡ found → ◌≡◌ {A = Result Terms LineFault} (Ok m) (shared_or found) → IsReduced k m
shared_is k shared None n m all at is = absurd (cc)
shared_is k shared (Some t) n m all at is =
    let same : m ≡ t = same_ok m t is in
    let P : Terms → Type 0 = IsReduced k in
    subst P (sym same) (all_at P shared n t all at)

shared_by_is : (k : ℕ) (shared : List Terms) (found : Option (List ℕ × List ℕ)) (m : Terms) → AllByRecursion (IsReduced k) shared → ◌≡◌ {A = Result Terms LineFault} (Ok m) (shared_by shared found) → IsReduced k m
shared_by_is k shared None m all is = absurd (cc)
shared_by_is k shared (Some found) m all is =
    elim (is_blank found.1) as (λ b. ◌≡◌ {A = Result Terms LineFault} (Ok m) (cond b (shared_or (slice_get shared (value_of 10 found.0))) (Err Syntax)) → IsReduced k m) [
      | true ↦ λ e. shared_is k shared (slice_get shared (value_of 10 found.0)) (value_of 10 found.0) m all refl e
      | false ↦ λ e. absurd (cc)
    ] is

module _ (k : ℕ) (labels : Labelling) (some : 1 ≤ k) (are : AreLabels labels) where
  -- ---- polynomials

  come : (text : List ℕ) (said : Result Terms PolyFault) → MayCome labels k text some are said → (outcome : Result Terms TextFault) × TextOutcome labels k text outcome
  come text (Ok said) may = (Ok said, may)
  come text (Err poly.Syntax) may = (Err no_polynomial, may)
  come text (Err poly.NoSuchNet) may = (Err no_such_net, may)
  come text (Err poly.NoSuchBit) may = (Err no_such_bit, may)
  come text (Err poly.OutOfMemory) may = absurd may

  some_terms : (text : List ℕ) → (outcome : Result Terms TextFault) × TextOutcome labels k text outcome
  some_terms text = come text (reading labels k text) (reading_comes labels k text some are)

  some_polynomial : (text : List ℕ) → (outcome : Result Terms LineFault) × PolynomialOf k labels text outcome
  some_polynomial text = some_within poly_fault (TextOutcome labels k text) (some_terms text)

  some_by : (shared : List Terms) (hash : Option (List ℕ)) (text : List ℕ) → (outcome : Result Terms LineFault) × MultiplierBy k labels shared hash text outcome
  some_by shared None text = some_polynomial text
  some_by shared (Some rest) text = some_returns (shared_by shared (digits_first rest))

  by_reduced : (shared : List Terms) (hash : Option (List ℕ)) (text : List ℕ) (m : Terms) → AllByRecursion (IsReduced k) shared → MultiplierBy k labels shared hash text (Ok m) → IsReduced k m
  by_reduced shared None text m all may = read_reduced labels k text m some may
  by_reduced shared (Some rest) text m all may = shared_by_is k shared (digits_first rest) m all may

  -- ---- the first two lines

  words_of_terms : (text : List ℕ) (outcome : Result Terms TextFault) → TextOutcome labels k text outcome → (outcome : Result Terms LineFault) × InWords k labels text outcome
  words_of_terms text (Ok claim) may =
      elim (words_or text) [ inl words ↦ (Ok claim, (may, words)) | inr other ↦ (Err Syntax, (refl, λ other_claim comes words. other words)) ]
  words_of_terms text (Err fault) may = (Err Syntax, (refl, λ claim comes words. ok_no_fault claim fault (one_outcome labels k text (Ok claim) (Err fault) comes may)))

  some_words : (text : List ℕ) → (outcome : Result Terms LineFault) × InWords k labels text outcome
  some_words text = let terms = some_terms text in words_of_terms text terms.0 terms.1

  some_claim : (line : List ℕ) → (outcome : Result Terms LineFault) × ClaimOf k labels line outcome
  some_claim line = some_bind (Returns (claim_text labels line)) (InWords k labels) (some_returns (claim_text labels line)) (λ text may. some_words text)

  some_first : {A : Type 0} (n : ℕ) (Reads : List ℕ → Outcome LineFault A) → ((line : List ℕ) → (outcome : Result A LineFault) × Reads line outcome) → (text : List (List ℕ)) → (outcome : Result A CertFault) × FirstLine n Reads text outcome
  some_first n Reads each [] = (Err no_end, refl)
  some_first n Reads each (line ∷ more) = some_within (fault_at n) (Reads line) (each line)

  some_head : (text : List (List ℕ)) → (outcome : Result (ℕ × Terms) CertFault) × HeadOf k labels text outcome
  some_head text =
      some_bind (FirstLine 1 (λ line. Returns (version_of line)) text) (λ version. FirstLine 2 (ClaimOf k labels) (drop 1 text) >>= (λ claim. Exactly (version, claim)))
      (some_first 1 (λ line. Returns (version_of line)) (λ line. some_returns (version_of line)) text)
      (λ version may. some_bind (FirstLine 2 (ClaimOf k labels) (drop 1 text)) (λ claim. Exactly (version, claim)) (some_first 2 (ClaimOf k labels) some_claim (drop 1 text)) (λ claim is. some_exactly (version, claim)))

  claim_reduced : (text : List (List ℕ)) (claim : Terms) → FirstLine 2 (ClaimOf k labels) text (Ok claim) → IsReduced k claim
  claim_reduced [] claim may = absurd may
  claim_reduced (line ∷ more) claim may = read_reduced labels k may.0 claim some may.2.0

  head_reduced : (text : List (List ℕ)) (head : ℕ × Terms) → HeadOf k labels text (Ok head) → IsReduced k head.1
  head_reduced text head may =
      let same : head ≡ (may.0, may.2.0) = may.2.2 in
      let P : ℕ × Terms → Type 0 = λ h. IsReduced k h.1 in
      subst P (sym same) (claim_reduced (drop 1 text) may.2.0 may.2.1)

  -- ---- the lines after them

  module _ (net : NetList) where
    some_said : (version : ℕ) (shared : List Terms) (frame : Frame) → (outcome : Result Said LineFault) × SaidBy k net labels version shared frame outcome
    some_said version shared (pair_of g text) = some_bind (MultiplierOf k labels version shared text) (λ m. Exactly (pairs g m)) (some_by shared (after_hash version text) text) (λ m may. some_exactly (pairs g m))
    some_said version shared (share_of text) = some_bind (PolynomialOf k labels text) (λ m. Exactly (shares m)) (some_polynomial text) (λ m may. some_exactly (shares m))
    some_said version shared end_of = some_exactly ends

    some_line : (version : ℕ) (shared : List Terms) (line : List ℕ) → (outcome : Result Said LineFault) × LineOf k net labels version shared line outcome
    some_line version shared line =
        some_bind (Returns (frame_of net labels version (length shared) line)) (SaidBy k net labels version shared) (some_returns (frame_of net labels version (length shared) line)) (λ frame may. some_said version shared frame)

    said_reduced : (version : ℕ) (shared : List Terms) (frame : Frame) (said : Said) → AllByRecursion (IsReduced k) shared → SaidBy k net labels version shared frame (Ok said) → IsReducedSaid k said
    said_reduced version shared (pair_of g text) said all may = let P : Said → Type 0 = IsReducedSaid k in subst P (sym may.2) (by_reduced shared (after_hash version text) text may.0 all may.1)
    said_reduced version shared (share_of text) said all may = let P : Said → Type 0 = IsReducedSaid k in subst P (sym may.2) (read_reduced labels k text may.0 some may.1)
    said_reduced version shared end_of said all may = let P : Said → Type 0 = IsReducedSaid k in subst P (sym may) tt

    line_reduced : (version : ℕ) (shared : List Terms) (line : List ℕ) (said : Said) → AllByRecursion (IsReduced k) shared → LineOf k net labels version shared line (Ok said) → IsReducedSaid k said
    line_reduced version shared line said all may = said_reduced version shared may.0 said all may.2

    some_none : (n : ℕ) (more : List (List ℕ)) (c : Certificate) → (outcome : Result Certificate CertFault) × NoLine n more c outcome
    some_none n [] c = some_exactly c
    some_none n (line ∷ more) c = (Err (fault_at n Syntax), refl)

    none_reduced : (n : ℕ) (more : List (List ℕ)) (c d : Certificate) → AreReduced k c → NoLine n more c (Ok d) → AreReduced k d
    none_reduced n [] c d reduced may = let P : Certificate → Type 0 = AreReduced k in subst P (sym may) reduced
    none_reduced n (line ∷ more) c d reduced may = absurd may

    module _ (Asks : ℕ → Certificate → Outcome CertFault (Unit {0})) (some_asked : (n : ℕ) (c : Certificate) → AreReduced k c → (outcome : Result (Unit {0}) CertFault) × Asks n c outcome) where
      some_after : (n : ℕ) (said : Said) (more : List (List ℕ)) (c : Certificate) (Rest : Certificate → Outcome CertFault Certificate) → AreReduced k c → IsReducedSaid k said
          → ((d : Certificate) → AreReduced k d → (outcome : Result Certificate CertFault) × Rest d outcome) → (outcome : Result Certificate CertFault) × AfterLine k net labels Asks n said more c Rest outcome
      some_after n ends more c Rest reduced is rest = some_none (n + 1) more c
      some_after n (shares m) more c Rest reduced is rest = rest (with_shared c m) (shared_reduced k c m reduced is)
      some_after n (pairs g m) more c Rest reduced is rest =
          let longer : AreReduced k (with_pair c g m) = pair_reduced k c g m reduced is in
          some_bind (Asks n (with_pair c g m)) (λ met. Rest (with_pair c g m)) (some_asked n (with_pair c g m) longer) (λ met may. rest (with_pair c g m) longer)

      some_lines : (version : ℕ) (text : List (List ℕ)) (n : ℕ) (c : Certificate) → AreReduced k c → (outcome : Result Certificate CertFault) × LinesOf k net labels Asks version text n c outcome
      some_lines version [] n c reduced = (Err no_end, refl)
      some_lines version (line ∷ more) n c reduced =
          some_bind (Within (fault_at n) (LineOf k net labels version c.shared line)) (λ said. AfterLine k net labels Asks n said more c (LinesOf k net labels Asks version more (n + 1)))
          (some_within (fault_at n) (LineOf k net labels version c.shared line) (some_line version c.shared line))
          (λ said may. some_after n said more c (LinesOf k net labels Asks version more (n + 1)) reduced (line_reduced version c.shared line said reduced.shared may) (λ d kept. some_lines version more (n + 1) d kept))

      some_certificate_by : (bytes : List ℕ) → (outcome : Result Certificate CertFault) × CertificateBy k net labels Asks bytes outcome
      some_certificate_by bytes =
          some_bind (HeadOf k labels (lines bytes)) (λ head. Asks 2 (begun head.1) >>= (λ met. LinesOf k net labels Asks head.0 (drop 2 (lines bytes)) 3 (begun head.1))) (some_head (lines bytes)) (λ head may.
          let reduced : AreReduced k (begun head.1) = begun_reduced k head.1 (head_reduced (lines bytes) head may) in
          some_bind (Asks 2 (begun head.1)) (λ met. LinesOf k net labels Asks head.0 (drop 2 (lines bytes)) 3 (begun head.1)) (some_asked 2 (begun head.1) reduced) (λ met is. some_lines head.0 (drop 2 (lines bytes)) 3 (begun head.1) reduced))

      after_reduced : (n : ℕ) (said : Said) (more : List (List ℕ)) (c d : Certificate) (Rest : Certificate → Outcome CertFault Certificate) → AreReduced k c → IsReducedSaid k said
          → ((e : Certificate) → AreReduced k e → Rest e (Ok d) → AreReduced k d) → AfterLine k net labels Asks n said more c Rest (Ok d) → AreReduced k d
      after_reduced n ends more c d Rest reduced is rest may = none_reduced (n + 1) more c d reduced may
      after_reduced n (shares m) more c d Rest reduced is rest may = rest (with_shared c m) (shared_reduced k c m reduced is) may
      after_reduced n (pairs g m) more c d Rest reduced is rest may = rest (with_pair c g m) (pair_reduced k c g m reduced is) may.2

      lines_reduced : (version : ℕ) (text : List (List ℕ)) (n : ℕ) (c d : Certificate) → AreReduced k c → LinesOf k net labels Asks version text n c (Ok d) → AreReduced k d
      lines_reduced version [] n c d reduced may = absurd may
      lines_reduced version (line ∷ more) n c d reduced may =
          after_reduced n may.0 more c d (LinesOf k net labels Asks version more (n + 1)) reduced (line_reduced version c.shared line may.0 reduced.shared may.1) (λ e kept is. lines_reduced version more (n + 1) e d kept is) may.2

      certificate_reduced : (bytes : List ℕ) (c : Certificate) → CertificateBy k net labels Asks bytes (Ok c) → AreReduced k c
      certificate_reduced bytes c may =
          lines_reduced may.0.0 (drop 2 (lines bytes)) 3 (begun may.0.1) c (begun_reduced k may.0.1 (head_reduced (lines bytes) may.0 may.1)) may.2.2

    pub some_certificate : (bytes : List ℕ) → (outcome : Result Certificate CertFault) × CertificateOf k net labels bytes outcome
    some_certificate bytes = some_certificate_by (AsksNothing k net labels) (λ n c reduced. some_exactly tt) bytes

-- ---- verdicts

module _ (k : ℕ) (mul : ℕ → ℕ → ℕ) (ring : IsRing k mul) (field : HasNoZeroDivisors k mul) (bound : BoundNet) (bases : List Basis) (are : AreBases k mul bound bases) where
  some_within_bound : (most n : ℕ) (c : Certificate) → AreReduced k c → (outcome : Result (Unit {0}) CertFault) × AsksAtMost k mul bound bases most n c outcome
  some_within_bound most n c reduced =
      let sum = some_running k mul ring field bound bases are c reduced in
      elim (cases_lt most (length sum.0)) [ inl over ↦ (Err (TooManyTerms n (length sum.0)), (sum.0, sum.1, over, refl)) | inr within ↦ (Ok tt, (sum.0, sum.1, within)) ]

  some_verdict_on : (c : Certificate) → AreReduced k c → (outcome : Result Verdict CertFault) × VerdictOn k mul bound bases c outcome
  some_verdict_on c reduced = let sum = some_running k mul ring field bound bases are c reduced in by sum.0 sum.1
    where
      by : (sum : Terms) → IsRunningSum k mul bound bases c sum → (outcome : Result Verdict CertFault) × VerdictOn k mul bound bases c outcome
      by [] is = (Ok (valid c.claim), (refl, is))
      by (t ∷ ts) is = (Ok (invalid (length (t ∷ ts))), (t ∷ ts, is, (λ none. absurd (cc)), refl))

  pub some_verdict : (labels : Labelling) → AreLabels labels → (most : ℕ) (bytes : List ℕ) → (outcome : Result Verdict CertFault) × Check k mul bound bases labels most bytes outcome
  some_verdict labels right most bytes =
      some_bind (CertificateBy k bound.net labels (AsksAtMost k mul bound bases most) bytes) (VerdictOn k mul bound bases)
      (some_certificate_by k labels ring.some right bound.net (AsksAtMost k mul bound bases most) (some_within_bound most) bytes)
      (λ c may. some_verdict_on c (certificate_reduced k labels ring.some right bound.net (AsksAtMost k mul bound bases most) (some_within_bound most) bytes c may))
