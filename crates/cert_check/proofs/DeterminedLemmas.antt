-- At most one outcome may come of a text.
use Rattle.std.proofs.Common.{◌≡◌, ◌∙◌, ap, sym, refl, ℕ, ◌+◌, ◌<◌, ◌≤◌, List, [], ◌∷◌, length, drop, Result, Ok, Err, arith}
use Rattle.std.specs.Prelude.{Option, Some, None}
use Rattle.std.specs.Str.Lines.{lines}
use Rattle.outcome.proofs.DeterminedLemmas.{determined_returns, determined_bind, determined_exactly}
use Rattle.outcome.specs.Outcome.{Outcome, ◌>>=◌, Exactly, Within, Returns, Determined}
use Rattle.gf_field.specs.Ring.{IsRing}
use Rattle.gf_field.specs.Field.{HasNoZeroDivisors}
use Rattle.gf_field.specs.laws.RootsLaws.{HasFewRoots-from_field}
use Rattle.gf_basis.specs.declared.bases.Basis.{Basis}
use Rattle.net_core.specs.NetList.{NetList}
use Rattle.net_words.specs.Binding.{BoundNet}
use Rattle.poly_mixed.specs.Labels.{Labelling}
use Rattle.poly_mixed.specs.Polynomial.{Terms}
use Rattle.poly_mixed.specs.TextOutcome.{TextFault, TextOutcome}
use Rattle.poly_mixed.proofs.FieldLaws.{field_of}
use Rattle.poly_mixed.proofs.OneOutcomeLemmas.{one_outcome}
use Rattle.poly_mixed.proofs.RootLemmas.{independent}
use Rattle.poly_mixed.proofs.UniquenessLemmas.{unique}
use Rattle.cert_check.specs.Fault.{fault_at, no_end}
use Rattle.cert_check.specs.Frame.{Frame, pair_of, share_of, end_of, frame_of, version_of, claim_text}
use Rattle.cert_check.specs.Scan.{digits_first}
use Rattle.cert_check.specs.Certificate.{Said, pairs, shares, ends, Certificate, begun, with_shared, with_pair, poly_fault, shared_by, after_hash, Refused, FirstLine, NoLine, PolynomialOf, MultiplierBy, MultiplierOf, InWords, ClaimOf, HeadOf, SaidBy, LineOf, AfterLine, LinesOf, CertificateBy, AsksNothing, CertificateOf}
use Rattle.cert_check.specs.Verdict.{valid, invalid, IsRunningSum, AsksAtMost, VerdictOn, Check}
use Rattle.cert_check.specs.declared.fault.LineFault.{LineFault}
use Rattle.cert_check.specs.declared.fault.LineFault.TheVariants.{Syntax}
use Rattle.cert_check.specs.declared.fault.CertFault.{CertFault}
use Rattle.cert_check.specs.declared.fault.CertFault.TheVariants.{TooManyTerms}

refused_one : {F A : Type 0} (fault : F) → Determined {A = A} (Refused fault)
refused_one fault (Ok x) y h k = absurd h
refused_one fault (Err d) (Ok y) h k = absurd k
refused_one fault (Err d) (Err e) h k = ap Err (h ∙ sym k)

within_one : {F G A : Type 0} (wrap : F → G) (o : Outcome F A) → Determined o → Determined (Within wrap o)
within_one {F} {G} {A} wrap o one (Ok x) (Ok y) h k = let same : ◌≡◌ {A = Result A F} (Ok x) (Ok y) = one (Ok x) (Ok y) h k in let equal : x ≡ y = cc in ap Ok equal
within_one {F} {G} {A} wrap o one (Ok x) (Err e) h (f, comes, is) = let same : ◌≡◌ {A = Result A F} (Ok x) (Err f) = one (Ok x) (Err f) h comes in absurd (cc)
within_one {F} {G} {A} wrap o one (Err d) (Ok y) (f, comes, is) k = let same : ◌≡◌ {A = Result A F} (Err f) (Ok y) = one (Err f) (Ok y) comes k in absurd (cc)
within_one {F} {G} {A} wrap o one (Err d) (Err e) (f, comes, is) (g, comes', is') = let same : ◌≡◌ {A = Result A F} (Err f) (Err g) = one (Err f) (Err g) comes comes' in let equal : f ≡ g = cc in ap Err (is ∙ (ap wrap equal ∙ sym is'))

module _ (k : ℕ) (labels : Labelling) where
  polynomial_one : (text : List ℕ) → Determined (PolynomialOf k labels text)
  polynomial_one text = within_one poly_fault (TextOutcome labels k text) (one_outcome labels k text)

  by_one : (shared : List Terms) (o : Option (List ℕ)) (text : List ℕ) → Determined (MultiplierBy k labels shared o text)
  by_one shared None text = polynomial_one text
  by_one shared (Some rest) text = determined_returns (shared_by shared (digits_first rest))

  multiplier_one : (version : ℕ) (shared : List Terms) (text : List ℕ) → Determined (MultiplierOf k labels version shared text)
  multiplier_one version shared text = by_one shared (after_hash version text) text

  words_one : (text : List ℕ) → Determined (InWords k labels text)
  words_one text (Ok x) (Ok y) h m = let same : ◌≡◌ {A = Result Terms TextFault} (Ok x) (Ok y) = one_outcome labels k text (Ok x) (Ok y) h.0 m.0 in let equal : x ≡ y = cc in ap Ok equal
  words_one text (Ok x) (Err e) h m = absurd (m.1 x h.0 h.1)
  words_one text (Err d) (Ok y) h m = absurd (h.1 y m.0 m.1)
  words_one text (Err d) (Err e) h m = ap Err (h.0 ∙ sym m.0)

  claim_one : (line : List ℕ) → Determined (ClaimOf k labels line)
  claim_one line = determined_bind (Returns (claim_text labels line)) (InWords k labels) (determined_returns (claim_text labels line)) words_one

  first_one : {A : Type 0} (n : ℕ) (Reads : List ℕ → Outcome LineFault A) → ((line : List ℕ) → Determined (Reads line)) → (text : List (List ℕ)) → Determined (FirstLine n Reads text)
  first_one n Reads one [] = refused_one no_end
  first_one n Reads one (line ∷ more) = within_one (fault_at n) (Reads line) (one line)

  head_one : (text : List (List ℕ)) → Determined (HeadOf k labels text)
  head_one text =
      determined_bind (FirstLine 1 (λ line. Returns (version_of line)) text) (λ version. FirstLine 2 (ClaimOf k labels) (drop 1 text) >>= (λ claim. Exactly (version, claim)))
      (first_one 1 (λ line. Returns (version_of line)) (λ line. determined_returns (version_of line)) text)
      (λ version. determined_bind (FirstLine 2 (ClaimOf k labels) (drop 1 text)) (λ claim. Exactly (version, claim)) (first_one 2 (ClaimOf k labels) claim_one (drop 1 text)) (λ claim. determined_exactly (version, claim)))

module _ (k : ℕ) (net : NetList) (labels : Labelling) where
  said_one : (version : ℕ) (shared : List Terms) (frame : Frame) → Determined (SaidBy k net labels version shared frame)
  said_one version shared (pair_of g text) = determined_bind (MultiplierOf k labels version shared text) (λ m. Exactly (pairs g m)) (multiplier_one k labels version shared text) (λ m. determined_exactly (pairs g m))
  said_one version shared (share_of text) = determined_bind (PolynomialOf k labels text) (λ m. Exactly (shares m)) (polynomial_one k labels text) (λ m. determined_exactly (shares m))
  said_one version shared end_of = determined_exactly ends

  line_one : (version : ℕ) (shared : List Terms) (line : List ℕ) → Determined (LineOf k net labels version shared line)
  line_one version shared line = determined_bind (Returns (frame_of net labels version (length shared) line)) (SaidBy k net labels version shared) (determined_returns (frame_of net labels version (length shared) line)) (said_one version shared)

  none_one : (n : ℕ) (more : List (List ℕ)) (c : Certificate) → Determined (NoLine n more c)
  none_one n [] c = determined_exactly c
  none_one n (line ∷ more) c = refused_one (fault_at n Syntax)

  module _ (Asks : ℕ → Certificate → Outcome CertFault (Unit {0})) (asks_one : (n : ℕ) (c : Certificate) → Determined (Asks n c)) where
    after_one : (n : ℕ) (said : Said) (more : List (List ℕ)) (c : Certificate) (Rest : Certificate → Outcome CertFault Certificate) → ((d : Certificate) → Determined (Rest d)) → Determined (AfterLine k net labels Asks n said more c Rest)
    after_one n ends more c Rest one = none_one (n + 1) more c
    after_one n (shares m) more c Rest one = one (with_shared c m)
    after_one n (pairs g m) more c Rest one = determined_bind (Asks n (with_pair c g m)) (λ met. Rest (with_pair c g m)) (asks_one n (with_pair c g m)) (λ met. one (with_pair c g m))

    lines_one : (version : ℕ) (text : List (List ℕ)) (n : ℕ) (c : Certificate) → Determined (LinesOf k net labels Asks version text n c)
    lines_one version [] n c = refused_one no_end
    lines_one version (line ∷ more) n c =
        determined_bind (Within (fault_at n) (LineOf k net labels version c.shared line)) (λ said. AfterLine k net labels Asks n said more c (LinesOf k net labels Asks version more (n + 1)))
        (within_one (fault_at n) (LineOf k net labels version c.shared line) (line_one version c.shared line))
        (λ said. after_one n said more c (LinesOf k net labels Asks version more (n + 1)) (λ d. lines_one version more (n + 1) d))

    pub certificate_one : (bytes : List ℕ) → Determined (CertificateBy k net labels Asks bytes)
    certificate_one bytes =
        determined_bind (HeadOf k labels (lines bytes)) (λ head. Asks 2 (begun head.1) >>= (λ met. LinesOf k net labels Asks head.0 (drop 2 (lines bytes)) 3 (begun head.1)))
        (head_one k labels (lines bytes))
        (λ head. determined_bind (Asks 2 (begun head.1)) (λ met. LinesOf k net labels Asks head.0 (drop 2 (lines bytes)) 3 (begun head.1)) (asks_one 2 (begun head.1)) (λ met. lines_one head.0 (drop 2 (lines bytes)) 3 (begun head.1)))

  -- a text says one certificate or has one fault
  pub one_certificate : (bytes : List ℕ) → Determined (CertificateOf k net labels bytes)
  one_certificate bytes = certificate_one (AsksNothing k net labels) (λ n c. determined_exactly tt) bytes

module _ (k : ℕ) (mul : ℕ → ℕ → ℕ) (ring : IsRing k mul) (field : HasNoZeroDivisors k mul) (bound : BoundNet) (bases : List Basis) where
  pub one_sum : (c : Certificate) (ts us : Terms) → IsRunningSum k mul bound bases c ts → IsRunningSum k mul bound bases c us → ts ≡ us
  one_sum c ts us a b =
      let f = field_of k mul ring field in
      unique f (independent f (HasFewRoots-from_field k mul ring field)) ts us a.reduced b.reduced (λ p at. a.values p at ∙ sym (b.values p at))

  never : (c : Certificate) (most : ℕ) (ts us : Terms) → IsRunningSum k mul bound bases c ts → IsRunningSum k mul bound bases c us → length ts ≤ most → most < length us → ⊥
  never c most ts us a b low high = let same : length ts ≡ length us = ap length (one_sum c ts us a b) in omega arith

  asks_one : (most n : ℕ) (c : Certificate) → Determined (AsksAtMost k mul bound bases most n c)
  asks_one most n c (Ok x) (Ok y) h m = refl
  asks_one most n c (Ok x) (Err e) (ts, a, low) (us, b, high, is) = absurd (never c most ts us a b low high)
  asks_one most n c (Err d) (Ok y) (us, b, high, is) (ts, a, low) = absurd (never c most ts us a b low high)
  asks_one most n c (Err d) (Err e) (ts, a, high, is) (us, b, high', is') = ap Err (is ∙ (ap (λ (ws : Terms). TooManyTerms n (length ws)) (one_sum c ts us a b) ∙ sym is'))

  verdict_one : (c : Certificate) → Determined (VerdictOn k mul bound bases c)
  verdict_one c (Err d) y h m = absurd h
  verdict_one c (Ok x) (Err e) h m = absurd m
  verdict_one c (Ok (valid x)) (Ok (valid y)) h m = ap (λ (ts : Terms). Ok (valid ts)) (h.0 ∙ sym m.0)
  verdict_one c (Ok (valid x)) (Ok (invalid n)) h (ts, b, some, is) = absurd (some (one_sum c ts [] b h.1))
  verdict_one c (Ok (invalid n)) (Ok (valid y)) (ts, b, some, is) m = absurd (some (one_sum c ts [] b m.1))
  verdict_one c (Ok (invalid n)) (Ok (invalid m)) (ts, a, some, is) (us, b, some', is') = ap (λ (r : ℕ). Ok (invalid r)) (is ∙ (ap length (one_sum c ts us a b) ∙ sym is'))

  -- one verdict or one fault comes of a text
  pub one_verdict : (labels : Labelling) (most : ℕ) (bytes : List ℕ) → Determined (Check k mul bound bases labels most bytes)
  one_verdict labels most bytes =
      determined_bind (CertificateBy k bound.net labels (AsksAtMost k mul bound bases most) bytes) (VerdictOn k mul bound bases)
      (certificate_one k bound.net labels (AsksAtMost k mul bound bases most) (λ n c. asks_one most n c) bytes) verdict_one
