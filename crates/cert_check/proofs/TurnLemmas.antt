-- A check, one line after another.
use Rattle.std.proofs.Common.{◌≡◌, sym, refl, subst, inl, inr, ℕ, ◌+◌, ◌<◌, ◌≤◌, List, [], ◌∷◌, length, drop, Some, None, Result, Ok, Err}
use Rattle.outcome.specs.Outcome.{Outcome, ◌>>=◌, Fits}
use Rattle.gf_basis.specs.declared.bases.Basis.{Basis}
use Rattle.net_words.specs.Binding.{BoundNet}
use Rattle.poly_mixed.specs.Labels.{Labelling}
use Rattle.poly_mixed.specs.Polynomial.{Terms}
use Rattle.cert_check.specs.Fault.{fault_at, no_end, line_refusal, refusal}
use Rattle.cert_check.specs.Certificate.{Certificate, begun, NoLine, LineOf, LinesOf, HeadOf}
use Rattle.cert_check.specs.Verdict.{Verdict, IsRunningSum, AsksAtMost, VerdictOn, VerdictFrom, VerdictAtEnd}
use Rattle.cert_check.specs.declared.fault.LineFault.{LineFault}
use Rattle.cert_check.specs.declared.fault.CertFault.{CertFault}
use Rattle.cert_check.specs.declared.fault.CertFault.TheVariants as cert
use Rattle.cert_check.specs.declared.line.Line.{Line}
use Rattle.cert_check.specs.declared.line.Line.TheVariants.{Pair, Share}
use Rattle.cert_check.specs.private.Kept.{with_line, IsKept, LineAsks}
use Rattle.cert_check.specs.private.Reading.{said_in}
use Rattle.cert_check.proofs.CheckLemmas.{IsAt}
use Rattle.cert_check.proofs.LoopLemmas.{AsksAfter, line_fails, line_ends, line_more, line_refused, none_left}

-- a fault of the rest is one of the whole
pub cert_fails : {X Y A B : Type 0} (view : X → A) (view' : Y → B) (fault : CertFault) (rest : Outcome CertFault A) (whole : Outcome CertFault B) → ((f : CertFault) → rest (Err f) → whole (Err f)) → Fits refusal view (Err fault) rest → Fits refusal view' (Err fault) whole
cert_fails view view' (cert.Syntax n) rest whole bad fits = bad (cert.Syntax n) fits
cert_fails view view' (cert.NoSuchNet n) rest whole bad fits = bad (cert.NoSuchNet n) fits
cert_fails view view' (cert.NoSuchBit n) rest whole bad fits = bad (cert.NoSuchBit n) fits
cert_fails view view' (cert.NotDriven n) rest whole bad fits = bad (cert.NotDriven n) fits
cert_fails view view' (cert.NoSuchLet n) rest whole bad fits = bad (cert.NoSuchLet n) fits
cert_fails view view' (cert.TooManyTerms n t) rest whole bad fits = bad (cert.TooManyTerms n t) fits
cert_fails view view' cert.NoEnd rest whole bad fits = bad cert.NoEnd fits
cert_fails view view' cert.OutOfMemory rest whole bad fits = tt

bind_moved : {F A B : Type 0} (first other : Outcome F A) (second : A → Outcome F B) → ((o : Result A F) → first o → other o) → (outcome : Result B F) → (first >>= second) outcome → (other >>= second) outcome
bind_moved first other second move (Ok b) (a, one, two) = (a, move (Ok a) one, two)
bind_moved first other second move (Err e) (inl one) = inl (move (Err e) one)
bind_moved first other second move (Err e) (inr (a, one, two)) = inr (a, move (Ok a) one, two)

module _ (k : ℕ) (mul : ℕ → ℕ → ℕ) (bound : BoundNet) (bases : List Basis) (labels : Labelling) (most version : ℕ) (whole : Outcome CertFault Verdict) (n : ℕ) where
  module _ (text more : List (List ℕ)) (line : List ℕ) (claim : Terms) (shared : List Terms) (sum : Terms) (is : text ≡ line ∷ more) (at : IsAt k mul bound bases labels most version whole n text claim shared sum) where
    pub turn_fails : {X : Type 0} (view : X → Verdict) (fault : LineFault) → Fits line_refusal (said_in at.certificate.shared) (Err fault) (LineOf k bound.net labels version at.certificate.shared line) → Fits refusal view (Err (fault_at n fault)) whole
    turn_fails view fault fits =
        let same : Certificate → Certificate = λ c. c in
        cert_fails same view (fault_at n fault) (LinesOf k bound.net labels (AsksAtMost k mul bound bases most) version text n at.certificate) whole (λ f comes. at.comes (Err f) (inl comes))
        (line_fails k bound.net labels (AsksAtMost k mul bound bases most) version n text more line at.certificate is same fault fits)

    pub turn_ends : Fits line_refusal (said_in at.certificate.shared) (Ok None) (LineOf k bound.net labels version at.certificate.shared line) → (outcome : Result Verdict CertFault) → VerdictAtEnd k mul bound bases (n + 1) more at.certificate outcome → whole outcome
    turn_ends fits outcome comes =
        at.comes outcome (bind_moved (NoLine (n + 1) more at.certificate) (LinesOf k bound.net labels (AsksAtMost k mul bound bases most) version text n at.certificate) (VerdictOn k mul bound bases)
        (λ o one. line_ends k bound.net labels (AsksAtMost k mul bound bases most) version n text more line at.certificate is fits o one) outcome comes)

    asked : (said : Line) → LineAsks k mul bound bases most n at.certificate said (Ok tt) → AsksAfter k bound.net labels (AsksAtMost k mul bound bases most) version n text more line at.certificate is said (Ok tt)
    asked (Pair g m) asks = asks
    asked (Share p) asks = tt

    refused : (said : Line) (f : CertFault) → LineAsks k mul bound bases most n at.certificate said (Err f) → AsksAfter k bound.net labels (AsksAtMost k mul bound bases most) version n text more line at.certificate is said (Err f)
    refused (Pair g m) f asks = asks
    refused (Share p) f asks = absurd asks

    pub turn_refused : {X Y : Type 0} (view : X → Unit {0}) (view' : Y → Verdict) (said : Line) (fault : CertFault) → Fits line_refusal (said_in at.certificate.shared) (Ok (Some said)) (LineOf k bound.net labels version at.certificate.shared line) → Fits refusal view (Err fault) (LineAsks k mul bound bases most n at.certificate said) → Fits refusal view' (Err fault) whole
    turn_refused view view' said fault fits asks =
        cert_fails view view' fault (LineAsks k mul bound bases most n at.certificate said) whole
        (λ f comes. at.comes (Err f) (inl (line_refused k bound.net labels (AsksAtMost k mul bound bases most) version n text more line at.certificate is said f fits (refused said f comes)))) asks

    pub turn_more : (said : Line) (claim' : Terms) (shared' : List Terms) (sum' : Terms) → Fits line_refusal (said_in at.certificate.shared) (Ok (Some said)) (LineOf k bound.net labels version at.certificate.shared line) → LineAsks k mul bound bases most n at.certificate said (Ok tt) → IsKept k mul bound bases most (with_line at.certificate said) claim' shared' sum' → IsAt k mul bound bases labels most version whole (n + 1) more claim' shared' sum'
    turn_more said claim' shared' sum' fits asks kept = record {
      certificate = with_line at.certificate said;
      kept = kept;
      comes = λ outcome rest.
          at.comes outcome (bind_moved (LinesOf k bound.net labels (AsksAtMost k mul bound bases most) version more (n + 1) (with_line at.certificate said)) (LinesOf k bound.net labels (AsksAtMost k mul bound bases most) version text n at.certificate) (VerdictOn k mul bound bases)
          (λ o one. line_more k bound.net labels (AsksAtMost k mul bound bases most) version n text more line at.certificate is said fits (asked said asks) o one) outcome rest);
    }

  pub turn_over : (text : List (List ℕ)) (claim : Terms) (shared : List Terms) (sum : Terms) → text ≡ [] → IsAt k mul bound bases labels most version whole n text claim shared sum → whole (Err no_end)
  turn_over text claim shared sum none at = at.comes (Err no_end) (inl (none_left k bound.net labels (AsksAtMost k mul bound bases most) version n text at.certificate none))

-- the whole text, out of its head
module _ (k : ℕ) (mul : ℕ → ℕ → ℕ) (bound : BoundNet) (bases : List Basis) (labels : Labelling) (most : ℕ) (text : List (List ℕ)) where
  abbrev pub Whole : Outcome CertFault Certificate
  Whole = HeadOf k labels text >>= (λ head. AsksAtMost k mul bound bases most 2 (begun head.1) >>= (λ met. LinesOf k bound.net labels (AsksAtMost k mul bound bases most) head.0 (drop 2 text) 3 (begun head.1)))

  pub head_fails : {X Y : Type 0} (view : X → ℕ × Terms) (view' : Y → Verdict) (fault : CertFault) → Fits refusal view (Err fault) (HeadOf k labels text) → Fits refusal view' (Err fault) (Whole >>= VerdictOn k mul bound bases)
  head_fails view view' fault fits = cert_fails view view' fault (HeadOf k labels text) (Whole >>= VerdictOn k mul bound bases) (λ f comes. inl (inl comes)) fits

  module _ (version : ℕ) (claim sum : Terms) (head : HeadOf k labels text (Ok (version, claim))) (is : IsRunningSum k mul bound bases (begun claim) sum) where
    pub claim_over : {Y : Type 0} (view : Y → Verdict) (fault : CertFault) → fault ≡ cert.TooManyTerms 2 (length sum) → most < length sum → Fits refusal view (Err fault) (Whole >>= VerdictOn k mul bound bases)
    claim_over view fault same over =
        let none : Unit {0} → Unit {0} = λ u. u in
        let P : CertFault → Type 0 = λ f. Fits refusal none (Err f) (AsksAtMost k mul bound bases most 2 (begun claim)) in
        let comes : Fits refusal none (Err fault) (AsksAtMost k mul bound bases most 2 (begun claim)) = subst P (sym same) (sum, is, over, refl) in
        cert_fails none view fault (AsksAtMost k mul bound bases most 2 (begun claim)) (Whole >>= VerdictOn k mul bound bases) (λ f asks. inl (inr ((version, claim), head, inl asks))) comes

    pub claim_within : length sum ≤ most → (outcome : Result Verdict CertFault) → VerdictFrom k mul bound bases labels most version (drop 2 text) 3 (begun claim) outcome → (Whole >>= VerdictOn k mul bound bases) outcome
    claim_within within (Ok v) (c, rest, verdict) = (c, ((version, claim), head, (tt, (sum, is, within), rest)), verdict)
    claim_within within (Err e) (inl rest) = inl (inr ((version, claim), head, inr (tt, (sum, is, within), rest)))
    claim_within within (Err e) (inr (c, rest, verdict)) = inr (c, ((version, claim), head, (tt, (sum, is, within), rest)), verdict)
