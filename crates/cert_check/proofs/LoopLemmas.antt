-- One more line of a certificate.
use Rattle.std.proofs.Common.{◌≡◌, sym, refl, subst, inl, ℕ, ◌+◌, List, [], ◌∷◌, Some, None, Result, Ok, Err}
use Rattle.outcome.specs.Outcome.{Outcome, ◌>>=◌, Within, Fits}
use Rattle.net_core.specs.NetList.{NetList}
use Rattle.poly_mixed.specs.Labels.{Labelling}
use Rattle.cert_check.specs.Fault.{fault_at, no_end, line_refusal, refusal}
use Rattle.cert_check.specs.Certificate.{Said, Certificate, with_pair, NoLine, LineOf, AfterLine, LinesOf}
use Rattle.cert_check.specs.declared.fault.LineFault.{LineFault}
use Rattle.cert_check.specs.declared.fault.CertFault.{CertFault}
use Rattle.cert_check.specs.declared.line.Line.{Line}
use Rattle.cert_check.specs.declared.line.Line.TheVariants.{Pair, Share}
use Rattle.cert_check.specs.private.Reading.{multiplier_in, said_in}
use Rattle.cert_check.specs.private.Kept.{with_line}
use Rattle.cert_check.proofs.StepLemmas.{bind_step, at_line, cert_first}

module _ (k : ℕ) (net : NetList) (labels : Labelling) (Asks : ℕ → Certificate → Outcome CertFault (Unit {0})) (version n : ℕ) (whole more : List (List ℕ)) (text : List ℕ) (c : Certificate) (is : whole ≡ text ∷ more) where
  abbrev pub Whole : Outcome CertFault Certificate
  Whole = LinesOf k net labels Asks version whole n c

  abbrev pub Here : Outcome CertFault Said
  Here = Within (fault_at n) (LineOf k net labels version c.shared text)

  abbrev pub Rest : Said → Outcome CertFault Certificate
  Rest said = AfterLine k net labels Asks n said more c (LinesOf k net labels Asks version more (n + 1))

  back : (outcome : Result Certificate CertFault) → (Here >>= Rest) outcome → Whole outcome
  back outcome comes = let P : List (List ℕ) → Type 0 = λ ls. LinesOf k net labels Asks version ls n c outcome in subst P (sym is) comes

  -- what is asked after a line
  abbrev pub AsksAfter : Line → Outcome CertFault (Unit {0})
  AsksAfter (Pair g m) outcome = Asks n (with_pair c g (multiplier_in c.shared m)) outcome
  AsksAfter (Share p) (Ok met) = Unit {0}
  AsksAfter (Share p) (Err fault) = ⊥

  pub line_fails : {X : Type 0} (view : X → Certificate) (fault : LineFault) → Fits line_refusal (said_in c.shared) (Err fault) (LineOf k net labels version c.shared text) → Fits refusal view (Err (fault_at n fault)) Whole
  line_fails view fault fits =
      let P : List (List ℕ) → Type 0 = λ ls. Fits refusal view (Err (fault_at n fault)) (LinesOf k net labels Asks version ls n c) in
      let wrap : Said → Said = λ s. s in
      subst P (sym is) (cert_first wrap view (fault_at n fault) Here Rest (at_line (said_in c.shared) wrap n fault (LineOf k net labels version c.shared text) fits))

  pub line_ends : Fits line_refusal (said_in c.shared) (Ok None) (LineOf k net labels version c.shared text) → (outcome : Result Certificate CertFault) → NoLine (n + 1) more c outcome → Whole outcome
  line_ends fits outcome comes = back outcome (bind_step Here Rest (said_in c.shared None) fits outcome comes)

  pub line_more : (line : Line) → Fits line_refusal (said_in c.shared) (Ok (Some line)) (LineOf k net labels version c.shared text) → AsksAfter line (Ok tt) → (outcome : Result Certificate CertFault) → LinesOf k net labels Asks version more (n + 1) (with_line c line) outcome → Whole outcome
  line_more (Pair g m) fits asks outcome comes =
      let c' = with_pair c g (multiplier_in c.shared m) in
      back outcome (bind_step Here Rest (said_in c.shared (Some (Pair g m))) fits outcome (bind_step (Asks n c') (λ u. LinesOf k net labels Asks version more (n + 1) c') tt asks outcome comes))
  line_more (Share p) fits asks outcome comes = back outcome (bind_step Here Rest (said_in c.shared (Some (Share p))) fits outcome comes)

  pub line_refused : (line : Line) (fault : CertFault) → Fits line_refusal (said_in c.shared) (Ok (Some line)) (LineOf k net labels version c.shared text) → AsksAfter line (Err fault) → Whole (Err fault)
  line_refused (Pair g m) fault fits asks = back (Err fault) (bind_step Here Rest (said_in c.shared (Some (Pair g m))) fits (Err fault) (inl asks))
  line_refused (Share p) fault fits asks = absurd asks

-- a text that is used up
pub none_left : (k : ℕ) (net : NetList) (labels : Labelling) (Asks : ℕ → Certificate → Outcome CertFault (Unit {0})) (version n : ℕ) (whole : List (List ℕ)) (c : Certificate) → whole ≡ [] → LinesOf k net labels Asks version whole n c (Err no_end)
none_left k net labels Asks version n whole c none = let P : List (List ℕ) → Type 0 = λ ls. LinesOf k net labels Asks version ls n c (Err no_end) in subst P (sym none) refl
