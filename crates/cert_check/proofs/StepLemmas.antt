-- Steps of readers, one after another.
use Rattle.std.proofs.Common.{refl, inl, inr, ℕ, Result, Ok, Err}
use Rattle.outcome.specs.Outcome.{Outcome, ◌>>=◌, Within, Fits}
use Rattle.cert_check.specs.Fault.{fault_at, line_refusal, refusal}
use Rattle.cert_check.specs.declared.fault.LineFault.{LineFault}
use Rattle.cert_check.specs.declared.fault.LineFault.TheVariants as line
use Rattle.cert_check.specs.declared.fault.CertFault.{CertFault}
use Rattle.cert_check.specs.declared.fault.CertFault.TheVariants as cert

-- what comes of the second step, after a value of the first, comes of both
pub bind_step : {F A B : Type 0} (first : Outcome F A) (second : A → Outcome F B) (a : A) → first (Ok a) → (outcome : Result B F) → second a outcome → (first >>= second) outcome
bind_step first second a one (Ok b) two = (a, one, two)
bind_step first second a one (Err e) two = inr (a, one, two)

-- ---- faults of certificates

pub cert_first : {X Y A B : Type 0} (view : X → A) (view' : Y → B) (fault : CertFault) (first : Outcome CertFault A) (second : A → Outcome CertFault B) → Fits refusal view (Err fault) first → Fits refusal view' (Err fault) (first >>= second)
cert_first view view' (cert.Syntax n) first second fits = inl fits
cert_first view view' (cert.NoSuchNet n) first second fits = inl fits
cert_first view view' (cert.NoSuchBit n) first second fits = inl fits
cert_first view view' (cert.NotDriven n) first second fits = inl fits
cert_first view view' (cert.NoSuchLet n) first second fits = inl fits
cert_first view view' (cert.TooManyTerms n t) first second fits = inl fits
cert_first view view' cert.NoEnd first second fits = inl fits
cert_first view view' cert.OutOfMemory first second fits = tt

-- what may come of the rest may come of the whole
pub cert_moved : {X A B : Type 0} (view : X → A) (view' : X → B) (result : Result X CertFault) (rest : Outcome CertFault A) (whole : Outcome CertFault B) → ((x : X) → rest (Ok (view x)) → whole (Ok (view' x))) → ((f : CertFault) → rest (Err f) → whole (Err f)) → Fits refusal view result rest → Fits refusal view' result whole
cert_moved view view' (Ok x) rest whole good bad fits = good x fits
cert_moved view view' (Err (cert.Syntax n)) rest whole good bad fits = bad (cert.Syntax n) fits
cert_moved view view' (Err (cert.NoSuchNet n)) rest whole good bad fits = bad (cert.NoSuchNet n) fits
cert_moved view view' (Err (cert.NoSuchBit n)) rest whole good bad fits = bad (cert.NoSuchBit n) fits
cert_moved view view' (Err (cert.NotDriven n)) rest whole good bad fits = bad (cert.NotDriven n) fits
cert_moved view view' (Err (cert.NoSuchLet n)) rest whole good bad fits = bad (cert.NoSuchLet n) fits
cert_moved view view' (Err (cert.TooManyTerms n t)) rest whole good bad fits = bad (cert.TooManyTerms n t) fits
cert_moved view view' (Err cert.NoEnd) rest whole good bad fits = bad cert.NoEnd fits
cert_moved view view' (Err cert.OutOfMemory) rest whole good bad fits = tt

-- a line's fault as one of the certificate
pub at_line : {X Y A : Type 0} (view : X → A) (view' : Y → A) (n : ℕ) (fault : LineFault) (outcome : Outcome LineFault A) → Fits line_refusal view (Err fault) outcome → Fits refusal view' (Err (fault_at n fault)) (Within (fault_at n) outcome)
at_line view view' n line.Syntax outcome fits = (line.Syntax, fits, refl)
at_line view view' n line.NoSuchNet outcome fits = (line.NoSuchNet, fits, refl)
at_line view view' n line.NoSuchBit outcome fits = (line.NoSuchBit, fits, refl)
at_line view view' n line.NotDriven outcome fits = (line.NotDriven, fits, refl)
at_line view view' n line.NoSuchLet outcome fits = (line.NoSuchLet, fits, refl)
at_line view view' n line.OutOfMemory outcome fits = tt
