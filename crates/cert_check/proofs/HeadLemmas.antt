-- The first two lines, one after the other.
use Rattle.std.proofs.Common.{◌≡◌, ap, sym, refl, subst, inl, inr, ℕ, Bool, true, false, cond, List, [], ◌∷◌, drop, Option, None, Some, Result, Ok, Err, IfOk}
use Rattle.std.specs.Prelude.{bytes_eq, codes}
use Rattle.outcome.specs.Outcome.{Outcome, Within, Fits, Returns}
use Rattle.poly_mixed.specs.Labels.{Labelling}
use Rattle.cert_check.specs.Certificate.{ClaimOf, FirstLine, HeadOf}
use Rattle.cert_check.specs.Fault.{fault_at, no_end, line_refusal, refusal}
use Rattle.cert_check.specs.Frame.{version_named, version_after, version_of}
use Rattle.cert_check.specs.Scan.{is_blank, after_word, digits_at}
use Rattle.cert_check.specs.declared.fault.CertFault.{CertFault}
use Rattle.cert_check.specs.declared.fault.LineFault.{LineFault}
use Rattle.cert_check.specs.declared.fault.LineFault.TheVariants as line
use Rattle.cert_check.specs.declared.head.Head.{Head}
use Rattle.cert_check.specs.private.Reading.{head_of}
use Rattle.cert_check.proofs.StepLemmas.{at_line}
use Rattle.cert_check.proofs.TurnLemmas.{cert_fails}

-- a text without lines has no first one
pub no_first : {X A : Type 0} (view : X → A) (n : ℕ) (Reads : List ℕ → Outcome LineFault A) (text : List (List ℕ)) → text ≡ [] → Fits refusal view (Err no_end) (FirstLine n Reads text)
no_first view n Reads text none = let P : List (List ℕ) → Type 0 = λ ls. Fits refusal view (Err no_end) (FirstLine n Reads ls) in subst P (sym none) refl

-- a fault of the first line
pub first_fault : {X Y A : Type 0} (view : X → A) (view' : Y → A) (n : ℕ) (Reads : List ℕ → Outcome LineFault A) (text more : List (List ℕ)) (row : List ℕ) (fault : LineFault) (told : CertFault) → text ≡ row ∷ more → told ≡ fault_at n fault → Fits line_refusal view (Err fault) (Reads row) → Fits refusal view' (Err told) (FirstLine n Reads text)
first_fault view view' n Reads text more row fault told is same fits =
    let P : List (List ℕ) → Type 0 = λ ls. Fits refusal view' (Err told) (FirstLine n Reads ls) in
    let Q : CertFault → Type 0 = λ f. Fits refusal view' (Err f) (Within (fault_at n) (Reads row)) in
    subst P (sym is) (subst Q (sym same) (at_line view view' n fault (Reads row) fits))

-- a fault that is answered
pub returned : (answer : Result ℕ LineFault) (fault : LineFault) → Err fault ≡ answer → Fits line_refusal (λ (v : ℕ). v) (Err fault) (Returns answer)
returned answer line.Syntax is = is
returned answer line.NoSuchNet is = is
returned answer line.NoSuchBit is = is
returned answer line.NotDriven is = is
returned answer line.NoSuchLet is = is
returned answer line.OutOfMemory is = tt

-- a line that names no version is no line of its place
named_fault : (found : Option (List ℕ × List ℕ)) (fault : LineFault) → version_named found ≡ Err fault → fault ≡ line.Syntax
named_fault None fault is = cc
named_fault (Some found) fault is = by (is_blank found.1) (bytes_eq found.0 (codes "1")) (bytes_eq found.0 (codes "2")) is
  where
    by : (blank one two : Bool) → ◌≡◌ {A = Result ℕ LineFault} (cond blank (cond one (Ok 1) (cond two (Ok 2) (Err line.Syntax))) (Err line.Syntax)) (Err fault) → fault ≡ line.Syntax
    by false one two e = cc
    by true true two e = absurd (cc)
    by true false true e = absurd (cc)
    by true false false e = cc

after_fault : (rest : Option (List ℕ)) (fault : LineFault) → version_after rest ≡ Err fault → fault ≡ line.Syntax
after_fault None fault is = cc
after_fault (Some rest) fault is = named_fault (digits_at rest) fault is

pub version_fault : (row : List ℕ) (fault : LineFault) → Err fault ≡ version_of row → fault ≡ line.Syntax
version_fault row fault is = after_fault (after_word (codes "gfcert") row) fault (sym is)

-- the claim after the version
pub head_read : (k : ℕ) (labels : Labelling) (text rest : List (List ℕ)) (version : ℕ) (r : Result Head CertFault) → FirstLine 1 (λ bs. Returns (version_of bs)) text (Ok version) → rest ≡ drop 1 text → Fits refusal (λ (h : Head). h.claim.terms) r (FirstLine 2 (ClaimOf k labels) rest) → IfOk r (λ h. h.version ≡ version) → Fits refusal head_of r (HeadOf k labels text)
head_read k labels text rest version (Ok head) first is second same =
    let P : List (List ℕ) → Type 0 = λ ls. FirstLine 2 (ClaimOf k labels) ls (Ok head.claim.terms) in
    (version, first, (head.claim.terms, subst P is second, ap (λ (v : ℕ). (v, head.claim.terms)) same))
head_read k labels text rest version (Err fault) first is second same =
    let P : List (List ℕ) → Type 0 = λ ls. Fits refusal (λ (h : Head). h.claim.terms) (Err fault) (FirstLine 2 (ClaimOf k labels) ls) in
    cert_fails (λ (h : Head). h.claim.terms) head_of fault (FirstLine 2 (ClaimOf k labels) (drop 1 text)) (HeadOf k labels text) (λ f comes. inr (version, first, inl comes)) (subst P is second)
