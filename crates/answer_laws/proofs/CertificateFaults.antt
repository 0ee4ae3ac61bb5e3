-- A fault that comes of a certificate's text is one of a line or of its end, or one of what else is asked; it is never want of memory.
use Rattle.std.proofs.Common.{sym, subst, inl, inr, ℕ, ◌+◌, Bool, true, false, cond, List, [], ◌∷◌, drop, length, Result, Ok, Err, ◌==◌, codes}
use Rattle.std.specs.Prelude.{bytes_eq, nat_lt, slice_get, Option, None, Some}
use Rattle.std.specs.Str.Lines.{lines}
use Rattle.outcome.specs.Outcome.{Outcome, Returns, Within}
use Rattle.text_core.specs.Numbers.{value_of}
use Rattle.net_core.specs.NetList.{nets, NetList}
use Rattle.poly_mixed.specs.Labels.{word_at, word_of, Labelling}
use Rattle.poly_mixed.specs.Polynomial.{Terms}
use Rattle.poly_mixed.specs.TextOutcome.{no_polynomial, no_such_bit, no_such_net, TextFault}
use Rattle.poly_mixed.specs.declared.steps.Generator.{Generator}
use Rattle.poly_mixed.specs.declared.steps.Generator.TheVariants.{Bit, Net}
use Rattle.cert_check.specs.Certificate.{after_hash, begun, ends, pairs, poly_fault, shared_by, shared_or, shares, with_pair, with_shared, AfterLine, Certificate, CertificateBy, ClaimOf, FirstLine, HeadOf, LineOf, LinesOf, MultiplierBy, NoLine, PolynomialOf, Said, SaidBy}
use Rattle.cert_check.specs.Driver.{is_driven}
use Rattle.cert_check.specs.Fault.{fault_at, no_end}
use Rattle.cert_check.specs.Frame.{after_claim, after_generator, after_number, after_or, bit_found, bit_named, claim_text, end_of, ended, frame_of, let_line, let_named, net_named, pair_of, paired, share_of, shared, version_after, version_named, version_of, Frame}
use Rattle.cert_check.specs.Scan.{after_sign, after_word, digits_at, digits_first, indexed_at, is_blank}
use Rattle.cert_check.specs.declared.fault.CertFault.{CertFault}
use Rattle.cert_check.specs.declared.fault.LineFault.{LineFault}
use Rattle.cert_check.specs.declared.fault.LineFault.TheVariants.{NoSuchBit, NoSuchLet, NoSuchNet, NotDriven, OutOfMemory, Syntax}

-- ---- lines

-- not want of memory
abbrev pub IsOfLine : LineFault → Type 0
IsOfLine OutOfMemory = ⊥
IsOfLine Syntax = Unit {0}
IsOfLine NoSuchNet = Unit {0}
IsOfLine NoSuchBit = Unit {0}
IsOfLine NotDriven = Unit {0}
IsOfLine NoSuchLet = Unit {0}

-- no other fault comes of a computed reading
abbrev Reads : {A : Type 0} → Result A LineFault → Type 0
Reads (Ok value) = Unit {0}
Reads (Err fault) = IsOfLine fault

module _ {A : Type 0} where
  either_reads : (b : Bool) (one other : Result A LineFault) → Reads one → Reads other → Reads (cond b one other)
  either_reads true one other first second = first
  either_reads false one other first second = second

  returned : (answer : Result A LineFault) (fault : LineFault) → Reads answer → Returns answer (Err fault) → IsOfLine fault
  returned answer fault reads same = let P : Result A LineFault → Type 0 = Reads in subst P (sym same) reads

version_reads : (line : List ℕ) → Reads (version_of line)
version_reads line = after (after_word (codes "gfcert") line)
  where
    named : (found : Option (List ℕ × List ℕ)) → Reads (version_named found)
    named None = tt
    named (Some found) =
        either_reads (is_blank found.1) (cond (bytes_eq found.0 (codes "1")) (Ok 1) (cond (bytes_eq found.0 (codes "2")) (Ok 2) (Err Syntax))) (Err Syntax)
        (either_reads (bytes_eq found.0 (codes "1")) (Ok 1) (cond (bytes_eq found.0 (codes "2")) (Ok 2) (Err Syntax)) tt (either_reads (bytes_eq found.0 (codes "2")) (Ok 2) (Err Syntax) tt tt)) tt

    after : (found : Option (List ℕ)) → Reads (version_after found)
    after None = tt
    after (Some rest) = named (digits_at rest)

number_reads : (found : Option (List ℕ)) → Reads (after_number found)
number_reads None = tt
number_reads (Some rest) = tt

generator_reads : (g : Generator) (found : Option (List ℕ)) → Reads (after_generator g found)
generator_reads g None = tt
generator_reads g (Some rest) = tt

net_reads : (net : NetList) (found : Option (List ℕ × List ℕ)) → Reads (net_named net found)
net_reads net None = tt
net_reads net (Some found) =
    let here : Result (Generator × List ℕ) LineFault = after_generator (Net (value_of 10 found.0)) (after_sign 58 found.1) in
    either_reads (nat_lt (value_of 10 found.0) (nets net)) (cond (is_driven net (value_of 10 found.0)) here (Err NotDriven)) (Err NoSuchNet)
    (either_reads (is_driven net (value_of 10 found.0)) here (Err NotDriven) (generator_reads (Net (value_of 10 found.0)) (after_sign 58 found.1)) tt) tt

bit_reads : (labels : Labelling) (found : Option (List ℕ × List ℕ × List ℕ)) → Reads (bit_named labels found)
bit_reads labels None = tt
bit_reads labels (Some found) = by (word_of labels.words found.0)
  where
    by : (word : Option ℕ) → Reads (bit_found labels word (value_of 10 found.1) found.2)
    by None = tt
    by (Some word) =
        let here : Result (Generator × List ℕ) LineFault = after_generator (Bit word (value_of 10 found.1)) (after_sign 58 found.2) in
        either_reads (nat_lt (value_of 10 found.1) (word_at labels.words word).1) here (Err NoSuchBit) (generator_reads (Bit word (value_of 10 found.1)) (after_sign 58 found.2)) tt

let_reads : (version count : ℕ) (rest : List ℕ) → Reads (let_line version count rest)
let_reads version count rest = either_reads (version == 2) (shared (let_named count (digits_at rest))) (Err Syntax) (shares_so (let_named count (digits_at rest)) (by (digits_at rest))) tt
  where
    by : (found : Option (List ℕ × List ℕ)) → Reads (let_named count found)
    by None = tt
    by (Some found) = either_reads (value_of 10 found.0 == count) (after_number (after_sign 58 found.1)) (Err Syntax) (number_reads (after_sign 58 found.1)) tt

    shares_so : (found : Result (List ℕ) LineFault) → Reads found → Reads (shared found)
    shares_so (Ok rest) reads = tt
    shares_so (Err fault) reads = reads

paired_reads : (found : Result (Generator × List ℕ) LineFault) → Reads found → Reads (paired found)
paired_reads (Ok found) reads = tt
paired_reads (Err fault) reads = reads

or_reads : (found : Option (List ℕ)) (here : List ℕ → Result Frame LineFault) (other : Result Frame LineFault) → ((rest : List ℕ) → Reads (here rest)) → Reads other → Reads (after_or found here other)
or_reads None here other each reads = reads
or_reads (Some rest) here other each reads = each rest

frame_reads : (net : NetList) (labels : Labelling) (version count : ℕ) (line : List ℕ) → Reads (frame_of net labels version count line)
frame_reads net labels version count line =
    let last : Result Frame LineFault = after_or (after_word (codes "end") line) ended (Err Syntax) in
    let third : Result Frame LineFault = after_or (after_word (codes "let") line) (let_line version count) last in
    let second : Result Frame LineFault = after_or (after_word (codes "bit") line) (λ rest. paired (bit_named labels (indexed_at rest))) third in
    or_reads (after_word (codes "net") line) (λ rest. paired (net_named net (digits_at rest))) second (λ rest. paired_reads (net_named net (digits_at rest)) (net_reads net (digits_at rest)))
    (or_reads (after_word (codes "bit") line) (λ rest. paired (bit_named labels (indexed_at rest))) third (λ rest. paired_reads (bit_named labels (indexed_at rest)) (bit_reads labels (indexed_at rest)))
    (or_reads (after_word (codes "let") line) (let_line version count) last (λ rest. let_reads version count rest) (or_reads (after_word (codes "end") line) ended (Err Syntax) (λ rest. either_reads (is_blank rest) (Ok end_of) (Err Syntax) tt tt) tt)))

poly_of_line : (fault : TextFault) → IsOfLine (poly_fault fault)
poly_of_line no_polynomial = tt
poly_of_line no_such_net = tt
poly_of_line no_such_bit = tt

module _ (k : ℕ) (labels : Labelling) where
  polynomial_told : (text : List ℕ) (fault : LineFault) → PolynomialOf k labels text (Err fault) → IsOfLine fault
  polynomial_told text fault (found, is, same) = let P : LineFault → Type 0 = IsOfLine in subst P (sym same) (poly_of_line found)

  shared_reads : (list : List Terms) (found : Option (List ℕ × List ℕ)) → Reads (shared_by list found)
  shared_reads list None = tt
  shared_reads list (Some found) = either_reads (is_blank found.1) (shared_or (slice_get list (value_of 10 found.0))) (Err Syntax) (by (slice_get list (value_of 10 found.0))) tt
    where
      by : (m : Option Terms) → Reads (shared_or m)
      by None = tt
      by (Some m) = tt

  multiplier_told : (list : List Terms) (hash : Option (List ℕ)) (text : List ℕ) (fault : LineFault) → MultiplierBy k labels list hash text (Err fault) → IsOfLine fault
  multiplier_told list None text fault is = polynomial_told text fault is
  multiplier_told list (Some rest) text fault is = returned (shared_by list (digits_first rest)) fault (shared_reads list (digits_first rest)) is

  claim_told : (line : List ℕ) (fault : LineFault) → ClaimOf k labels line (Err fault) → IsOfLine fault
  claim_told line fault (inl is) = returned (claim_text labels line) fault (number_reads (after_claim labels (after_word (codes "claim") line))) is
  claim_told line fault (inr (text, read, is)) = let P : LineFault → Type 0 = IsOfLine in subst P (sym is.0) tt

  module _ (net : NetList) where
    said_told : (version : ℕ) (list : List Terms) (frame : Frame) (fault : LineFault) → SaidBy k net labels version list frame (Err fault) → IsOfLine fault
    said_told version list (pair_of g text) fault (inl is) = multiplier_told list (after_hash version text) text fault is
    said_told version list (pair_of g text) fault (inr (m, read, is)) = absurd is
    said_told version list (share_of text) fault (inl is) = polynomial_told text fault is
    said_told version list (share_of text) fault (inr (m, read, is)) = absurd is
    said_told version list end_of fault is = absurd is

    line_told : (version : ℕ) (list : List Terms) (line : List ℕ) (fault : LineFault) → LineOf k net labels version list line (Err fault) → IsOfLine fault
    line_told version list line fault (inl is) = returned (frame_of net labels version (length list) line) fault (frame_reads net labels version (length list) line) is
    line_told version list line fault (inr (frame, read, is)) = said_told version list frame fault is

-- ---- the whole text

module _ (k : ℕ) (net : NetList) (labels : Labelling) (Asks : ℕ → Certificate → Outcome CertFault (Unit {0})) (Told : CertFault → Type 0) (of_line : (n : ℕ) (fault : LineFault) → IsOfLine fault → Told (fault_at n fault)) (of_end : Told no_end)
    (asked : (n : ℕ) (c : Certificate) (fault : CertFault) → Asks n c (Err fault) → Told fault) where
  at_line : {A : Type 0} (n : ℕ) (May : Outcome LineFault A) → ((fault : LineFault) → May (Err fault) → IsOfLine fault) → (fault : CertFault) → Within (fault_at n) May (Err fault) → Told fault
  at_line n May each fault (found, is, same) = subst Told (sym same) (of_line n found (each found is))

  first_told : {A : Type 0} (n : ℕ) (May : List ℕ → Outcome LineFault A) → ((line : List ℕ) (fault : LineFault) → May line (Err fault) → IsOfLine fault) → (text : List (List ℕ)) (fault : CertFault) → FirstLine n May text (Err fault) → Told fault
  first_told n May each [] fault same = subst Told (sym same) of_end
  first_told n May each (line ∷ more) fault is = at_line n (May line) (each line) fault is

  head_told : (text : List (List ℕ)) (fault : CertFault) → HeadOf k labels text (Err fault) → Told fault
  head_told text fault (inl is) = first_told 1 (λ line. Returns (version_of line)) (λ line found same. returned (version_of line) found (version_reads line) same) text fault is
  head_told text fault (inr (version, read, inl is)) = first_told 2 (ClaimOf k labels) (claim_told k labels) (drop 1 text) fault is
  head_told text fault (inr (version, read, inr (claim, said, is))) = absurd is

  none_told : (n : ℕ) (more : List (List ℕ)) (c : Certificate) (fault : CertFault) → NoLine n more c (Err fault) → Told fault
  none_told n [] c fault is = absurd is
  none_told n (line ∷ more) c fault same = subst Told (sym same) (of_line n Syntax tt)

  after_told : (n : ℕ) (said : Said) (more : List (List ℕ)) (c : Certificate) (Rest : Certificate → Outcome CertFault Certificate) → ((d : Certificate) (fault : CertFault) → Rest d (Err fault) → Told fault) → (fault : CertFault) → AfterLine k net labels Asks n said more c Rest (Err fault) → Told fault
  after_told n ends more c Rest each fault is = none_told (n + 1) more c fault is
  after_told n (shares m) more c Rest each fault is = each (with_shared c m) fault is
  after_told n (pairs g m) more c Rest each fault (inl is) = asked n (with_pair c g m) fault is
  after_told n (pairs g m) more c Rest each fault (inr (met, read, is)) = each (with_pair c g m) fault is

  lines_told : (version : ℕ) (text : List (List ℕ)) (n : ℕ) (c : Certificate) (fault : CertFault) → LinesOf k net labels Asks version text n c (Err fault) → Told fault
  lines_told version [] n c fault same = subst Told (sym same) of_end
  lines_told version (line ∷ more) n c fault (inl is) = at_line n (LineOf k net labels version c.shared line) (line_told k labels net version c.shared line) fault is
  lines_told version (line ∷ more) n c fault (inr (said, read, is)) = after_told n said more c (LinesOf k net labels Asks version more (n + 1)) (lines_told version more (n + 1)) fault is

  pub certificate_told : (bytes : List ℕ) (fault : CertFault) → CertificateBy k net labels Asks bytes (Err fault) → Told fault
  certificate_told bytes fault (inl is) = head_told (lines bytes) fault is
  certificate_told bytes fault (inr (head, read, inl is)) = asked 2 (begun head.1) fault is
  certificate_told bytes fault (inr (head, read, inr (met, answered, is))) = lines_told head.0 (drop 2 (lines bytes)) 3 (begun head.1) fault is
