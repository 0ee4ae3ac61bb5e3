-- What the faults of a job's files repeat has no line feed.
use Rattle.std.proofs.Common.{◌≡◌, inl, inr, refl, subst, sym, ℕ, suc, ◌≤◌, Bool, true, false, List, [], ◌∷◌, ◌++◌, Option, None, Some, Result, Err, arith}
use Rattle.std.specs.Prelude.{◌≢◌, slice_get, if◌then◌else◌}
use Rattle.std.specs.List.{AllByRecursion}
use Rattle.std.proofs.lemmas.List.Elements.{All-weaker}
use Rattle.outcome.specs.Outcome.{Within}
use Rattle.job_io.specs.Shelf.{Files}
use Rattle.gf_basis.specs.declared.bases.BasisFault.{BasisFault}
use Rattle.gf_basis.specs.declared.bases.BasisFault.TheVariants as bases
use Rattle.gf_tower.specs.declared.any_field.FieldFault.{FieldFault}
use Rattle.gf_tower.specs.declared.any_field.FieldFault.TheVariants as fields
use Rattle.net_signature.specs.Body.{BlockValue}
use Rattle.net_signature.specs.Signature.{Sig, SignatureValue}
use Rattle.net_signature.specs.Statement.{IsNetToken}
use Rattle.net_signature.specs.declared.fault.SigFault.{SigFault}
use Rattle.net_signature.specs.declared.fault.SigFault.TheVariants as texts
use Rattle.net_signature.proofs.ModelLemmas.{model_is_token}
use Rattle.net_signature.specs.WordNames.{HaveNames}
use Rattle.net_words.specs.declared.feed.FeedText.{FeedText}
use Rattle.net_words.specs.declared.word.Role.{Role}
use Rattle.net_words.specs.declared.word.Role.TheVariants.{Input, State, Fed, Output}
use Rattle.net_words.specs.declared.word.WordText.{WordText}
use Rattle.poly_mixed.specs.Labels.{Labelling}
use Rattle.net_words.specs.Binding.{BoundNet}
use Rattle.job_words.specs.declared.netlist_fault.NetlistFault.{NetlistFault}
use Rattle.job_words.specs.OneLine.{HasNoLineFeed, KeepsToItsLine, repeated_of_file, repeated_of_netlist, repeated_of_signature}
use Rattle.job_words.specs.Operands.{IsOperand, Word}
use Rattle.job_words.specs.declared.fault.Fault.{Fault}
use Rattle.job_words.specs.declared.fault.Fault.TheVariants as faults
use Rattle.job_words.specs.declared.file_fault.FileFault.{FileFault}
use Rattle.job_words.specs.declared.file_fault.FileFault.TheVariants as file
use Rattle.job_words.specs.declared.signature_fault.SignatureFault.{SignatureFault}
use Rattle.job_words.specs.declared.signature_fault.SignatureFault.TheVariants as signatures
use Rattle.job_input.specs.FieldOf.{field_fault}
use Rattle.job_input.specs.File.{Read}
use Rattle.job_input.specs.Labelling.{labels_of, word_label, word_labels}
use Rattle.job_input.specs.NetlistOf.{NetlistIn, by_ending}
use Rattle.job_input.specs.CircuitOf.{CircuitOf, UnrolledIn}
use Rattle.job_input.specs.SettingOf.{BasesOf, BlocksHaveBases, SettingWith, SignedOf, SignedValue, WordBasis, basis_fault, feeds_within, place_within, signature_fault_of}
use Rattle.job_input.specs.SignedIn.{SecondIn, SignedIn}
use Rattle.job_input.specs.SpecificationIn.{SpecificationIn}
use Rattle.job_input.specs.TableIn.{TableIn}
use Rattle.job_input.proofs.NetlistLineLemmas.{name_kept, netlist_keeps}

-- an operand has no line feed
pub operand_kept : (word : Word) → IsOperand word → HasNoLineFeed word
operand_kept word is = All-weaker (λ b. (32 ≤ b) × (b ≢ 127)) (λ b. b ≢ 10) (λ b plain e. absurd (omega (arith, plain.0, e))) word is.plain

pub same_line : (fault other : Fault) → fault ≡ other → KeepsToItsLine other → KeepsToItsLine fault
same_line fault other same keeps = let P : Fault → Type 0 = KeepsToItsLine in subst P (sym same) keeps

read_keeps : (held : Option Files) (name : Word) (fault : FileFault) → HasNoLineFeed name → Read held name (Err fault) → AllByRecursion HasNoLineFeed (repeated_of_file fault)
read_keeps held name (file.Absent other) kept is = let P : Word → Type 0 = HasNoLineFeed in (subst P (sym is.0) kept, tt)
read_keeps held name (file.TooLong other) kept is = let P : Word → Type 0 = HasNoLineFeed in (subst P (sym is.0) kept, tt)

pub file_keeps : (held : Option Files) (name : Word) (fault : Fault) → HasNoLineFeed name → Within faults.File (Read held name) (Err fault) → KeepsToItsLine fault
file_keeps held name fault kept (other, is, same) = same_line fault (faults.File other) same (read_keeps held name other kept is)

plain_kept : (token : Word) → IsNetToken token → HasNoLineFeed token
plain_kept token is = All-weaker (λ b. (33 ≤ b) × (b ≤ 126) × (b ≢ 92)) (λ b. b ≢ 10) (λ b plain e. absurd (omega (arith, plain.0, e))) token is.0

-- what a signature's fault repeats has no line feed
abbrev pub RepeatsKept : SignatureFault → Type 0
RepeatsKept fault = AllByRecursion HasNoLineFeed (repeated_of_signature fault)

-- the model that a fault of the text names has no line feed
text_keeps : (text : List ℕ) (fault : SigFault) → Sig text (Err fault) → RepeatsKept (signature_fault_of fault)
text_keeps text (texts.Syntax line) is = tt
text_keeps text (texts.NameTwice line) is = tt
text_keeps text (texts.NoFedWord line) is = tt
text_keeps text (texts.FeedTwice line) is = tt
text_keeps text (texts.TwoOutputs line) is = tt
text_keeps text (texts.TooManyWords line) is = tt
text_keeps text (texts.NoOutput None) is = tt
text_keeps text (texts.NoOutput (Some model)) is = (plain_kept model (model_is_token text model is), tt)
text_keeps text texts.OutOfMemory is = tt

pub field_keeps : (fault : FieldFault) → RepeatsKept (field_fault fault)
field_keeps fields.BadDegree = tt
field_keeps fields.NotIrreducible = tt
field_keeps fields.BadLength = tt
field_keeps (fields.BadCoefficient place) = tt
field_keeps fields.TowerNotIrreducible = tt
field_keeps fields.UpperBadLength = tt
field_keeps (fields.UpperBadCoefficient place) = tt
field_keeps fields.UpperNotIrreducible = tt

same_signature : (fault other : SignatureFault) → fault ≡ other → RepeatsKept other → RepeatsKept fault
same_signature fault other same keeps = let P : SignatureFault → Type 0 = RepeatsKept in subst P (sym same) keeps

signature_keeps : (text : List ℕ) (fault : SignatureFault) → SignedOf text (Err fault) → RepeatsKept fault
unfolding SignedOf
signature_keeps text fault (inl (other, is, same)) = same_signature fault (signature_fault_of other) same (text_keeps text other is)
signature_keeps text fault (inr (said, says, inl (other, is, same))) = same_signature fault (field_fault other) same (field_keeps other)
signature_keeps text fault (inr (said, says, inr (field, named, never))) = absurd never

-- ---- the faults of a setting repeat nothing

basis_keeps : (line : ℕ) (fault : BasisFault) → RepeatsKept (basis_fault line fault)
basis_keeps line bases.Dependent = tt
basis_keeps line (bases.WrongCount count) = tt
basis_keeps line (bases.BadElement place) = tt

module _ (k : ℕ) (product : ℕ → ℕ → ℕ) (fault : SignatureFault) where
  word_keeps : (word : WordText) → WordBasis k product word (Err fault) → RepeatsKept fault
  word_keeps word (inl (other, same)) = same_signature fault (signatures.Bits word.line) same tt
  word_keeps word (inr (u, bits, (basis, is, same))) = same_signature fault (basis_fault word.line basis) same (basis_keeps word.line basis)

  words_keep : (words : List WordText) → BasesOf k product words (Err fault) → RepeatsKept fault
  words_keep [] never = absurd never
  words_keep (word ∷ words) (inl here) = word_keeps word here
  words_keep (word ∷ words) (inr (basis, one, inl later)) = words_keep words later
  words_keep (word ∷ words) (inr (basis, one, inr (more, are, never))) = absurd never

  blocks_keep : (blocks : List BlockValue) → BlocksHaveBases k product blocks (Err fault) → RepeatsKept fault
  blocks_keep [] never = absurd never
  blocks_keep (block ∷ blocks) (inl here) = words_keep block.words here
  blocks_keep (block ∷ blocks) (inr (more, are, later)) = blocks_keep blocks later

  feeds_keep : (feeds : List FeedText) → ◌≡◌ {A = Result (Unit {0}) SignatureFault} (Err fault) (feeds_within k feeds) → RepeatsKept fault
  feeds_keep [] is = absurd (cc)
  feeds_keep (feed ∷ feeds) is = by (place_within k feed.source) (λ later. feeds_keep feeds later) is
    where
      by : (b : Bool) → (◌≡◌ {A = Result (Unit {0}) SignatureFault} (Err fault) (feeds_within k feeds) → RepeatsKept fault) → ◌≡◌ {A = Result (Unit {0}) SignatureFault} (Err fault) (if b then feeds_within k feeds else Err (signatures.Bits feed.line)) → RepeatsKept fault
      by true rest e = rest e
      by false rest e = let same : fault ≡ signatures.Bits feed.line = cc in same_signature fault (signatures.Bits feed.line) same tt

pub setting_keeps : (signed : SignedValue) (fault : SignatureFault) → SettingWith signed (Err fault) → RepeatsKept fault
setting_keeps signed fault (inl wrong) = words_keep signed.field.k signed.field.product fault signed.signature.words wrong
setting_keeps signed fault (inr (more, are, inl wrong)) = blocks_keep signed.field.k signed.field.product fault signed.signature.blocks wrong
setting_keeps signed fault (inr (more, are, inr (u, judged, inl wrong))) = feeds_keep signed.field.k signed.field.product fault signed.signature.feeds wrong
setting_keeps signed fault (inr (more, are, inr (u, judged, inr (v, within, never)))) = absurd never

-- ---- each file

pub signed_keeps : (held : Option Files) (name : Word) (fault : Fault) → HasNoLineFeed name → SignedIn held name (Err fault) → KeepsToItsLine fault
signed_keeps held name fault kept (inl is) = file_keeps held name fault kept is
signed_keeps held name fault kept (inr (text, read, (other, is, same))) = same_line fault (faults.Signature other) same (signature_keeps text other is)

pub second_keeps : (held : Option Files) (name : Word) (fault : Fault) → HasNoLineFeed name → SecondIn held name (Err fault) → KeepsToItsLine fault
second_keeps held name fault kept (inl (inl is)) = file_keeps held name fault kept is
second_keeps held name fault kept (inl (inr (text, read, (other, is, same)))) = same_line fault (faults.SecondSignature other) same (signature_keeps text other is)
second_keeps held name fault kept (inr (signed, taken, inl (other, is, same))) = same_line fault (faults.SecondSignature other) same (setting_keeps signed other is)
second_keeps held name fault kept (inr (signed, taken, inr (setting, is, never))) = absurd never

pub netlist_file_keeps : (held : Option Files) (signature : SignatureValue) (name : Word) (fault : Fault) → HaveNames signature.words → HasNoLineFeed name → NetlistIn held signature name (Err fault) → KeepsToItsLine fault
netlist_file_keeps held signature name fault names kept (inl is) = file_keeps held name fault kept is
netlist_file_keeps held signature name fault names kept (inr (text, read, (other, is, same))) = same_line fault (faults.Netlist name other) same (kept, netlist_keeps signature (by_ending name text) other names is)

-- too many nets or gates are refused by a text of the program's own
unrolled_keeps : (netlist : BoundNet) (cycles : ℕ) (fault : NetlistFault) → CircuitOf netlist cycles (Err fault) → AllByRecursion HasNoLineFeed (repeated_of_netlist fault)
unrolled_keeps netlist cycles fault (inl nets) = let P : NetlistFault → Type 0 = λ f. AllByRecursion HasNoLineFeed (repeated_of_netlist f) in subst P (sym nets.0) tt
unrolled_keeps netlist cycles fault (inr gates) = let P : NetlistFault → Type 0 = λ f. AllByRecursion HasNoLineFeed (repeated_of_netlist f) in subst P (sym gates.0) tt

pub cycles_keep : (name : Word) (netlist : BoundNet) (cycles : ℕ) (fault : Fault) → HasNoLineFeed name → UnrolledIn name netlist cycles (Err fault) → KeepsToItsLine fault
cycles_keep name netlist cycles fault kept (other, is, same) = same_line fault (faults.Netlist name other) same (kept, unrolled_keeps netlist cycles other is)

pub specification_keeps : (held : Option Files) (labels : Labelling) (k : ℕ) (product : ℕ → ℕ → ℕ) (name : Word) (fault : Fault) → HasNoLineFeed name → SpecificationIn held labels k product name (Err fault) → KeepsToItsLine fault
specification_keeps held labels k product name fault kept (inl is) = file_keeps held name fault kept is
specification_keeps held labels k product name fault kept (inr (text, read, (other, is, same))) = same_line fault (faults.Specification other) same tt

pub table_keeps : (held : Option Files) (k n : ℕ) (name : Word) (fault : Fault) → HasNoLineFeed name → TableIn held k n name (Err fault) → KeepsToItsLine fault
table_keeps held k n name fault kept (inl is) = file_keeps held name fault kept is
table_keeps held k n name fault kept (inr (text, read, (other, is, same))) = same_line fault (faults.Table other) same tt

-- ---- the labels of the words

-- no name of a word has a line feed
abbrev pub HaveKeptNames : List (List ℕ × ℕ) → Type 0
HaveKeptNames words = AllByRecursion (λ (w : List ℕ × ℕ). HasNoLineFeed w.0) words

label_kept : (role : Role) (name : List ℕ) (k : ℕ) (rest : List (List ℕ × ℕ)) → HasNoLineFeed name → HaveKeptNames rest → HaveKeptNames (word_label role name k ++ rest)
label_kept Input name k rest kept more = (kept, more)
label_kept State name k rest kept more = (kept, more)
label_kept Fed name k rest kept more = (kept, more)
label_kept Output name k rest kept more = more

pub labels_kept : (k : ℕ) (words : List WordText) → HaveNames words → HaveKeptNames (labels_of k words).words
labels_kept k words names = by words (λ i word at. name_kept word.name (names.names word (i, at)))
  where
    by : (words : List WordText) → ((i : ℕ) (word : WordText) → slice_get words i ≡ Some word → HasNoLineFeed word.name) → HaveKeptNames (word_labels k words)
    by [] each = tt
    by (word ∷ words) each = label_kept word.role word.name k (word_labels k words) (each 0 word refl) (by words (λ i other at. each (suc i) other at))
