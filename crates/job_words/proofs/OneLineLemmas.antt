-- Texts of faults without a line feed.
use Rattle.std.proofs.Common.{◌≡◌, ◌≢◌, refl, subst, ℕ, zero, suc, ◌+◌, ◌/◌, ◌%◌, ◌==◌, Bool, true, false, cond, not, List, [], ◌∷◌, ◌++◌, arith}
use Rattle.std.specs.Prelude.{codes, nat_lt}
use Rattle.std.specs.Fmt.{decimal, digits, digits_onto, digit_glyph}
use Rattle.std.specs.List.{AllByRecursion, list_all}
use Rattle.std.proofs.lemmas.Bool.{eqb-true}
use Rattle.lists.specs.laws.BoolLaws.{both_true as both}
use Rattle.poly_mixed.specs.Labels.{Labelling, word_at}
use Rattle.poly_mixed.specs.declared.stage.Stage.{Stage}
use Rattle.poly_mixed.specs.declared.stage.Stage.TheVariants as stages
use Rattle.job_words.specs.Fault.{fault_line, fault_text}
use Rattle.job_words.specs.FileFault.{file_text}
use Rattle.job_words.specs.NetlistFault.{binding_text, place_text, netlist_text}
use Rattle.job_words.specs.OneLine.{HasNoLineFeed, IsOneLine, KeepsToItsLine, repeated_of_binding, repeated_of_composition, repeated_of_file, repeated_of_netlist, repeated_of_signature}
use Rattle.job_words.specs.Operands.{Word}
use Rattle.job_words.specs.SignatureFault.{second_signature_text, second_word, signature_number, signature_text, signature_words}
use Rattle.job_words.specs.SpecificationFault.{specification_text}
use Rattle.job_words.specs.StageFault.{stage_text, stage_fault_text}
use Rattle.job_words.specs.TableTextFault.{table_text}
use Rattle.job_words.specs.CertificateFault.{certificate_text}
use Rattle.job_words.specs.CompositionFault.{composition_text}
use Rattle.job_words.specs.Kind.{kind_name}
use Rattle.job_words.specs.ValueFault.{value_text}
use Rattle.job_words.specs.declared.certificate_fault.CertificateFault.{CertificateFault}
use Rattle.job_words.specs.declared.certificate_fault.CertificateFault.TheVariants as certificate
use Rattle.job_words.specs.declared.composition_fault.CompositionFault.{CompositionFault}
use Rattle.job_words.specs.declared.composition_fault.CompositionFault.TheVariants as composition
use Rattle.job_words.specs.declared.kind.Kind.{Kind}
use Rattle.job_words.specs.declared.kind.Kind.TheVariants as kinds
use Rattle.job_words.specs.declared.table_text_fault.TableTextFault.{TableTextFault}
use Rattle.job_words.specs.declared.table_text_fault.TableTextFault.TheVariants as table
use Rattle.job_words.specs.declared.fault.Fault.{Fault}
use Rattle.job_words.specs.declared.fault.Fault.TheVariants as faults
use Rattle.job_words.specs.declared.file_fault.FileFault.{FileFault}
use Rattle.job_words.specs.declared.file_fault.FileFault.TheVariants as file
use Rattle.job_words.specs.declared.netlist_fault.BindingFault.{BindingFault}
use Rattle.job_words.specs.declared.netlist_fault.BindingFault.TheVariants as binding
use Rattle.job_words.specs.declared.netlist_fault.NetlistFault.{NetlistFault}
use Rattle.job_words.specs.declared.netlist_fault.NetlistFault.TheVariants as netlist
use Rattle.job_words.specs.declared.signature_fault.SignatureFault.{SignatureFault}
use Rattle.job_words.specs.declared.signature_fault.SignatureFault.TheVariants as signature
use Rattle.job_words.specs.declared.specification_fault.SpecificationFault.{SpecificationFault}
use Rattle.job_words.specs.declared.specification_fault.SpecificationFault.TheVariants as specification
use Rattle.job_words.specs.declared.stage_fault.StageFault.{StageFault}
use Rattle.job_words.specs.declared.value_fault.ValueFault.{ValueFault}
use Rattle.job_words.specs.declared.value_fault.ValueFault.TheVariants as values

-- ---- by a test that computes over the program's own texts

abbrev is_kept : ℕ → Bool
is_kept b = not (b == 10)

abbrev pub IsClean : List ℕ → Type 0
IsClean text = list_all is_kept text ≡ true

-- one text after another
pub clean_then : (text rest : List ℕ) → IsClean text → IsClean rest → IsClean (text ++ rest)
clean_then [] rest clean more = more
clean_then (b ∷ bs) rest clean more = let (first, others) = both (is_kept b) (list_all is_kept bs) clean in rw (first, clean_then bs rest others more) refl

byte_kept : (b : ℕ) → is_kept b ≡ true → b ≢ 10
byte_kept b kept same = let P : ℕ → Type 0 = λ n. is_kept n ≡ true in let wrong : is_kept 10 ≡ true = subst P same kept in absurd (cc)

kept_byte : (b : ℕ) → b ≢ 10 → is_kept b ≡ true
kept_byte b other = by (b == 10) refl
  where
    by : (v : Bool) → (b == 10) ≡ v → not v ≡ true
    by true e = absurd (other (eqb-true b 10 e))
    by false e = refl

pub clean_kept : (text : List ℕ) → IsClean text → HasNoLineFeed text
clean_kept [] clean k d less = absurd (omega arith)
clean_kept (b ∷ bs) clean zero d less = byte_kept b (both (is_kept b) (list_all is_kept bs) clean).0
clean_kept (b ∷ bs) clean (suc k) d less = clean_kept bs (both (is_kept b) (list_all is_kept bs) clean).1 k d (omega arith)

pub kept_clean : (text : List ℕ) → HasNoLineFeed text → IsClean text
kept_clean [] all = refl
kept_clean (b ∷ bs) all = rw (kept_byte b (all zero 0 (omega arith)), kept_clean bs (λ k d less. all (suc k) d (omega arith))) refl

-- ---- numbers

glyph_kept : (n : ℕ) → is_kept (digit_glyph false (n % 10)) ≡ true
glyph_kept n = by (nat_lt (n % 10) 10)
  where
    by : (b : Bool) → is_kept (cond b (48 + n % 10) (87 + n % 10)) ≡ true
    by true = kept_byte (48 + n % 10) (λ e. absurd (omega arith))
    by false = kept_byte (87 + n % 10) (λ e. absurd (omega arith))

digits_clean : (k n : ℕ) (rest : List ℕ) → IsClean rest → IsClean (digits_onto k 10 false n rest)
digits_clean zero n rest clean = clean
digits_clean (suc k) n rest clean = by (λ more. digits_clean k (n / 10) (digit_glyph false (n % 10) ∷ rest) more) (n / 10 == 0)
  where
    one : IsClean (digit_glyph false (n % 10) ∷ rest)
    one = rw (glyph_kept n, clean) refl

    by : (IsClean (digit_glyph false (n % 10) ∷ rest) → IsClean (digits_onto k 10 false (n / 10) (digit_glyph false (n % 10) ∷ rest))) → (b : Bool) → IsClean (cond b (digit_glyph false (n % 10) ∷ rest) (digits_onto k 10 false (n / 10) (digit_glyph false (n % 10) ∷ rest)))
    by later true = one
    by later false = later one

pub number_clean : (n : ℕ) → IsClean (decimal n)
unfolding digits
number_clean n = digits_clean 64 n [] refl

-- a number, and a text behind it
number_then : (n : ℕ) (rest : List ℕ) → IsClean rest → IsClean (decimal n ++ rest)
number_then n rest more = clean_then (decimal n) rest (number_clean n) more

-- a text that is repeated, and one behind it
word_then : (word rest : Word) → HasNoLineFeed word → IsClean rest → IsClean (word ++ rest)
word_then word rest kept more = clean_then word rest (kept_clean word kept) more

-- ---- the text of each owner

file_clean : (fault : FileFault) → AllByRecursion HasNoLineFeed (repeated_of_file fault) → IsClean (file_text fault)
file_clean (file.Absent name) kept = word_then name (codes " is absent") kept.0 refl
file_clean (file.TooLong name) kept = word_then name (codes " has more than 67108864 bytes") kept.0 refl

words_clean : (fault : SignatureFault) → AllByRecursion HasNoLineFeed (repeated_of_signature fault) → IsClean (signature_words fault)
words_clean (signature.NoFedWord line) kept = number_clean line
words_clean (signature.FeedTwice line) kept = number_clean line
words_clean (signature.Syntax line) kept = number_clean line
words_clean signature.Degree kept = refl
words_clean signature.Modulus kept = refl
words_clean signature.TowerPolynomial kept = refl
words_clean (signature.Dependent line) kept = number_clean line
words_clean (signature.Basis line) kept = number_clean line
words_clean signature.Tower kept = refl
words_clean (signature.Bits line) kept = number_clean line
words_clean (signature.NameTwice line) kept = number_clean line
words_clean signature.NoOutput kept = refl
words_clean (signature.NoOutputInBlock model) kept = kept_clean model kept.0
words_clean (signature.TwoOutputs line) kept = number_clean line
words_clean (signature.TooManyWords line) kept = number_clean line

number_of_signature : (fault : SignatureFault) → IsClean (signature_number fault)
number_of_signature (signature.NoFedWord line) = refl
number_of_signature (signature.FeedTwice line) = refl
number_of_signature (signature.Syntax line) = refl
number_of_signature signature.Degree = refl
number_of_signature signature.Modulus = refl
number_of_signature signature.TowerPolynomial = refl
number_of_signature (signature.Dependent line) = refl
number_of_signature (signature.Basis line) = refl
number_of_signature signature.Tower = refl
number_of_signature (signature.Bits line) = refl
number_of_signature (signature.NameTwice line) = refl
number_of_signature signature.NoOutput = refl
number_of_signature (signature.NoOutputInBlock model) = refl
number_of_signature (signature.TwoOutputs line) = refl
number_of_signature (signature.TooManyWords line) = refl

second_of_signature : (fault : SignatureFault) → IsClean (second_word fault)
second_of_signature (signature.NoFedWord line) = refl
second_of_signature (signature.FeedTwice line) = refl
second_of_signature (signature.Syntax line) = refl
second_of_signature signature.Degree = refl
second_of_signature signature.Modulus = refl
second_of_signature signature.TowerPolynomial = refl
second_of_signature (signature.Dependent line) = refl
second_of_signature (signature.Basis line) = refl
second_of_signature signature.Tower = refl
second_of_signature (signature.Bits line) = refl
second_of_signature (signature.NameTwice line) = refl
second_of_signature signature.NoOutput = refl
second_of_signature (signature.NoOutputInBlock model) = refl
second_of_signature (signature.TwoOutputs line) = refl
second_of_signature (signature.TooManyWords line) = refl

signature_clean : (fault : SignatureFault) → AllByRecursion HasNoLineFeed (repeated_of_signature fault) → IsClean (signature_text fault)
signature_clean fault kept = clean_then (signature_number fault) _ (number_of_signature fault) (clean_then (codes ": ") (signature_words fault) refl (words_clean fault kept))

second_clean : (fault : SignatureFault) → AllByRecursion HasNoLineFeed (repeated_of_signature fault) → IsClean (second_signature_text fault)
second_clean fault kept = clean_then (signature_number fault) _ (number_of_signature fault) (clean_then (codes ": ") (second_word fault ++ signature_words fault) refl (clean_then (second_word fault) (signature_words fault) (second_of_signature fault) (words_clean fault kept)))

table_clean : (fault : TableTextFault) → IsClean (table_text fault)
table_clean (table.Syntax line) = number_clean line
table_clean (table.TooLarge line) = number_clean line

certificate_clean : (fault : CertificateFault) → IsClean (certificate_text fault)
certificate_clean (certificate.Syntax line) = number_clean line
certificate_clean (certificate.NoSuchNet line) = number_clean line
certificate_clean (certificate.NoSuchBit line) = number_clean line
certificate_clean (certificate.NotDriven line) = number_clean line
certificate_clean certificate.NoEnd = refl
certificate_clean (certificate.NoSuchLet line) = number_clean line

kind_clean : (kind : Kind) → IsClean (kind_name kind)
kind_clean kinds.Mastrovito = refl
kind_clean kinds.Montgomery = refl
kind_clean kinds.Composite = refl
kind_clean kinds.Normal = refl
kind_clean kinds.Adder = refl
kind_clean kinds.Squarer = refl
kind_clean kinds.Digit = refl

composition_clean : (fault : CompositionFault) → AllByRecursion HasNoLineFeed (repeated_of_composition fault) → IsClean (composition_text fault)
composition_clean composition.FedInTop kept = refl
composition_clean (composition.GateInTop line) kept = number_then line (codes " of the top") refl
composition_clean (composition.NoBlock model) kept = kept_clean model kept.0
composition_clean (composition.BlockNet model) kept = word_then model (codes " is no net") kept.0 refl
composition_clean (composition.BlockLatch model) kept = word_then model (codes " has a latch") kept.0 refl
composition_clean (composition.BlockBind model) kept = word_then model (codes " does not bind") kept.0 refl
composition_clean (composition.NotWords instance word) kept = number_then instance (codes " word " ++ word) (kept_clean word kept.0)
composition_clean composition.OutputNotWords kept = refl
composition_clean (composition.InstanceLoop instance) kept = number_clean instance

-- a bit of a word, and a text behind it
bit_then : (word : Word) (place : ℕ) (rest : List ℕ) → HasNoLineFeed word → IsClean rest → IsClean (place_text word place rest)
bit_then word place rest kept more = word_then word _ kept (number_then place (codes "]" ++ rest) more)

binding_clean : (fault : BindingFault) → AllByRecursion HasNoLineFeed (repeated_of_binding fault) → IsClean (binding_text fault)
binding_clean (binding.NoSuchNet word place) kept = bit_then word place (codes "") kept.0 refl
binding_clean (binding.NotInput word place) kept = bit_then word place (codes " is no input") kept.0 refl
binding_clean (binding.NotLatch word place) kept = bit_then word place (codes " is no latch") kept.0 refl
binding_clean (binding.NetTwice label) kept = word_then label (codes " stands twice") kept.0 refl
binding_clean (binding.FeedNotFree line) kept = number_then line (codes " is no free input") refl
binding_clean (binding.Uncovered label) kept = word_then label (codes " is in no word") kept.0 refl
binding_clean (binding.UnknownStart label) kept = word_then label (codes " has no start") kept.0 refl

netlist_clean : (fault : NetlistFault) → AllByRecursion HasNoLineFeed (repeated_of_netlist fault) → IsClean (netlist_text fault)
netlist_clean (netlist.Syntax line) kept = number_clean line
netlist_clean (netlist.LeftOut line word) kept = word_then word (codes " at line " ++ decimal line) kept.0 (number_clean line)
netlist_clean netlist.NoModel kept = refl
netlist_clean (netlist.ModelTwice line) kept = number_clean line
netlist_clean (netlist.NoSuchModel line) kept = number_clean line
netlist_clean (netlist.NoSuchFormal line) kept = number_clean line
netlist_clean (netlist.FormalTwice line) kept = number_clean line
netlist_clean (netlist.FormalMissing line) kept = number_clean line
netlist_clean (netlist.Recursive model) kept = word_then model (codes " contains itself") kept.0 refl
netlist_clean netlist.TooDeep kept = refl
netlist_clean (netlist.Undeclared line) kept = number_clean line
netlist_clean (netlist.OutOfRange line) kept = number_clean line
netlist_clean (netlist.Redeclared line) kept = number_clean line
netlist_clean (netlist.DrivenTwice label) kept = word_then label (codes " is driven twice") kept.0 refl
netlist_clean (netlist.Undriven label) kept = word_then label (codes " is not driven") kept.0 refl
netlist_clean (netlist.Loop count label) kept = clean_then (codes "36: loop of " ++ (decimal count ++ codes " nets through ")) label (number_then count (codes " nets through ") refl) (kept_clean label kept.0)
netlist_clean (netlist.TooWide line inputs) kept = number_then inputs (codes " inputs at line " ++ decimal line) (number_clean line)
netlist_clean netlist.TooManyNets kept = refl
netlist_clean netlist.TooManyGates kept = refl
netlist_clean netlist.TooManyInstances kept = refl
netlist_clean (netlist.Literal line) kept = number_clean line
netlist_clean (netlist.DefinedTwice line) kept = number_clean line
netlist_clean (netlist.Undefined line) kept = number_clean line
netlist_clean (netlist.NameTwice line) kept = number_clean line
netlist_clean (netlist.Binding fault) kept = binding_clean fault kept

specification_clean : (fault : SpecificationFault) → IsClean (specification_text fault)
specification_clean (specification.Syntax place) = number_clean place
specification_clean (specification.UnknownWord place) = number_clean place
specification_clean (specification.BadNumber place) = number_clean place

value_clean : (fault : ValueFault) → IsClean (value_text fault)
value_clean (values.WrongCount count words) = number_then count _ (number_then words (codes " words") refl)
value_clean (values.TooLarge place) = number_then place (codes " is too large") refl

stage_clean : (fault : StageFault) → HasNoLineFeed fault.stage → IsClean (stage_fault_text fault)
stage_clean fault kept = word_then fault.stage _ kept (number_then fault.terms (codes " terms, bound " ++ decimal fault.bound) (number_clean fault.bound))

text_clean : (fault : Fault) → KeepsToItsLine fault → IsClean (fault_text fault)
text_clean faults.Words kept = refl
text_clean (faults.File fault) kept = file_clean fault kept
text_clean (faults.Signature fault) kept = signature_clean fault kept
text_clean (faults.Netlist name fault) kept = clean_then (netlist_text fault) (codes " in " ++ name) (netlist_clean fault kept.1) (kept_clean name kept.0)
text_clean (faults.Specification fault) kept = specification_clean fault
text_clean (faults.Value fault) kept = value_clean fault
text_clean (faults.SecondSignature fault) kept = second_clean fault kept
text_clean faults.Fields kept = refl
text_clean faults.NotSmall kept = refl
text_clean (faults.Table fault) kept = table_clean fault
text_clean (faults.Certificate fault) kept = certificate_clean fault
text_clean (faults.Form kind) kept = clean_then (codes "43: the signature does not fit ") (kind_name kind) refl (kind_clean kind)
text_clean (faults.Composition fault) kept = composition_clean fault kept
text_clean (faults.Stage fault) kept = stage_clean fault kept.0

-- the line of a fault that repeats no line feed
pub one_line : (fault : Fault) → KeepsToItsLine fault → IsOneLine (fault_line fault)
one_line fault kept = record {
  before = codes "fault " ++ fault_text fault;
  ends = refl;
  only = clean_kept (codes "fault " ++ fault_text fault) (text_clean fault kept);
}

-- ---- what stages are called

word_clean : (words : List (List ℕ × ℕ)) (word : ℕ) → AllByRecursion (λ (w : List ℕ × ℕ). HasNoLineFeed w.0) words → IsClean (word_at words word).0
word_clean [] word all = refl
word_clean (w ∷ words) zero all = kept_clean w.0 all.0
word_clean (w ∷ words) (suc word) all = word_clean words word all.1

name_clean : (labels : Labelling) (stage : Stage) → AllByRecursion (λ (w : List ℕ × ℕ). HasNoLineFeed w.0) labels.words → IsClean (stage_text labels stage)
name_clean labels (stages.Cut cut) all = number_clean cut
name_clean labels (stages.WordProduct word term bit) all = clean_then (word_at labels.words word).0 _ (word_clean labels.words word all) (number_then term (codes " bit " ++ decimal bit) (number_clean bit))
name_clean labels (stages.WordSum word term) all = clean_then (word_at labels.words word).0 (codes " sum " ++ decimal term) (word_clean labels.words word all) (number_clean term)
name_clean labels (stages.SpecProduct term factor) all = number_then term (codes " factor " ++ decimal factor) (number_clean factor)
name_clean labels (stages.SpecSum term) all = number_clean term
name_clean labels (stages.InstanceProduct instance term factor) all = number_then instance _ (number_then term (codes " factor " ++ decimal factor) (number_clean factor))
name_clean labels (stages.InstanceSum instance term) all = number_then instance (codes " sum " ++ decimal term) (number_clean term)

-- the name of a stage of words without a line feed has none
pub stage_kept : (labels : Labelling) (stage : Stage) → AllByRecursion (λ (w : List ℕ × ℕ). HasNoLineFeed w.0) labels.words → HasNoLineFeed (stage_text labels stage)
stage_kept labels stage all = clean_kept (stage_text labels stage) (name_clean labels stage all)

-- nor has it with the program's own text before it
pub before_kept : (before name : List ℕ) → IsClean before → HasNoLineFeed name → HasNoLineFeed (before ++ name)
before_kept before name clean kept = clean_kept (before ++ name) (clean_then before name clean (kept_clean name kept))
