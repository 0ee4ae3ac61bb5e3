-- The texts of faults of signatures. Source: this project's own texts, docs/COMMANDS.md.
use Rattle.std.specs.Prelude.{ℕ, List, ◌++◌, codes}
use Rattle.std.specs.Fmt.{decimal}
use Rattle.job_words.specs.declared.signature_fault.SignatureFault.{SignatureFault}
use Rattle.job_words.specs.declared.signature_fault.SignatureFault.TheVariants as signature

-- the number of a signature's fault
abbrev pub signature_number : SignatureFault → List ℕ
signature_number (signature.NoFedWord line) = codes "12"
signature_number (signature.FeedTwice line) = codes "12"
signature_number (signature.Syntax line) = codes "20"
signature_number signature.Degree = codes "21"
signature_number signature.Modulus = codes "22"
signature_number signature.TowerPolynomial = codes "22"
signature_number (signature.Dependent line) = codes "23"
signature_number (signature.Basis line) = codes "24"
signature_number signature.Tower = codes "25"
signature_number (signature.Bits line) = codes "26"
signature_number (signature.NameTwice line) = codes "27"
signature_number signature.NoOutput = codes "28"
signature_number (signature.NoOutputInBlock model) = codes "28"
signature_number (signature.TwoOutputs line) = codes "28"
signature_number (signature.TooManyWords line) = codes "29"

-- its words
abbrev pub signature_words : SignatureFault → List ℕ
signature_words (signature.NoFedWord line) = codes "no fed word at line " ++ decimal line
signature_words (signature.FeedTwice line) = codes "feed twice at line " ++ decimal line
signature_words (signature.Syntax line) = codes "signature line " ++ decimal line
signature_words signature.Degree = codes "modulus degree"
signature_words signature.Modulus = codes "the modulus is not irreducible"
signature_words signature.TowerPolynomial = codes "the tower polynomial is not irreducible"
signature_words (signature.Dependent line) = codes "dependent basis at line " ++ decimal line
signature_words (signature.Basis line) = codes "basis at line " ++ decimal line
signature_words signature.Tower = codes "tower"
signature_words (signature.Bits line) = codes "bits at line " ++ decimal line
signature_words (signature.NameTwice line) = codes "name twice at line " ++ decimal line
signature_words signature.NoOutput = codes "no output word"
signature_words (signature.NoOutputInBlock model) = codes "no output word in block " ++ model
signature_words (signature.TwoOutputs line) = codes "second output word at line " ++ decimal line
signature_words (signature.TooManyWords line) = codes "ninth word at line " ++ decimal line

-- the word before those of a fault of the second of two signatures: feeds are faults without it
abbrev pub second_word : SignatureFault → List ℕ
second_word (signature.NoFedWord line) = codes ""
second_word (signature.FeedTwice line) = codes ""
second_word (signature.Syntax line) = codes "second "
second_word signature.Degree = codes "second "
second_word signature.Modulus = codes "second "
second_word signature.TowerPolynomial = codes "second "
second_word (signature.Dependent line) = codes "second "
second_word (signature.Basis line) = codes "second "
second_word signature.Tower = codes "second "
second_word (signature.Bits line) = codes "second "
second_word (signature.NameTwice line) = codes "second "
second_word signature.NoOutput = codes "second "
second_word (signature.NoOutputInBlock model) = codes "second "
second_word (signature.TwoOutputs line) = codes "second "
second_word (signature.TooManyWords line) = codes "second "

-- the number and the text of a signature's fault
abbrev pub signature_text : SignatureFault → List ℕ
signature_text fault = signature_number fault ++ (codes ": " ++ signature_words fault)

-- the number and the text of a fault of the second of two signatures
abbrev pub second_signature_text : SignatureFault → List ℕ
second_signature_text fault = signature_number fault ++ (codes ": " ++ (second_word fault ++ signature_words fault))
