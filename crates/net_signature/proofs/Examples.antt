-- Small worked examples of the definitions of specs/, which the check computes.
use Rattle.std.proofs.Common.{◌≡◌, ℕ, zero, suc, ◌<◌, ◌++◌, [], ◌∷◌, List, true, false, Some, Ok, Err, codes, slice_index, inl, refl, arith}
use Rattle.text_core.specs.Numbers.{IsDigit}
use Rattle.net_words.specs.declared.feed.Source.TheVariants as source
use Rattle.net_words.specs.declared.word.BasisText.TheVariants.{Poly}
use Rattle.net_words.specs.declared.word.Role.{Role}
use Rattle.net_words.specs.declared.word.Role.TheVariants.{Fed, Output}
use Rattle.net_words.specs.declared.word.WordText.{WordText}
use Rattle.net_signature.specs.Lines.{lines_from}
use Rattle.net_signature.specs.Statement.{SaysField}
use Rattle.net_signature.specs.Body.{BodyValue, begun, may_stand, next, source_of, whole}
use Rattle.net_signature.specs.declared.entry.Entry.TheVariants as entry
use Rattle.net_signature.specs.declared.entry.SourceText.TheVariants as said
use Rattle.net_signature.specs.declared.fault.SigFault.TheVariants.{NameTwice, NoFedWord, NoOutput}
use Rattle.net_signature.specs.declared.version.Version.TheVariants.{One, Two}

-- of a comment and a line `field 0x7`, line 2 alone has tokens
lines_with_tokens : lines_from 1 (codes "# four" ++ 10 ∷ codes "field 0x7") ≡ record { number = 2; tokens = codes "field" ∷ codes "0x7" ∷ [] } ∷ []
lines_with_tokens = refl

-- `field 0x7` says the modulus 7
says_field : SaysField (codes "field" ∷ codes "0x7" ∷ []) 7
says_field = (codes "0x7", refl, (codes "7", refl, (omega arith, each), refl), omega arith)
  where
    each : (k : ℕ) → k < 1 → IsDigit 16 (slice_index (codes "7") k)
    each zero h = (inl (omega arith, omega arith), omega arith)
    each (suc k) h = absurd (omega arith)

abbrev word : ℕ → List ℕ → Role → List (List ℕ) → WordText
word line name role nets = record { line = line; name = name; role = role; basis = Poly; nets = nets }

abbrev fed_a : WordText
fed_a = word 3 (codes "A") Fed []

abbrev output_z : WordText
output_z = word 4 (codes "Z") Output (codes "z" ∷ [])

-- after the words `A`, which is fed, and `Z`, with the block `m` being read
abbrev in_block : BodyValue
in_block = record { version = Two; words = fed_a ∷ output_z ∷ []; feeds = []; blocks = []; block = Some (record { model = codes "m"; words = [] }) }

-- a fed word stands in the top of version 2, and neither in version 1 nor in a block
fed_in_version_2 : may_stand (begun Two) (entry.Word fed_a) ≡ true
fed_in_version_2 = refl

fed_in_version_1 : may_stand (begun One) (entry.Word fed_a) ≡ false
fed_in_version_1 = refl

fed_in_a_block : may_stand in_block (entry.Word fed_a) ≡ false
fed_in_a_block = refl

-- place 1 of `A` is place 1 of word 0, and the output word feeds nothing
bit_of_a : source_of (fed_a ∷ output_z ∷ []) 5 (said.Bit (codes "A") 1) ≡ Ok (source.Bit 0 1)
bit_of_a = refl

bit_of_z : source_of (fed_a ∷ output_z ∷ []) 5 (said.Bit (codes "Z") 0) ≡ Err (NoFedWord 5)
bit_of_z = refl

-- a block of a model that the block before it is of
model_twice : next in_block 6 (entry.Block (codes "m")) ≡ Err (NameTwice 6)
model_twice = refl

-- a block without an output word
no_output_in_m : whole (output_z ∷ []) (record { model = codes "m"; words = [] } ∷ []) ≡ Err (NoOutput (Some (codes "m")))
no_output_in_m = refl
