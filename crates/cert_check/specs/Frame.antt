-- What a line of a certificate begins with, and the text of the polynomial that stands after it.
-- At one line the first token with a fault decides.
-- Source: this project's own, docs/FORMATS.md.
use Rattle.std.specs.Prelude.{ℕ, cond, List, nat_lt, ◌==◌, Option, Some, None, Result, Ok, Err, bytes_eq, codes}
use Rattle.text_core.specs.Numbers.{value_of}
use Rattle.net_core.specs.NetList.{NetList, nets}
use Rattle.poly_mixed.specs.Labels.{Labelling, word_at, word_of}
use Rattle.poly_mixed.specs.declared.steps.Generator.{Generator}
use Rattle.poly_mixed.specs.declared.steps.Generator.TheVariants.{Net, Bit}
use Rattle.cert_check.specs.Driver.{is_driven}
use Rattle.cert_check.specs.Scan.{is_blank, after_word, after_sign, digits_at, indexed_at}
use Rattle.cert_check.specs.declared.fault.LineFault.{LineFault}
use Rattle.cert_check.specs.declared.fault.LineFault.TheVariants.{Syntax, NoSuchNet, NoSuchBit, NotDriven}

-- what stands after `:`, of this generator
abbrev pub after_generator : Generator → Option (List ℕ) → Result (Generator × List ℕ) LineFault
after_generator generator None = Err Syntax
after_generator generator (Some rest) = Ok (generator, rest)

-- `DEC :` after `net`: the number of a net that a gate drives
abbrev pub net_named : NetList → Option (List ℕ × List ℕ) → Result (Generator × List ℕ) LineFault
net_named net None = Err Syntax
net_named net (Some found) =
    cond (nat_lt (value_of 10 found.0) (nets net))
    (cond (is_driven net (value_of 10 found.0)) (after_generator (Net (value_of 10 found.0)) (after_sign 58 found.1)) (Err NotDriven))
    (Err NoSuchNet)

-- the bit at this place of the word, where there is one
abbrev pub bit_found : Labelling → Option ℕ → ℕ → List ℕ → Result (Generator × List ℕ) LineFault
bit_found labels None place rest = Err NoSuchBit
bit_found labels (Some word) place rest = cond (nat_lt place (word_at labels.words word).1) (after_generator (Bit word place) (after_sign 58 rest)) (Err NoSuchBit)

-- `W[i] :` after `bit`: a bit of an input, state or fed word
abbrev pub bit_named : Labelling → Option (List ℕ × List ℕ × List ℕ) → Result (Generator × List ℕ) LineFault
bit_named labels None = Err Syntax
bit_named labels (Some found) = bit_found labels (word_of labels.words found.0) (value_of 10 found.1) found.2

-- what stands after `:`
abbrev pub after_number : Option (List ℕ) → Result (List ℕ) LineFault
after_number None = Err Syntax
after_number (Some rest) = Ok rest

-- `DEC :` after `let`: how many shared multipliers stand before
abbrev pub let_named : ℕ → Option (List ℕ × List ℕ) → Result (List ℕ) LineFault
let_named count None = Err Syntax
let_named count (Some found) = cond (value_of 10 found.0 == count) (after_number (after_sign 58 found.1)) (Err Syntax)

-- a generator and the text of its multiplier; the text of a shared multiplier; or the end
pub data Frame : Type 0 where
  pair_of : Generator → List ℕ → Frame
  share_of : List ℕ → Frame
  end_of : Frame

abbrev pub paired : Result (Generator × List ℕ) LineFault → Result Frame LineFault
paired (Ok found) = Ok (pair_of found.0 found.1)
paired (Err fault) = Err fault

abbrev pub shared : Result (List ℕ) LineFault → Result Frame LineFault
shared (Ok rest) = Ok (share_of rest)
shared (Err fault) = Err fault

-- what stands after the word, where it stands there, and else another reading
abbrev pub after_or : Option (List ℕ) → (List ℕ → Result Frame LineFault) → Result Frame LineFault → Result Frame LineFault
after_or None here other = other
after_or (Some rest) here other = here rest

-- nothing stands after `end`
abbrev pub ended : List ℕ → Result Frame LineFault
ended rest = cond (is_blank rest) (Ok end_of) (Err Syntax)

-- `let` stands in version 2 alone
abbrev pub let_line : ℕ → ℕ → List ℕ → Result Frame LineFault
let_line version count rest = cond (version == 2) (shared (let_named count (digits_at rest))) (Err Syntax)

-- a line after the claim, where so many shared multipliers stand before it
abbrev pub frame_of : NetList → Labelling → ℕ → ℕ → List ℕ → Result Frame LineFault
frame_of net labels version count line =
    after_or (after_word (codes "net") line) (λ rest. paired (net_named net (digits_at rest)))
    (after_or (after_word (codes "bit") line) (λ rest. paired (bit_named labels (indexed_at rest)))
    (after_or (after_word (codes "let") line) (let_line version count)
    (after_or (after_word (codes "end") line) ended (Err Syntax))))

-- ---- the first two lines

-- `1` or `2`, and nothing after it
abbrev pub version_named : Option (List ℕ × List ℕ) → Result ℕ LineFault
version_named None = Err Syntax
version_named (Some found) =
    cond (is_blank found.1) (cond (bytes_eq found.0 (codes "1")) (Ok 1) (cond (bytes_eq found.0 (codes "2")) (Ok 2) (Err Syntax))) (Err Syntax)

-- the version after `gfcert`
abbrev pub version_after : Option (List ℕ) → Result ℕ LineFault
version_after None = Err Syntax
version_after (Some rest) = version_named (digits_at rest)

abbrev pub version_of : List ℕ → Result ℕ LineFault
version_of line = version_after (after_word (codes "gfcert") line)

-- the text after `=`
abbrev pub after_output : Option (List ℕ) → Option (List ℕ)
after_output None = None
after_output (Some rest) = after_sign 61 rest

-- the text after the output word's name and `=`
abbrev pub after_claim : Labelling → Option (List ℕ) → Option (List ℕ)
after_claim labels None = None
after_claim labels (Some rest) = after_output (after_word labels.output rest)

-- the text of the claim

abbrev pub claim_text : Labelling → List ℕ → Result (List ℕ) LineFault
claim_text labels line = after_number (after_claim labels (after_word (codes "claim") line))
