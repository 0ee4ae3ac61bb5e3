-- The table of commands, and that of the kinds of netlists that are made: what each name asks for, by the words behind it.
use Rattle.std.proofs.Common.{ℕ, if◌then◌else◌, ◌==◌, Bool, true, false, drop, List, [], ◌∷◌, get_or, take, codes}
use Rattle.text_core.specs.Numbers.{value_of}
use Rattle.job_words.proofs.SpelledLemmas.{first_word, rest_of}
use Rattle.job_words.specs.Operands.{Word}
use Rattle.job_words.specs.declared.kind.Kind.{Kind}
use Rattle.job_words.specs.declared.kind.Kind.TheVariants as kinds
use Rattle.job_words.specs.Command.{Action, Bits, Abstract, Check, Same, Eval, Iso, Lift, Table, Certify, Verify, Upgrade, Make, Compose, Job, Over, Trial}
use Rattle.job_words.specs.private.OptionPlace.{before_options, from_options}

-- whether two words are one
abbrev pub is_word : Word → Word → Bool
is_word [] [] = true
is_word [] (y ∷ ys) = false
is_word (x ∷ xs) [] = false
is_word (x ∷ xs) (y ∷ ys) = if x == y then is_word xs ys else false

-- the number behind this option, whose third letter is told; and another where the option does not stand
abbrev pub set_by : ℕ → ℕ → List Word → ℕ
set_by letter other [] = other
set_by letter other (name ∷ rest) =
    if get_or name 2 0 == letter then value_of 10 (first_word rest) else
    if get_or (first_word (rest_of rest)) 2 0 == letter then value_of 10 (first_word (rest_of (rest_of rest))) else other

-- the bound that options set, and the number of cycles
abbrev pub terms_by : ℕ → List Word → ℕ
terms_by default = set_by 116 default

abbrev pub cycles_by : List Word → ℕ
cycles_by = set_by 99 0

-- whether a word has the third letter of `--simplify`
abbrev pub is_simplify : Word → Bool
is_simplify word = get_or word 2 0 == 115

-- whether the options ask for a simpler circuit
abbrev pub simple_by : List Word → Bool
simple_by words =
    if is_simplify (first_word words) then true else
    if is_simplify (first_word (rest_of (rest_of words))) then true else is_simplify (first_word (rest_of (rest_of (rest_of (rest_of words)))))

-- and the others
abbrev pub others_by : List Word → List Word
others_by words =
    if is_simplify (first_word words) then rest_of words else
    if is_simplify (first_word (rest_of (rest_of words))) then first_word words ∷ first_word (rest_of words) ∷ rest_of (rest_of (rest_of words)) else take 4 words

-- what stands in the row of this name, or else in none
abbrev pub row : {A : Type 0} → List (Word × A) → Word → A → A
row [] name none = none
row (r ∷ rows) name none = if is_word r.0 name then r.1 else row rows name none

-- whether the name stands in a row, and whether none stands twice
abbrev pub stands : {A : Type 0} → List (Word × A) → Word → Bool
stands [] name = false
stands (r ∷ rows) name = if is_word r.0 name then true else stands rows name

abbrev pub are_apart : {A : Type 0} → List (Word × A) → Bool
are_apart [] = true
are_apart (r ∷ rows) = if stands rows r.0 then false else are_apart rows

-- a command over a signature and a file, by what it does over the file and the words behind it
abbrev pub over_first : (Word → List Word → Action) → List Word → Job
over_first act words = Over (first_word words) (act (first_word (rest_of words)) (rest_of (rest_of words)))

-- and over two files
abbrev pub over_second : (Word → Word → List Word → Action) → List Word → Job
over_second act = over_first (λ file rest. act file (first_word rest) (rest_of rest))

-- the kinds by their names
abbrev pub kind_rows : List (Word × Kind)
kind_rows =
    (codes "mastrovito", kinds.Mastrovito)
    ∷ (codes "montgomery", kinds.Montgomery)
    ∷ (codes "composite", kinds.Composite)
    ∷ (codes "normal", kinds.Normal)
    ∷ (codes "adder", kinds.Adder)
    ∷ (codes "squarer", kinds.Squarer)
    ∷ (codes "digit", kinds.Digit)
    ∷ []

abbrev pub kind_at : Word → Kind
kind_at name = row kind_rows name kinds.Digit

-- the commands by their names: what the words behind the name ask for
abbrev pub command_rows : List (Word × (List Word → Job))
command_rows =
    (codes "bits", over_first (λ net rest. Bits net (terms_by 65536 (others_by rest)) (cycles_by (others_by rest)) (simple_by rest)))
    ∷ (codes "abstract", over_first (λ net rest. Abstract net (terms_by 65536 (others_by rest)) (cycles_by (others_by rest)) (simple_by rest)))
    ∷ (codes "check", over_second (λ net other rest. Check net other (terms_by 65536 (others_by rest)) (cycles_by (others_by rest)) (simple_by rest)))
    ∷ (codes "same", over_second (λ net other rest. Same net other (terms_by 65536 (others_by rest)) (cycles_by (others_by rest)) (simple_by rest)))
    ∷ (codes "eval", over_first (λ net rest. Eval net (before_options rest) (cycles_by (from_options rest))))
    ∷ (codes "iso", over_first (λ other rest. Iso other))
    ∷ (codes "lift", over_first (λ file rest. Lift file))
    ∷ (codes "table", over_first (λ net rest. Table net (cycles_by rest)))
    ∷ (codes "certify", over_first (λ net rest. Certify net (terms_by 65536 rest) (cycles_by rest)))
    ∷ (codes "verify", over_second (λ net other rest. Verify net other (terms_by 1048576 rest) (cycles_by rest)))
    ∷ (codes "upgrade", over_second (λ net other rest. Upgrade net other (cycles_by rest)))
    ∷ (codes "make", λ words. Over (first_word (rest_of words)) (Make (kind_at (first_word words))))
    ∷ (codes "compose", over_first (λ net rest. Compose net (terms_by 65536 rest)))
    ∷ (codes "trial", λ words. Trial (value_of 10 (first_word words)) (value_of 16 (drop 2 (first_word (rest_of words)))) (terms_by 65536 (rest_of (rest_of words))))
    ∷ []

-- the command of the words, where they spell one
abbrev pub job_at : List Word → Job
job_at words = row command_rows (first_word words) (λ rest. Trial 0 0 0) (rest_of words)
