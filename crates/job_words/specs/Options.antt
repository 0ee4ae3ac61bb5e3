-- Options, which stand behind the operands of a command. Source: this project's own, docs/COMMANDS.md.
use Rattle.std.specs.Prelude.{◌≡◌, ◌≢◌, ◌⊎◌, ℕ, ◌≤◌, Bool, true, false, List, [], ◌∷◌, ◌++◌, codes, length, slice_index}
use Rattle.text_core.specs.Numbers.{IsDecimal}
use Rattle.job_words.specs.Operands.{Word}

-- a decimal number without leading zeros, from 1 to the limit
pub record IsTermCount (limit : ℕ) (number : Word) (terms : ℕ) : Type 0 where
  pub decimal : IsDecimal number terms
  pub no_zero : slice_index number 0 ≢ 48
  pub some : 1 ≤ terms
  pub most : terms ≤ limit

-- a decimal number without leading zeros, from 0 to 4,096
pub record IsCycleCount (number : Word) (cycles : ℕ) : Type 0 where
  pub decimal : IsDecimal number cycles
  pub no_zeros : slice_index number 0 ≡ 48 → length number ≡ 1
  pub most : cycles ≤ 4096

-- no words
abbrev pub AreNone : List Word → Type 0
AreNone words = words ≡ []

-- no words, and the number that stands by default; or the option of this name with such a number
abbrev pub IsOption : Word → (Word → ℕ → Type 0) → ℕ → List Word → ℕ → Type 0
IsOption name IsNumber default words n =
    ((words ≡ []) × (n ≡ default))
    ⊎ ((number : Word) × (words ≡ name ∷ number ∷ []) × IsNumber number n)

-- the bound on terms, from 1 to the limit
abbrev pub IsTermsOption : (limit default : ℕ) → List Word → ℕ → Type 0
IsTermsOption limit default = IsOption (codes "--terms") (IsTermCount limit) default

-- how many cycles come after the first, by default none
abbrev pub IsCyclesOption : List Word → ℕ → Type 0
IsCyclesOption = IsOption (codes "--cycles") IsCycleCount 0

-- no words and no, or the option without a number that asks for a simpler circuit and yes
abbrev pub IsSimplifyOption : List Word → Bool → Type 0
IsSimplifyOption words simple = ((words ≡ []) × (simple ≡ false)) ⊎ ((words ≡ codes "--simplify" ∷ []) × (simple ≡ true))

-- the words of two options, in either order
abbrev pub AreInEitherOrder : List Word → List Word → List Word → Type 0
AreInEitherOrder first second words = (words ≡ first ++ second) ⊎ (words ≡ second ++ first)

-- one option's words, and then those of two others in either order
abbrev pub AreBehind : List Word → List Word → List Word → List Word → Type 0
AreBehind first second third words = (rest : List Word) × (words ≡ first ++ rest) × AreInEitherOrder second third rest

-- the words of three options, in any order: one of them comes first
abbrev pub AreInAnyOrder : List Word → List Word → List Word → List Word → Type 0
AreInAnyOrder first second third words = AreBehind first second third words ⊎ AreBehind second first third words ⊎ AreBehind third first second words

-- both options, in either order
pub record AreOptions (limit default : ℕ) (words : List Word) (terms cycles : ℕ) : Type 0 where
  pub of_terms : List Word
  pub of_cycles : List Word
  pub words_are : AreInEitherOrder of_terms of_cycles words
  pub terms_set : IsTermsOption limit default of_terms terms
  pub cycles_set : IsCyclesOption of_cycles cycles

-- the bound on the terms of a stage, 1 to 262,144 and by default 65,536, and the number of cycles
abbrev pub AreStageOptions : List Word → ℕ → ℕ → Type 0
AreStageOptions = AreOptions 262144 65536

-- the bound on the terms of a running sum, 1 to 1,048,576 and by default 1,048,576, and the number of cycles
abbrev pub AreSumOptions : List Word → ℕ → ℕ → Type 0
AreSumOptions = AreOptions 1048576 1048576

-- the bound on the terms of a stage, the number of cycles, and whether the circuit of all cycles is made simpler, in any order
pub record AreCircuitOptions (words : List Word) (terms cycles : ℕ) (simple : Bool) : Type 0 where
  pub of_terms : List Word
  pub of_cycles : List Word
  pub of_simplify : List Word
  pub words_are : AreInAnyOrder of_terms of_cycles of_simplify words
  pub terms_set : IsTermsOption 262144 65536 of_terms terms
  pub cycles_set : IsCyclesOption of_cycles cycles
  pub simplify_set : IsSimplifyOption of_simplify simple
