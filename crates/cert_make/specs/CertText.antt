-- The text of a certificate in version 2: its claim, and its pairs line by line. The `let` line of a shared multiplier
-- stands directly before the line of its first pair, and each of its pairs is written with `#` and its number.
-- Source: this project's own, docs/FORMATS.md.
use Rattle.std.specs.Prelude.{ℕ, cond, List, [], ◌∷◌, ◌++◌, length, codes, decimal, flat_map}
use Rattle.std.specs.Option.{unwrap_or}
use Rattle.poly_mixed.specs.Labels.{Labelling, bit_text, word_at}
use Rattle.poly_mixed.specs.Polynomial.{Terms}
use Rattle.poly_mixed.specs.Steps.{Step}
use Rattle.poly_mixed.specs.Text.{text}
use Rattle.poly_mixed.specs.declared.steps.Generator.{Generator}
use Rattle.poly_mixed.specs.declared.steps.Generator.TheVariants.{Net, Bit}
use Rattle.cert_make.specs.Sharing.{is_shared, is_first, number_of, shares_with}

-- each line ends with LF
abbrev pub text_of_lines : List (List ℕ) → List ℕ
text_of_lines lines = flat_map (λ line. line ++ 10 ∷ []) lines

-- `net n` or `bit W[i]`
abbrev pub generator_text : Labelling → Generator → List ℕ
generator_text labels (Net n) = codes "net " ++ decimal n
generator_text labels (Bit w i) = codes "bit " ++ bit_text (word_at labels.words w).0 i

-- the number of a shared multiplier after `#`, where these are shared so far
abbrev pub number_text : List Terms → Terms → List ℕ
number_text shares m = codes "#" ++ decimal (unwrap_or (number_of shares m) 0)

-- `let n : POLY`
abbrev pub let_of : ℕ → List ℕ → List ℕ
let_of n poly = codes "let " ++ (decimal n ++ (codes " : " ++ poly))

-- the line of a generator and of what stands for its multiplier
abbrev pub line_of : List ℕ → List ℕ → List ℕ
line_of generator multiplier = generator ++ (codes " : " ++ multiplier)

-- `claim Z = POLY`
abbrev pub claim_line : Labelling → Terms → List ℕ
claim_line labels claim = codes "claim " ++ (labels.output ++ (codes " = " ++ text labels claim))

module _ (labels : Labelling) (pairs : List Step) where
  -- a shared multiplier by its number, another one by its text
  abbrev pub multiplier_text : List Terms → Terms → List ℕ
  multiplier_text shares m = cond (is_shared pairs m) (number_text shares m) (text labels m)

  -- the `let` line of a shared multiplier whose first pair follows
  abbrev pub let_lines : List Terms → Terms → List (List ℕ)
  let_lines shares m = cond (is_first pairs shares m) (let_of (length shares) (text labels m) ∷ []) []

  -- the line of a pair
  abbrev pub pair_line : List Terms → Step → List ℕ
  pair_line shares s = line_of (generator_text labels s.0) (multiplier_text shares s.1)

  -- the lines of a pair, where these multipliers are shared before
  abbrev pub lines_at : List Terms → Step → List (List ℕ)
  lines_at shares s = let_lines shares s.1 ++ pair_line (shares_with pairs shares s.1) s ∷ []

  -- the lines of these pairs and the last line, where these multipliers are shared before
  abbrev pub lines_from : List Terms → List Step → List (List ℕ)
  lines_from shares [] = codes "end" ∷ []
  lines_from shares (s ∷ rest) = lines_at shares s ++ lines_from (shares_with pairs shares s.1) rest

-- the text of a claim and pairs
abbrev pub cert_text : Labelling → Terms → List Step → List ℕ
cert_text labels claim pairs = text_of_lines (codes "gfcert 2" ∷ claim_line labels claim ∷ lines_from labels pairs [] pairs)
