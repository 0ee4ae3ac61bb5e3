-- Rows of covers that stand alone, by the places of their bytes.
use Rattle.std.proofs.Common.{◌≡◌, ◌∙◌, ap, sym, refl, subst, ℕ, ◌<◌, ◌≤◌, ◌+◌, ◌-◌, Bool, true, false, List, [], ◌∷◌, ◌++◌, length, take, drop, get_or, take-append-drop, length-take-le, Ok, arith, ne_eqb, eqb-true}
use Rattle.std.specs.Prelude.{◌==◌, ◌||◌, All}
use Rattle.std.specs.List.{list_all}
use Rattle.std.proofs.lemmas.List.{drop_more, length-drop, take_rest}
use Rattle.std.proofs.lemmas.List.Elements.{All-nil, All-cons}
use Rattle.lists.specs.laws.BoolLaws.{both_true as both}
use Rattle.net_blif.specs.Lines.{goes_on}
use Rattle.net_blif.specs.Models.{Reading, ReadsLine, in_model, may_stand, with_cover_row}
use Rattle.net_blif.specs.Statement.{IsToken, Token, bit_token, is_cell, row_tokens}
use Rattle.net_blif.specs.private.FirstLine.{as_word, IsWordByte, RowStandsAlone, StandsAlone}
use Rattle.net_blif.specs.declared.statement.Statement.TheVariants.{Row}
use Rattle.net_blif.proofs.InPlaceLemmas.{feed_ends, goes_more, with_word, word_before, word_last}
use Rattle.net_blif.proofs.ReadLemmas.{added}
use Rattle.net_blif.proofs.StatementLemmas.{spelled_read}

-- ---- cells and outputs are words

cell_bounds : (b : ℕ) → is_cell b ≡ true → (45 ≤ b) × (b ≤ 49)
cell_bounds b is = by (b == 48) (b == 49) (b == 45) refl refl refl is
  where
    by : (x y z : Bool) → (b == 48) ≡ x → (b == 49) ≡ y → (b == 45) ≡ z → (x || y || z) ≡ true → (45 ≤ b) × (b ≤ 49)
    by true y z e f g or = let same : b ≡ 48 = eqb-true b 48 e in (omega (arith, same), omega (arith, same))
    by false true z e f g or = let same : b ≡ 49 = eqb-true b 49 f in (omega (arith, same), omega (arith, same))
    by false false true e f g or = let same : b ≡ 45 = eqb-true b 45 g in (omega (arith, same), omega (arith, same))
    by false false false e f g or = absurd (cc)

cells_word : (cells : List ℕ) → list_all is_cell cells ≡ true → All IsWordByte cells
cells_word [] are = All-nil IsWordByte
cells_word (b ∷ bs) are =
    let parts = both (is_cell b) (list_all is_cell bs) are in
    let bounds = cell_bounds b parts.0 in
    All-cons IsWordByte b bs (omega (arith, bounds.0), omega (arith, bounds.1)) (cells_word bs parts.1)

cells_end : (cells : List ℕ) → list_all is_cell cells ≡ true → goes_on cells ≡ false
cells_end [] are = refl
cells_end (b ∷ []) are =
    let bounds = cell_bounds b (both (is_cell b) true are).0 in
    ne_eqb b 92 (λ e. omega (arith, bounds.1, e))
cells_end (b ∷ c ∷ cs) are = goes_more b c cs ∙ cells_end (c ∷ cs) (both (is_cell b) (list_all is_cell (c ∷ cs)) are).1

bit_word : (output : Bool) → All IsWordByte (bit_token output)
bit_word true = All-cons IsWordByte 49 [] (omega arith, omega arith) (All-nil IsWordByte)
bit_word false = All-cons IsWordByte 48 [] (omega arith, omega arith) (All-nil IsWordByte)

bit_ends : (output : Bool) → goes_on (bit_token output) ≡ false
bit_ends true = refl
bit_ends false = refl

bit_short : (output : Bool) → length (bit_token output) ≤ 255
bit_short true = let short : 1 ≤ 255 = omega arith in short
bit_short false = let short : 1 ≤ 255 = omega arith in short

row_words : (cells : List ℕ) (output : Bool) → as_word cells ++ as_word (bit_token output) ≡ row_tokens cells output
row_words [] true = refl
row_words [] false = refl
row_words (b ∷ bs) true = refl
row_words (b ∷ bs) false = refl

row_are_tokens : (cells : List ℕ) (output : Bool) → list_all is_cell cells ≡ true → length cells ≤ 255 → All IsToken (row_tokens cells output)
row_are_tokens cells output are short =
    let P : List Token → Type 0 = All IsToken in
    let first : All IsToken (as_word cells) = with_word [] cells (All-nil IsToken) (cells_word cells are) short in
    subst P (row_words cells output) (with_word (as_word cells) (bit_token output) first (bit_word output) (bit_short output))

-- ---- a row and its line

module _ (text : List ℕ) (n : ℕ) (output : Bool) (room : n + 3 ≤ length text) (space : get_or text n 0 ≡ 32) (bit : bit_token output ≡ get_or text (n + 1) 0 ∷ []) (feed : get_or text (n + 2) 0 ≡ 10) where
  behind_feed : drop (n + 2) text ≡ 10 ∷ drop (n + 3) text
  behind_feed =
      let next : n + 2 + 1 ≡ n + 3 = omega arith in
      drop_more text (n + 2) 0 (omega (arith, room)) ∙ (ap (λ b. b ∷ drop (n + 2 + 1) text) feed ∙ ap (λ k. 10 ∷ drop k text) next)

  behind_space : drop (n + 1) text ≡ bit_token output ++ 10 ∷ drop (n + 3) text
  behind_space =
      let next : n + 1 + 1 ≡ n + 2 = omega arith in
      drop_more text (n + 1) 0 (omega (arith, room))
      ∙ (ap (λ k. get_or text (n + 1) 0 ∷ drop k text) next
      ∙ (ap (λ (l : List ℕ). get_or text (n + 1) 0 ∷ l) behind_feed
      ∙ ap (λ (b : List ℕ). b ++ 10 ∷ drop (n + 3) text) (sym bit)))

  behind_cells : text ≡ take n text ++ 32 ∷ drop (n + 1) text
  behind_cells =
      sym (take-append-drop n text)
      ∙ ap (λ (l : List ℕ). take n text ++ l) (drop_more text n 0 (omega (arith, room)) ∙ ap (λ b. b ∷ drop (n + 1) text) space)

  output_alone : StandsAlone (drop (n + 1) text) (as_word (bit_token output)) (drop (n + 3) text)
  output_alone = word_last (drop (n + 1) text) (bit_token output) 10 (drop (n + 3) text) (drop (n + 3) text) behind_space (bit_word output) (bit_ends output) (feed_ends 10 (drop (n + 3) text) refl)

  pub row_alone : n ≤ 6 → list_all is_cell (take n text) ≡ true → RowStandsAlone text (take n text) output (take (length text - (n + 3)) (drop (n + 3) text))
  row_alone few are =
      let cells = take n text in
      let long : length cells ≤ n = omega (arith, length-take-le n text (omega (arith, room))) in
      let fewer : length (drop (n + 3) text) < length text = omega (arith, length-drop (n + 3) text, room) in
      let P : List Token → Type 0 = λ words. StandsAlone text words (drop (n + 3) text) in
      let Q : List ℕ → Type 0 = RowStandsAlone text cells output in
      let whole = word_before text cells 32 (drop (n + 1) text) (as_word (bit_token output)) (drop (n + 3) text) behind_cells (cells_word cells are) (cells_end cells are) refl output_alone in
      subst Q (sym (take_rest text (n + 3))) (record { line = subst P (row_words cells output) whole; cells = are; tokens = row_are_tokens cells output are (omega (arith, few, long)); shorter = fewer })

-- what the line of a row says that may stand
pub row_added : (reading more : Reading) (line : ℕ) (cells : List ℕ) (output : Bool) → All IsToken (row_tokens cells output) → list_all is_cell cells ≡ true → may_stand reading (Row cells output) ≡ true → more ≡ in_model (with_cover_row cells output) reading → ReadsLine reading line (row_tokens cells output) (Ok more)
row_added reading more line cells output all are stands is = added reading line (row_tokens cells output) (Row cells output) more all (spelled_read (Row cells output) are) stands (ap Ok (sym is))
