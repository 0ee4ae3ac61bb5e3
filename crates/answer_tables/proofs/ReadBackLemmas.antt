-- A table as it is written, read back.
use Rattle.std.proofs.Common.{◌≡◌, ◌∙◌, ap, sym, refl, subst, inl, inr, ℕ, zero, suc, ◌+◌, ◌-◌, ◌<◌, ◌≤◌, ◌^◌, ◌==◌, Bool, false, cond, Option, List, [], ◌∷◌, ◌++◌, length, map, drop, get_or, codes, None, Some, Ok, arith, pow_mono, lt_of_lt_of_le}
use Rattle.std.specs.Prelude.{All, filter, nat_lt, slice_get}
use Rattle.std.specs.Str.Lines.{lines, strip_carriage_return}
use Rattle.std.proofs.lemmas.Bool.{cases_lt, lt-ltb}
use Rattle.std.proofs.lemmas.Bool.Decides.{nat_tests}
use Rattle.std.proofs.lemmas.List.Splits.{slice_split_none}
use Rattle.std.proofs.lemmas.Option.{same_Some}
use Rattle.lists.specs.laws.LineLaws.{front_byte, line_end, after_line, line_within}
use Rattle.lists.specs.laws.TakeLaws.{front_of}
use Rattle.text_core.specs.Lines.{is_blank}
use Rattle.text_core.proofs.LineLemmas.{lines_at}
use Rattle.text_core.proofs.WrittenLemmas.{hex_back, hex_bytes}
use Rattle.gf_field.specs.Element.{AreElements}
use Rattle.poly_mixed.specs.Text.{hex_text}
use Rattle.lift_table.specs.TableText.{IsFormed, IsNumber, IsNumberAt, IsTable, TableOutcome, table_text, value_lines}
use Rattle.lift_table.proofs.ReadingLemmas.{one_value}

-- ---- a line of bytes that print

-- bytes from `0` to `x`, or a space
abbrev IsLineByte : ℕ → Type 0
IsLineByte b = (32 ≤ b) × (b ≤ 120)

ArePrinted : List ℕ → Type 0
ArePrinted bytes = (i : ℕ) → i < length bytes → IsLineByte (get_or bytes i 0)

unequal : (a b : ℕ) → (a ≡ b → ⊥) → (a == b) ≡ false
unequal a b other = grind (arith, nat_tests)

no_return : (bytes : List ℕ) → ArePrinted bytes → strip_carriage_return bytes ≡ bytes
unfolding ArePrinted
no_return [] printed = refl
no_return (b ∷ bs) printed =
    let here = printed (length bs) (omega arith) in
    rw (unequal (get_or (b ∷ bs) (suc (length bs) - 1) 0) 13 (λ e. let least = here.0 in let same : suc (length bs) - 1 ≡ length bs = omega arith in let at : get_or (b ∷ bs) (length bs) 0 ≡ 13 = ap (λ j. get_or (b ∷ bs) j 0) (sym same) ∙ e in omega (arith, least, at))) refl

-- the first line of a text
first_line : (bytes rest : List ℕ) → ArePrinted bytes → lines (bytes ++ 10 ∷ rest) ≡ bytes ∷ lines rest
unfolding ArePrinted
first_line bytes rest printed =
    let next : length bytes + 1 ≡ suc (length bytes) = omega arith in
    lines_at (bytes ++ 10 ∷ rest) (length bytes) (λ k less found. let least = (printed k less).0 in let at = sym (front_byte bytes (10 ∷ rest) k less) ∙ found in omega (arith, least, at)) (line_within bytes rest) (line_end bytes rest)
    ∙ ap (λ (l : List ℕ). strip_carriage_return l ∷ lines (drop (length bytes + 1) (bytes ++ 10 ∷ rest))) (front_of bytes (10 ∷ rest))
    ∙ ap (λ (l : List ℕ). l ∷ lines (drop (length bytes + 1) (bytes ++ 10 ∷ rest))) (no_return bytes printed)
    ∙ ap (λ n. bytes ∷ lines (drop n (bytes ++ 10 ∷ rest))) next
    ∙ ap (λ (l : List ℕ). bytes ∷ lines l) (after_line bytes rest)

-- ---- the line of a value

value_printed : (v : ℕ) → v < 2 ^ 64 → ArePrinted (hex_text v)
unfolding ArePrinted
value_printed v less i within = let are = hex_bytes v (omega (arith, less)) i within in (let least = are.0 in omega (arith, least), are.1)

no_blank : (bytes : List ℕ) → ((i : ℕ) → i < length bytes → 48 ≤ get_or bytes i 0) → All (λ b. is_blank b ≡ false) bytes
no_blank [] least k d less = absurd (omega arith)
no_blank (b ∷ bs) least zero d less = let from : 48 ≤ b = least zero (omega arith) in rw (unequal b 32 (λ e. omega (arith, e, from)), unequal b 9 (λ e. omega (arith, e, from))) refl
no_blank (b ∷ bs) least (suc k) d less = no_blank bs (λ i within. least (suc i) (omega arith)) k d (omega arith)

value_number : (v : ℕ) → v < 2 ^ 64 → IsNumber (hex_text v) v
value_number v less = record {
  token = hex_text v;
  alone = ap (filter (λ (token : List ℕ). nat_lt 0 (length token))) (slice_split_none is_blank (hex_text v) (no_blank (hex_text v) (λ i within. (hex_bytes v (omega (arith, less)) i within).0))) ∙ ap (λ (b : Bool). cond b (hex_text v ∷ []) []) (lt-ltb 0 (length (hex_text v)) (omega arith));
  hex = hex_back v (omega (arith, less));
}

-- ---- the lines of a table

AreSmall : List ℕ → Type 0
AreSmall values = (i : ℕ) → i < length values → get_or values i 0 < 2 ^ 64

lines_of_values : (values : List ℕ) → AreSmall values → lines (value_lines values) ≡ map hex_text values
unfolding AreSmall
lines_of_values [] small = refl
lines_of_values (v ∷ values) small =
    first_line (hex_text v) (value_lines values) (value_printed v (small zero (omega arith)))
    ∙ ap (λ (ls : List (List ℕ)). hex_text v ∷ ls) (lines_of_values values (λ i less. small (suc i) (omega arith)))

head_printed : ArePrinted (codes "gftable 1")
unfolding ArePrinted
head_printed zero less = (omega arith, omega arith)
head_printed (suc zero) less = (omega arith, omega arith)
head_printed (suc (suc zero)) less = (omega arith, omega arith)
head_printed (suc (suc (suc zero))) less = (omega arith, omega arith)
head_printed (suc (suc (suc (suc zero)))) less = (omega arith, omega arith)
head_printed (suc (suc (suc (suc (suc zero))))) less = (omega arith, omega arith)
head_printed (suc (suc (suc (suc (suc (suc zero)))))) less = (omega arith, omega arith)
head_printed (suc (suc (suc (suc (suc (suc (suc zero))))))) less = (omega arith, omega arith)
head_printed (suc (suc (suc (suc (suc (suc (suc (suc zero)))))))) less = (omega arith, omega arith)
head_printed (suc (suc (suc (suc (suc (suc (suc (suc (suc i))))))))) less = absurd (omega arith)

lines_of_table : (table : List ℕ) → AreSmall table → lines (table_text table) ≡ codes "gftable 1" ∷ map hex_text table
lines_of_table table small =
    first_line (codes "gftable 1") (value_lines table) head_printed
    ∙ ap (λ (ls : List (List ℕ)). codes "gftable 1" ∷ ls) (lines_of_values table small)

-- ---- the table of these lines

at_row : (values : List ℕ) (row : ℕ) → row < length values → slice_get (map hex_text values) row ≡ Some (hex_text (get_or values row 0))
at_row [] row less = absurd (omega arith)
at_row (v ∷ values) zero less = refl
at_row (v ∷ values) (suc row) less = at_row values row (omega arith)

past_rows : (values : List ℕ) (row : ℕ) → length values ≤ row → slice_get (map hex_text values) row ≡ None
past_rows [] row past = refl
past_rows (v ∷ values) zero past = absurd (omega arith)
past_rows (v ∷ values) (suc row) past = past_rows values row (omega arith)

value_at : (values : List ℕ) (row v : ℕ) → slice_get values row ≡ Some v → (row < length values) × (get_or values row 0 ≡ v)
value_at [] row v got = absurd (cc)
value_at (w ∷ values) zero v got = (omega arith, same_Some w v got)
value_at (w ∷ values) (suc row) v got = let rest = value_at values row v got in ((let less = rest.0 in omega (arith, less)), rest.1)

module _ (k : ℕ) (table : List ℕ) (most : k ≤ 64) (elements : AreElements k table) where
  small : AreSmall table
  unfolding AreSmall
  small i less = lt_of_lt_of_le (elements i less) (pow_mono {i = k} {j = 64} most)

  number_at : (row : ℕ) → row < length table → IsNumber (hex_text (get_or table row 0)) (get_or table row 0)
  unfolding small AreSmall
  number_at row less = value_number (get_or table row 0) (small row less)

  formed : (i : ℕ) → IsFormed (length table) i (slice_get (codes "gftable 1" ∷ map hex_text table) i)
  formed zero = refl
  formed (suc row) = elim (cases_lt row (length table)) [
    | inl less ↦ (let P : Option (List ℕ) → Type 0 = IsFormed (length table) (suc row) in subst P (sym (at_row table row less)) (less, (get_or table row 0, number_at row less)))
    | inr past ↦ (let P : Option (List ℕ) → Type 0 = IsFormed (length table) (suc row) in subst P (sym (past_rows table row past)) past)
  ]

  small_at : (i value : ℕ) → IsNumberAt (codes "gftable 1" ∷ map hex_text table) i value → value < 2 ^ k
  small_at zero value number = absurd (no_head number.line (same_Some _ _ number.at) number.number)
    where
      no_head : (line : List ℕ) → codes "gftable 1" ≡ line → IsNumber line value → ⊥
      no_head line same is =
          let P : List ℕ → Type 0 = λ l. IsNumber l value in
          let head = subst P (sym same) is in
          let one : 2 ≡ 1 = ap (λ (ts : List (List ℕ)). length ts) head.alone in
          absurd (omega (arith, one))
  small_at (suc row) value number = elim (cases_lt row (length table)) [
    | inl less ↦ (let same : hex_text (get_or table row 0) ≡ number.line = same_Some _ _ (sym (at_row table row less) ∙ number.at) in let P : List ℕ → Type 0 = λ l. IsNumber l value in let v = one_value (hex_text (get_or table row 0)) value (get_or table row 0) (subst P (sym same) number.number) (number_at row less) in let below = elements row less in omega (arith, v, below))
    | inr past ↦ absurd (let none = sym (past_rows table row past) ∙ number.at in cc)
  ]

  is_table : IsTable k (length table) (codes "gftable 1" ∷ map hex_text table) table
  is_table = record {
    right = record { formed = λ i less. formed i; small = λ i value less number. small_at i value number };
    long = refl;
    values = values;
  }
    where
      values : (row value : ℕ) → slice_get table row ≡ Some value → IsNumberAt (codes "gftable 1" ∷ map hex_text table) (row + 1) value
      values row value got =
          let at = value_at table row value got in
          let next : suc row ≡ row + 1 = omega arith in
          let P : ℕ → Type 0 = λ j. IsNumberAt (codes "gftable 1" ∷ map hex_text table) j value in
          let Q : ℕ → Type 0 = λ v. IsNumber (hex_text (get_or table row 0)) v in
          subst P next (record { line = hex_text (get_or table row 0); at = at_row table row at.0; number = subst Q at.1 (number_at row at.0) })

  -- the text of the table is that of the table
  pub read_back : TableOutcome k (length table) (table_text table) (Ok table)
  read_back =
      let P : List (List ℕ) → Type 0 = λ ls. IsTable k (length table) ls table in
      subst P (sym (lines_of_table table small)) is_table
