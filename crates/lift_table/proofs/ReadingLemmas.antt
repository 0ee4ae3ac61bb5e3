-- The lines of a table, one after another.
use Rattle.std.proofs.Common.{◌≡◌, ◌⊎◌, ◌↔◌, ◌∙◌, ap, sym, refl, subst, inl, inr, ℕ, zero, suc, ◌+◌, ◌-◌, ◌<◌, ◌≤◌, ◌^◌, List, [], ◌∷◌, ◌++◌, length, drop, arith, Option, Some, None, Result, Ok, Err, Bor, map, get_or}
use Rattle.std.specs.Prelude.{slice_get}
use Rattle.std.proofs.lemmas.Bool.{cases_eq}
use Rattle.lists.specs.laws.OptionLaws.{same_some as one_line}
use Rattle.text_core.specs.Lines.{tokens_of}
use Rattle.text_core.specs.Numbers.{IsHex, AreDigits, value_of}
use Rattle.lift_table.proofs.GatherLemmas.{pushed_long}
use Rattle.lift_table.specs.declared.fault.TableFault.{TableFault}
use Rattle.lift_table.specs.declared.fault.TableFault.TheVariants.{Syntax, TooLarge, OutOfMemory}
use Rattle.lift_table.specs.TableText.{IsHead, IsNumber, IsFormed, IsNumberAt, IsRightTo, LinesOutcome}
use Rattle.lift_table.specs.private.Reading.{HeadOutcome, RowOutcome, TokenOutcome, TokensOutcome}

-- a token stands for one number
pub one_number : (token : List ℕ) (a b : ℕ) → IsHex token a → IsHex token b → a ≡ b
one_number token a b h k =
    let same : 48 ∷ 120 ∷ h.0 ≡ 48 ∷ 120 ∷ k.0 = sym h.1 ∙ k.1 in
    let digits : h.0 ≡ k.0 = cc same in
    h.3 ∙ (ap (value_of 16) digits ∙ sym k.3)

pub one_value : (line : List ℕ) (a b : ℕ) → IsNumber line a → IsNumber line b → a ≡ b
one_value line a b h k =
    let same : h.token ∷ [] ≡ k.token ∷ [] = sym h.alone ∙ k.alone in
    let tokens : h.token ≡ k.token = cc same in
    let P : List ℕ → Type 0 = λ t. IsHex t a in
    one_number k.token a b (subst P tokens h.hex) k.hex

-- the head is no number
head_no_number : (line : List ℕ) (value : ℕ) → IsHead line → IsNumber line value → ⊥
head_no_number line value head number =
    let same : suc (suc zero) ≡ suc zero = ap length (sym head ∙ number.alone) in omega arith

-- the first of the lines from a place on
pub first_at : (every : List (List ℕ)) (place : ℕ) (line : List ℕ) (after : List (List ℕ)) → line ∷ after ≡ drop place every → (slice_get every place ≡ Some line) × (after ≡ drop (suc place) every)
first_at [] zero line after is = absurd (cc is)
first_at [] (suc place) line after is = absurd (cc is)
first_at (x ∷ xs) zero line after is = let same : x ≡ line = cc is in let rest : after ≡ xs = cc is in (ap Some same, rest)
first_at (x ∷ xs) (suc place) line after is = first_at xs place line after is

pub none_at : (every : List (List ℕ)) (place : ℕ) → [] ≡ drop place every → slice_get every place ≡ None
none_at [] place is = refl
none_at (x ∷ xs) zero is = absurd (cc is)
none_at (x ∷ xs) (suc place) is = none_at xs place is

-- what is left holds the line of a place, or there is no such line
pub record IsReadTo (k n : ℕ) (every : List (List ℕ)) (rows : ℕ) (rest : List (List ℕ)) (table : List ℕ) : Type 0 where
  pub rest_is : rest ≡ drop (rows + 1) every
  pub right : IsRightTo k n every (rows + 1)
  pub long : length table ≡ rows
  pub values : (row value : ℕ) → slice_get table row ≡ Some value → IsNumberAt every (row + 1) value

module _ (k n : ℕ) (every : List (List ℕ)) where
  number_at : (place value : ℕ) (line : List ℕ) → slice_get every place ≡ Some line → IsNumberAt every place value → IsNumber line value
  number_at place value line got is =
      let P : List ℕ → Type 0 = λ l. IsNumber l value in
      subst P (one_line is.line line (sym is.at ∙ got)) is.number

  -- one more place that is right
  right_next : (place : ℕ) → IsRightTo k n every place → IsFormed n place (slice_get every place) → ((value : ℕ) → IsNumberAt every place value → value < 2 ^ k) → IsRightTo k n every (suc place)
  right_next place right formed small = record {
    formed = λ i less. elim (cases_eq i place) [
      | inl e ↦ let P : ℕ → Type 0 = λ j. IsFormed n j (slice_get every j) in subst P (sym e) formed
      | inr other ↦ right.formed i (omega arith)
    ];
    small = λ i value less is. elim (cases_eq i place) [
      | inl e ↦ let P : ℕ → Type 0 = λ j. IsNumberAt every j value in small value (subst P e is)
      | inr other ↦ right.small i value (omega arith) is
    ];
  }

  at_first : (rest : List (List ℕ)) (line : List ℕ) → every ≡ line ∷ rest → (slice_get every 0 ≡ Some line) × (rest ≡ drop 1 every)
  at_first rest line is = first_at every 0 line rest (sym is)

  pub after_head : (rest : List (List ℕ)) → HeadOutcome every (Ok rest) → IsReadTo k n every 0 rest []
  after_head rest read =
      let at = at_first rest read.0 read.1 in
      let formed : IsFormed n 0 (slice_get every 0) = (let P : Option (List ℕ) → Type 0 = IsFormed n 0 in subst P (sym at.0) read.2) in
      record {
        rest_is = at.1;
        right = right_next 0 (record { formed = λ i less. absurd (omega arith); small = λ i value less is. absurd (omega arith) }) formed (λ value is. absurd (head_no_number read.0 value read.2 (number_at 0 value read.0 at.0 is)));
        long = refl;
        values = λ row value got. absurd (cc got);
      }

  pub no_head : (fault : TableFault) → HeadOutcome every (Err fault) → LinesOutcome k n every (Err fault)
  no_head (Syntax line) read = record {
    place = 0;
    line_is = read.0;
    right = record { formed = λ i less. absurd (omega arith); small = λ i value less is. absurd (omega arith) };
    unformed = wrong every read.1;
  }
    where
      wrong : (ls : List (List ℕ)) → ((text : List ℕ) (rest : List (List ℕ)) → ls ≡ text ∷ rest → IsHead text → ⊥) → IsFormed n 0 (slice_get ls 0) → ⊥
      wrong [] no_line formed = formed
      wrong (l ∷ ls) no_line formed = no_line l ls refl formed
  no_head (TooLarge line) read = absurd read
  no_head OutOfMemory read = absurd read

  module _ (rows : ℕ) (rest : List (List ℕ)) (table : List ℕ) (so : IsReadTo k n every rows rest table) (below : rows < n) where
    pub one_row : (value : ℕ) (after : List (List ℕ)) (more : List ℕ) → more ≡ table ++ value ∷ [] → (line : ℕ) → RowOutcome k line rest (Ok (value, after)) → IsReadTo k n every (rows + 1) after more
    one_row value after more is line read =
        let at = first_at every (rows + 1) read.0 after (sym read.1 ∙ so.rest_is) in
        let next : suc (rows + 1) ≡ rows + 1 + 1 = omega arith in
        let place : suc rows ≡ rows + 1 = omega arith in
        let F : Option (List ℕ) → Type 0 = IsFormed n (rows + 1) in
        let G : ℕ → Type 0 = λ j. IsFormed n j (Some read.0) in
        let formed : IsFormed n (rows + 1) (slice_get every (rows + 1)) = subst F (sym at.0) (subst G place (below, (value, read.2))) in
        let R : ℕ → Type 0 = IsRightTo k n every in
        let Q : List ℕ → Type 0 = λ xs. IsReadTo k n every (rows + 1) after xs in
        subst Q (sym is) (record {
          rest_is = at.1 ∙ ap (λ j. drop j every) next;
          right = subst R next (right_next (rows + 1) so.right formed (λ other number. let same : other ≡ value = one_value read.0 other value (number_at (rows + 1) other read.0 at.0 number) read.2 in let low : value < 2 ^ k = read.3 in omega arith));
          long = pushed_long table (table ++ value ∷ []) value rows refl so.long;
          values = λ row number got. elim (pushed_get table value row number got) [
            | inl old ↦ so.values row number old
            | inr new ↦
                let here : row ≡ rows = new.0 ∙ so.long in
                let P : ℕ → Type 0 = λ j. IsNumberAt every (j + 1) number in
                subst P (sym here) (record { line = read.0; at = at.0; number = (let N : ℕ → Type 0 = IsNumber read.0 in subst N new.1 read.2) })
          ];
        })
      where
        pushed_get : (xs : List ℕ) (v row number : ℕ) → slice_get (xs ++ v ∷ []) row ≡ Some number → (slice_get xs row ≡ Some number) ⊎ ((row ≡ length xs) × (v ≡ number))
        pushed_get [] v zero number got = let same : v ≡ number = cc got in inr (refl, same)
        pushed_get [] v (suc row) number got = absurd (cc got)
        pushed_get (x ∷ xs) v zero number got = inl got
        pushed_get (x ∷ xs) v (suc row) number got = elim (pushed_get xs v row number got) [ inl old ↦ inl old | inr new ↦ inr (ap suc new.0, new.1) ]

    pub no_row : (line : ℕ) → line ≡ rows + 2 → (fault : TableFault) → RowOutcome k line rest (Err fault) → LinesOutcome k n every (Err fault)
    no_row line place (Syntax number) read = record {
      place = rows + 1;
      line_is = read.0 ∙ (place ∙ omega arith);
      right = so.right;
      unformed = λ formed. wrong rest so.rest_is read.1 formed;
    }
      where
        row_of_place : suc rows ≡ rows + 1
        row_of_place = omega arith

        wrong : (ls : List (List ℕ)) → ls ≡ drop (rows + 1) every → ((text : List ℕ) (after : List (List ℕ)) (value : ℕ) → ls ≡ text ∷ after → IsNumber text value → ⊥) → IsFormed n (rows + 1) (slice_get every (rows + 1)) → ⊥
        wrong [] is no_line formed =
            let P : Option (List ℕ) → Type 0 = IsFormed n (rows + 1) in
            let Q : ℕ → Type 0 = λ j. IsFormed n j None in
            let past : n ≤ rows = subst Q (sym row_of_place) (subst P (none_at every (rows + 1) is) formed) in
            absurd (omega arith)
        wrong (l ∷ ls) is no_line formed =
            let P : Option (List ℕ) → Type 0 = IsFormed n (rows + 1) in
            let Q : ℕ → Type 0 = λ j. IsFormed n j (Some l) in
            let found : (rows < n) × ((value : ℕ) × IsNumber l value) = subst Q (sym row_of_place) (subst P (first_at every (rows + 1) l ls is).0 formed) in
            no_line l ls found.1.0 refl found.1.1
    no_row line place (TooLarge number) read =
        let found = read.1 in
        let at = first_at every (rows + 1) found.0 found.1 (sym found.3 ∙ so.rest_is) in
        let next : suc rows ≡ rows + 1 = omega arith in
        let F : Option (List ℕ) → Type 0 = IsFormed n (rows + 1) in
        let G : ℕ → Type 0 = λ j. IsFormed n j (Some found.0) in
        record {
          place = rows + 1;
          value = found.2;
          line_is = read.0 ∙ (place ∙ omega arith);
          right = so.right;
          formed = subst F (sym at.0) (subst G next (below, (found.2, found.4)));
          number = record { line = found.0; at = at.0; number = found.4 };
          large = found.5;
        }
    no_row line place OutOfMemory read = absurd read

  -- at the end: nothing is left, or one line too many
  pub at_end : (rest : List (List ℕ)) (table : List ℕ) → rest ≡ [] → IsReadTo k n every n rest table → LinesOutcome k n every (Ok table)
  at_end rest table none so =
      let got : slice_get every (n + 1) ≡ None = none_at every (n + 1) (sym none ∙ so.rest_is) in
      let next : suc (n + 1) ≡ n + 2 = omega arith in
      let place : suc n ≡ n + 1 = omega arith in
      let F : Option (List ℕ) → Type 0 = IsFormed n (n + 1) in
      let G : ℕ → Type 0 = λ j. IsFormed n j None in
      let within : n ≤ n = omega arith in
      let R : ℕ → Type 0 = IsRightTo k n every in
      record {
        right = subst R next (right_next (n + 1) so.right (subst F (sym got) (subst G place within)) (λ value is. let same : Some is.line ≡ None = sym is.at ∙ got in absurd (cc same)));
        long = so.long;
        values = so.values;
      }

  pub too_many : (line : ℕ) (rest : List (List ℕ)) (table : List ℕ) → line ≡ n + 2 → (rest ≡ [] → ⊥) → IsReadTo k n every n rest table → LinesOutcome k n every (Err (Syntax line))
  too_many line rest table place some so = record {
    place = n + 1;
    line_is = place ∙ omega arith;
    right = so.right;
    unformed = λ formed. wrong rest some so.rest_is formed;
  }
    where
      wrong : (ls : List (List ℕ)) → (ls ≡ [] → ⊥) → ls ≡ drop (n + 1) every → IsFormed n (n + 1) (slice_get every (n + 1)) → ⊥
      wrong [] more is formed = more refl
      wrong (l ∷ ls) more is formed =
          let next : suc n ≡ n + 1 = omega arith in
          let P : Option (List ℕ) → Type 0 = IsFormed n (n + 1) in
          let Q : ℕ → Type 0 = λ j. IsFormed n j (Some l) in
          let found : (n < n) × ((value : ℕ) × IsNumber l value) = subst Q (sym next) (subst P (first_at every (n + 1) l ls is).0 formed) in
          let wrong : n < n = found.0 in
          absurd (omega arith)

-- `0x` and digits are a number
pub hex_of : (token digits : List ℕ) → token ≡ 48 ∷ 120 ∷ digits → AreDigits 16 digits ↔ ((value : ℕ) × IsHex token value)
hex_of token digits is = ((λ are. (value_of 16 digits, (digits, is, are, refl))), λ found. back found.0 found.1)
  where
    back : (value : ℕ) → IsHex token value → AreDigits 16 digits
    back value hex =
        let same : 48 ∷ 120 ∷ hex.0 ≡ 48 ∷ 120 ∷ digits = sym hex.1 ∙ is in
        let tail : hex.0 ≡ digits = cc same in
        let P : List ℕ → Type 0 = AreDigits 16 in
        subst P tail hex.2

pub one_token : (k line : ℕ) (f : Bor (List ℕ) → List ℕ) (xs : List (Bor (List ℕ))) (d : Bor (List ℕ)) (r : Result ℕ TableFault) → length xs ≡ 1 → TokenOutcome k line (f (get_or xs 0 d)) r → TokensOutcome k line (map f xs) r
one_token k line f [] d r long h = absurd (omega arith)
one_token k line f (x ∷ y ∷ xs) d r long h = absurd (omega arith)
one_token k line f (x ∷ []) d (Ok value) long h = ((f x, refl, h.0), h.1)
one_token k line f (x ∷ []) d (Err (Syntax place)) long h =
    (h.0, λ token value is hex. let same : token ≡ f x = cc in let P : List ℕ → Type 0 = λ t. IsHex t value in h.1 value (subst P same hex))
one_token k line f (x ∷ []) d (Err (TooLarge place)) long h = (h.0, (f x, h.1.0, refl, h.1.1, h.1.2))
one_token k line f (x ∷ []) d (Err OutOfMemory) long h = absurd h

pub row_fault : (k line : ℕ) (every : List (List ℕ)) (text : List ℕ) (rest tokens : List (List ℕ)) → every ≡ text ∷ rest → tokens ≡ tokens_of text → (fault : TableFault) → TokensOutcome k line tokens (Err fault) → RowOutcome k line every (Err fault)
row_fault k line every text rest tokens is are (Syntax place) h = (
  h.0,
  λ other after value first number.
      let both : text ∷ rest ≡ other ∷ after = sym is ∙ first in
      let same : text ≡ other = cc both in
      h.1 number.token value (are ∙ (ap tokens_of same ∙ number.alone)) number.hex,
)
row_fault k line every text rest tokens is are (TooLarge place) h =
    let found = h.1 in
    (h.0, (text, rest, found.1, is, record { token = found.0; alone = sym are ∙ found.2; hex = found.3 }, found.4))
row_fault k line every text rest tokens is are OutOfMemory h = absurd h
