-- What one token makes of what was read: eleven moves, or a fault.
use Rattle.std.proofs.Common.{◌≡◌, ◌∙◌, ap, sym, refl, subst, ℕ, ◌^◌, Bool, true, false, cond, List, nat_lt, nat_le, bytes_eq, Option, Some, None, Ok, Err}
use Rattle.poly_mixed.specs.Labels.{Labelling, word_of}
use Rattle.spec_text.specs.Token.{Token, name, hex, decimal, equals, plus, times, power}
use Rattle.spec_text.specs.Fault.{is_some}
use Rattle.spec_text.specs.declared.fault.SpecFault.{SpecFault}
use Rattle.spec_text.specs.declared.fault.SpecFault.TheVariants.{Syntax, UnknownWord, BadNumber}
use Rattle.spec_text.specs.declared.reader.Next.{Next}
use Rattle.spec_text.specs.declared.reader.Next.TheVariants.{Output, Assign, Factor, AfterNumber, AfterName, Exponent}
use Rattle.spec_text.specs.private.Progress.{Progress, Read, to_next, with_power, with_number, next_term, word_read, name_read, fitting, number_read, exponent_read, hex_read, decimal_read, equals_read, power_read, times_read, plus_read, token_read}

-- ---- what may come next, without the words

pub data Shape : Type 0 where
  at_left : Shape
  at_sign : Shape
  at_factor : Shape
  at_number : Shape
  at_name : Shape
  at_power : Shape

abbrev pub shape : Next → Shape
shape Output = at_left
shape Assign = at_sign
shape Factor = at_factor
shape AfterNumber = at_number
shape (AfterName w) = at_name
shape (Exponent w) = at_power

-- where a token leads, if it may stand there
unfoldable pub go : Shape → Token → Option Shape
go at_left (name n) = Some at_sign
go at_left t = None
go at_sign equals = Some at_factor
go at_sign t = None
go at_factor (name n) = Some at_name
go at_factor (hex n) = Some at_number
go at_factor (decimal n) = Some at_number
go at_factor t = None
go at_number times = Some at_factor
go at_number plus = Some at_factor
go at_number t = None
go at_name power = Some at_power
go at_name times = Some at_factor
go at_name plus = Some at_factor
go at_name t = None
go at_power (decimal n) = Some at_number
go at_power t = None

module _ (l : Labelling) (k : ℕ) (mul : ℕ → ℕ → ℕ) where
  -- ---- moves

  pub data Move (p : Progress) (t : Token) (q : Progress) : Type 0 where
    reads_output : (n : List ℕ) → p.next ≡ Output → t ≡ name n → bytes_eq n l.output ≡ true → q ≡ to_next Assign p → Move p t q
    reads_sign : p.next ≡ Assign → t ≡ equals → q ≡ to_next Factor p → Move p t q
    reads_word : (n : List ℕ) (w : ℕ) → p.next ≡ Factor → t ≡ name n → word_of l.words n ≡ Some w → q ≡ to_next (AfterName w) p → Move p t q
    reads_element : (n : ℕ) → p.next ≡ Factor → t ≡ hex n → nat_lt n (2 ^ k) ≡ true → q ≡ with_number mul n p → Move p t q
    reads_bit : (n : ℕ) → p.next ≡ Factor → t ≡ decimal n → nat_le n 1 ≡ true → q ≡ with_number mul n p → Move p t q
    reads_power : (w : ℕ) → p.next ≡ AfterName w → t ≡ power → q ≡ to_next (Exponent w) p → Move p t q
    reads_exponent : (w n : ℕ) → p.next ≡ Exponent w → t ≡ decimal n → nat_lt n (2 ^ 64) ≡ true → q ≡ with_power AfterNumber w n p → Move p t q
    times_number : p.next ≡ AfterNumber → t ≡ times → q ≡ to_next Factor p → Move p t q
    times_name : (w : ℕ) → p.next ≡ AfterName w → t ≡ times → q ≡ with_power Factor w 1 p → Move p t q
    plus_number : p.next ≡ AfterNumber → t ≡ plus → q ≡ next_term p → Move p t q
    plus_name : (w : ℕ) → p.next ≡ AfterName w → t ≡ plus → q ≡ next_term (with_power AfterNumber w 1 p) → Move p t q

  -- ---- faults

  -- the name is one that may stand there
  abbrev pub known_at : Shape → List ℕ → Bool
  known_at at_left n = bytes_eq n l.output
  known_at s n = is_some (word_of l.words n)

  -- the number is one that may stand there
  abbrev pub fits_at : Shape → ℕ → Bool
  fits_at at_power n = nat_lt n (2 ^ 64)
  fits_at s n = nat_le n 1

  pub data Refused (s : Shape) (t : Token) (place : ℕ) (e : SpecFault) : Type 0 where
    unfit : go s t ≡ None → e ≡ Syntax place → Refused s t place e
    unknown : (u : Shape) (n : List ℕ) → go s t ≡ Some u → t ≡ name n → known_at s n ≡ false → e ≡ UnknownWord place → Refused s t place e
    large : (u : Shape) (n : ℕ) → go s t ≡ Some u → t ≡ hex n → nat_lt n (2 ^ k) ≡ false → e ≡ BadNumber place → Refused s t place e
    wrong : (u : Shape) (n : ℕ) → go s t ≡ Some u → t ≡ decimal n → fits_at s n ≡ false → e ≡ BadNumber place → Refused s t place e

  -- what a token makes of what was read is a move or a fault
  Made : Progress → Next → Token → ℕ → Read → Type 0
  Made p next t place (Ok q) = p.next ≡ next → Move p t q
  Made p next t place (Err e) = Refused (shape next) t place e

  fitting_is : (next : Next) (p : Progress) (t : Token) (n place : ℕ) (fits : Bool) → ((q : Progress) → fits ≡ true → q ≡ with_number mul n p → p.next ≡ next → Move p t q) → ((e : SpecFault) → fits ≡ false → e ≡ BadNumber place → Refused (shape next) t place e) → Made p next t place (number_read mul (fitting fits n) p place)
  unfolding Made
  fitting_is next p t n place true taken left = taken (with_number mul n p) refl refl
  fitting_is next p t n place false taken left = left (BadNumber place) refl refl

  raised_is : (w : ℕ) (p : Progress) (n place : ℕ) (fits : Bool) → nat_lt n (2 ^ 64) ≡ fits → Made p (Exponent w) (decimal n) place (exponent_read w (fitting fits n) p place)
  unfolding Made go
  raised_is w p n place true e = λ at. reads_exponent w n at refl e refl
  raised_is w p n place false e = wrong at_number n refl refl e refl

  named_is : (p : Progress) (n : List ℕ) (place : ℕ) (found : Option ℕ) → word_of l.words n ≡ found → Made p Factor (name n) place (word_read found p place)
  unfolding Made go
  named_is p n place None e = unknown at_name n refl refl (ap is_some e) refl
  named_is p n place (Some w) e = λ at. reads_word n w at refl e refl

  output_is : (p : Progress) (n : List ℕ) (place : ℕ) (same : Bool) → bytes_eq n l.output ≡ same → Made p Output (name n) place (cond same (Ok (to_next Assign p)) (Err (UnknownWord place)))
  unfolding Made go
  output_is p n place true e = λ at. reads_output n at refl e refl
  output_is p n place false e = unknown at_sign n refl refl e refl

  name_made : (p : Progress) (next : Next) (n : List ℕ) (place : ℕ) → Made p next (name n) place (name_read l next p n place)
  unfolding Made go
  name_made p Output n place = output_is p n place (bytes_eq n l.output) refl
  name_made p Assign n place = unfit refl refl
  name_made p Factor n place = named_is p n place (word_of l.words n) refl
  name_made p AfterNumber n place = unfit refl refl
  name_made p (AfterName w) n place = unfit refl refl
  name_made p (Exponent w) n place = unfit refl refl

  hex_made : (p : Progress) (next : Next) (n place : ℕ) → Made p next (hex n) place (hex_read k mul next p n place)
  unfolding Made go
  hex_made p Output n place = unfit refl refl
  hex_made p Assign n place = unfit refl refl
  hex_made p Factor n place = fitting_is Factor p (hex n) n place (nat_lt n (2 ^ k)) (λ q e is at. reads_element n at refl e is) (λ e bad is. large at_number n refl refl bad is)
  hex_made p AfterNumber n place = unfit refl refl
  hex_made p (AfterName w) n place = unfit refl refl
  hex_made p (Exponent w) n place = unfit refl refl

  decimal_made : (p : Progress) (next : Next) (n place : ℕ) → Made p next (decimal n) place (decimal_read mul next p n place)
  unfolding Made go
  decimal_made p Output n place = unfit refl refl
  decimal_made p Assign n place = unfit refl refl
  decimal_made p Factor n place = fitting_is Factor p (decimal n) n place (nat_le n 1) (λ q e is at. reads_bit n at refl e is) (λ e bad is. wrong at_number n refl refl bad is)
  decimal_made p AfterNumber n place = unfit refl refl
  decimal_made p (AfterName w) n place = unfit refl refl
  decimal_made p (Exponent w) n place = raised_is w p n place (nat_lt n (2 ^ 64)) refl

  equals_made : (p : Progress) (next : Next) (place : ℕ) → Made p next equals place (equals_read next p place)
  unfolding Made go
  equals_made p Output place = unfit refl refl
  equals_made p Assign place = λ at. reads_sign at refl refl
  equals_made p Factor place = unfit refl refl
  equals_made p AfterNumber place = unfit refl refl
  equals_made p (AfterName w) place = unfit refl refl
  equals_made p (Exponent w) place = unfit refl refl

  power_made : (p : Progress) (next : Next) (place : ℕ) → Made p next power place (power_read next p place)
  unfolding Made go
  power_made p Output place = unfit refl refl
  power_made p Assign place = unfit refl refl
  power_made p Factor place = unfit refl refl
  power_made p AfterNumber place = unfit refl refl
  power_made p (AfterName w) place = λ at. reads_power w at refl refl
  power_made p (Exponent w) place = unfit refl refl

  times_made : (p : Progress) (next : Next) (place : ℕ) → Made p next times place (times_read next p place)
  unfolding Made go
  times_made p Output place = unfit refl refl
  times_made p Assign place = unfit refl refl
  times_made p Factor place = unfit refl refl
  times_made p AfterNumber place = λ at. times_number at refl refl
  times_made p (AfterName w) place = λ at. times_name w at refl refl
  times_made p (Exponent w) place = unfit refl refl

  plus_made : (p : Progress) (next : Next) (place : ℕ) → Made p next plus place (plus_read next p place)
  unfolding Made go
  plus_made p Output place = unfit refl refl
  plus_made p Assign place = unfit refl refl
  plus_made p Factor place = unfit refl refl
  plus_made p AfterNumber place = λ at. plus_number at refl refl
  plus_made p (AfterName w) place = λ at. plus_name w at refl refl
  plus_made p (Exponent w) place = unfit refl refl

  made : (p : Progress) (t : Token) (place : ℕ) → Made p p.next t place (token_read l k mul p t place)
  made p (name n) place = name_made p p.next n place
  made p (hex n) place = hex_made p p.next n place
  made p (decimal n) place = decimal_made p p.next n place
  made p equals place = equals_made p p.next place
  made p plus place = plus_made p p.next place
  made p times place = times_made p p.next place
  made p power place = power_made p p.next place

  pub moves : (p q : Progress) (t : Token) (place : ℕ) → token_read l k mul p t place ≡ Ok q → Move p t q
  unfolding Made
  moves p q t place e = let P : Read → Type 0 = Made p p.next t place in subst P e (made p t place) refl

  pub refused : (p : Progress) (t : Token) (place : ℕ) (e : SpecFault) → token_read l k mul p t place ≡ Err e → Refused (shape p.next) t place e
  unfolding Made
  refused p t place f e = let P : Read → Type 0 = Made p p.next t place in subst P e (made p t place)

  -- a move is one of the grammar
  pub move_goes : (p q : Progress) (t : Token) → Move p t q → go (shape p.next) t ≡ Some (shape q.next)
  unfolding go
  move_goes p q t (reads_output n at is ok new) = (λ i. go (shape (at i)) (is i)) ∙ ap (λ r. Some (shape r.next)) (sym new)
  move_goes p q t (reads_sign at is new) = (λ i. go (shape (at i)) (is i)) ∙ ap (λ r. Some (shape r.next)) (sym new)
  move_goes p q t (reads_word n w at is ok new) = (λ i. go (shape (at i)) (is i)) ∙ ap (λ r. Some (shape r.next)) (sym new)
  move_goes p q t (reads_element n at is ok new) = (λ i. go (shape (at i)) (is i)) ∙ ap (λ r. Some (shape r.next)) (sym new)
  move_goes p q t (reads_bit n at is ok new) = (λ i. go (shape (at i)) (is i)) ∙ ap (λ r. Some (shape r.next)) (sym new)
  move_goes p q t (reads_power w at is new) = (λ i. go (shape (at i)) (is i)) ∙ ap (λ r. Some (shape r.next)) (sym new)
  move_goes p q t (reads_exponent w n at is ok new) = (λ i. go (shape (at i)) (is i)) ∙ ap (λ r. Some (shape r.next)) (sym new)
  move_goes p q t (times_number at is new) = (λ i. go (shape (at i)) (is i)) ∙ ap (λ r. Some (shape r.next)) (sym new)
  move_goes p q t (times_name w at is new) = (λ i. go (shape (at i)) (is i)) ∙ ap (λ r. Some (shape r.next)) (sym new)
  move_goes p q t (plus_number at is new) = (λ i. go (shape (at i)) (is i)) ∙ ap (λ r. Some (shape r.next)) (sym new)
  move_goes p q t (plus_name w at is new) = (λ i. go (shape (at i)) (is i)) ∙ ap (λ r. Some (shape r.next)) (sym new)
