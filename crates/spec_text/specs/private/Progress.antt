-- A specification read token by token: what was read so far, and what one more token makes of it.
-- Source: this project's own.
use Rattle.std.specs.Prelude.{◌≡◌, ℕ, ◌+◌, ◌^◌, Bool, cond, List, [], ◌∷◌, ◌++◌, nat_lt, nat_le, bytes_eq, Option, Some, None, Result, Ok, Err}
use Rattle.poly_mixed.specs.Labels.{Labelling, word_of}
use Rattle.spec_text.specs.Token.{Token, name, hex, decimal, equals, plus, times, power}
use Rattle.spec_expand.specs.Specification.{SpecTerms}
use Rattle.spec_text.specs.declared.fault.SpecFault.{SpecFault}
use Rattle.spec_text.specs.declared.fault.SpecFault.TheVariants.{Syntax, UnknownWord, BadNumber, OutOfMemory}
use Rattle.spec_text.specs.declared.reader.Reading.{Reading}
use Rattle.spec_text.specs.declared.reader.Next.{Next}
use Rattle.spec_text.specs.declared.reader.Next.TheVariants.{Output, Assign, Factor, AfterNumber, AfterName, Exponent}

-- the closed terms; of the term that is read the product of its numbers and its powers; and what may come next
pub record Progress : Type 0 where
  pub next : Next
  pub terms : SpecTerms
  pub coefficient : ℕ
  pub powers : List (ℕ × ℕ)

abbrev pub progress : Next → SpecTerms → ℕ → List (ℕ × ℕ) → Progress
progress n ts c ps = record { next = n; terms = ts; coefficient = c; powers = ps }

abbrev pub to_next : Next → Progress → Progress
to_next n p = progress n p.terms p.coefficient p.powers

-- one power more
abbrev pub with_power : Next → ℕ → ℕ → Progress → Progress
with_power n w e p = progress n p.terms p.coefficient (p.powers ++ (w, e) ∷ [])

-- one number more
abbrev pub with_number : (ℕ → ℕ → ℕ) → ℕ → Progress → Progress
with_number mul n p = progress AfterNumber p.terms (mul p.coefficient n) p.powers

-- the terms with the one that was read
abbrev pub closed : SpecTerms → ℕ → List (ℕ × ℕ) → SpecTerms
closed ts c ps = ts ++ (c, ps) ∷ []

-- the term is closed, and another one comes
abbrev pub next_term : Progress → Progress
next_term p = progress Factor (closed p.terms p.coefficient p.powers) 1 []

abbrev pub Read : Type 0
Read = Result Progress SpecFault

abbrev pub word_read : Option ℕ → Progress → ℕ → Read
word_read None p place = Err (UnknownWord place)
word_read (Some w) p place = Ok (to_next (AfterName w) p)

-- a name at a place of the text
abbrev pub name_read : Labelling → Next → Progress → List ℕ → ℕ → Read
name_read l Output p n place = cond (bytes_eq n l.output) (Ok (to_next Assign p)) (Err (UnknownWord place))
name_read l Factor p n place = word_read (word_of l.words n) p place
name_read l Assign p n place = Err (Syntax place)
name_read l AfterNumber p n place = Err (Syntax place)
name_read l (AfterName w) p n place = Err (Syntax place)
name_read l (Exponent w) p n place = Err (Syntax place)

-- a number, where it is one that fits
abbrev pub number_read : (ℕ → ℕ → ℕ) → Option ℕ → Progress → ℕ → Read
number_read mul None p place = Err (BadNumber place)
number_read mul (Some n) p place = Ok (with_number mul n p)

abbrev pub exponent_read : ℕ → Option ℕ → Progress → ℕ → Read
exponent_read w None p place = Err (BadNumber place)
exponent_read w (Some n) p place = Ok (with_power AfterNumber w n p)

-- the number, where it fits
abbrev pub fitting : Bool → ℕ → Option ℕ
fitting fits n = cond fits (Some n) None

abbrev pub hex_read : ℕ → (ℕ → ℕ → ℕ) → Next → Progress → ℕ → ℕ → Read
hex_read k mul Factor p n place = number_read mul (fitting (nat_lt n (2 ^ k)) n) p place
hex_read k mul Output p n place = Err (Syntax place)
hex_read k mul Assign p n place = Err (Syntax place)
hex_read k mul AfterNumber p n place = Err (Syntax place)
hex_read k mul (AfterName w) p n place = Err (Syntax place)
hex_read k mul (Exponent w) p n place = Err (Syntax place)

abbrev pub decimal_read : (ℕ → ℕ → ℕ) → Next → Progress → ℕ → ℕ → Read
decimal_read mul Factor p n place = number_read mul (fitting (nat_le n 1) n) p place
decimal_read mul (Exponent w) p n place = exponent_read w (fitting (nat_lt n (2 ^ 64)) n) p place
decimal_read mul Output p n place = Err (Syntax place)
decimal_read mul Assign p n place = Err (Syntax place)
decimal_read mul AfterNumber p n place = Err (Syntax place)
decimal_read mul (AfterName w) p n place = Err (Syntax place)

abbrev pub equals_read : Next → Progress → ℕ → Read
equals_read Assign p place = Ok (to_next Factor p)
equals_read Output p place = Err (Syntax place)
equals_read Factor p place = Err (Syntax place)
equals_read AfterNumber p place = Err (Syntax place)
equals_read (AfterName w) p place = Err (Syntax place)
equals_read (Exponent w) p place = Err (Syntax place)

abbrev pub power_read : Next → Progress → ℕ → Read
power_read (AfterName w) p place = Ok (to_next (Exponent w) p)
power_read Output p place = Err (Syntax place)
power_read Assign p place = Err (Syntax place)
power_read Factor p place = Err (Syntax place)
power_read AfterNumber p place = Err (Syntax place)
power_read (Exponent w) p place = Err (Syntax place)

abbrev pub times_read : Next → Progress → ℕ → Read
times_read AfterNumber p place = Ok (to_next Factor p)
times_read (AfterName w) p place = Ok (with_power Factor w 1 p)
times_read Output p place = Err (Syntax place)
times_read Assign p place = Err (Syntax place)
times_read Factor p place = Err (Syntax place)
times_read (Exponent w) p place = Err (Syntax place)

abbrev pub plus_read : Next → Progress → ℕ → Read
plus_read AfterNumber p place = Ok (next_term p)
plus_read (AfterName w) p place = Ok (next_term (with_power AfterNumber w 1 p))
plus_read Output p place = Err (Syntax place)
plus_read Assign p place = Err (Syntax place)
plus_read Factor p place = Err (Syntax place)
plus_read (Exponent w) p place = Err (Syntax place)

-- the end of the text
abbrev pub end_read : Next → Progress → ℕ → Result SpecTerms SpecFault
end_read AfterNumber p place = Ok (closed p.terms p.coefficient p.powers)
end_read (AfterName w) p place = Ok (closed p.terms p.coefficient (p.powers ++ (w, 1) ∷ []))
end_read Output p place = Err (Syntax place)
end_read Assign p place = Err (Syntax place)
end_read Factor p place = Err (Syntax place)
end_read (Exponent w) p place = Err (Syntax place)

module _ (l : Labelling) (k : ℕ) (mul : ℕ → ℕ → ℕ) where
  -- one token more
  abbrev pub token_read : Progress → Token → ℕ → Read
  token_read p (name n) place = name_read l p.next p n place
  token_read p (hex n) place = hex_read k mul p.next p n place
  token_read p (decimal n) place = decimal_read mul p.next p n place
  token_read p equals place = equals_read p.next p place
  token_read p power place = power_read p.next p place
  token_read p times place = times_read p.next p place
  token_read p plus place = plus_read p.next p place

-- a fault is what was said, or out of memory in its place
abbrev pub IsSaid : {A : Type 0} → Result A SpecFault → SpecFault → Type 0
IsSaid said (Syntax place) = said ≡ Err (Syntax place)
IsSaid said (UnknownWord place) = said ≡ Err (UnknownWord place)
IsSaid said (BadNumber place) = said ≡ Err (BadNumber place)
IsSaid said OutOfMemory = Unit {0}

-- what a step gives is what was said
abbrev pub IsStep : Read → SpecTerms → ℕ → List (ℕ × ℕ) → Result Next SpecFault → Type 0
IsStep said ts c ps (Ok n) = said ≡ Ok (progress n ts c ps)
IsStep said ts c ps (Err e) = IsSaid said e

-- what the end gives is what was said
abbrev pub IsEnd : Result SpecTerms SpecFault → SpecTerms → Result (Unit {0}) SpecFault → Type 0
IsEnd said ts (Ok u) = said ≡ Ok ts
IsEnd said ts (Err e) = IsSaid said e

-- what was read so far, where this may come next
abbrev pub so_far : Reading → Next → Progress
so_far reading next = progress next reading.terms.items reading.coefficient reading.powers.items

-- what a step gives, and what was read after it, is what was said
abbrev pub StepsTo : Read → Reading → Result Next SpecFault → Type 0
StepsTo said reading result = IsStep said reading.terms.items reading.coefficient reading.powers.items result

-- a fault is just what was said, and never out of memory
abbrev pub RefusesAs : Read → Result Next SpecFault → Type 0
RefusesAs said (Ok n) = Unit {0}
RefusesAs said (Err e) = said ≡ Err e
