-- What all tokens of a specification are read as.
use Rattle.std.specs.Prelude.{◌≡◌, ℕ, ◌+◌, ◌≤◌, List, [], ◌∷◌, Result, Ok, Err}
use Rattle.poly_mixed.specs.Labels.{Labelling}
use Rattle.spec_text.specs.Token.{Token}
use Rattle.spec_text.specs.Tokens.{Stop, ended, stuck}
use Rattle.spec_expand.specs.Specification.{SpecTerms}
use Rattle.spec_text.specs.declared.fault.SpecFault.{SpecFault}
use Rattle.spec_text.specs.declared.fault.SpecFault.TheVariants.{Syntax}
use Rattle.spec_text.specs.declared.reader.Next.{Next}
use Rattle.spec_text.specs.declared.reader.Next.TheVariants.{Output, Assign, Factor, AfterNumber, AfterName, Exponent}
use Rattle.spec_text.specs.private.Progress.{end_read, progress, token_read, Progress, Read}

-- nothing was read
abbrev pub start : Progress
start = progress Output [] 1 []

-- where the tokens end
abbrev pub stop_read : Progress → Stop → Result SpecTerms SpecFault
stop_read p (ended place) = end_read p.next p place
stop_read p (stuck place) = Err (Syntax place)

module _ (l : Labelling) (k : ℕ) (mul : ℕ → ℕ → ℕ) where
  -- the tokens that are left, after what was read
  abbrev pub tokens_read : Read → List (Token × ℕ) → Stop → Result SpecTerms SpecFault
  tokens_read (Err e) ts stop = Err e
  tokens_read (Ok p) [] stop = stop_read p stop
  tokens_read (Ok p) (t ∷ ts) stop = tokens_read (token_read l k mul p t.0 t.1) ts stop

-- so many powers stand in so many bytes: the first two tokens are none
abbrev pub IsShort : Next → ℕ → ℕ → Type 0
IsShort Output at n = n ≡ 0
IsShort Assign at n = (n ≡ 0) × (1 ≤ at)
IsShort Factor at n = n + 2 ≤ at
IsShort AfterNumber at n = n + 2 ≤ at
IsShort (AfterName w) at n = n + 2 ≤ at
IsShort (Exponent w) at n = n + 2 ≤ at
