-- What the reader of a text keeps, as progress. Source: this project's own.
use Rattle.std.specs.Prelude.{◌≡◌, ℕ, true, false, List, Result, Ok, Err}
use denote.Ref.{Bor}
use Rattle.poly_mixed.specs.Monomial.{Monomial}
use Rattle.poly_mixed.specs.Polynomial.{Terms}
use Rattle.poly_mixed.specs.Said.{one}
use Rattle.poly_mixed.specs.private.Reading.{Scanned, Progress, done, more, IsSaid}
use Rattle.poly_mixed.specs.declared.fault.PolyFault.{PolyFault}
use Rattle.poly_mixed.specs.declared.read.Next.{Next}
use Rattle.poly_mixed.specs.declared.read.Next.TheVariants.{Done, Term, Factor}

abbrev pub progress : Next → Terms → ℕ → Monomial → Progress
progress Done sum c m = done sum
progress (Term rest) sum c m = more true sum c m rest.now
progress (Factor rest) sum c m = more false sum c m rest.now

abbrev pub IsStep : Result Progress PolyFault → Terms → ℕ → Monomial → Result Next PolyFault → Type 0
IsStep said sum c m (Ok next) = said ≡ Ok (progress next sum c m)
IsStep said sum c m (Err e) = IsSaid said e

abbrev pub IsAdded : Scanned Monomial → Monomial → Result (Bor (List ℕ)) PolyFault → Type 0
IsAdded said m (Ok rest) = said ≡ Ok (m, rest.now)
IsAdded said m (Err e) = IsSaid said e

-- a fault is just what was said, and never out of memory
abbrev pub RefusesAs : {A B : Type 0} → Result A PolyFault → Result B PolyFault → Type 0
RefusesAs said (Ok value) = Unit {0}
RefusesAs said (Err e) = said ≡ Err e

-- where a term is to come, the one that is read is new
abbrev pub IsFresh : Next → ℕ → Monomial → Type 0
IsFresh Done c m = Unit {0}
IsFresh (Term rest) c m = (c ≡ 1) × (m ≡ one)
IsFresh (Factor rest) c m = Unit {0}

abbrev pub IsFreshAfter : Result Next PolyFault → ℕ → Monomial → Type 0
IsFreshAfter (Ok next) c m = IsFresh next c m
IsFreshAfter (Err e) c m = Unit {0}
