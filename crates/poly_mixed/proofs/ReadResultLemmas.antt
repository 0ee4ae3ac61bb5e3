-- What a call that reads a text gives.
use Rattle.std.proofs.Common.{◌≡◌, ℕ, ◌≤◌, List, Result, Ok, Err, subst}
use Rattle.std.specs.Prelude.{IfOk, IfErr}
use Rattle.outcome.specs.Outcome.{Fits}
use Rattle.poly_mixed.specs.Labels.{Labelling, AreLabels}
use Rattle.poly_mixed.specs.Polynomial.{Polynomial, Terms, IsReduced}
use Rattle.poly_mixed.specs.TextOutcome.{text_fault, TextOutcome}
use Rattle.poly_mixed.specs.private.Reading.{reading, IsSaid}
use Rattle.poly_mixed.specs.declared.fault.PolyFault.{PolyFault}
use Rattle.poly_mixed.specs.declared.fault.PolyFault.TheVariants.{Syntax, NoSuchNet, NoSuchBit, OutOfMemory}
use Rattle.poly_mixed.proofs.ReadPlaceLemmas.{MayCome}
use Rattle.poly_mixed.proofs.ReadTurnLemmas.{reading_comes}
use Rattle.poly_mixed.proofs.ReadReducedLemmas.{read_reduced}

module _ (l : Labelling) (k : ℕ) (bytes : List ℕ) (some : 1 ≤ k) (are : AreLabels l) where
  comes : (said : Result Terms PolyFault) → reading l k bytes ≡ said → MayCome l k bytes some are said
  comes said e = let P : Result Terms PolyFault → Type 0 = MayCome l k bytes some are in subst P e (reading_comes l k bytes some are)

  pub fits : (result : Result Polynomial PolyFault) → IfOk result (λ p. reading l k bytes ≡ Ok p.terms) → IfErr result (IsSaid (reading l k bytes)) → Fits text_fault (λ p. p.terms) result (TextOutcome l k bytes)
  fits (Ok p) read fault = comes (Ok p.terms) read
  fits (Err Syntax) read fault = comes (Err Syntax) fault
  fits (Err NoSuchNet) read fault = comes (Err NoSuchNet) fault
  fits (Err NoSuchBit) read fault = comes (Err NoSuchBit) fault
  fits (Err OutOfMemory) read fault = tt

  pub reduced : (result : Result Polynomial PolyFault) → IfOk result (λ p. reading l k bytes ≡ Ok p.terms) → IfOk result (λ p. IsReduced k p.terms)
  reduced (Ok p) read = read_reduced l k bytes p.terms some (comes (Ok p.terms) read)
  reduced (Err fault) read = tt
