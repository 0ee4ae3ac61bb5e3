-- How far the replacement of one word has come, term by term. Source: this project's own.
use Rattle.std.specs.Prelude.{◌≡◌, ◌≢◌, ℕ, ◌≤◌, ◌+◌, List, [], Option, Result, IfOk, IfSome, length, take, slice_index}
use Rattle.std.specs.List.{AllByRecursion}
use Rattle.std.specs.List.Sorted.{IsStrictlySortedBy}
use Rattle.std.specs.Map.{keys_of}
use Rattle.poly_mixed.specs.Monomial.{Monomial, text_cmp}
use Rattle.poly_mixed.specs.Polynomial.{Polynomial, Terms, IsTerm}
use Rattle.poly_mixed.specs.Steps.{Step}
use Rattle.poly_mixed.specs.Sum.{plus}
use Rattle.stage_model.specs.PlainWord.{IsSumOf}
use Rattle.stage_model.specs.WordStage.{word_bits}
use Rattle.word_subst.specs.Prefix.{Products, AreProducts}
use Rattle.word_subst.specs.Spread.{Groups, total, all_terms, IsGroup}
use Rattle.word_subst.specs.Read.{AreTermsWithin}
use Rattle.word_subst.specs.ReadSteps.{TellsTerms}

module _ (k : ℕ) (mul : ℕ → ℕ → ℕ) (elements : List ℕ) (w : ℕ) where
  -- a term, and the products of its bits of the word
  pub record IsFollowed (t : Monomial × ℕ) (bound : ℕ) (held : Products) : Type 0 where
    pub term : IsTerm k t
    pub some : t.1 ≢ 0
    pub products : AreProducts k mul elements w bound held
    pub ranks : held.ranks ≡ word_bits k w t
    pub start : held.start ≡ slice_index t.0.exponents w

  -- the products of the bits of some term, and the sum of the first n terms, of whose stages none is over the bound
  pub record IsReadTo (terms : Terms) (bound n : ℕ) (held : Products) (sums : Groups) : Type 0 where
    pub products : AreProducts k mul elements w bound held
    pub groups : AllByRecursion (IsGroup w k) sums
    pub ordered : IsStrictlySortedBy text_cmp (keys_of sums)
    pub sum : IsSumOf k mul elements w terms n (plus text_cmp [] (all_terms w sums))
    pub small : total sums ≤ bound
    pub within : AreTermsWithin k mul elements w terms n bound

  -- where the recorder tells its pairs, it holds those of term s, counted from 0, after those of the terms before
  abbrev pub TellsAt : Terms → ℕ → Option (List Step) → Option (List Step) → Type 0
  TellsAt terms s old new = (first : Option (List Step)) → TellsTerms k mul elements w (take s terms) first old → TellsTerms k mul elements w (take (s + 1) terms) first new

  -- the sum of all terms, of whose stages none is over the bound; where the recorder tells its pairs, it holds those of the terms
  pub record IsWordRead (terms : Terms) (bound : ℕ) (old new : Option (List Step)) (ts : Terms) : Type 0 where
    pub sum : IsSumOf k mul elements w terms (length terms) ts
    pub small : length ts ≤ bound
    pub within : AreTermsWithin k mul elements w terms (length terms) bound
    pub told : TellsTerms k mul elements w terms old new

  -- so it is with the result, if there is one
  abbrev pub ReadsWord : {E : Type 0} → Terms → ℕ → Option (List Step) → Option (List Step) → Result Polynomial E → Type 0
  ReadsWord terms bound old new result = IfOk result (λ q. IsWordRead terms bound old new q.terms)

  -- so it is with the result, if there is one, and the recorder tells nothing
  abbrev pub ReadsUntold : {E : Type 0} → Terms → ℕ → Option (List Step) → Result (Option Polynomial) E → Type 0
  ReadsUntold terms bound steps result = IfOk result (λ o. IfSome o (λ q. IsWordRead terms bound steps steps q.terms))
