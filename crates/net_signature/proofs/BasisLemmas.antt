-- What a token says of a basis.
use Rattle.std.proofs.Common.{◌≡◌, ap, sym, subst, ℕ, List, ◌∷◌, ◌++◌, get_or, arith, Err, codes}
use Rattle.std.specs.Prelude.{◌==◌}
use Rattle.std.specs.List.{slice_split, AllZip}
use Rattle.net_signature.specs.Lines.{Token}
use Rattle.net_signature.specs.Statement.{SaysElement, IsNormalOf, IsListOf}
use Rattle.net_signature.specs.Outcomes.{OrSyntax}
use Rattle.net_signature.specs.Reading.{Fits}
use Rattle.net_words.specs.declared.word.BasisText.{BasisText}
use Rattle.net_words.specs.declared.word.BasisText.TheVariants.{Poly, Normal, Elements}
use Rattle.net_signature.specs.declared.fault.SigFault.{SigFault}
use Rattle.net_signature.specs.declared.fault.SigFault.TheVariants.{Syntax, NameTwice, NoFedWord, FeedTwice, TwoOutputs, TooManyWords, NoOutput, OutOfMemory}

pub normal-none : (token : Token) → ((n : ℕ) → SaysElement token n → ⊥) → (basis : BasisText) → IsNormalOf token basis → ⊥
normal-none token none Poly is = is
normal-none token none (Normal gamma) is = none gamma is
normal-none token none (Elements list) is = is

list-none : (token : Token) → ((list : List ℕ) → AllZip SaysElement (slice_split (λ b. b == 44) token) list → ⊥) → (basis : BasisText) → IsListOf token basis → ⊥
list-none token none Poly is = is
list-none token none (Normal gamma) is = is
list-none token none (Elements list) is = none list is

abbrev pub same_list : List ℕ → List ℕ
same_list list = list

abbrev pub same_basis : BasisText → BasisText
same_basis basis = basis

pub list-err : (number : ℕ) (token : Token) (parts : List Token) (fault : SigFault) → parts ≡ slice_split (λ b. b == 44) token → Fits same_list (Err fault) (OrSyntax number (AllZip SaysElement parts)) → Fits same_basis (Err fault) (OrSyntax number (IsListOf token))
list-err number token parts (Syntax n) are fits = (fits.0, list-none token (λ list zip. let P : List Token → Type 0 = λ ps. AllZip SaysElement ps list in fits.1 list (subst P (sym are) zip)))
list-err number token parts (NameTwice n) are fits = fits
list-err number token parts (NoFedWord n) are fits = fits
list-err number token parts (FeedTwice n) are fits = fits
list-err number token parts (TwoOutputs n) are fits = fits
list-err number token parts (TooManyWords n) are fits = fits
list-err number token parts (NoOutput block) are fits = fits
list-err number token parts OutOfMemory are fits = tt

-- fronts that differ in their first byte
pub heads : (n m : ℕ) (xs ys : List ℕ) → n ∷ xs ≡ m ∷ ys → n ≡ m
heads n m xs ys e = ap (λ t. get_or t 0 0) e

pub poly_normal : (rest : Token) → codes "poly" ≡ codes "normal:" ++ rest → ⊥
poly_normal rest e = let same = heads 112 110 (codes "oly") (codes "ormal:" ++ rest) e in absurd (omega (arith, same))

pub poly_list : (rest : Token) → codes "poly" ≡ codes "list:" ++ rest → ⊥
poly_list rest e = let same = heads 112 108 (codes "oly") (codes "ist:" ++ rest) e in absurd (omega (arith, same))

pub normal_list : (rest more : Token) → codes "normal:" ++ rest ≡ codes "list:" ++ more → ⊥
normal_list rest more e = let same = heads 110 108 (codes "ormal:" ++ rest) (codes "ist:" ++ more) e in absurd (omega (arith, same))

pub behind_normal : (a b : Token) → codes "normal:" ++ a ≡ codes "normal:" ++ b → a ≡ b
behind_normal a b e = ap (λ t. drop_seven t) e
  where
    drop_seven : List ℕ → List ℕ
    drop_seven (a ∷ b ∷ c ∷ d ∷ e ∷ f ∷ g ∷ rest) = rest
    drop_seven rest = rest

pub behind_list : (a b : Token) → codes "list:" ++ a ≡ codes "list:" ++ b → a ≡ b
behind_list a b e = ap (λ t. drop_five t) e
  where
    drop_five : List ℕ → List ℕ
    drop_five (a ∷ b ∷ c ∷ d ∷ e ∷ rest) = rest
    drop_five rest = rest
