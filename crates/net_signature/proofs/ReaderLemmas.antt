-- The steps of a reader, one after another.
use Rattle.std.proofs.Common.{◌≡◌, inl, inr, ap, sym, refl, subst, ℕ, ◌<◌, ◌≤◌, ◌^◌, ◌-◌, List, [], ◌∷◌, length, map, get_or, take, drop, arith, Result, Ok, Err, codes}
use Rattle.std.proofs.Math.Seq.{take-length}
use Rattle.std.specs.List.{AllZip}
use Rattle.outcome.specs.Outcome.{Outcome, ◌>>=◌, Exactly, Returns}
use Rattle.outcome.specs.Steps.{with_value}
use Rattle.text_core.specs.Numbers.{IsHex}
use Rattle.net_signature.specs.Lines.{Token, Line}
use Rattle.net_signature.specs.Statement.{SaysField, SaysTower, SaysElement}
use Rattle.net_signature.specs.Outcomes.{OrSyntax, Says, Next, first_of}
use Rattle.net_signature.specs.Reading.{Fits}
use Rattle.net_signature.specs.declared.fault.SigFault.{SigFault}
use Rattle.net_signature.specs.declared.fault.SigFault.TheVariants.{Syntax, NameTwice, NoFedWord, FeedTwice, TwoOutputs, TooManyWords, NoOutput, OutOfMemory}

-- what comes of the second step, after a value of the first, comes of both
pub fits_after : {X A B : Type 0} (view : X → B) (result : Result X SigFault) (first : Outcome SigFault A) (second : A → Outcome SigFault B) (a : A) → first (Ok a) → Fits view result (second a) → Fits view result (first >>= second)
fits_after view (Ok x) first second a one fits = (a, one, fits)
fits_after view (Err (Syntax n)) first second a one fits = inr (a, one, fits)
fits_after view (Err (NameTwice n)) first second a one fits = inr (a, one, fits)
fits_after view (Err (NoFedWord n)) first second a one fits = inr (a, one, fits)
fits_after view (Err (FeedTwice n)) first second a one fits = inr (a, one, fits)
fits_after view (Err (TwoOutputs n)) first second a one fits = inr (a, one, fits)
fits_after view (Err (TooManyWords n)) first second a one fits = inr (a, one, fits)
fits_after view (Err (NoOutput block)) first second a one fits = inr (a, one, fits)
fits_after view (Err OutOfMemory) first second a one fits = tt

-- a fault of the first step is one of both
pub fits_first : {X Y A B : Type 0} (view : X → A) (view' : Y → B) (fault : SigFault) (first : Outcome SigFault A) (second : A → Outcome SigFault B) → Fits view (Err fault) first → Fits view' (Err fault) (first >>= second)
fits_first view view' (Syntax n) first second fits = inl fits
fits_first view view' (NameTwice n) first second fits = inl fits
fits_first view view' (NoFedWord n) first second fits = inl fits
fits_first view view' (FeedTwice n) first second fits = inl fits
fits_first view view' (TwoOutputs n) first second fits = inl fits
fits_first view view' (TooManyWords n) first second fits = inl fits
fits_first view view' (NoOutput block) first second fits = inl fits
fits_first view view' OutOfMemory first second fits = tt

-- what is made of a value is made of what is answered
pub fits_with : {X A B : Type 0} (f : A → B) (view : X → A) (result : Result X SigFault) (answer : Result A SigFault) → Fits view result (Returns answer) → Fits (λ x. f (view x)) result (Returns (with_value f answer))
fits_with f view (Ok x) answer is = ap (with_value f) is
fits_with f view (Err (Syntax n)) answer is = ap (with_value f) is
fits_with f view (Err (NameTwice n)) answer is = ap (with_value f) is
fits_with f view (Err (NoFedWord n)) answer is = ap (with_value f) is
fits_with f view (Err (FeedTwice n)) answer is = ap (with_value f) is
fits_with f view (Err (TwoOutputs n)) answer is = ap (with_value f) is
fits_with f view (Err (TooManyWords n)) answer is = ap (with_value f) is
fits_with f view (Err (NoOutput block)) answer is = ap (with_value f) is
fits_with f view (Err OutOfMemory) answer is = tt

-- what the next line says
pub next_ok : {X A : Type 0} (view : X → A) (result : Result X SigFault) (says : List Token → A → Type 0) (end : ℕ) (lines : List Line) (line : Line) (rest : List Line) → Ok (line, rest) ≡ first_of end lines → Fits view result (Says line says) → Fits {A = A × List Line} (λ x. (view x, rest)) result (Next end says lines)
next_ok {X} {A} view result says end lines line rest first fits =
    let pair : X → A × List Line = λ x. (view x, rest) in
    fits_after pair result (Returns (first_of end lines)) (λ f. Says f.0 says >>= (λ value. Exactly (value, f.1))) (line, rest) first (said result fits)
  where
    said : (r : Result X SigFault) → Fits view r (Says line says) → Fits {A = A × List Line} (λ x. (view x, rest)) r (Says line says >>= (λ value. Exactly (value, rest)))
    said (Ok x) fits = (view x, fits, refl)
    said (Err (Syntax n)) fits = inl fits
    said (Err (NameTwice n)) fits = inl fits
    said (Err (NoFedWord n)) fits = inl fits
    said (Err (FeedTwice n)) fits = inl fits
    said (Err (TwoOutputs n)) fits = inl fits
    said (Err (TooManyWords n)) fits = inl fits
    said (Err (NoOutput block)) fits = inl fits
    said (Err OutOfMemory) fits = tt

-- a line of two tokens
pub two_fit : {X A C : Type 0} (view : X → A) (says : List Token → A → Type 0) (f : C → Token) (xs : List C) (d : C) (number : ℕ) (result : Result X SigFault) → length xs ≡ 2 → Fits view result (OrSyntax number (says (f (get_or xs 0 d) ∷ f (get_or xs 1 d) ∷ []))) → Fits view result (OrSyntax number (says (map f xs)))
two_fit {X = X} {A = A} {C = C} view says f xs d number result long fits =
    let P : List Token → Type 0 = λ tokens. Fits view result (OrSyntax number (says tokens)) in
    subst P (sym (two xs long)) fits
  where
    two : (xs : List C) → length xs ≡ 2 → map f xs ≡ f (get_or xs 0 d) ∷ f (get_or xs 1 d) ∷ []
    two [] long = absurd (omega arith)
    two (a ∷ []) long = absurd (omega arith)
    two (a ∷ b ∷ []) long = refl
    two (a ∷ b ∷ c ∷ xs) long = absurd (omega arith)

-- a line of three tokens
pub three_only : {X A C : Type 0} (view : X → A) (says : List Token → A → Type 0) (f : C → Token) (xs : List C) (d : C) (number : ℕ) (result : Result X SigFault) → length xs ≡ 3 → Fits view result (OrSyntax number (says (f (get_or xs 0 d) ∷ f (get_or xs 1 d) ∷ f (get_or xs 2 d) ∷ []))) → Fits view result (OrSyntax number (says (map f xs)))
three_only {X = X} {A = A} {C = C} view says f xs d number result long fits =
    let P : List Token → Type 0 = λ tokens. Fits view result (OrSyntax number (says tokens)) in
    subst P (sym (three xs long)) fits
  where
    three : (xs : List C) → length xs ≡ 3 → map f xs ≡ f (get_or xs 0 d) ∷ f (get_or xs 1 d) ∷ f (get_or xs 2 d) ∷ []
    three [] long = absurd (omega arith)
    three (a ∷ []) long = absurd (omega arith)
    three (a ∷ b ∷ []) long = absurd (omega arith)
    three (a ∷ b ∷ c ∷ []) long = refl
    three (a ∷ b ∷ c ∷ e ∷ xs) long = absurd (omega arith)

-- a line of a token and those after it
pub more_fit : {X A C : Type 0} (view : X → A) (says : List Token → A → Type 0) (f : C → Token) (xs : List C) (d : C) (number : ℕ) (result : Result X SigFault) → 1 ≤ length xs → Fits view result (OrSyntax number (says (f (get_or xs 0 d) ∷ map f (take (length xs - 1) (drop 1 xs))))) → Fits view result (OrSyntax number (says (map f xs)))
more_fit {X = X} {A = A} {C = C} view says f xs d number result long fits =
    let P : List Token → Type 0 = λ tokens. Fits view result (OrSyntax number (says tokens)) in
    subst P (more xs long) fits
  where
    more : (xs : List C) → 1 ≤ length xs → f (get_or xs 0 d) ∷ map f (take (length xs - 1) (drop 1 xs)) ≡ map f xs
    more [] long = absurd (omega arith)
    more (a ∷ xs) long =
        let same : length (a ∷ xs) - 1 ≡ length xs = omega arith in
        ap (λ rest. f a ∷ map f rest) (rw same (take-length xs))

-- the number of a field's line is that of its second token
pub field_none : (keyword token : Token) → ((n : ℕ) → IsHex token n → n < 2 ^ 128 → ⊥) → (modulus : ℕ) → SaysField (keyword ∷ token ∷ []) modulus → ⊥
field_none keyword token none modulus says =
    let same : says.0 ≡ token = sym (ap (λ ts. get_or ts 1 []) says.1) in
    let P : Token → Type 0 = λ t. IsHex t modulus in
    none modulus (subst P same says.2) says.3

-- the coefficients of a tower's line are those of the tokens behind its first
pub tower_fits : {X : Type 0} (view : X → List ℕ) (number : ℕ) (keyword : Token) (numbers : List Token) (result : Result X SigFault) → keyword ≡ codes "tower" → 0 < length numbers → Fits view result (OrSyntax number (AllZip SaysElement numbers)) → Fits view result (OrSyntax number (SaysTower (keyword ∷ numbers)))
tower_fits view number keyword numbers (Ok x) key some fits = (numbers, ap (λ k. k ∷ numbers) key, some, fits)
tower_fits view number keyword numbers (Err (Syntax n)) key some fits = (
  fits.0,
  λ list says.
      let same : says.0 ≡ numbers = ap (drop 1) (sym says.1) in
      let P : List Token → Type 0 = λ ts. AllZip SaysElement ts list in
      fits.1 list (subst P same says.3),
)
tower_fits view number keyword numbers (Err (NameTwice n)) key some fits = fits
tower_fits view number keyword numbers (Err (NoFedWord n)) key some fits = fits
tower_fits view number keyword numbers (Err (FeedTwice n)) key some fits = fits
tower_fits view number keyword numbers (Err (TwoOutputs n)) key some fits = fits
tower_fits view number keyword numbers (Err (TooManyWords n)) key some fits = fits
tower_fits view number keyword numbers (Err (NoOutput block)) key some fits = fits
tower_fits view number keyword numbers (Err OutOfMemory) key some fits = tt

-- where the first says nothing, the second says nothing: a syntax fault of one is one of the other
pub syntax_moves : {X Y A B : Type 0} (view : X → A) (view' : Y → B) (line : ℕ) (says : A → Type 0) (says' : B → Type 0) (fault : SigFault) → ((b : B) → says' b → (a : A) × says a) → Fits view (Err fault) (OrSyntax line says) → Fits view' (Err fault) (OrSyntax line says')
syntax_moves view view' line says says' (Syntax n) back fits = (fits.0, λ b is. let a = back b is in fits.1 a.0 a.1)
syntax_moves view view' line says says' (NameTwice n) back fits = fits
syntax_moves view view' line says says' (NoFedWord n) back fits = fits
syntax_moves view view' line says says' (FeedTwice n) back fits = fits
syntax_moves view view' line says says' (TwoOutputs n) back fits = fits
syntax_moves view view' line says says' (TooManyWords n) back fits = fits
syntax_moves view view' line says says' (NoOutput block) back fits = fits
syntax_moves view view' line says says' OutOfMemory back fits = tt
