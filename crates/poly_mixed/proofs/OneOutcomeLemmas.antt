-- A text is one polynomial or has one fault.
use Rattle.std.proofs.Common.{◌≡◌, ◌⊎◌, ◌∙◌, ap, sym, refl, subst, inl, inr, ℕ, List, [], ◌∷◌, ◌++◌, Some, None, Result, Ok, Err}
use Rattle.std.proofs.lemmas.List.{append_assoc}
use Rattle.std.specs.List.{AllByRecursion}
use Rattle.lists.specs.laws.OptionLaws.{same_some as some_is}
use Rattle.poly_mixed.specs.Labels.{Labelling}
use Rattle.poly_mixed.specs.Polynomial.{Terms}
use Rattle.text_core.specs.Scan.{skip}
use Rattle.poly_mixed.specs.Token.{Token, Front, token_front, AreFront}
use Rattle.poly_mixed.specs.Grammar.{Part, IsPolynomial, IsBeginning}
use Rattle.poly_mixed.specs.Said.{sum_of}
use Rattle.poly_mixed.specs.TextOutcome.{TextFault, name_fault, IsSoFar, IsRefusedAt, IsRefused, IsRead, TextOutcome}
use Rattle.poly_mixed.proofs.MachineLemmas.{one_polynomial}

-- the second tokens go on where the first end
abbrev Goes : List Token → List ℕ → List Token → Type 0
Goes xs rest ys = (t : Token) × (after : List ℕ) × (more : List Token) × (ys ≡ xs ++ t ∷ more) × (token_front (skip rest) ≡ Some (t, after))

fronts : (bytes : List ℕ) (xs ys : List Token) (p q : List ℕ) → AreFront bytes xs p → AreFront bytes ys q → ((xs ≡ ys) × (p ≡ q)) ⊎ (Goes xs p ys ⊎ Goes ys q xs)
fronts bytes [] [] p q a b = inl (refl, a ∙ sym b)
fronts bytes [] (y ∷ ys) p q a b = inr (inl (y, b.0, ys, refl, ap (λ (bs : List ℕ). token_front (skip bs)) a ∙ b.1))
fronts bytes (x ∷ xs) [] p q a b = inr (inr (x, a.0, xs, refl, ap (λ (bs : List ℕ). token_front (skip bs)) b ∙ a.1))
fronts bytes (x ∷ xs) (y ∷ ys) p q a b =
    let both : (x, a.0) ≡ (y, b.0) = some_is (x, a.0) (y, b.0) (sym a.1 ∙ b.1) in
    let head : x ≡ y = (λ i. (both i).0) in
    let P : List ℕ → Type 0 = λ bs. AreFront bs xs p in
    elim (fronts b.0 xs ys p q (subst P (λ i. (both i).1) a.2) b.2) [
      | inl same ↦ inl ((λ i. head i ∷ same.0 i), same.1)
      | inr which ↦ elim which [
        | inl later ↦ inr (inl (later.0, later.1, later.2, (λ i. sym head i ∷ later.3 i), later.4))
        | inr earlier ↦ inr (inr (earlier.0, earlier.1, earlier.2, (λ i. head i ∷ earlier.3 i), earlier.4))
      ]
    ]

-- no token stands where nothing is left
none_left : (rest : List ℕ) (x : Token × List ℕ) → skip rest ≡ [] → token_front (skip rest) ≡ Some x → ⊥
none_left rest x none e = let bad : None ≡ Some x = sym (ap token_front none) ∙ e in absurd (cc)

shorter : (k : ℕ) (xs : List Token) (t : Token) (more : List Token) → IsBeginning k (xs ++ t ∷ more) → IsBeginning k (xs ++ t ∷ [])
shorter k xs t more is =
    let P : List Token → Type 0 = λ ts. IsPolynomial k ts is.1 in
    (more ++ is.0, is.1, subst P (append_assoc xs (t ∷ more) is.0 ∙ sym (append_assoc xs (t ∷ []) (more ++ is.0))) is.2)

at_place : (P : Token → Type 0) (xs : List Token) (t : Token) (more : List Token) → AllByRecursion P (xs ++ t ∷ more) → P t
at_place P [] t more all = all.0
at_place P (x ∷ xs) t more all = at_place P xs t more all.1

module _ (l : Labelling) (k : ℕ) (bytes : List ℕ) where
  -- a token that others stand after has no fault
  goes_on : (xs ys : List Token) (p q : List ℕ) (fault : TextFault) → IsSoFar l k bytes ys q → Goes xs p ys → IsRefusedAt l k xs (skip p) (token_front (skip p)) fault → ⊥
  goes_on xs ys p q fault so_far later refused =
      let P : Front → Type 0 = λ f. IsRefusedAt l k xs (skip p) f fault in
      let B : List Token → Type 0 = λ ts. IsBeginning k ts in
      let N : List Token → Type 0 = λ ts. AllByRecursion (λ t. name_fault l t ≡ None) ts in
      elim (subst P later.4 refused) [
        | inl unfit ↦ unfit.1 (shorter k xs later.0 later.2 (subst B later.3 so_far.fits))
        | inr unnamed ↦
            let known : name_fault l later.0 ≡ None = at_place (λ t. name_fault l t ≡ None) xs later.0 later.2 (subst N later.3 so_far.known) in
            let bad : None ≡ Some fault = sym known ∙ unnamed.1 in
            absurd (cc)
      ]

  same_fault : (xs : List Token) (left : List ℕ) (front : Front) (f g : TextFault) → IsRefusedAt l k xs left front f → IsRefusedAt l k xs left front g → f ≡ g
  same_fault xs left None f g a b = a.0 ∙ sym b.0
  same_fault xs left (Some (t, after)) f g (inl a) (inl b) = a.0 ∙ sym b.0
  same_fault xs left (Some (t, after)) f g (inl a) (inr b) = absurd (a.1 b.0)
  same_fault xs left (Some (t, after)) f g (inr a) (inl b) = absurd (b.1 a.0)
  same_fault xs left (Some (t, after)) f g (inr a) (inr b) = some_is f g (sym a.1 ∙ b.1)

  no_end : (xs : List Token) (left : List ℕ) (front : Front) (terms : List (List Part)) (fault : TextFault) → left ≡ [] → front ≡ None → IsPolynomial k xs terms → IsRefusedAt l k xs left front fault → ⊥
  no_end xs left front terms fault none e grammar refused =
      let P : Front → Type 0 = λ f. IsRefusedAt l k xs left f fault in
      (subst P e refused).1 none terms grammar

  read_refused : (said : Terms) (fault : TextFault) → IsRead l k bytes said → IsRefused l k bytes fault → ⊥
  read_refused said fault a b =
      elim (fronts bytes a.tokens b.before a.rest b.rest a.so_far.front b.so_far.front) [
        | inl same ↦
            let none : skip b.rest ≡ [] = ap skip (sym same.1) ∙ a.whole in
            let P : List Token → Type 0 = λ ts. IsPolynomial k ts a.terms in
            no_end b.before (skip b.rest) (token_front (skip b.rest)) a.terms fault none (ap token_front none) (subst P same.0 a.grammar) b.refused
        | inr which ↦ elim which [
          | inl later ↦ none_left a.rest (later.0, later.1) a.whole later.4
          | inr earlier ↦ goes_on b.before a.tokens b.rest a.rest fault a.so_far earlier b.refused
        ]
      ]

  pub one_outcome : (x y : Result Terms TextFault) → TextOutcome l k bytes x → TextOutcome l k bytes y → x ≡ y
  one_outcome (Ok said) (Ok other) a b =
      elim (fronts bytes a.tokens b.tokens a.rest b.rest a.so_far.front b.so_far.front) [
        | inl same ↦
            let P : List Token → Type 0 = λ ts. IsPolynomial k ts a.terms in
            ap Ok (a.said_is ∙ ap (sum_of l []) (one_polynomial k b.tokens a.terms b.terms (subst P same.0 a.grammar) b.grammar) ∙ sym b.said_is)
        | inr which ↦ elim which [
          | inl later ↦ absurd (none_left a.rest (later.0, later.1) a.whole later.4)
          | inr earlier ↦ absurd (none_left b.rest (earlier.0, earlier.1) b.whole earlier.4)
        ]
      ]
  one_outcome (Ok said) (Err fault) a b = absurd (read_refused said fault a b)
  one_outcome (Err fault) (Ok said) a b = absurd (read_refused said fault b a)
  one_outcome (Err fault) (Err other) a b =
      elim (fronts bytes a.before b.before a.rest b.rest a.so_far.front b.so_far.front) [
        | inl same ↦
            let P : List Token → Type 0 = λ ts. IsRefusedAt l k ts (skip a.rest) (token_front (skip a.rest)) fault in
            let Q : List ℕ → Type 0 = λ bs. IsRefusedAt l k b.before (skip bs) (token_front (skip bs)) fault in
            ap Err (same_fault b.before (skip b.rest) (token_front (skip b.rest)) fault other (subst Q same.1 (subst P same.0 a.refused)) b.refused)
        | inr which ↦ elim which [
          | inl later ↦ absurd (goes_on a.before b.before a.rest b.rest fault b.so_far later a.refused)
          | inr earlier ↦ absurd (goes_on b.before a.before b.rest a.rest other a.so_far earlier b.refused)
        ]
      ]
