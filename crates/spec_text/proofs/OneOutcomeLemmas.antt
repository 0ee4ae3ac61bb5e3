-- A text is one specification or has one fault.
use Rattle.std.proofs.Common.{◌≡◌, ◌∙◌, ap, sym, refl, subst, inl, inr, ◌⊎◌, ℕ, Bool, true, false, List, [], ◌∷◌, ◌++◌, Result, Ok, Err}
use Rattle.poly_mixed.specs.Labels.{Labelling}
use Rattle.spec_text.specs.declared.fault.SpecFault.{SpecFault}
use Rattle.spec_text.specs.declared.fault.SpecFault.TheVariants.{Syntax, UnknownWord, BadNumber, OutOfMemory}
use Rattle.spec_text.specs.Token.{Token, name, hex, decimal, equals, plus, times, power}
use Rattle.spec_text.specs.Tokens.{Stop, ended, stuck, plain}
use Rattle.spec_text.specs.Grammar.{IsBeginning}
use Rattle.spec_expand.specs.Specification.{SpecTerms}
use Rattle.spec_text.specs.Said.{terms_of}
use Rattle.spec_text.specs.Fault.{is_named, is_in_range, HasNoFault, AreGood, IsFaulty, IsUnfit, IsCutOff, IsRead, MayCome, SpecOutcome, IsOfText}
use Rattle.spec_text.proofs.TextTokenLemmas.{one_tokens}
use Rattle.spec_text.proofs.GrammarLemmas.{one_spec}

abbrev pub Placed : Type 0
Placed = List (Token × ℕ)

pub plain_both : (xs ys : Placed) → plain (xs ++ ys) ≡ plain xs ++ plain ys
plain_both [] ys = refl
plain_both (x ∷ xs) ys = ap (λ ts. x.0 ∷ ts) (plain_both xs ys)

-- of two places in a list one is the other, or comes before it
placed : (xs ys us vs : Placed) (x y : Token × ℕ) → xs ++ x ∷ us ≡ ys ++ y ∷ vs → ((xs ≡ ys) × (x ≡ y)) ⊎ (((zs : Placed) × (ys ≡ xs ++ x ∷ zs)) ⊎ ((zs : Placed) × (xs ≡ ys ++ y ∷ zs)))
placed [] [] us vs x y e = let heads : x ≡ y = cc in inl (refl, heads)
placed [] (b ∷ ys) us vs x y e = let heads : x ≡ b = cc in inr (inl (ys, (λ i. sym heads i ∷ ys)))
placed (a ∷ xs) [] us vs x y e = let heads : a ≡ y = cc in inr (inr (xs, (λ i. heads i ∷ xs)))
placed (a ∷ xs) (b ∷ ys) us vs x y e =
    let heads : a ≡ b = cc in
    let tails : xs ++ x ∷ us ≡ ys ++ y ∷ vs = cc in
    elim (placed xs ys us vs x y tails) [
      | inl same ↦ inl ((λ i. heads i ∷ same.0 i), same.1)
      | inr which ↦ elim which [
        | inl later ↦ inr (inl (later.0, (λ i. sym heads i ∷ later.1 i)))
        | inr earlier ↦ inr (inr (earlier.0, (λ i. heads i ∷ earlier.1 i)))
      ]
    ]

module _ (l : Labelling) (k : ℕ) (tokens : Placed) where
  -- the first token with a fault
  record IsBad (place : ℕ) (before : List Token) (t : Token) : Type 0 where
    pub faulty : IsFaulty l k tokens place before t
    pub bad : HasNoFault l k before t → ⊥

  good_before : (place : ℕ) (before : List Token) (t : Token) (xs zs : Placed) (x : Token × ℕ) (is : IsFaulty l k tokens place before t) → is.front ≡ xs ++ x ∷ zs → HasNoFault l k (plain xs) x.0
  good_before place before t xs zs x is e = is.good (plain xs) x.0 (plain zs) (is.before_is ∙ ap plain e ∙ plain_both xs (x ∷ zs))

  one_bad : (p q : ℕ) (before other : List Token) (t u : Token) → IsBad p before t → IsBad q other u → (p ≡ q) × (before ≡ other) × (t ≡ u)
  one_bad p q before other t u a b =
      elim (placed a.faulty.front b.faulty.front a.faulty.after b.faulty.after (t, p) (u, q) (sym a.faulty.at ∙ b.faulty.at)) [
        | inl same ↦ ((λ i. (same.1 i).1), (a.faulty.before_is ∙ ap plain same.0 ∙ sym b.faulty.before_is), (λ i. (same.1 i).0))
        | inr which ↦ elim which [
          | inl later ↦ (let P : List Token → Type 0 = λ ts. HasNoFault l k ts t in absurd (a.bad (subst P (sym a.faulty.before_is) (good_before q other u a.faulty.front later.0 (t, p) b.faulty later.1))))
          | inr earlier ↦ (let P : List Token → Type 0 = λ ts. HasNoFault l k ts u in absurd (b.bad (subst P (sym b.faulty.before_is) (good_before p before t b.faulty.front earlier.0 (u, q) a.faulty earlier.1))))
        ]
      ]

  -- where no token has a fault, there is no first one
  none_bad : (p : ℕ) (before : List Token) (t : Token) → AreGood l k (plain tokens) → IsBad p before t → ⊥
  none_bad p before t good a =
      let P : List Token → Type 0 = λ ts. HasNoFault l k ts t in
      a.bad (subst P (sym a.faulty.before_is) (good (plain a.faulty.front) t (plain a.faulty.after) (ap plain a.faulty.at ∙ plain_both a.faulty.front ((t, p) ∷ a.faulty.after))))

  unfit_bad : (p : ℕ) (is : IsUnfit l k tokens p) → IsBad p is.0 is.1
  unfit_bad p is = record { faulty = is.2; bad = λ n. is.3 n.fits }

  false_true : (b : Bool) → b ≡ false → b ≡ true → ⊥
  false_true b e f = let bad : true ≡ false = sym f ∙ e in cc

  unknown_bad : (p : ℕ) (before : List Token) (t : Token) → IsFaulty l k tokens p before t → is_named l before t ≡ false → IsBad p before t
  unknown_bad p before t is e = record { faulty = is; bad = λ n. false_true (is_named l before t) e n.known }

  number_bad : (p : ℕ) (before : List Token) (t : Token) → IsFaulty l k tokens p before t → is_in_range k before t ≡ false → IsBad p before t
  number_bad p before t is e = record { faulty = is; bad = λ n. false_true (is_in_range k before t) e n.in_range }

  -- a token is no name and number at once
  one_kind : (before : List Token) (t : Token) → is_named l before t ≡ false → is_in_range k before t ≡ false → ⊥
  one_kind before (name n) e f = cc
  one_kind before (hex n) e f = cc
  one_kind before (decimal n) e f = cc
  one_kind before equals e f = cc
  one_kind before plus e f = cc
  one_kind before times e f = cc
  one_kind before power e f = cc

  unfit_and_fit : (m n : ℕ) (p : IsUnfit l k tokens m) (before : List Token) (t : Token) → IsBad n before t → IsBeginning (before ++ t ∷ []) → ⊥
  unfit_and_fit m n p before t b fits =
      let same = one_bad m n p.0 before p.1 t (unfit_bad m p) b in
      let P : List Token → Type 0 = IsBeginning in
      p.3 (subst P (λ i. sym same.1 i ++ sym same.2 i ∷ []) fits)

  two_kinds : (m n : ℕ) (before other : List Token) (t u : Token) → IsBad m before t → IsBad n other u → is_named l before t ≡ false → is_in_range k other u ≡ false → ⊥
  two_kinds m n before other t u a b e f =
      let same = one_bad m n before other t u a b in
      one_kind before t e ((λ i. is_in_range k (same.1 i) (same.2 i)) ∙ f)

  cut_good : (stop : Stop) (p : ℕ) → IsCutOff l k tokens stop p → AreGood l k (plain tokens)
  cut_good (ended at) p is = is.1
  cut_good (stuck at) p is = is.1

  one_cut : (stop : Stop) (p q : ℕ) → IsCutOff l k tokens stop p → IsCutOff l k tokens stop q → p ≡ q
  one_cut (ended at) p q a b = sym a.0 ∙ b.0
  one_cut (stuck at) p q a b = sym a.0 ∙ b.0

  module _ (mul : ℕ → ℕ → ℕ) (stop : Stop) where
    read_cut : (said : SpecTerms) (p : ℕ) → IsRead l k mul tokens stop said → IsCutOff l k tokens stop p → ⊥
    read_cut said p is cut =
        let P : Stop → Type 0 = λ s. IsCutOff l k tokens s p in
        let there = subst P is.whole cut in
        there.2 is.out is.terms is.is_spec

    read_bad : (said : SpecTerms) (p : ℕ) (before : List Token) (t : Token) → IsRead l k mul tokens stop said → IsBad p before t → ⊥
    read_bad said p before t is a = none_bad p before t is.good a

    may_one : (x y : Result SpecTerms SpecFault) → MayCome l k mul tokens stop x → MayCome l k mul tokens stop y → IsOfText x → IsOfText y → x ≡ y
    may_one (Ok a) (Ok b) p q i j = ap Ok (p.said_is ∙ ap (terms_of l mul) (one_spec (plain tokens) p.out q.out p.terms q.terms p.is_spec q.is_spec).1 ∙ sym q.said_is)
    may_one (Ok a) (Err (Syntax n)) p (inl q) i j = absurd (read_bad a n q.0 q.1 p (unfit_bad n q))
    may_one (Ok a) (Err (Syntax n)) p (inr q) i j = absurd (read_cut a n p q)
    may_one (Ok a) (Err (UnknownWord n)) p q i j = absurd (read_bad a n q.0 q.1 p (unknown_bad n q.0 q.1 q.2 q.4))
    may_one (Ok a) (Err (BadNumber n)) p q i j = absurd (read_bad a n q.0 q.1 p (number_bad n q.0 q.1 q.2 q.4))
    may_one (Ok a) (Err OutOfMemory) p q i j = absurd j
    may_one (Err OutOfMemory) y p q i j = absurd i
    may_one (Err (Syntax m)) (Ok b) (inl p) q i j = absurd (read_bad b m p.0 p.1 q (unfit_bad m p))
    may_one (Err (Syntax m)) (Ok b) (inr p) q i j = absurd (read_cut b m q p)
    may_one (Err (UnknownWord m)) (Ok b) p q i j = absurd (read_bad b m p.0 p.1 q (unknown_bad m p.0 p.1 p.2 p.4))
    may_one (Err (BadNumber m)) (Ok b) p q i j = absurd (read_bad b m p.0 p.1 q (number_bad m p.0 p.1 p.2 p.4))
    may_one (Err (Syntax m)) (Err (Syntax n)) (inl p) (inl q) i j = ap (λ r. Err (Syntax r)) (one_bad m n p.0 q.0 p.1 q.1 (unfit_bad m p) (unfit_bad n q)).0
    may_one (Err (Syntax m)) (Err (Syntax n)) (inl p) (inr q) i j = absurd (none_bad m p.0 p.1 (cut_good stop n q) (unfit_bad m p))
    may_one (Err (Syntax m)) (Err (Syntax n)) (inr p) (inl q) i j = absurd (none_bad n q.0 q.1 (cut_good stop m p) (unfit_bad n q))
    may_one (Err (Syntax m)) (Err (Syntax n)) (inr p) (inr q) i j = ap (λ r. Err (Syntax r)) (one_cut stop m n p q)
    may_one (Err (Syntax m)) (Err (UnknownWord n)) (inl p) q i j = absurd (unfit_and_fit m n p q.0 q.1 (unknown_bad n q.0 q.1 q.2 q.4) q.3)
    may_one (Err (Syntax m)) (Err (UnknownWord n)) (inr p) q i j = absurd (none_bad n q.0 q.1 (cut_good stop m p) (unknown_bad n q.0 q.1 q.2 q.4))
    may_one (Err (Syntax m)) (Err (BadNumber n)) (inl p) q i j = absurd (unfit_and_fit m n p q.0 q.1 (number_bad n q.0 q.1 q.2 q.4) q.3)
    may_one (Err (Syntax m)) (Err (BadNumber n)) (inr p) q i j = absurd (none_bad n q.0 q.1 (cut_good stop m p) (number_bad n q.0 q.1 q.2 q.4))
    may_one (Err (Syntax m)) (Err OutOfMemory) p q i j = absurd j
    may_one (Err (UnknownWord m)) (Err (Syntax n)) p (inl q) i j = absurd (unfit_and_fit n m q p.0 p.1 (unknown_bad m p.0 p.1 p.2 p.4) p.3)
    may_one (Err (UnknownWord m)) (Err (Syntax n)) p (inr q) i j = absurd (none_bad m p.0 p.1 (cut_good stop n q) (unknown_bad m p.0 p.1 p.2 p.4))
    may_one (Err (BadNumber m)) (Err (Syntax n)) p (inl q) i j = absurd (unfit_and_fit n m q p.0 p.1 (number_bad m p.0 p.1 p.2 p.4) p.3)
    may_one (Err (BadNumber m)) (Err (Syntax n)) p (inr q) i j = absurd (none_bad m p.0 p.1 (cut_good stop n q) (number_bad m p.0 p.1 p.2 p.4))
    may_one (Err (UnknownWord m)) (Err (UnknownWord n)) p q i j = ap (λ r. Err (UnknownWord r)) (one_bad m n p.0 q.0 p.1 q.1 (unknown_bad m p.0 p.1 p.2 p.4) (unknown_bad n q.0 q.1 q.2 q.4)).0
    may_one (Err (BadNumber m)) (Err (BadNumber n)) p q i j = ap (λ r. Err (BadNumber r)) (one_bad m n p.0 q.0 p.1 q.1 (number_bad m p.0 p.1 p.2 p.4) (number_bad n q.0 q.1 q.2 q.4)).0
    may_one (Err (UnknownWord m)) (Err (BadNumber n)) p q i j = absurd (two_kinds m n p.0 q.0 p.1 q.1 (unknown_bad m p.0 p.1 p.2 p.4) (number_bad n q.0 q.1 q.2 q.4) p.4 q.4)
    may_one (Err (BadNumber m)) (Err (UnknownWord n)) p q i j = absurd (two_kinds n m q.0 p.0 q.1 p.1 (unknown_bad n q.0 q.1 q.2 q.4) (number_bad m p.0 p.1 p.2 p.4) q.4 p.4)
    may_one (Err (UnknownWord m)) (Err OutOfMemory) p q i j = absurd j
    may_one (Err (BadNumber m)) (Err OutOfMemory) p q i j = absurd j

pub one_outcome : (l : Labelling) (k : ℕ) (mul : ℕ → ℕ → ℕ) (bytes : List ℕ) (x y : Result SpecTerms SpecFault) → SpecOutcome l k mul bytes x → SpecOutcome l k mul bytes y → IsOfText x → IsOfText y → x ≡ y
one_outcome l k mul bytes x y p q i j =
    let same = one_tokens 0 bytes p.0 q.0 p.1 q.1 p.2 q.2 in
    let P : Placed → Type 0 = λ ts. MayCome l k mul ts p.1 x in
    let Q : Stop → Type 0 = λ s. MayCome l k mul q.0 s x in
    may_one l k q.0 mul q.1 x y (subst Q same.1 (subst P same.0 p.3)) q.3 i j
