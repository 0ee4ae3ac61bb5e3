-- The option `--simplify` among the others: it stands before them, between two of them, or behind.
use Rattle.std.proofs.Common.{◌≡◌, ◌≢◌, ◌⊎◌, ◌∙◌, ap, sym, inl, inr, refl, subst, ℕ, ◌+◌, Bool, true, false, List, [], ◌∷◌, ◌++◌, length, map, codes, append-nil, arith}
use Rattle.std.proofs.lemmas.List.{append_assoc, length-append, length-map}
use Rattle.job_words.proofs.OptionLemmas.{Shape, Neither, Terms, Cycles, TermsFirst, CyclesFirst, lengths, shape}
use Rattle.job_words.proofs.SpelledLemmas.{first_word, rest_of}
use Rattle.job_words.specs.Operands.{Word}
use Rattle.job_words.specs.Options.{AreCircuitOptions, AreInAnyOrder, AreInEitherOrder, AreStageOptions, IsCycleCount, IsCyclesOption, IsOption, IsSimplifyOption, IsTermCount, IsTermsOption}

abbrev pub simplify : Word
simplify = codes "--simplify"

-- ---- options with it

-- before the others
pub first_set : (name : Word) (others : List Word) (t c : ℕ) → name ≡ simplify → AreStageOptions others t c → AreCircuitOptions (name ∷ others) t c true
first_set name others t c named is = record {
  of_terms = is.of_terms;
  of_cycles = is.of_cycles;
  of_simplify = simplify ∷ [];
  words_are = inr (inr (others, (λ i. named i ∷ others), is.words_are));
  terms_set = is.terms_set;
  cycles_set = is.cycles_set;
  simplify_set = inr (refl, refl);
}

-- behind the others
at_end : (a b others : List Word) → AreInEitherOrder a b others → AreInAnyOrder a b (simplify ∷ []) (others ++ simplify ∷ [])
at_end a b others (inl e) = inl (b ++ simplify ∷ [], ap (λ (ws : List Word). ws ++ simplify ∷ []) e ∙ append_assoc a b (simplify ∷ []), inl refl)
at_end a b others (inr e) = inr (inl (a ++ simplify ∷ [], ap (λ (ws : List Word). ws ++ simplify ∷ []) e ∙ append_assoc b a (simplify ∷ []), inl refl))

at_last : (others : List Word) (t c : ℕ) → AreStageOptions others t c → AreCircuitOptions (others ++ simplify ∷ []) t c true
at_last others t c is = record {
  of_terms = is.of_terms;
  of_cycles = is.of_cycles;
  of_simplify = simplify ∷ [];
  words_are = at_end is.of_terms is.of_cycles others is.words_are;
  terms_set = is.terms_set;
  cycles_set = is.cycles_set;
  simplify_set = inr (refl, refl);
}

pub last_set : (others : List Word) (name : Word) (t c : ℕ) → name ≡ simplify → AreStageOptions others t c → AreCircuitOptions (others ++ name ∷ []) t c true
last_set others name t c named is = let P : Word → Type 0 = λ w. AreCircuitOptions (others ++ w ∷ []) t c true in subst P (sym named) (at_last others t c is)

-- it between two words and the others
abbrev pub between : List Word → List Word
between [] = []
between (a ∷ []) = a ∷ []
between (a ∷ b ∷ rest) = a ∷ b ∷ simplify ∷ rest

pub middle_set : (p q name s u : Word) (t c : ℕ) → name ≡ simplify → AreStageOptions (p ∷ q ∷ s ∷ u ∷ []) t c → AreCircuitOptions (p ∷ q ∷ name ∷ s ∷ u ∷ []) t c true
middle_set p q name s u t c named is = by (shape 262144 65536 (p ∷ q ∷ s ∷ u ∷ []) t c is)
  where
    here : (ws : List Word) → p ∷ q ∷ s ∷ u ∷ [] ≡ ws → p ∷ q ∷ name ∷ s ∷ u ∷ [] ≡ between ws
    here ws e = (λ i. p ∷ q ∷ named i ∷ s ∷ u ∷ []) ∙ ap between e

    long : (ws : List Word) → p ∷ q ∷ s ∷ u ∷ [] ≡ ws → 4 ≡ length ws
    long ws e = ap (λ (vs : List Word). length vs) e

    by : Shape 262144 65536 (p ∷ q ∷ s ∷ u ∷ []) t c → AreCircuitOptions (p ∷ q ∷ name ∷ s ∷ u ∷ []) t c true
    by (Neither e st sc) = let four = long [] e in absurd (omega (arith, four))
    by (Terms x e tx sc) = let four = long (codes "--terms" ∷ x ∷ []) e in absurd (omega (arith, four))
    by (Cycles y e st cy) = let four = long (codes "--cycles" ∷ y ∷ []) e in absurd (omega (arith, four))
    by (TermsFirst x y e tx cy) = record {
      of_terms = codes "--terms" ∷ x ∷ [];
      of_cycles = codes "--cycles" ∷ y ∷ [];
      of_simplify = simplify ∷ [];
      words_are = inl (simplify ∷ codes "--cycles" ∷ y ∷ [], here (codes "--terms" ∷ x ∷ codes "--cycles" ∷ y ∷ []) e, inr refl);
      terms_set = inr (x, refl, tx);
      cycles_set = inr (y, refl, cy);
      simplify_set = inr (refl, refl);
    }
    by (CyclesFirst y x e tx cy) = record {
      of_terms = codes "--terms" ∷ x ∷ [];
      of_cycles = codes "--cycles" ∷ y ∷ [];
      of_simplify = simplify ∷ [];
      words_are = inr (inl (simplify ∷ codes "--terms" ∷ x ∷ [], here (codes "--cycles" ∷ y ∷ codes "--terms" ∷ x ∷ []) e, inr refl));
      terms_set = inr (x, refl, tx);
      cycles_set = inr (y, refl, cy);
      simplify_set = inr (refl, refl);
    }

-- and without it
pub none_asked : (words : List Word) (t c : ℕ) → AreStageOptions words t c → AreCircuitOptions words t c false
none_asked words t c is = record {
  of_terms = is.of_terms;
  of_cycles = is.of_cycles;
  of_simplify = [];
  words_are = inr (inr (words, refl, is.words_are));
  terms_set = is.terms_set;
  cycles_set = is.cycles_set;
  simplify_set = inl (refl, refl);
}

pub no_options : AreStageOptions [] 65536 0
no_options = record { of_terms = []; of_cycles = []; words_are = inl refl; terms_set = inl (refl, refl); cycles_set = inl (refl, refl) }

-- ---- the others, without it

without : (a b words : List Word) → AreInAnyOrder a b [] words → AreInEitherOrder a b words
without a b words (inl (rest, e, inl o)) = inl (e ∙ ap (λ (ws : List Word). a ++ ws) (o ∙ append-nil b))
without a b words (inl (rest, e, inr o)) = inl (e ∙ ap (λ (ws : List Word). a ++ ws) o)
without a b words (inr (inl (rest, e, inl o))) = inr (e ∙ ap (λ (ws : List Word). b ++ ws) (o ∙ append-nil a))
without a b words (inr (inl (rest, e, inr o))) = inr (e ∙ ap (λ (ws : List Word). b ++ ws) o)
without a b words (inr (inr (rest, e, o))) = let P : List Word → Type 0 = AreInEitherOrder a b in subst P (sym e) o

pub others_alone : (words : List Word) (t c : ℕ) → AreCircuitOptions words t c false → AreStageOptions words t c
others_alone words t c is = by is.simplify_set
  where
    by : IsSimplifyOption is.of_simplify false → AreStageOptions words t c
    by (inl (e, no_one)) =
        let P : List Word → Type 0 = λ ws. AreInAnyOrder is.of_terms is.of_cycles ws words in
        record { of_terms = is.of_terms; of_cycles = is.of_cycles; words_are = without is.of_terms is.of_cycles words (subst P e is.words_are); terms_set = is.terms_set; cycles_set = is.cycles_set }
    by (inr (e, same)) = absurd (cc)

-- it stands behind whole options, and the other words are those of the other options
pub record Stands (words : List Word) (t c : ℕ) : Type 0 where
  pub before : List Word
  pub behind : List Word
  pub words_are : words ≡ before ++ simplify ∷ behind
  pub whole : (length before ≡ 0) ⊎ (length before ≡ 2) ⊎ (length before ≡ 4)
  pub others : AreStageOptions (before ++ behind) t c

-- an option has no words or two
option_long : (name : Word) (IsNumber : Word → ℕ → Type 0) (default : ℕ) (words : List Word) (n : ℕ) → IsOption name IsNumber default words n → (length words ≡ 0) ⊎ (length words ≡ 2)
option_long name IsNumber default words n (inl (e, set)) = inl (ap (λ (ws : List Word). length ws) e)
option_long name IsNumber default words n (inr (x, e, set)) = inr (ap (λ (ws : List Word). length ws) e)

both_long : (a b : List Word) → (length a ≡ 0) ⊎ (length a ≡ 2) → (length b ≡ 0) ⊎ (length b ≡ 2) → (length (a ++ b) ≡ 0) ⊎ (length (a ++ b) ≡ 2) ⊎ (length (a ++ b) ≡ 4)
both_long a b (inl x) (inl y) = let both = length-append a b in inl (omega (arith, both, x, y))
both_long a b (inl x) (inr y) = let both = length-append a b in inr (inl (omega (arith, both, x, y)))
both_long a b (inr x) (inl y) = let both = length-append a b in inr (inl (omega (arith, both, x, y)))
both_long a b (inr x) (inr y) = let both = length-append a b in inr (inr (omega (arith, both, x, y)))

one_long : (a : List Word) → (length a ≡ 0) ⊎ (length a ≡ 2) → (length a ≡ 0) ⊎ (length a ≡ 2) ⊎ (length a ≡ 4)
one_long a (inl x) = inl x
one_long a (inr x) = inr (inl x)

module _ (a b words : List Word) (t c : ℕ) (terms : IsTermsOption 262144 65536 a t) (cycles : IsCyclesOption b c) where
  options_of : (ws : List Word) → AreInEitherOrder a b ws → AreStageOptions ws t c
  options_of ws e = record { of_terms = a; of_cycles = b; words_are = e; terms_set = terms; cycles_set = cycles }

  long_a : (length a ≡ 0) ⊎ (length a ≡ 2)
  long_a = option_long (codes "--terms") (IsTermCount 262144) 65536 a t terms

  long_b : (length b ≡ 0) ⊎ (length b ≡ 2)
  long_b = option_long (codes "--cycles") IsCycleCount 0 b c cycles

  standing : AreInAnyOrder a b (simplify ∷ []) words → Stands words t c
  standing (inl (rest, e, inl o)) = record {
    before = a ++ b;
    behind = [];
    words_are = e ∙ (ap (λ (ws : List Word). a ++ ws) o ∙ sym (append_assoc a b (simplify ∷ [])));
    whole = both_long a b long_a long_b;
    others = options_of ((a ++ b) ++ []) (inl (append-nil (a ++ b)));
  }
  standing (inl (rest, e, inr o)) = record { before = a; behind = b; words_are = e ∙ ap (λ (ws : List Word). a ++ ws) o; whole = one_long a long_a; others = options_of (a ++ b) (inl refl) }
  standing (inr (inl (rest, e, inl o))) = record {
    before = b ++ a;
    behind = [];
    words_are = e ∙ (ap (λ (ws : List Word). b ++ ws) o ∙ sym (append_assoc b a (simplify ∷ [])));
    whole = both_long b a long_b long_a;
    others = options_of ((b ++ a) ++ []) (inr (append-nil (b ++ a)));
  }
  standing (inr (inl (rest, e, inr o))) = record { before = b; behind = a; words_are = e ∙ ap (λ (ws : List Word). b ++ ws) o; whole = one_long b long_b; others = options_of (b ++ a) (inr refl) }
  standing (inr (inr (rest, e, o))) = record { before = []; behind = rest; words_are = e; whole = inl refl; others = options_of rest o }

pub stands : (words : List Word) (t c : ℕ) → AreCircuitOptions words t c true → Stands words t c
stands words t c is = by is.simplify_set
  where
    by : IsSimplifyOption is.of_simplify true → Stands words t c
    by (inl (e, same)) = absurd (cc)
    by (inr (e, same)) =
        let P : List Word → Type 0 = λ ws. AreInAnyOrder is.of_terms is.of_cycles ws words in
        standing is.of_terms is.of_cycles words t c is.terms_set is.cycles_set (subst P e is.words_are)

-- ---- where it does not stand

-- with it there is an odd number of words
pub odd : (words : List Word) (t c : ℕ) → AreCircuitOptions words t c true → (length words ≡ 1) ⊎ (length words ≡ 3) ⊎ (length words ≡ 5)
odd words t c is = by (stands words t c is)
  where
    by : Stands words t c → (length words ≡ 1) ⊎ (length words ≡ 3) ⊎ (length words ≡ 5)
    by s = many (lengths 262144 65536 (s.before ++ s.behind) t c s.others)
      where
        one_more : length words ≡ length (s.before ++ s.behind) + 1
        one_more = let all = ap (λ (ws : List Word). length ws) s.words_are ∙ length-append s.before (simplify ∷ s.behind) in let others = length-append s.before s.behind in omega (arith, all, others)

        many : (length (s.before ++ s.behind) ≡ 0) ⊎ (length (s.before ++ s.behind) ≡ 2) ⊎ (length (s.before ++ s.behind) ≡ 4) → (length words ≡ 1) ⊎ (length words ≡ 3) ⊎ (length words ≡ 5)
        many (inl e) = let more = one_more in inl (omega (arith, e, more))
        many (inr (inl e)) = let more = one_more in inr (inl (omega (arith, e, more)))
        many (inr (inr e)) = let more = one_more in inr (inr (omega (arith, e, more)))

pub not_odd : {A : Type 0} (f : A → Word) (xs : List A) → length xs ≢ 1 → length xs ≢ 3 → length xs ≢ 5 → (t c : ℕ) → AreCircuitOptions (map f xs) t c true → ⊥
not_odd f xs one three five t c is = by (odd (map f xs) t c is)
  where
    same : length (map f xs) ≡ length xs
    same = length-map xs f

    by : (length (map f xs) ≡ 1) ⊎ (length (map f xs) ≡ 3) ⊎ (length (map f xs) ≡ 5) → ⊥
    by (inl e) = one (sym same ∙ e)
    by (inr (inl e)) = three (sym same ∙ e)
    by (inr (inr e)) = five (sym same ∙ e)

-- the third letter of a word
letter : Word → ℕ
letter (a ∷ b ∷ c ∷ rest) = c
letter (a ∷ b ∷ []) = 0
letter (a ∷ []) = 0
letter [] = 0

-- no other option has its name
module _ (p : Word) (rest : List Word) (t c : ℕ) where
  pub no_first : p ≡ simplify → AreStageOptions (p ∷ rest) t c → ⊥
  unfolding letter
  no_first named is = by (shape 262144 65536 (p ∷ rest) t c is)
    where
      told : (ws : List Word) → p ∷ rest ≡ ws → 115 ≡ letter (first_word ws)
      told ws e = ap letter (sym named) ∙ ap (λ (vs : List Word). letter (first_word vs)) e

      by : Shape 262144 65536 (p ∷ rest) t c → ⊥
      by (Neither e st sc) = let s = told [] e in omega (arith, s)
      by (Terms x e tx sc) = let s = told (codes "--terms" ∷ x ∷ []) e in omega (arith, s)
      by (Cycles y e st cy) = let s = told (codes "--cycles" ∷ y ∷ []) e in omega (arith, s)
      by (TermsFirst x y e tx cy) = let s = told (codes "--terms" ∷ x ∷ codes "--cycles" ∷ y ∷ []) e in omega (arith, s)
      by (CyclesFirst y x e tx cy) = let s = told (codes "--cycles" ∷ y ∷ codes "--terms" ∷ x ∷ []) e in omega (arith, s)

module _ (p q r : Word) (rest : List Word) (t c : ℕ) where
  pub no_third : r ≡ simplify → AreStageOptions (p ∷ q ∷ r ∷ rest) t c → ⊥
  unfolding letter
  no_third named is = by (shape 262144 65536 (p ∷ q ∷ r ∷ rest) t c is)
    where
      told : (ws : List Word) → p ∷ q ∷ r ∷ rest ≡ ws → 115 ≡ letter (first_word (rest_of (rest_of ws)))
      told ws e = ap letter (sym named) ∙ ap (λ (vs : List Word). letter (first_word (rest_of (rest_of vs)))) e

      by : Shape 262144 65536 (p ∷ q ∷ r ∷ rest) t c → ⊥
      by (Neither e st sc) = let s = told [] e in omega (arith, s)
      by (Terms x e tx sc) = let s = told (codes "--terms" ∷ x ∷ []) e in omega (arith, s)
      by (Cycles y e st cy) = let s = told (codes "--cycles" ∷ y ∷ []) e in omega (arith, s)
      by (TermsFirst x y e tx cy) = let s = told (codes "--terms" ∷ x ∷ codes "--cycles" ∷ y ∷ []) e in omega (arith, s)
      by (CyclesFirst y x e tx cy) = let s = told (codes "--cycles" ∷ y ∷ codes "--terms" ∷ x ∷ []) e in omega (arith, s)

nothing_there : (before behind : List Word) → [] ≡ before ++ simplify ∷ behind → ⊥
nothing_there [] behind e = absurd (cc)
nothing_there (w ∷ ws) behind e = absurd (cc)

-- three words
module _ (p q r : Word) (t c : ℕ) (first : p ≡ simplify → AreStageOptions (q ∷ r ∷ []) t c → ⊥) (last : r ≡ simplify → AreStageOptions (p ∷ q ∷ []) t c → ⊥) where
  three_by : (before behind : List Word) → p ∷ q ∷ r ∷ [] ≡ before ++ simplify ∷ behind → (length before ≡ 0) ⊎ (length before ≡ 2) ⊎ (length before ≡ 4) → AreStageOptions (before ++ behind) t c → ⊥
  three_by [] behind e whole are = let P : List Word → Type 0 = λ ws. AreStageOptions ws t c in first (ap first_word e) (subst P (sym (ap rest_of e)) are)
  three_by (w ∷ []) behind e (inl long) are = omega (arith, long)
  three_by (w ∷ []) behind e (inr (inl long)) are = omega (arith, long)
  three_by (w ∷ []) behind e (inr (inr long)) are = omega (arith, long)
  three_by (w ∷ x ∷ []) behind e whole are =
      let P : List Word → Type 0 = λ ws. AreStageOptions ws t c in
      let same : w ∷ x ∷ behind ≡ p ∷ q ∷ [] = ap (λ (ws : List Word). first_word ws ∷ first_word (rest_of ws) ∷ rest_of (rest_of (rest_of ws))) (sym e) in
      last (ap (λ (ws : List Word). first_word (rest_of (rest_of ws))) e) (subst P same are)
  three_by (w ∷ x ∷ y ∷ ws) behind e whole are = nothing_there ws behind (ap (λ (ws : List Word). rest_of (rest_of (rest_of ws))) e)

  pub three_not : AreCircuitOptions (p ∷ q ∷ r ∷ []) t c true → ⊥
  three_not is = let s = stands (p ∷ q ∷ r ∷ []) t c is in three_by s.before s.behind s.words_are s.whole s.others

-- five words
module _ (p q r s u : Word) (t c : ℕ) (first : p ≡ simplify → AreStageOptions (q ∷ r ∷ s ∷ u ∷ []) t c → ⊥) (middle : r ≡ simplify → AreStageOptions (p ∷ q ∷ s ∷ u ∷ []) t c → ⊥) (last : u ≡ simplify → AreStageOptions (p ∷ q ∷ r ∷ s ∷ []) t c → ⊥) where
  five_by : (before behind : List Word) → p ∷ q ∷ r ∷ s ∷ u ∷ [] ≡ before ++ simplify ∷ behind → (length before ≡ 0) ⊎ (length before ≡ 2) ⊎ (length before ≡ 4) → AreStageOptions (before ++ behind) t c → ⊥
  five_by [] behind e whole are = let P : List Word → Type 0 = λ ws. AreStageOptions ws t c in first (ap first_word e) (subst P (sym (ap rest_of e)) are)
  five_by (w ∷ []) behind e (inl long) are = omega (arith, long)
  five_by (w ∷ []) behind e (inr (inl long)) are = omega (arith, long)
  five_by (w ∷ []) behind e (inr (inr long)) are = omega (arith, long)
  five_by (w ∷ x ∷ []) behind e whole are =
      let P : List Word → Type 0 = λ ws. AreStageOptions ws t c in
      let same : w ∷ x ∷ behind ≡ p ∷ q ∷ s ∷ u ∷ [] = ap (λ (ws : List Word). first_word ws ∷ first_word (rest_of ws) ∷ rest_of (rest_of (rest_of ws))) (sym e) in
      middle (ap (λ (ws : List Word). first_word (rest_of (rest_of ws))) e) (subst P same are)
  five_by (w ∷ x ∷ y ∷ []) behind e (inl long) are = omega (arith, long)
  five_by (w ∷ x ∷ y ∷ []) behind e (inr (inl long)) are = omega (arith, long)
  five_by (w ∷ x ∷ y ∷ []) behind e (inr (inr long)) are = omega (arith, long)
  five_by (w ∷ x ∷ y ∷ z ∷ []) behind e whole are =
      let P : List Word → Type 0 = λ ws. AreStageOptions ws t c in
      let same : w ∷ x ∷ y ∷ z ∷ behind ≡ p ∷ q ∷ r ∷ s ∷ [] = ap (λ (ws : List Word). first_word ws ∷ first_word (rest_of ws) ∷ first_word (rest_of (rest_of ws)) ∷ first_word (rest_of (rest_of (rest_of ws))) ∷ rest_of (rest_of (rest_of (rest_of (rest_of ws))))) (sym e) in
      last (ap (λ (ws : List Word). first_word (rest_of (rest_of (rest_of (rest_of ws))))) e) (subst P same are)
  five_by (w ∷ x ∷ y ∷ z ∷ v ∷ ws) behind e whole are = nothing_there ws behind (ap (λ (ws : List Word). rest_of (rest_of (rest_of (rest_of (rest_of ws))))) e)

  pub five_not : AreCircuitOptions (p ∷ q ∷ r ∷ s ∷ u ∷ []) t c true → ⊥
  five_not is = let s' = stands (p ∷ q ∷ r ∷ s ∷ u ∷ []) t c is in five_by s'.before s'.behind s'.words_are s'.whole s'.others

-- ---- neither with it nor without

pub neither : (words : List Word) → ((t c : ℕ) → AreStageOptions words t c → ⊥) → ((t c : ℕ) → AreCircuitOptions words t c true → ⊥) → (t c : ℕ) (simple : Bool) → AreCircuitOptions words t c simple → ⊥
neither words without_it with_it t c true is = with_it t c is
neither words without_it with_it t c false is = without_it t c (others_alone words t c is)
