-- The shapes of options.
use Rattle.std.proofs.Common.{◌≡◌, ◌≢◌, ◌⊎◌, ◌∙◌, ap, sym, inl, inr, refl, ℕ, suc, ◌<◌, ◌≤◌, List, [], ◌∷◌, ◌++◌, length, map, codes, Option, None, Some, arith}
use Rattle.std.specs.Prelude.{IfSome}
use Rattle.std.proofs.lemmas.List.{length-map}
use Rattle.job_words.specs.Operands.{Word}
use Rattle.job_words.specs.Options.{AreOptions, IsTermsOption, IsCyclesOption, IsTermCount, IsCycleCount}

-- which options stand, in which order
pub data Shape (limit default : ℕ) (words : List Word) (t c : ℕ) : Type 0 where
  Neither : words ≡ [] → t ≡ default → c ≡ 0 → Shape limit default words t c
  Terms : (x : Word) → words ≡ codes "--terms" ∷ x ∷ [] → IsTermCount limit x t → c ≡ 0 → Shape limit default words t c
  Cycles : (y : Word) → words ≡ codes "--cycles" ∷ y ∷ [] → t ≡ default → IsCycleCount y c → Shape limit default words t c
  TermsFirst : (x y : Word) → words ≡ codes "--terms" ∷ x ∷ codes "--cycles" ∷ y ∷ [] → IsTermCount limit x t → IsCycleCount y c → Shape limit default words t c
  CyclesFirst : (y x : Word) → words ≡ codes "--cycles" ∷ y ∷ codes "--terms" ∷ x ∷ [] → IsTermCount limit x t → IsCycleCount y c → Shape limit default words t c

-- both lists of words in either order
joined : (words a b xs ys : List Word) → (words ≡ a ++ b) ⊎ (words ≡ b ++ a) → a ≡ xs → b ≡ ys → (words ≡ xs ++ ys) ⊎ (words ≡ ys ++ xs)
joined words a b xs ys (inl e) p q = inl (e ∙ (λ i. p i ++ q i))
joined words a b xs ys (inr e) p q = inr (e ∙ (λ i. q i ++ p i))

pub shape : (limit default : ℕ) → (words : List Word) (t c : ℕ) → AreOptions limit default words t c → Shape limit default words t c
shape limit default words t c is = by is.of_terms is.of_cycles is.words_are is.terms_set is.cycles_set
  where
    two : (x y : Word) → (words ≡ codes "--terms" ∷ x ∷ codes "--cycles" ∷ y ∷ []) ⊎ (words ≡ codes "--cycles" ∷ y ∷ codes "--terms" ∷ x ∷ []) → IsTermCount limit x t → IsCycleCount y c → Shape limit default words t c
    two x y (inl e) tx cy = TermsFirst x y e tx cy
    two x y (inr e) tx cy = CyclesFirst y x e tx cy

    either : (xs : List Word) → (words ≡ xs) ⊎ (words ≡ xs) → words ≡ xs
    either xs (inl e) = e
    either xs (inr e) = e

    by : (a b : List Word) → (words ≡ a ++ b) ⊎ (words ≡ b ++ a) → IsTermsOption limit default a t → IsCyclesOption b c → Shape limit default words t c
    by a b e (inl (p, st)) (inl (q, sc)) = Neither (either [] (joined words a b [] [] e p q)) st sc
    by a b e (inr (x, p, tx)) (inl (q, sc)) = Terms x (either (codes "--terms" ∷ x ∷ []) (joined words a b (codes "--terms" ∷ x ∷ []) [] e p q)) tx sc
    by a b e (inl (p, st)) (inr (y, q, cy)) = Cycles y (either (codes "--cycles" ∷ y ∷ []) (joined words a b [] (codes "--cycles" ∷ y ∷ []) e p q)) st cy
    by a b e (inr (x, p, tx)) (inr (y, q, cy)) = two x y (joined words a b (codes "--terms" ∷ x ∷ []) (codes "--cycles" ∷ y ∷ []) e p q) tx cy

-- ---- where no option is set

-- how long options are
pub lengths : (limit default : ℕ) → (words : List Word) (t c : ℕ) → AreOptions limit default words t c → (length words ≡ 0) ⊎ (length words ≡ 2) ⊎ (length words ≡ 4)
lengths limit default words t c is = by (shape limit default words t c is)
  where
    by : Shape limit default words t c → (length words ≡ 0) ⊎ (length words ≡ 2) ⊎ (length words ≡ 4)
    by (Neither e st sc) = inl (ap (λ (ws : List Word). length ws) e)
    by (Terms x e tx sc) = inr (inl (ap (λ (ws : List Word). length ws) e))
    by (Cycles y e st cy) = inr (inl (ap (λ (ws : List Word). length ws) e))
    by (TermsFirst x y e tx cy) = inr (inr (ap (λ (ws : List Word). length ws) e))
    by (CyclesFirst y x e tx cy) = inr (inr (ap (λ (ws : List Word). length ws) e))

-- ---- options that are set

pub of_terms_alone : (limit default : ℕ) → (name number : Word) (t : ℕ) → name ≡ codes "--terms" → IsTermCount limit number t → AreOptions limit default (name ∷ number ∷ []) t 0
of_terms_alone limit default name number t e is = record { of_terms = name ∷ number ∷ []; of_cycles = []; words_are = inl refl; terms_set = inr (number, (λ i. e i ∷ number ∷ []), is); cycles_set = inl (refl, refl) }

pub of_cycles_alone : (limit default : ℕ) → (name number : Word) (c : ℕ) → name ≡ codes "--cycles" → IsCycleCount number c → AreOptions limit default (name ∷ number ∷ []) default c
of_cycles_alone limit default name number c e is = record { of_terms = []; of_cycles = name ∷ number ∷ []; words_are = inl refl; terms_set = inl (refl, refl); cycles_set = inr (number, (λ i. e i ∷ number ∷ []), is) }

pub terms_then_cycles : (limit default : ℕ) → (name x other y : Word) (t c : ℕ) → name ≡ codes "--terms" → other ≡ codes "--cycles" → IsTermCount limit x t → IsCycleCount y c → AreOptions limit default (name ∷ x ∷ other ∷ y ∷ []) t c
terms_then_cycles limit default name x other y t c e f tx cy = record { of_terms = name ∷ x ∷ []; of_cycles = other ∷ y ∷ []; words_are = inl refl; terms_set = inr (x, (λ i. e i ∷ x ∷ []), tx); cycles_set = inr (y, (λ i. f i ∷ y ∷ []), cy) }

pub cycles_then_terms : (limit default : ℕ) → (name x other y : Word) (t c : ℕ) → name ≡ codes "--cycles" → other ≡ codes "--terms" → IsTermCount limit y t → IsCycleCount x c → AreOptions limit default (name ∷ x ∷ other ∷ y ∷ []) t c
cycles_then_terms limit default name x other y t c e f ty cx = record { of_terms = other ∷ y ∷ []; of_cycles = name ∷ x ∷ []; words_are = inr refl; terms_set = inr (y, (λ i. f i ∷ y ∷ []), ty); cycles_set = inr (x, (λ i. e i ∷ x ∷ []), cx) }

-- the two numbers of two options
pub terms_first_found : (limit default : ℕ) → (name x other y : Word) (r : Option (ℕ × ℕ)) → name ≡ codes "--terms" → other ≡ codes "--cycles" → IfSome r (λ r. IsTermCount limit x r.0 × IsCycleCount y r.1) → IfSome r (λ r. AreOptions limit default (name ∷ x ∷ other ∷ y ∷ []) r.0 r.1)
terms_first_found limit default name x other y (Some r) e f is = terms_then_cycles limit default name x other y r.0 r.1 e f is.0 is.1
terms_first_found limit default name x other y None e f is = tt

pub cycles_first_found : (limit default : ℕ) → (name x other y : Word) (r : Option (ℕ × ℕ)) → name ≡ codes "--cycles" → other ≡ codes "--terms" → IfSome r (λ r. IsTermCount limit y r.0 × IsCycleCount x r.1) → IfSome r (λ r. AreOptions limit default (name ∷ x ∷ other ∷ y ∷ []) r.0 r.1)
cycles_first_found limit default name x other y (Some r) e f is = cycles_then_terms limit default name x other y r.0 r.1 e f is.0 is.1
cycles_first_found limit default name x other y None e f is = tt

-- ---- of the words of a program

-- none, and some
pub no_words : {A : Type 0} (f : A → Word) (xs : List A) → length xs < 1 → map f xs ≡ []
no_words f [] short = refl
no_words f (x ∷ xs) short = absurd (omega arith)

pub some_words : {A : Type 0} (f : A → Word) (xs : List A) → 1 ≤ length xs → map f xs ≡ [] → ⊥
some_words f [] long none = omega arith
some_words f (x ∷ xs) long none = let same : suc (length (map f xs)) ≡ 0 = ap (λ (ws : List Word). length ws) none in omega (arith, same)

-- no options
pub none_set : (limit default : ℕ) → {A : Type 0} (f : A → Word) (xs : List A) → length xs < 1 → AreOptions limit default (map f xs) default 0
none_set limit default f [] short = record { of_terms = []; of_cycles = []; words_are = inl refl; terms_set = inl (refl, refl); cycles_set = inl (refl, refl) }
none_set limit default f (x ∷ xs) short = absurd (omega arith)

-- a number of words that no options have
pub not_so_long : (limit default : ℕ) → {A : Type 0} (f : A → Word) (xs : List A) → length xs ≢ 0 → length xs ≢ 2 → length xs ≢ 4 → (t c : ℕ) → AreOptions limit default (map f xs) t c → ⊥
not_so_long limit default f xs none two four t c is = by (lengths limit default (map f xs) t c is)
  where
    same : length (map f xs) ≡ length xs
    same = length-map xs f

    by : (length (map f xs) ≡ 0) ⊎ (length (map f xs) ≡ 2) ⊎ (length (map f xs) ≡ 4) → ⊥
    by (inl e) = none (sym same ∙ e)
    by (inr (inl e)) = two (sym same ∙ e)
    by (inr (inr e)) = four (sym same ∙ e)
