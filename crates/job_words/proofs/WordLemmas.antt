-- The bytes of the first words of a list.
use Rattle.std.proofs.Common.{◌≡◌, ℕ, ◌≤◌, ◌<◌, List, [], ◌∷◌, length, map, get_or, drop, take, ap, sym, ◌∙◌, ◌-◌, arith}
use Rattle.std.proofs.lemmas.List.{take_all, length-drop}

-- the whole of what is left after k elements
rest_whole : {A : Type 0} (k : ℕ) (xs : List A) → drop k xs ≡ take (length xs - k) (drop k xs)
rest_whole k xs = let long = length-drop k xs in sym (take_all (length xs - k) (drop k xs) (omega (arith, long)))

two_more : {A : Type 0} (f : A → List ℕ) (xs : List A) (a b : A) → 2 ≤ length xs → a ≡ get_or xs 0 a → b ≡ get_or xs 1 b → map f xs ≡ f a ∷ f b ∷ map f (drop 2 xs)
two_more f [] a b long x y = absurd (omega arith)
two_more f (p ∷ []) a b long x y = absurd (omega arith)
two_more f (p ∷ q ∷ xs) a b long x y = (λ i. f (sym x i) ∷ f (sym y i) ∷ map f xs)

three_more : {A : Type 0} (f : A → List ℕ) (xs : List A) (a b c : A) → 3 ≤ length xs → a ≡ get_or xs 0 a → b ≡ get_or xs 1 b → c ≡ get_or xs 2 c → map f xs ≡ f a ∷ f b ∷ f c ∷ map f (drop 3 xs)
three_more f [] a b c long x y z = absurd (omega arith)
three_more f (p ∷ []) a b c long x y z = absurd (omega arith)
three_more f (p ∷ q ∷ []) a b c long x y z = absurd (omega arith)
three_more f (p ∷ q ∷ r ∷ xs) a b c long x y z = (λ i. f (sym x i) ∷ f (sym y i) ∷ f (sym z i) ∷ map f xs)

pub two_first : {A : Type 0} (f : A → List ℕ) (xs : List A) (a b : A) → 2 ≤ length xs → a ≡ get_or xs 0 a → b ≡ get_or xs 1 b → map f xs ≡ f a ∷ f b ∷ map f (take (length xs - 2) (drop 2 xs))
two_first f xs a b long x y = two_more f xs a b long x y ∙ ap (λ ys. f a ∷ f b ∷ map f ys) (rest_whole 2 xs)

pub three_first : {A : Type 0} (f : A → List ℕ) (xs : List A) (a b c : A) → 3 ≤ length xs → a ≡ get_or xs 0 a → b ≡ get_or xs 1 b → c ≡ get_or xs 2 c → map f xs ≡ f a ∷ f b ∷ f c ∷ map f (take (length xs - 3) (drop 3 xs))
three_first f xs a b c long x y z = three_more f xs a b c long x y z ∙ ap (λ ys. f a ∷ f b ∷ f c ∷ map f ys) (rest_whole 3 xs)

pub two_whole : {A : Type 0} (f : A → List ℕ) (xs : List A) (a b : A) → 2 ≤ length xs → length xs < 3 → a ≡ get_or xs 0 a → b ≡ get_or xs 1 b → map f xs ≡ f a ∷ f b ∷ []
two_whole f [] a b long short x y = absurd (omega arith)
two_whole f (p ∷ []) a b long short x y = absurd (omega arith)
two_whole f (p ∷ q ∷ []) a b long short x y = (λ i. f (sym x i) ∷ f (sym y i) ∷ [])
two_whole f (p ∷ q ∷ r ∷ xs) a b long short x y = absurd (omega arith)

pub four_whole : {A : Type 0} (f : A → List ℕ) (xs : List A) (a b c d : A) → 4 ≤ length xs → length xs < 5 → a ≡ get_or xs 0 a → b ≡ get_or xs 1 b → c ≡ get_or xs 2 c → d ≡ get_or xs 3 d → map f xs ≡ f a ∷ f b ∷ f c ∷ f d ∷ []
four_whole f [] a b c d long short x y z w = absurd (omega arith)
four_whole f (p ∷ []) a b c d long short x y z w = absurd (omega arith)
four_whole f (p ∷ q ∷ []) a b c d long short x y z w = absurd (omega arith)
four_whole f (p ∷ q ∷ r ∷ []) a b c d long short x y z w = absurd (omega arith)
four_whole f (p ∷ q ∷ r ∷ s ∷ []) a b c d long short x y z w = (λ i. f (sym x i) ∷ f (sym y i) ∷ f (sym z i) ∷ f (sym w i) ∷ [])
four_whole f (p ∷ q ∷ r ∷ s ∷ t ∷ xs) a b c d long short x y z w = absurd (omega arith)

pub one_whole : {A : Type 0} (f : A → List ℕ) (xs : List A) (a : A) → 1 ≤ length xs → length xs < 2 → a ≡ get_or xs 0 a → map f xs ≡ f a ∷ []
one_whole f [] a long short x = absurd (omega arith)
one_whole f (p ∷ []) a long short x = (λ i. f (sym x i) ∷ [])
one_whole f (p ∷ q ∷ xs) a long short x = absurd (omega arith)

pub three_whole : {A : Type 0} (f : A → List ℕ) (xs : List A) (a b c : A) → 3 ≤ length xs → length xs < 4 → a ≡ get_or xs 0 a → b ≡ get_or xs 1 b → c ≡ get_or xs 2 c → map f xs ≡ f a ∷ f b ∷ f c ∷ []
three_whole f [] a b c long short x y z = absurd (omega arith)
three_whole f (p ∷ []) a b c long short x y z = absurd (omega arith)
three_whole f (p ∷ q ∷ []) a b c long short x y z = absurd (omega arith)
three_whole f (p ∷ q ∷ r ∷ []) a b c long short x y z = (λ i. f (sym x i) ∷ f (sym y i) ∷ f (sym z i) ∷ [])
three_whole f (p ∷ q ∷ r ∷ s ∷ xs) a b c long short x y z = absurd (omega arith)

pub five_whole : {A : Type 0} (f : A → List ℕ) (xs : List A) (a b c d e : A) → 5 ≤ length xs → length xs < 6 → a ≡ get_or xs 0 a → b ≡ get_or xs 1 b → c ≡ get_or xs 2 c → d ≡ get_or xs 3 d → e ≡ get_or xs 4 e → map f xs ≡ f a ∷ f b ∷ f c ∷ f d ∷ f e ∷ []
five_whole f [] a b c d e long short x y z w v = absurd (omega arith)
five_whole f (p ∷ []) a b c d e long short x y z w v = absurd (omega arith)
five_whole f (p ∷ q ∷ []) a b c d e long short x y z w v = absurd (omega arith)
five_whole f (p ∷ q ∷ r ∷ []) a b c d e long short x y z w v = absurd (omega arith)
five_whole f (p ∷ q ∷ r ∷ s ∷ []) a b c d e long short x y z w v = absurd (omega arith)
five_whole f (p ∷ q ∷ r ∷ s ∷ t ∷ []) a b c d e long short x y z w v = (λ i. f (sym x i) ∷ f (sym y i) ∷ f (sym z i) ∷ f (sym w i) ∷ f (sym v i) ∷ [])
five_whole f (p ∷ q ∷ r ∷ s ∷ t ∷ u ∷ xs) a b c d e long short x y z w v = absurd (omega arith)
