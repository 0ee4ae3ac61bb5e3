-- The order of variables, while it is made.
use Rattle.std.proofs.Common.{◌≡◌, ◌∙◌, ap, sym, refl, inl, inr, subst, ℕ, zero, suc, ◌<◌, ◌≤◌, ◌+◌, ◌*◌, ◌^◌, ◌==◌, ◌||◌, List, [], ◌∷◌, ◌++◌, length, get_or, filter, Bool, true, false, not, cond, arith, All}
use Rattle.std.proofs.lemmas.Bool.{eqb-true}
use Rattle.std.proofs.lemmas.List.Elements.{filter-append}
use Rattle.std.proofs.lemmas.List.FromFn.{length-range_with_len, get_or-range_with_len}
use Rattle.std.specs.List.{range_with_len}
use Rattle.lists.specs.laws.ListLaws.{range_more, filter_few}
use Rattle.net_words.specs.Binding.{Binding, HasWidth, IsBinding}
use Rattle.net_words.specs.Roles.{same_role, stands_in}
use Rattle.net_words.specs.Variables.{bits, bits_with, others, variables, IsRanked}
use Rattle.net_words.specs.declared.bound.BoundWord.{BoundWord}
use Rattle.net_words.specs.declared.word.Role.{Role}
use Rattle.net_words.specs.declared.word.Role.TheVariants.{Input, State, Fed, Output}

join : {A : Type 0} (xs ys zs : List A) → (xs ++ ys) ++ zs ≡ xs ++ (ys ++ zs)
join [] ys zs = refl
join (x ∷ xs) ys zs = ap (λ rest. x ∷ rest) (join xs ys zs)

-- one more net that may be none of the bits
pub others_step : (list order new : List ℕ) (n : ℕ) (b : Bool) → b ≡ stands_in list n → order ≡ list ++ others n list → new ≡ order ++ cond (not b) (n ∷ []) [] → new ≡ list ++ others (n + 1) list
others_step list order new n b is old more =
    let p : ℕ → Bool = λ m. not (stands_in list m) in
    let next : n + 1 ≡ suc n = omega arith in
    more ∙ ap (λ xs. xs ++ cond (not b) (n ∷ []) []) old ∙ join list (others n list) (cond (not b) (n ∷ []) []) ∙ ap (λ c. list ++ (others n list ++ cond (not c) (n ∷ []) [])) is ∙ ap (λ xs. list ++ xs) (sym (ap (filter p) (ap (range_with_len 0) next ∙ range_more 0 n ∙ ap (λ m. range_with_len 0 n ++ m ∷ []) (omega arith)) ∙ filter-append p (range_with_len 0 n) (n ∷ [])))

-- the nets of the first places have ranks
abbrev pub AreRanked : ℕ → List ℕ → List ℕ → ℕ → Type 0
AreRanked count order ranks i = (j : ℕ) → j < i → get_or order j 0 < count → IsRanked order (get_or ranks (get_or order j 0) 0) (get_or order j 0)

-- the number stands at some place
abbrev At : List ℕ → ℕ → Type 0
At xs n = (k : ℕ) × IsRanked xs k n

at_later : (x : ℕ) (xs : List ℕ) (n : ℕ) → At xs n → At (x ∷ xs) n
at_later x xs n at = (suc at.0, (omega (arith, at.1.0), at.1.1))

at_left : (xs ys : List ℕ) (n k : ℕ) → IsRanked xs k n → At (xs ++ ys) n
at_left [] ys n k at = absurd (omega (arith, at.0))
at_left (x ∷ xs) ys n zero at = (0, (omega arith, at.1))
at_left (x ∷ xs) ys n (suc k) at = at_later x (xs ++ ys) n (at_left xs ys n k (omega (arith, at.0), at.1))

at_right : (xs ys : List ℕ) (n : ℕ) → At ys n → At (xs ++ ys) n
at_right [] ys n at = at
at_right (x ∷ xs) ys n at = at_later x (xs ++ ys) n (at_right xs ys n at)

at_any : (xs : List ℕ) (n : ℕ) → stands_in xs n ≡ true → At xs n
at_any [] n e = absurd (cc)
at_any (x ∷ xs) n e =
    elim (x == n) as (λ b. (x == n) ≡ b → At (x ∷ xs) n) [
      | true ↦ λ is. (0, (omega arith, eqb-true x n is))
      | false ↦ λ is. at_later x xs n (at_any xs n (sym (ap (λ b. b || stands_in xs n) is) ∙ e))
    ] refl

at_filter : (p : ℕ → Bool) (xs : List ℕ) (n k : ℕ) → p n ≡ true → IsRanked xs k n → At (filter p xs) n
at_filter p [] n k hit at = absurd (omega (arith, at.0))
at_filter p (x ∷ xs) n zero hit at =
    let is : x ≡ n = at.1 in
    let P : Bool → Type 0 = λ b. At (cond b (x ∷ filter p xs) (filter p xs)) n in
    subst P (sym (ap p is ∙ hit)) (0, (omega arith, is))
at_filter p (x ∷ xs) n (suc k) hit at =
    let rest : At (filter p xs) n = at_filter p xs n k hit (omega (arith, at.0), at.1) in
    elim (p x) as (λ b. At (cond b (x ∷ filter p xs) (filter p xs)) n) [
      | true ↦ at_later x (filter p xs) n rest
      | false ↦ rest
    ]

at_range : (c n : ℕ) → n < c → IsRanked (range_with_len 0 c) n n
at_range c n less = (omega (arith, length-range_with_len 0 c, less), get_or-range_with_len 0 c n 0 less ∙ omega arith)

-- each net is a variable
all_variables : (count : ℕ) (words : List BoundWord) (n : ℕ) → n < count → At (variables count words) n
all_variables count words n less =
    elim (stands_in (bits words) n) as (λ b. stands_in (bits words) n ≡ b → At (variables count words) n) [
      | true ↦ λ e. (let at : At (bits words) n = at_any (bits words) n e in at_left (bits words) (others count (bits words)) n at.0 at.1)
      | false ↦ λ e. at_right (bits words) (others count (bits words)) n (at_filter (λ m. not (stands_in (bits words) m)) (range_with_len 0 count) n n (ap not e) (at_range count n less))
    ] refl

-- each net has its rank
pub each_ranked : (count : ℕ) (words : List BoundWord) (order ranks : List ℕ) → order ≡ variables count words → AreRanked count order ranks (length order) → (n : ℕ) → n < count → IsRanked (variables count words) (get_or ranks n 0) n
each_ranked count words order ranks is ranked n less =
    let at : At (variables count words) n = all_variables count words n less in
    let P : List ℕ → Type 0 = λ xs. AreRanked count xs ranks (length xs) in
    let Q : ℕ → Type 0 = λ m. m < count → IsRanked (variables count words) (get_or ranks m 0) m in
    subst Q at.1.1 (subst P is ranked at.0 at.1.0) less

length-join : (xs ys : List ℕ) → length (xs ++ ys) ≡ length xs + length ys
length-join [] ys = omega arith
length-join (x ∷ xs) ys = omega (arith, length-join xs ys)

few_bits : (role : Role) (list : List ℕ) → length (bits_with role list) ≤ length list
few_bits Input list = omega arith
few_bits State list = omega arith
few_bits Fed list = omega arith
few_bits Output list = omega arith

-- a word has at most k nets
width_most : (k : ℕ) (word : BoundWord) → HasWidth k word → length word.nets ≤ k
width_most k word (inl same) = omega (arith, same)
width_most k word (inr (fed, none)) = let nothing : length word.nets ≡ 0 = ap length none in omega (arith, nothing)

bits_short : (k : ℕ) (words : List BoundWord) → k ≤ 64 → All (HasWidth k) words → length (bits words) ≤ 64 * length words
bits_short k [] small each = omega arith
bits_short k (word ∷ words) small each =
    let one : length word.nets ≤ k = width_most k word (each 0 word (omega arith)) in
    let rest : length (bits words) ≤ 64 * length words = bits_short k words small (λ j e below. each (suc j) e (omega arith)) in
    omega (arith, length-join (bits_with word.role word.nets) (bits words), few_bits word.role word.nets, one, rest, small)

-- those that pass a test and those that don't are all
pub count_both : {X : Type 0} (p : X → Bool) (xs : List X) → length xs ≡ length (filter p xs) + length (filter (λ x. not (p x)) xs)
count_both p [] = omega arith
count_both p (x ∷ xs) =
    let rest : length xs ≡ length (filter p xs) + length (filter (λ y. not (p y)) xs) = count_both p xs in
    elim (p x) as (λ b. suc (length xs) ≡ length (cond b (x ∷ filter p xs) (filter p xs)) + length (cond (not b) (x ∷ filter (λ y. not (p y)) xs) (filter (λ y. not (p y)) xs))) [ true ↦ omega (arith, rest) | false ↦ omega (arith, rest) ]

-- there are one to nine words
pub words_few : (binding : Binding) → IsBinding binding → length binding.words ≤ 9
words_few binding is = omega (arith, count_both (λ (word : BoundWord). same_role word.role Output) binding.words, is.one, is.few)

-- there are few variables
pub variables_short : (count : ℕ) (binding : Binding) → count ≤ 2 ^ 20 → IsBinding binding → length (variables count binding.words) < 2 ^ 32
variables_short count binding few is =
    let words : List BoundWord = binding.words in
    let p : ℕ → Bool = λ n. not (stands_in (bits words) n) in
    omega (arith, length-join (bits words) (others count (bits words)), filter_few p (range_with_len 0 count), length-range_with_len 0 count, bits_short binding.k words is.most is.each, few, words_few binding is)
