-- Values, and the options behind them.
use Rattle.std.proofs.Common.{◌≡◌, ◌⊎◌, ◌∙◌, ap, sym, subst, inl, inr, refl, ℕ, zero, suc, ◌+◌, ◌-◌, ◌*◌, ◌^◌, ◌<◌, ◌≤◌, Bool, true, false, cond, List, [], ◌∷◌, ◌++◌, length, map, take, drop, get_or, codes, Option, None, Some, arith}
use Rattle.std.specs.Prelude.{◌↔◌, All, EachIndex, IfSome, IfNone, IsSome, IsTrue, slice_index}
use Rattle.std.proofs.Math.Nat.{mul-le-mul_right, pow-le-pow_right, pow-succ'}
use Rattle.std.proofs.lemmas.Bool.{cases_lt}
use Rattle.std.proofs.lemmas.List.{drop-map, get_or-map, length-drop, length-map, take-append-drop, take-map, take_all}
use Rattle.std.proofs.lemmas.List.Elements.{All-from_get_or}
use Rattle.text_core.specs.Numbers.{IsDigit, IsHex, digit_value, value_of}
use Rattle.job_words.specs.Operands.{Word, IsValue}
use Rattle.job_words.specs.Options.{IsCyclesOption}
use Rattle.job_words.specs.Shapes.{AreValues}
use Rattle.job_words.specs.private.OptionPlace.{begins_options, before_options, from_options}

-- a value begins with 0, and so no option
no_option : (word : Word) → IsValue word → begins_options word ≡ false
no_option word is = ap begins_options is.hex.1

-- options are none, or their first word begins them
begins : (options : List Word) (c : ℕ) → IsCyclesOption options c → (before_options options ≡ []) × (from_options options ≡ options)
begins options c (inl (e, set)) = (ap before_options e, ap from_options e ∙ sym e)
begins options c (inr (number, e, is)) = (ap before_options e, ap from_options e ∙ sym e)

split : (values options : List Word) → All IsValue values → before_options options ≡ [] → from_options options ≡ options → (before_options (values ++ options) ≡ values) × (from_options (values ++ options) ≡ options)
split [] options all before behind = (before, behind)
split (v ∷ values) options all before behind =
    let none = no_option v (all zero [] (omega arith)) in
    let (rest, after) = split values options (λ k d less. all (suc k) d (omega arith)) before behind in
    ((λ i. cond (none i) [] (v ∷ rest i)), (λ i. cond (none i) (v ∷ (values ++ options)) (after i)))

-- the words give back the values and the options
pub values_back : (words values : List Word) (c : ℕ) → (is : AreValues words values c) → (before_options words ≡ values) × (from_options words ≡ is.options)
values_back words values c is =
    let (before, behind) = begins is.options c is.set in
    let (first, second) = split values is.options is.values_are before behind in
    (ap before_options is.words_are ∙ first, ap from_options is.words_are ∙ second)

-- and the number of cycles, by whatever reads it off the option
pub cycles_back : (options : List Word) (c : ℕ) → IsCyclesOption options c → (read : List Word → ℕ) → read [] ≡ 0 → ((y : Word) → read (codes "--cycles" ∷ y ∷ []) ≡ value_of 10 y) → c ≡ read options
cycles_back options c (inl (e, set)) read none some = set ∙ sym none ∙ ap read (sym e)
cycles_back options c (inr (y, e, is)) read none some = is.decimal.1 ∙ sym (some y) ∙ ap read (sym e)

-- ---- where the options begin

-- words none of which begins the options, before the end or one that does
pub before_is : (n : ℕ) (words : List Word) → ((k : ℕ) → k < n → begins_options (get_or words k []) ≡ false) → (n ≡ length words) ⊎ (begins_options (get_or words n []) ≡ true) → n ≤ length words → (take n words ≡ before_options words) × (drop n words ≡ from_options words)
before_is zero [] none ends within = (refl, refl)
before_is zero (w ∷ words) none (inl e) within = absurd (omega (arith, e))
before_is zero (w ∷ words) none (inr is) within = ((λ i. cond (sym is i) [] (w ∷ before_options words)), (λ i. cond (sym is i) (w ∷ words) (from_options words)))
before_is (suc n) [] none ends within = absurd (omega arith)
before_is (suc n) (w ∷ words) none ends within = by (before_is n words (λ k less. none (suc k) (omega arith)) (rest ends) (omega arith))
  where
    first : begins_options w ≡ false
    first = none zero (omega arith)

    rest : (suc n ≡ suc (length words)) ⊎ (begins_options (get_or words n []) ≡ true) → (n ≡ length words) ⊎ (begins_options (get_or words n []) ≡ true)
    rest (inl e) = inl (omega (arith, e))
    rest (inr is) = inr is

    by : (take n words ≡ before_options words) × (drop n words ≡ from_options words) → (w ∷ take n words ≡ before_options (w ∷ words)) × (drop n words ≡ from_options (w ∷ words))
    by (before, behind) = (ap (λ (ws : List Word). w ∷ ws) before ∙ (λ i. cond (sym first i) [] (w ∷ before_options words)), behind ∙ (λ i. cond (sym first i) (w ∷ words) (from_options words)))

-- the same of the words of a program
pub begins_at : {A : Type 0} (f : A → Word) (xs : List A) (i : ℕ) (d : A) → i < length xs → ((k : ℕ) → k < i → begins_options (get_or (map f xs) k []) ≡ false) → begins_options (f (get_or xs i d)) ≡ true → (take i (map f xs) ≡ before_options (map f xs)) × (drop i (map f xs) ≡ from_options (map f xs))
begins_at f xs i d less none is =
    before_is i (map f xs) none (inr (ap begins_options (get_or-map f xs i d [] less) ∙ is)) (let long = length-map xs f in omega (arith, long))

pub begins_nowhere : {A : Type 0} (f : A → Word) (xs : List A) (i : ℕ) → length xs ≤ i → ((k : ℕ) → k < i → begins_options (get_or (map f xs) k []) ≡ false) → (take (length xs) (map f xs) ≡ before_options (map f xs)) × (drop (length xs) (map f xs) ≡ from_options (map f xs))
begins_nowhere f xs i past none =
    before_is (length xs) (map f xs) (λ k less. none k (omega arith)) (inl (sym (length-map xs f))) (let long = length-map xs f in omega (arith, long))

-- one more word that does not begin the options
pub one_more : {A : Type 0} (f : A → Word) (xs : List A) (i : ℕ) (d : A) → i < length xs → ((k : ℕ) → k < i → begins_options (get_or (map f xs) k []) ≡ false) → begins_options (f (get_or xs i d)) ≡ false → (k : ℕ) → k < i + 1 → begins_options (get_or (map f xs) k []) ≡ false
one_more f xs i d less none is k below = by (cases_lt k i)
  where
    by : (k < i) ⊎ (i ≤ k) → begins_options (get_or (map f xs) k []) ≡ false
    by (inl earlier) = none k earlier
    by (inr here) = let same : k ≡ i = omega arith in ap (λ j. begins_options (get_or (map f xs) j [])) same ∙ (ap begins_options (get_or-map f xs i d [] less) ∙ is)

-- ---- numbers of values

-- digits count less than one more at the next place
value_below : (digits : List ℕ) → EachIndex digits (λ k. IsDigit 16 (slice_index digits k)) → value_of 16 digits < 16 ^ length digits
value_below [] each = omega arith
value_below (b ∷ bs) each =
    let p = 16 ^ length bs in
    let rest : value_of 16 bs < p = value_below bs (λ k less. each (suc k) (omega arith)) in
    let digit : digit_value b ≤ 15 = let below = (each zero (omega arith)).1 in omega (arith, below) in
    let first : digit_value b * p ≤ 15 * p = mul-le-mul_right p digit in
    rw (pow-succ' 16 (length bs)) (omega (arith, rest, first))

-- 32 digits count less than 2 to the 128
pub value_fits : (word : Word) (is : IsValue word) → is.number ≤ 340282366920938463463374607431768211455
value_fits word is =
    let digits = is.hex.0 in
    let long : length word ≡ suc (suc (length digits)) = ap length is.hex.1 in
    let below : value_of 16 digits < 16 ^ length digits = value_below digits is.hex.2.1 in
    let short : length digits ≤ 32 = let whole = is.short in omega (arith, whole, long) in
    let most : 16 ^ length digits ≤ 16 ^ 32 = pow-le-pow_right {n = 16} (omega arith) {i = length digits} {j = 32} short in
    let number : is.number ≡ value_of 16 digits = is.hex.3 in
    omega (arith, number, below, most)

-- a word of 34 bytes at most is a value where its number is found
pub value_iff : (word : Word) (found : Option ℕ) (b : Bool) → length word ≤ 34 → IfSome found (λ n. IsHex word n × (n ≤ 340282366920938463463374607431768211455)) → IfNone found ((n : ℕ) → IsHex word n → n ≤ 340282366920938463463374607431768211455 → ⊥) → IsTrue b ↔ IsSome found → IsTrue b ↔ IsValue word
value_iff word (Some n) b short is none same = ((λ t. record { number = n; hex = is.0; short = short }), (λ v. same.1 refl))
value_iff word None b short is none same = ((λ t. absurd (let wrong = same.0 t in cc)), (λ v. absurd (none v.number v.hex (value_fits word v))))

-- each of the first words is a value
pub values_more : {A : Type 0} (f : A → Word) (xs : List A) (i : ℕ) (d : A) → i < length xs → ((k : ℕ) → k < i → IsValue (get_or (map f xs) k [])) → IsValue (f (get_or xs i d)) → (k : ℕ) → k < i + 1 → IsValue (get_or (map f xs) k [])
values_more f xs i d less before is k below = by (cases_lt k i)
  where
    by : (k < i) ⊎ (i ≤ k) → IsValue (get_or (map f xs) k [])
    by (inl earlier) = before k earlier
    by (inr here) = let same : i ≡ k = omega arith in let P : ℕ → Type 0 = λ j. IsValue (get_or (map f xs) j []) in subst P same (subst IsValue (sym (get_or-map f xs i d [] less)) is)

-- and so all are
pub values_all : {A : Type 0} (f : A → Word) (xs : List A) (i : ℕ) → length xs ≤ i → ((k : ℕ) → k < i → IsValue (get_or (map f xs) k [])) → All IsValue (map f xs)
values_all f xs i past each = All-from_get_or IsValue (map f xs) [] (λ k less. each k (let long = length-map xs f in omega (arith, long)))

-- or this one is none
pub value_fails : {A : Type 0} (f : A → Word) (xs : List A) (i : ℕ) (d : A) → i < length xs → (IsValue (f (get_or xs i d)) → ⊥) → All IsValue (map f xs) → ⊥
value_fails f xs i d less none all = none (subst IsValue (get_or-map f xs i d [] less) (all i [] (let long = length-map xs f in omega (arith, long))))

-- ---- values and the options behind them

module _ {A : Type 0} (f : A → Word) (xs : List A) (n : ℕ) where
  -- words before the options that are no values
  pub not_values : take n (map f xs) ≡ before_options (map f xs) → (All IsValue (map f (take n xs)) → ⊥) → (vs : List Word) (c : ℕ) → AreValues (map f xs) vs c → ⊥
  not_values before none vs c is =
      let P : List Word → Type 0 = λ ws. All IsValue ws in
      none (subst P (sym (values_back (map f xs) vs c is).0 ∙ (sym before ∙ take-map f n xs)) is.values_are)

  behind_is : take (length xs - n) (drop n xs) ≡ drop n xs
  behind_is = let long = length-drop n xs in take_all (length xs - n) (drop n xs) (omega (arith, long))

  -- words behind them that are no option
  pub no_cycles : drop n (map f xs) ≡ from_options (map f xs) → ((c : ℕ) → IsCyclesOption (map f (take (length xs - n) (drop n xs))) c → ⊥) → (vs : List Word) (c : ℕ) → AreValues (map f xs) vs c → ⊥
  no_cycles behind none vs c is =
      let P : List Word → Type 0 = λ ws. IsCyclesOption ws c in
      none c (subst P (sym (values_back (map f xs) vs c is).1 ∙ (sym behind ∙ (drop-map f n xs ∙ ap (λ (ys : List A). map f ys) (sym behind_is)))) is.set)

  -- values and an option
  pub are_read : (c : ℕ) → All IsValue (map f (take n xs)) → IsCyclesOption (map f (take (length xs - n) (drop n xs))) c → AreValues (map f xs) (map f (take n xs)) c
  are_read c all set =
      let P : List Word → Type 0 = λ ws. IsCyclesOption ws c in record {
        options = drop n (map f xs);
        words_are = sym (take-append-drop n (map f xs)) ∙ ap (λ (ws : List Word). ws ++ drop n (map f xs)) (take-map f n xs);
        values_are = all;
        set = subst P (ap (λ (ys : List A). map f ys) behind_is ∙ sym (drop-map f n xs)) set;
      }
