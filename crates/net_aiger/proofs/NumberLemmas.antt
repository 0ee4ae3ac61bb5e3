-- Words that say numbers.
use Rattle.std.proofs.Common.{◌≡◌, ◌∙◌, ap, sym, refl, inl, inr, ℕ, zero, suc, ◌<◌, ◌≤◌, ◌+◌, Bool, true, false, cond, List, [], ◌∷◌, ◌++◌, length, map, get_or, drop, Option, None, Some, arith, append_assoc, drop-cons, add-one, append-nil, Bor, ne_eqb}
use Rattle.std.specs.Prelude.{All, IfSome, filter, nat_lt}
use Rattle.std.specs.List.{list_all}
use Rattle.std.specs.Option.{option_map}
use Rattle.std.proofs.lemmas.List.{get_or-map, length-map}
use Rattle.std.proofs.lemmas.Bool.{le-leb, leb-true, lt-ltb, ltb-true, le-ltb}
use Rattle.std.proofs.lemmas.List.Splits.{slice_split_none}
use Rattle.lists.specs.laws.BoolLaws.{first_true as one, second_true as other, and_made}
use Rattle.text_core.specs.Numbers.{IsDecimal, IsDigit, digit_value, value_of}
use Rattle.net_aiger.specs.Numbers.{is_digit, is_number, is_space, number_of, numbers_of, put_first, words_of}

digit_is : (b : ℕ) → IsDigit 10 b → is_digit b ≡ true
digit_is b (inl (low, high), small) = and_made _ _ (le-leb 48 b low) (le-leb b 57 high)
digit_is b (inr (inl (low, high)), small) = absurd (never small)
  where
    never : digit_value b < 10 → ⊥
    never less = let less' = rw (le-ltb b 58 (omega arith), lt-ltb b 71 (omega arith)) at less in omega (arith, less', low)
digit_is b (inr (inr (low, high)), small) = absurd (never small)
  where
    never : digit_value b < 10 → ⊥
    never less = let less' = rw (le-ltb b 58 (omega arith), le-ltb b 71 (omega arith)) at less in omega (arith, less', low)

is_is_digit : (b : ℕ) → is_digit b ≡ true → IsDigit 10 b
is_is_digit b is =
    let low : 48 ≤ b = leb-true 48 b (one _ _ is) in
    let high : b ≤ 57 = leb-true b 57 (other _ _ is) in
    small b low high
  where
    small : (b : ℕ) → 48 ≤ b → b ≤ 57 → IsDigit 10 b
    small b low high = (inl (low, high), rw (lt-ltb b 58 (omega (arith, high))) (omega (arith, low, high)))

all_digits : (word : List ℕ) → ((k : ℕ) → k < length word → IsDigit 10 (get_or word k 0)) → list_all is_digit word ≡ true
all_digits [] each = refl
all_digits (b ∷ bs) each = and_made _ _ (digit_is b (each 0 (omega arith))) (all_digits bs (λ k less. each (suc k) (omega arith)))

each_digit : (word : List ℕ) → list_all is_digit word ≡ true → (k : ℕ) → k < length word → IsDigit 10 (get_or word k 0)
each_digit [] all k less = absurd (omega arith)
each_digit (b ∷ bs) all zero less = is_is_digit b (one _ _ all)
each_digit (b ∷ bs) all (suc k) less = each_digit bs (other _ _ all) k (omega arith)

pub number_found : (word : List ℕ) (n : ℕ) → IsDecimal word n → n ≤ 4294967295 → Some n ≡ number_of word
number_found word n ((some, each), value) most =
    let is : is_number word ≡ true = and_made _ _ (and_made _ _ (lt-ltb 0 (length word) some) (all_digits word each)) (le-leb (value_of 10 word) 4294967295 (omega (arith, value, most))) in
    rw is (ap Some value)

pub number_none : (word : List ℕ) → ((n : ℕ) → IsDecimal word n → n ≤ 4294967295 → ⊥) → None ≡ number_of word
number_none word never = by (is_number word) refl
  where
    by : (b : Bool) → is_number word ≡ b → None ≡ cond b (Some (value_of 10 word)) None
    by false is = refl
    by true is =
        let front = one _ _ is in
        absurd (never (value_of 10 word) ((ltb-true 0 (length word) (one _ _ front), each_digit word (other _ _ front)), refl) (leb-true (value_of 10 word) 4294967295 (other _ _ is)))

-- ---- a line whose only word is a number

no_space : (b : ℕ) → is_digit b ≡ true → is_space b ≡ false
no_space b is = let low : 48 ≤ b = leb-true 48 b (one _ _ is) in ne_eqb b 32 (λ e. omega (arith, low, e))

no_spaces : (word : List ℕ) → list_all is_digit word ≡ true → All (λ b. is_space b ≡ false) word
no_spaces [] all k d less = absurd (omega arith)
no_spaces (b ∷ bs) all zero d less = no_space b (one _ _ all)
no_spaces (b ∷ bs) all (suc k) d less = no_spaces bs (other _ _ all) k d (omega arith)

pub lone_word : (line : List ℕ) → IfSome (number_of line) (λ n. numbers_of (words_of line) ≡ Some (n ∷ []))
lone_word line = by (is_number line) refl
  where
    by : (b : Bool) → is_number line ≡ b → IfSome (cond b (Some (value_of 10 line)) None) (λ n. numbers_of (words_of line) ≡ Some (n ∷ []))
    by false is = tt
    by true is =
        let front = one _ _ is in
        let split : words_of line ≡ filter (λ (word : List ℕ). nat_lt 0 (length word)) (line ∷ []) = ap (filter (λ (word : List ℕ). nat_lt 0 (length word))) (slice_split_none is_space line (no_spaces line (other _ _ front))) in
        let alone : words_of line ≡ line ∷ [] = split ∙ ap (λ (some : Bool). cond some (line ∷ []) []) (one _ _ front) in
        let said : number_of line ≡ Some (value_of 10 line) = rw is refl in
        ap numbers_of alone ∙ ap (λ (found : Option ℕ). put_first found (Some [])) said

-- ---- numbers so far, and those of the words that are left

pub after_numbers : List ℕ → Option (List ℕ) → Option (List ℕ)
after_numbers before rest = option_map (λ ns. before ++ ns) rest

pub one_more : (words : List (List ℕ)) (i : ℕ) (word : List ℕ) (before : List ℕ) (n : ℕ) → i < length words → word ≡ get_or words i [] → Some n ≡ number_of word → after_numbers (before ++ n ∷ []) (numbers_of (drop (i + 1) words)) ≡ after_numbers before (numbers_of (drop i words))
unfolding after_numbers
one_more words i word before n below is said =
    rw (add-one, drop-cons words i [] below, ← is, ← said) (by (numbers_of (drop (suc i) words)))
  where
    by : (rest : Option (List ℕ)) → option_map (λ ns. (before ++ n ∷ []) ++ ns) rest ≡ option_map (λ ns. before ++ ns) (put_first (Some n) rest)
    by None = refl
    by (Some ns) = ap Some (append_assoc before (n ∷ []) ns)

pub no_more : (words : List (List ℕ)) (i : ℕ) (word : List ℕ) (before : List ℕ) → i < length words → word ≡ get_or words i [] → None ≡ number_of word → None ≡ after_numbers before (numbers_of (drop i words))
unfolding after_numbers
no_more words i word before below is said = rw (drop-cons words i [] below, ← is, ← said) refl

pub all_numbers : (words : List (List ℕ)) (i : ℕ) (before : List ℕ) → length words ≤ i → Some before ≡ after_numbers before (numbers_of (drop i words))
unfolding after_numbers
all_numbers words i before past = by (drop i words) (past_end words i past)
  where
    past_end : (xs : List (List ℕ)) (k : ℕ) → length xs ≤ k → drop k xs ≡ []
    past_end [] zero less = refl
    past_end [] (suc k) less = refl
    past_end (x ∷ xs) zero less = absurd (omega arith)
    past_end (x ∷ xs) (suc k) less = past_end xs k (omega arith)

    by : (rest : List (List ℕ)) → rest ≡ [] → Some before ≡ option_map (λ ns. before ++ ns) (numbers_of rest)
    by [] none = ap Some (sym (append-nil before))
    by (x ∷ xs) none = absurd (cc)

-- ---- the same over the words of a line

abbrev pub Slice : Type 0
Slice = Bor (List ℕ)

abbrev pub contents : List Slice → List (List ℕ)
contents words = map (λ word. word.now) words

content_at : (words : List Slice) (i : ℕ) (d : Slice) → i < length words → (get_or words i d).now ≡ get_or (contents words) i []
content_at words i d below = sym (get_or-map (λ (word : Slice). word.now) words i d [] below)

content_below : (words : List Slice) (i : ℕ) → i < length words → i < length (contents words)
content_below words i below = omega (arith, below, length-map words (λ (word : Slice). word.now))

pub numbers_start : (items : List ℕ) (rest : Option (List ℕ)) → items ≡ [] → after_numbers items rest ≡ rest
unfolding after_numbers
numbers_start items None none = refl
numbers_start items (Some ns) none = ap (λ (xs : List ℕ). Some (xs ++ ns)) none

pub numbers_more : (words : List Slice) (i : ℕ) (d : Slice) (before after : List ℕ) (n : ℕ) (whole : Option (List ℕ)) → after_numbers before (numbers_of (drop i (contents words))) ≡ whole → i < length words → Some n ≡ number_of (get_or words i d).now → after ≡ before ++ n ∷ [] → after_numbers after (numbers_of (drop (i + 1) (contents words))) ≡ whole
numbers_more words i d before after n whole so_far below said pushed =
    rw pushed (one_more (contents words) i (get_or words i d).now before n (content_below words i below) (content_at words i d below) said ∙ so_far)

pub numbers_none : (words : List Slice) (i : ℕ) (d : Slice) (before : List ℕ) (whole : Option (List ℕ)) → after_numbers before (numbers_of (drop i (contents words))) ≡ whole → i < length words → None ≡ number_of (get_or words i d).now → None ≡ whole
numbers_none words i d before whole so_far below said = no_more (contents words) i (get_or words i d).now before (content_below words i below) (content_at words i d below) said ∙ so_far

pub numbers_all : (words : List Slice) (i : ℕ) (before : List ℕ) (whole : Option (List ℕ)) → after_numbers before (numbers_of (drop i (contents words))) ≡ whole → length words ≤ i → Some before ≡ whole
numbers_all words i before whole so_far past = all_numbers (contents words) i before (omega (arith, past, length-map words (λ (word : Slice). word.now))) ∙ so_far
