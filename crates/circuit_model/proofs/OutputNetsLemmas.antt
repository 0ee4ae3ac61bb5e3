-- The nets of the output word, word by word and place by place.
use Rattle.std.proofs.Common.{◌≡◌, ℕ, zero, suc, ◌<◌, ◌+◌, cond, List, [], ◌∷◌, ◌++◌, length, get_or, take, drop, filter, Some, refl, sym, ap, ◌∙◌, arith}
use Rattle.std.specs.Prelude.{slice_get}
use Rattle.std.proofs.lemmas.List.{append_assoc, length-append}
use Rattle.lists.specs.Lists.{Has}
use Rattle.lists.specs.laws.HasLaws.{All_has}
use Rattle.net_core.specs.NetList.{NetList}
use Rattle.net_words.specs.Binding.{Binding}
use Rattle.net_words.specs.BoundTo.{output_bits, output_bits_with}
use Rattle.net_words.specs.OneCycle.{IsOneCycle}
use Rattle.net_words.specs.Roles.{same_role}
use Rattle.net_words.specs.declared.bound.BoundWord.{BoundWord}
use Rattle.net_words.specs.declared.word.Role.{Role}
use Rattle.net_words.specs.declared.word.Role.TheVariants.{Input, State, Fed, Output}

pub take_more : (xs : List ℕ) (t : ℕ) → t < length xs → take (t + 1) xs ≡ take t xs ++ get_or xs t 0 ∷ []
take_more xs t less = let up : t + 1 ≡ suc t = omega arith in ap (λ n. take n xs) up ∙ more xs t less
  where
    more : (ys : List ℕ) (i : ℕ) → i < length ys → take (suc i) ys ≡ take i ys ++ get_or ys i 0 ∷ []
    more [] i l = absurd (omega arith)
    more (y ∷ ys) zero l = refl
    more (y ∷ ys) (suc i) l = ap (λ zs. y ∷ zs) (more ys i (omega arith))

-- the output nets of the words from w on
pub from_word : (words : List BoundWord) (w : ℕ) (word : BoundWord) → slice_get words w ≡ Some word → output_bits (drop w words) ≡ output_bits_with word.role word.nets ++ output_bits (drop (w + 1) words)
from_word words w word at = let up : w + 1 ≡ suc w = omega arith in rest words w at ∙ ap (λ n. output_bits_with word.role word.nets ++ output_bits (drop n words)) (sym up)
  where
    rest : (us : List BoundWord) (v : ℕ) → slice_get us v ≡ Some word → output_bits (drop v us) ≡ output_bits_with word.role word.nets ++ output_bits (drop (suc v) us)
    rest [] v got = absurd (cc)
    rest (u ∷ us) zero got = let same : u ≡ word = cc in ap (λ (x : BoundWord). output_bits_with x.role x.nets ++ output_bits us) same
    rest (u ∷ us) (suc v) got = rest us v got

pub one_word : (words : List BoundWord) (w : ℕ) (word : BoundWord) (before after : List ℕ) → slice_get words w ≡ Some word → after ≡ before ++ output_bits_with word.role word.nets
    → before ++ output_bits (drop w words) ≡ output_bits words → after ++ output_bits (drop (w + 1) words) ≡ output_bits words
one_word words w word before after at new so_far =
    ap (λ ns. ns ++ output_bits (drop (w + 1) words)) new
    ∙ (append_assoc before (output_bits_with word.role word.nets) (output_bits (drop (w + 1) words))
    ∙ (ap (λ ns. before ++ ns) (sym (from_word words w word at)) ∙ so_far))

abbrev pub outputs : List BoundWord → ℕ
outputs words = length (filter (λ word. same_role word.role Output) words)

-- what a word with this role adds to the number of output words, and to that of their nets
more_outputs : Role → ℕ
more_outputs Input = 0
more_outputs State = 0
more_outputs Fed = 0
more_outputs Output = 1

more_nets : Role → ℕ → ℕ
more_nets Input k = 0
more_nets State k = 0
more_nets Fed k = 0
more_nets Output k = k

count_word : (word : BoundWord) (words : List BoundWord) (r : Role) → word.role ≡ r → outputs (word ∷ words) ≡ more_outputs r + outputs words
unfolding more_outputs
count_word word words Input is = (λ i. length (cond (same_role (is i) Output) (word ∷ filter (λ u. same_role u.role Output) words) (filter (λ u. same_role u.role Output) words))) ∙ (let e : outputs words ≡ 0 + outputs words = omega arith in e)
count_word word words State is = (λ i. length (cond (same_role (is i) Output) (word ∷ filter (λ u. same_role u.role Output) words) (filter (λ u. same_role u.role Output) words))) ∙ (let e : outputs words ≡ 0 + outputs words = omega arith in e)
count_word word words Fed is = (λ i. length (cond (same_role (is i) Output) (word ∷ filter (λ u. same_role u.role Output) words) (filter (λ u. same_role u.role Output) words))) ∙ (let e : outputs words ≡ 0 + outputs words = omega arith in e)
count_word word words Output is = (λ i. length (cond (same_role (is i) Output) (word ∷ filter (λ u. same_role u.role Output) words) (filter (λ u. same_role u.role Output) words))) ∙ (let e : suc (outputs words) ≡ 1 + outputs words = omega arith in e)

count_nets : (k : ℕ) (word : BoundWord) (words : List BoundWord) (r : Role) → word.role ≡ r → length word.nets ≡ k → length (output_bits (word ∷ words)) ≡ more_nets r k + length (output_bits words)
unfolding more_nets
count_nets k word words r is long = length-append (output_bits_with word.role word.nets) (output_bits words) ∙ ap (λ n. n + length (output_bits words)) (own r is)
  where
    own : (q : Role) → word.role ≡ q → length (output_bits_with word.role word.nets) ≡ more_nets q k
    own Input e = (λ i. length (output_bits_with (e i) word.nets))
    own State e = (λ i. length (output_bits_with (e i) word.nets))
    own Fed e = (λ i. length (output_bits_with (e i) word.nets))
    own Output e = (λ i. length (output_bits_with (e i) word.nets)) ∙ long

abbrev pub AllLong : ℕ → List BoundWord → Type 0
AllLong k words = (word : BoundWord) → Has words word → length word.nets ≡ k

later : (k : ℕ) (word : BoundWord) (words : List BoundWord) → AllLong k (word ∷ words) → AllLong k words
later k word words each u has = each u (suc has.0, has.1)

no_output : (k : ℕ) (words : List BoundWord) → AllLong k words → outputs words ≡ 0 → length (output_bits words) ≡ 0
unfolding more_outputs more_nets
no_output k [] each none = refl
no_output k (word ∷ words) each none = by (no_output k words (later k word words each)) word.role refl
  where
    by : (outputs words ≡ 0 → length (output_bits words) ≡ 0) → (r : Role) → word.role ≡ r → length (output_bits (word ∷ words)) ≡ 0
    by rest Input is = let n = count_word word words Input is in let m = count_nets k word words Input is (each word (0, refl)) in let e = rest (omega arith) in omega arith
    by rest State is = let n = count_word word words State is in let m = count_nets k word words State is (each word (0, refl)) in let e = rest (omega arith) in omega arith
    by rest Fed is = let n = count_word word words Fed is in let m = count_nets k word words Fed is (each word (0, refl)) in let e = rest (omega arith) in omega arith
    by rest Output is = let n = count_word word words Output is in absurd (omega arith)

-- the nets of the only output word
pub long_output : (k : ℕ) (words : List BoundWord) → AllLong k words → outputs words ≡ 1 → length (output_bits words) ≡ k
unfolding more_outputs more_nets
long_output k [] each one = absurd (omega arith)
long_output k (word ∷ words) each one = by (long_output k words (later k word words each)) (no_output k words (later k word words each)) word.role refl
  where
    by : (outputs words ≡ 1 → length (output_bits words) ≡ k) → (outputs words ≡ 0 → length (output_bits words) ≡ 0) → (r : Role) → word.role ≡ r → length (output_bits (word ∷ words)) ≡ k
    by rest none Input is = let n = count_word word words Input is in let m = count_nets k word words Input is (each word (0, refl)) in let e = rest (omega arith) in omega arith
    by rest none State is = let n = count_word word words State is in let m = count_nets k word words State is (each word (0, refl)) in let e = rest (omega arith) in omega arith
    by rest none Fed is = let n = count_word word words Fed is in let m = count_nets k word words Fed is (each word (0, refl)) in let e = rest (omega arith) in omega arith
    by rest none Output is = let n = count_word word words Output is in let m = count_nets k word words Output is (each word (0, refl)) in let e = none (omega arith) in omega arith

-- the output word of a bound net list has k nets
pub output_long : (net : NetList) (binding : Binding) → IsOneCycle net binding → length (output_bits binding.words) ≡ binding.k
output_long net binding bound = long_output binding.k binding.words (λ word has. All_has (λ u. length u.nets ≡ binding.k) binding.words word bound.flat.named has) bound.parts.one
