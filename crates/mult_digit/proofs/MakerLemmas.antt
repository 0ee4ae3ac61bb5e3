-- The parts of the net by equations.
use Rattle.std.proofs.Common.{◌≡◌, ◌∙◌, ap, ap₂, sym, subst, ℕ, ◌≤◌, ◌+◌, List, [], length, arith}
use Rattle.std.specs.List.{range_with_len}
use Rattle.std.proofs.lemmas.List.FromFn.{length-range_with_len}
use Rattle.net_core.specs.LatchValue.{LatchValue}
use Rattle.net_words.specs.declared.word.Role.TheVariants.{Input, Output}
use Rattle.net_words.specs.declared.word.WordText.{WordText}
use Rattle.make_nets.specs.Plan.{Plan}
use Rattle.make_nets.specs.Made.{IsPlanFor, made_of}
use Rattle.make_nets.specs.Ports.{role_nets, word_names}
use Rattle.mult_gen.specs.Form.{AreWide}
use Rattle.mult_digit.specs.DigitForm.{AreDigitWords}
use Rattle.mult_digit.specs.DigitNet.{digit_sums_of, fed_nets, net_over}
use Rattle.mult_digit.specs.DigitPlan.{digit_latches, products_from, summands, sums_from}
use Rattle.mult_digit.proofs.PlanForLemmas.{plan_for}
use Rattle.mult_digit.proofs.ValueLemmas.{sums_length}
use Rattle.mult_digit.proofs.WordLemmas.{input_long, names_long, output_long}

module _ (k : ℕ) (mul : ℕ → ℕ → ℕ) (x width : ℕ) (words : List WordText) (are : AreDigitWords words) (wide : AreWide k words) (small : k ≤ 64) (narrow : width ≤ k) where
  pub words_few : length (word_names words) ≤ 128
  words_few = omega (arith, names_long k words are wide, small)

  pub first_low : (first : ℕ) → first ≡ length (word_names words) → first + width ≤ 1024
  first_low first is = omega (arith, is, names_long k words are wide, small, narrow)

  pub input_is : (list items : List ℕ) → list ≡ items → items ≡ role_nets Input 0 words → length list ≡ k
  input_is list items same is = ap (λ xs. length xs) (same ∙ is) ∙ input_long k words are wide

  pub output_is : (list items : List ℕ) → list ≡ items → items ≡ role_nets Output 0 words → length list ≡ k
  output_is list items same is = ap (λ xs. length xs) (same ∙ is) ∙ output_long k words are wide

  pub digit_is : (list items : List ℕ) (first : ℕ) → list ≡ items → items ≡ range_with_len first width → length list ≤ 64
  digit_is list items first same is = omega (arith, ap (λ xs. length xs) (same ∙ is), length-range_with_len first width, small, narrow)

  -- the sums of lists that are given are those of the words
  pub sums_same : (first root : ℕ) (d b z : List ℕ) → first ≡ length (word_names words) → root ≡ x → d ≡ range_with_len first width → b ≡ role_nets Input 0 words → z ≡ role_nets Output 0 words → sums_from (first + width) k mul root d b z ≡ digit_sums_of k mul x width words
  sums_same first root d b z first_is root_is d_is b_is z_is =
      ap₂ (λ n y. sums_from (n + width) k mul y d b z) first_is root_is
      ∙ (ap (λ v. sums_from (length (word_names words) + width) k mul x v b z) (d_is ∙ ap (λ n. range_with_len n width) first_is)
      ∙ ap₂ (λ v w. sums_from (length (word_names words) + width) k mul x (fed_nets width words) v w) b_is z_is)

  -- there is a sum for each bit of the product
  pub sums_are : (list items out : List ℕ) → list ≡ items → items ≡ (digit_sums_of k mul x width words).nets → length out ≡ k → length list ≡ length out
  sums_are list items out same is long =
      ap (λ xs. length xs) (same ∙ is)
      ∙ (sums_length (summands (length (word_names words) + width) k mul x (length (fed_nets width words)) (role_nets Output 0 words)) (products_from (length (word_names words) + width) k (fed_nets width words) (role_nets Input 0 words)) k
      ∙ sym long)

  module _ (sums_list z : List ℕ) (plan : Plan) (list : List LatchValue) (z_is : z ≡ role_nets Output 0 words)
      (plan_is : plan ≡ (digit_sums_of k mul x width words).plan) (sums_is : sums_list ≡ (digit_sums_of k mul x width words).nets) (list_is : list ≡ digit_latches (length z) sums_list z)
      (fed : List (List ℕ)) (fed_long : length fed ≡ width)
    where
      same_latches : list ≡ digit_latches k (digit_sums_of k mul x width words).nets (role_nets Output 0 words)
      same_latches =
          list_is
          ∙ (ap (λ n. digit_latches n sums_list z) (ap (λ xs. length xs) z_is ∙ output_long k words are wide)
          ∙ ap₂ (digit_latches k) sums_is z_is)

      pub plan_for_at : IsPlanFor words fed list [] plan
      plan_for_at =
          let P : Plan → Type 0 = λ p. IsPlanFor words fed list [] p in
          let Q : List LatchValue → Type 0 = λ ls. IsPlanFor words fed ls [] (digit_sums_of k mul x width words).plan in
          subst P (sym plan_is) (subst Q (sym same_latches) (plan_for k mul x width words are wide small narrow fed fed_long))

      pub made_at : made_of words fed list plan ≡ net_over k mul x width words fed
      made_at = ap₂ (made_of words fed) same_latches plan_is
