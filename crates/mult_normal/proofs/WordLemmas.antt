-- The nets of two state words and of the output word.
use Rattle.std.proofs.Common.{◌≡◌, ◌≢◌, ◌∙◌, ap, sym, subst, ℕ, ◌<◌, ◌≤◌, ◌+◌, ◌*◌, ◌^◌, List, [], ◌∷◌, ◌++◌, length, take, drop, append-nil, arith}
use Rattle.std.specs.Prelude.{slice_get}
use Rattle.std.proofs.Math.Seq.{take-append_seam, drop-append_seam}
use Rattle.std.proofs.lemmas.List.{length-take-le, take-append-drop, length-append}
use Rattle.lists.specs.Lists.{Has}
use Rattle.lists.specs.laws.HasLaws.{Has_left, Has_right}
use Rattle.lists.specs.laws.ListLaws.{two_lists}
use Rattle.make_laws.proofs.DigitRunLemmas.{has_place}
use Rattle.net_words.specs.declared.word.Role.TheVariants.{Input, State, Output}
use Rattle.net_words.specs.declared.word.WordText.{WordText}
use Rattle.make_nets.specs.Form.{AllWide, HasWords}
use Rattle.make_nets.specs.Ports.{inputs_of, outer_names, role_nets, word_names}
use Rattle.make_nets.proofs.WordLists.{all_of, lists_of}
use Rattle.make_nets.proofs.FormLemmas.{OneOf, lists_long, lists_wide, names_long, nets_long, nets_of_lists, no_nets, words_one_of}
use Rattle.make_laws.specs.Held.{net_at}
use Rattle.mult_normal.specs.NormalNet.{first_factor, product_nets, second_factor}

pub state_other : State ≢ Output
state_other e = cc

input_state : Input ≢ State
input_state e = cc

input_other : Input ≢ Output
input_other e = cc

module _ (k : ℕ) (words : List WordText) (has : HasWords State 2 words) (wide : AllWide k words) where
  pub one : OneOf State words
  one = words_one_of State 2 words state_other has

  pub states_long : length (role_nets State 0 words) ≡ k + k
  states_long = omega (arith, nets_long State k 0 words wide, ap (λ n. n * k) has.others)

  pub outputs_long : length (product_nets words) ≡ k
  outputs_long = omega (arith, nets_long Output k 0 words wide, ap (λ n. n * k) has.output)

  pub all_long : length (word_names words) ≡ 3 * k
  all_long = names_long k words wide ∙ ap (λ n. n * k) has.all

  pub first_long : length (first_factor k words) ≡ k
  first_long = length-take-le k (role_nets State 0 words) (omega (arith, states_long))

  pub both : first_factor k words ++ second_factor k words ≡ role_nets State 0 words
  both = take-append-drop k (role_nets State 0 words)

  pub second_long : length (second_factor k words) ≡ k
  second_long = omega (arith, length-append (first_factor k words) (second_factor k words), ap (λ xs. length xs) both, first_long, states_long)

  pub no_inputs : inputs_of words [] ≡ []
  no_inputs = ap (λ xs. xs ++ []) (no_nets State Input 0 words input_state input_other one)

  pub outer_is : outer_names words [] ≡ word_names words
  outer_is = append-nil (word_names words)

  -- the factors are the lists of both state words
  pub factors : (first second : List ℕ) × (lists_of 0 words ≡ first ∷ second ∷ []) × (first ≡ first_factor k words) × (second ≡ second_factor k words)
  factors =
      let lists = two_lists (lists_of 0 words) (lists_long State 0 words state_other one ∙ has.others) in
      let nets : role_nets State 0 words ≡ lists.0 ++ lists.1 = nets_of_lists State 0 words state_other one ∙ (ap all_of lists.2 ∙ ap (λ v. lists.0 ++ v) (append-nil lists.1)) in
      let long : length lists.0 ≡ k = lists_wide k 0 words wide lists.0 (0, ap (λ ls. slice_get ls 0) lists.2) in (
        lists.0,
        lists.1,
        lists.2,
        sym (ap (take k) nets ∙ (ap (λ n. take n (lists.0 ++ lists.1)) (sym long) ∙ take-append_seam lists.0 lists.1)),
        sym (ap (drop k) nets ∙ (ap (λ n. drop n (lists.0 ++ lists.1)) (sym long) ∙ drop-append_seam lists.0 lists.1)),
      )

  pub first_state : (i : ℕ) → i < k → Has (role_nets State 0 words) (net_at (first_factor k words) i)
  first_state i less = subst (λ (xs : List ℕ). Has xs (net_at (first_factor k words) i)) both (Has_left (first_factor k words) (second_factor k words) (net_at (first_factor k words) i) (has_place (first_factor k words) i (omega (arith, less, first_long))))

  pub second_state : (i : ℕ) → i < k → Has (role_nets State 0 words) (net_at (second_factor k words) i)
  second_state i less = subst (λ (xs : List ℕ). Has xs (net_at (second_factor k words) i)) both (Has_right (first_factor k words) (second_factor k words) (net_at (second_factor k words) i) (has_place (second_factor k words) i (omega (arith, less, second_long))))

  pub product_place : (i : ℕ) → i < k → Has (product_nets words) (net_at (product_nets words) i)
  product_place i less = has_place (product_nets words) i (omega (arith, less, outputs_long))

  -- the parts of a list of the states' nets
  pub half_low : (n : ℕ) (list items : List ℕ) → n ≡ k → list ≡ items → items ≡ role_nets State 0 words → n ≤ length list
  half_low n list items same is are = omega (arith, same, ap (λ xs. length xs) is, ap (λ xs. length xs) are, states_long)

  pub names_few : k ≤ 64 → length (word_names words) ≤ 192
  names_few small = omega (arith, all_long, small)

  pub count_low : (count : ℕ) → k ≤ 64 → count ≡ length (word_names words) → count ≤ 1024
  count_low count small is = omega (arith, is, all_long, small)

  pub outer_few : k ≤ 64 → (list : List WordText) → list ≡ words → length (outer_names list []) ≤ 2 ^ 20
  outer_few small list is = omega (arith, ap (λ ws. length (outer_names ws [])) is, ap (λ xs. length xs) outer_is, all_long, small)
