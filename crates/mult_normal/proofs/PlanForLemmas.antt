-- The plan is one for the words, and the words are held by its latches.
use Rattle.std.proofs.Common.{◌≡◌, ◌∙◌, ap, ap₂, sym, subst, inl, inr, ℕ, zero, suc, ◌<◌, ◌≤◌, ◌+◌, ◌*◌, ◌^◌, Bool, true, false, List, [], ◌++◌, length, map, length-append, None, arith}
use Rattle.lists.specs.Limits.{most_bytes}
use Rattle.lists.specs.Lists.{Has, times}
use Rattle.lists.specs.laws.HasLaws.{Has_cases, Has_left, Has_map, times_append}
use Rattle.lists.specs.laws.ListLaws.{length_map as map_long}
use Rattle.lists.specs.laws.NumberLaws.{square_few}
use Rattle.net_core.specs.LatchValue.{LatchValue}
use Rattle.net_words.specs.Bind.{is_unknown}
use Rattle.net_words.specs.declared.word.Role.TheVariants.{State, Fed, Output}
use Rattle.net_words.specs.declared.word.WordText.{WordText}
use Rattle.net_write.specs.Written.{written}
use Rattle.make_nets.specs.MakerNames.{AreMakerNames}
use Rattle.make_nets.specs.Plan.{Plan}
use Rattle.make_nets.specs.PlanShape.{IsWellMade}
use Rattle.make_nets.specs.Makeable.{driven_outside}
use Rattle.make_nets.proofs.ShapeLemmas.{chain_grows}
use Rattle.make_nets.proofs.ShortLemmas.{short_text}
use Rattle.make_nets.specs.BindingOfMade.{AreHeld}
use Rattle.make_nets.specs.Form.{AllWide, HasWords}
use Rattle.make_nets.specs.Made.{IsPlanFor, made_of}
use Rattle.make_nets.specs.Ports.{inputs_of, outer_names, role_nets, word_names}
use Rattle.make_nets.proofs.FormLemmas.{roles_once}
use Rattle.make_nets.proofs.MakeLemmas.{role_low}
use Rattle.make_laws.specs.Held.{net_at}
use Rattle.make_laws.specs.NormalNets.{place_before}
use Rattle.mult_normal.specs.NormalNet.{first_factor, product_nets, second_factor}
use Rattle.mult_normal.specs.NormalPlan.{Products, moved_from, normal_latches, products_from, sum_net, summed}
use Rattle.mult_normal.proofs.LatchLemmas.{latch_cases, latch_outs}
use Rattle.mult_normal.proofs.ShapeLemmas.{AreFew, rows_few, sum_made, sum_read, sum_two}
use Rattle.mult_normal.proofs.WordLemmas.{all_long, both, first_long, first_state, no_inputs, one, outer_is, outputs_long, product_place, second_long, second_state, state_other, states_long}

before_low : (k i : ℕ) → i < k → place_before k i < k
before_low k zero less = omega (arith, less)
before_low k (suc i) less = omega (arith, less)

module _ (k : ℕ) (counts : ℕ → ℕ → Bool) (words : List WordText) (has : HasWords State 2 words) (wide : AllWide k words) (small : k ≤ 64) where
  abbrev products : Products
  products = products_from (length (word_names words)) k counts (first_factor k words) (second_factor k words)

  abbrev latches : List LatchValue
  latches = normal_latches k (sum_net products) (first_factor k words) (second_factor k words) (product_nets words)

  abbrev held_nets : List ℕ
  held_nets = role_nets State 0 words ++ product_nets words

  -- the latches drive the nets of all words
  outs : map (λ (l : LatchValue). l.out) latches ≡ held_nets
  outs =
      latch_outs k (sum_net products) (first_factor k words) (second_factor k words) (product_nets words) (first_long k words has wide) (second_long k words has wide) (outputs_long k words has wide)
      ∙ ap (λ xs. xs ++ product_nets words) (both k words has wide)

  driven_is : driven_outside (inputs_of words []) latches ≡ held_nets
  driven_is = ap (λ xs. xs ++ map (λ (l : LatchValue). l.out) latches) (no_inputs k words has wide) ∙ outs

  driven_has : (n : ℕ) → Has held_nets n → Has (driven_outside (inputs_of words []) latches) n
  driven_has n there = subst (λ (xs : List ℕ). Has xs n) (sym driven_is) there

  a_reads : (i : ℕ) → i < k → Has (driven_outside (inputs_of words []) latches) (net_at (first_factor k words) i)
  a_reads i less = driven_has (net_at (first_factor k words) i) (Has_left (role_nets State 0 words) (product_nets words) (net_at (first_factor k words) i) (first_state k words has wide i less))

  b_reads : (i : ℕ) → i < k → Has (driven_outside (inputs_of words []) latches) (net_at (second_factor k words) i)
  b_reads i less = driven_has (net_at (second_factor k words) i) (Has_left (role_nets State 0 words) (product_nets words) (net_at (second_factor k words) i) (second_state k words has wide i less))

  outer_long : length (word_names words) ≡ length (outer_names words [])
  outer_long = ap (λ xs. length xs) (sym (outer_is k words has wide))

  made : IsWellMade (length (word_names words)) (driven_outside (inputs_of words []) latches) [] (summed products)
  made = sum_made (length (word_names words)) (driven_outside (inputs_of words []) latches) k counts (first_factor k words) (second_factor k words) a_reads b_reads

  shape : IsWellMade (length (outer_names words [])) (driven_outside (inputs_of words []) latches) [] (summed products)
  shape = subst (λ (n : ℕ). IsWellMade n (driven_outside (inputs_of words []) latches) [] (summed products)) outer_long made

  state_low : (n : ℕ) → Has (role_nets State 0 words) n → n < length (word_names words)
  state_low n there = omega (arith, (role_low State 0 words n there).1)

  output_low : (n : ℕ) → Has (product_nets words) n → n < length (word_names words)
  output_low n there = omega (arith, (role_low Output 0 words n there).1)

  held_low : (n : ℕ) → Has held_nets n → n < length (word_names words)
  held_low n there = elim (Has_cases (role_nets State 0 words) (product_nets words) n there) [
    | inl state ↦ state_low n state
    | inr output ↦ output_low n output
  ]

  once : (n : ℕ) → n < length (outer_names words []) → times n (driven_outside (inputs_of words []) latches) + times n [] ≡ 1
  once n less = omega (
    arith,
    ap (times n) driven_is,
    times_append n (role_nets State 0 words) (product_nets words),
    roles_once State 0 words n state_other (one k words has wide) (omega arith) (omega (arith, less, outer_long)),
  )

  sum_low : sum_net products < (summed products).next
  sum_low = elim (sum_read (length (word_names words)) (driven_outside (inputs_of words []) latches) k counts (first_factor k words) (second_factor k words) a_reads b_reads) [
    | inl source ↦ omega (arith, held_low (sum_net products) (subst (λ (xs : List ℕ). Has xs (sum_net products)) driven_is source), made.from)
    | inr inner ↦ inner.1
  ]

  moved_low : (i : ℕ) → i < k → moved_from (sum_net products) (product_nets words) i < (summed products).next
  moved_low zero less = sum_low
  moved_low (suc i) less = omega (arith, output_low (net_at (product_nets words) i) (product_place k words has wide i (omega (arith, less))), made.from)

  nexts : (l : LatchValue) → Has latches l → l.next < (summed products).next
  nexts l there = elim (latch_cases k (sum_net products) (first_factor k words) (second_factor k words) (product_nets words) l there) [
    | inl a ↦ omega (arith, ap (λ (m : LatchValue). m.next) a.2, state_low (net_at (first_factor k words) (place_before k a.0)) (first_state k words has wide (place_before k a.0) (before_low k a.0 a.1)), made.from)
    | inr more ↦ elim more [
      | inl b ↦ omega (arith, ap (λ (m : LatchValue). m.next) b.2, state_low (net_at (second_factor k words) (place_before k b.0)) (second_state k words has wide (place_before k b.0) (before_low k b.0 b.1)), made.from)
      | inr z ↦ omega (arith, ap (λ (m : LatchValue). m.next) z.2, moved_low z.0 z.1)
    ]
  ]

  latch_low : (l : LatchValue) → Has latches l → l.out < length (outer_names words [])
  latch_low l there =
      omega (arith, outer_long, held_low l.out (subst (λ (xs : List ℕ). Has xs l.out) outs (Has_map (λ (m : LatchValue). m.out) latches l there)))

  next_few : (summed products).next ≤ length (word_names words) + 8193
  next_few = omega (arith, chain_grows None products.nets products.plan, rows.nets, rows.next, square_few k small)
    where
      rows : AreFew (length (word_names words)) (k * k) products
      rows = rows_few k counts (first_factor k words) (second_factor k words) (length (word_names words)) k

  latch_count : length latches ≡ k + k + k
  latch_count = omega (
    arith,
    map_long (λ (l : LatchValue). l.out) latches,
    ap (λ xs. length xs) outs,
    length-append (role_nets State 0 words) (product_nets words),
    states_long k words has wide,
    outputs_long k words has wide,
  )

  few : (summed products).next + length {A = ℕ} [] + length latches ≤ 2 ^ 20
  few = omega (arith, next_few, small, all_long k words has wide, latch_count)

  pub plan_for : IsPlanFor words [] latches [] (summed products)
  plan_for = record { shape = shape; once = once; nexts = nexts; latch_outs = latch_low; few = few }

  -- the text of the net
  pub text_fits : AreMakerNames (outer_names words []) → length (written (made_of words [] latches (summed products))) ≤ most_bytes
  text_fits names =
      short_text words [] latches [] (summed products) names plan_for
      (record {
        two = sum_two k counts (first_factor k words) (second_factor k words) (length (word_names words));
        few = omega (arith, made.count, next_few);
      })
      (omega (arith, all_long k words has wide, small)) (omega (arith, latch_count, small))

  pub are_held : AreHeld words latches
  are_held = record {
    fed = λ word there is. absurd (no_fed word there is);
    states = λ n there. subst (λ (xs : List ℕ). Has xs n) (sym outs) (Has_left (role_nets State 0 words) (product_nets words) n there);
    starts = starts;
  }
    where
      no_fed : (word : WordText) → Has words word → word.role ≡ Fed → ⊥
      no_fed word there is = elim (one k words has wide word there) [
        | inl state ↦ let e : State ≡ Fed = sym state ∙ is in absurd (cc)
        | inr output ↦ let e : Output ≡ Fed = sym output ∙ is in absurd (cc)
      ]

      starts : (l : LatchValue) → Has latches l → is_unknown l.start ≡ true → Has (role_nets State 0 words) l.out
      starts l there unknown = elim (latch_cases k (sum_net products) (first_factor k words) (second_factor k words) (product_nets words) l there) [
        | inl a ↦ subst (λ (m : LatchValue). Has (role_nets State 0 words) m.out) a.2 (first_state k words has wide a.0 a.1)
        | inr more ↦ elim more [
          | inl b ↦ subst (λ (m : LatchValue). Has (role_nets State 0 words) m.out) b.2 (second_state k words has wide b.0 b.1)
          | inr z ↦ let e : false ≡ true = ap (λ (m : LatchValue). is_unknown m.start) z.2 ∙ unknown in absurd (cc)
        ]
      ]

  -- the plan and the latches that the code makes, whose parts are given by equations
  module _ (count last : ℕ) (a b z : List ℕ) (plan : Plan) (list : List LatchValue) (counted : count ≡ length (word_names words)) (a_is : a ≡ first_factor k words) (b_is : b ≡ second_factor k words) (z_is : z ≡ product_nets words)
      (plan_is : plan ≡ summed (products_from count k counts a b)) (last_is : last ≡ sum_net (products_from count k counts a b)) (list_is : list ≡ normal_latches (length a) last a b z)
    where
      same_products : products_from count k counts a b ≡ products
      same_products = ap (λ n. products_from n k counts a b) counted ∙ ap₂ (λ x y. products_from (length (word_names words)) k counts x y) a_is b_is

      pub same_plan : plan ≡ summed products
      same_plan = plan_is ∙ ap summed same_products

      pub same_latches : list ≡ latches
      same_latches =
          list_is
          ∙ (ap (λ n. normal_latches n last a b z) (ap (λ xs. length xs) a_is ∙ first_long k words has wide)
          ∙ (ap (λ s. normal_latches k s a b z) (last_is ∙ ap sum_net same_products)
          ∙ (ap₂ (λ x y. normal_latches k (sum_net products) x y z) a_is b_is
          ∙ ap (normal_latches k (sum_net products) (first_factor k words) (second_factor k words)) z_is)))

      pub plan_for_at : IsPlanFor words [] list [] plan
      plan_for_at =
          let P : Plan → Type 0 = λ p. IsPlanFor words [] list [] p in
          let Q : List LatchValue → Type 0 = λ ls. IsPlanFor words [] ls [] (summed products) in
          subst P (sym same_plan) (subst Q (sym same_latches) plan_for)

      pub made_at : made_of words [] list plan ≡ made_of words [] latches (summed products)
      made_at = ap₂ (made_of words []) same_latches same_plan
