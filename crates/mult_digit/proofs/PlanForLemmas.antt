-- The plan is one for the words and the fed nets, and the words are held by its latches.
use Rattle.std.proofs.Common.{◌≡◌, ◌∙◌, ap, ap₂, sym, subst, inl, inr, ℕ, suc, ◌<◌, ◌≤◌, ◌+◌, ◌*◌, ◌^◌, true, false, List, [], ◌++◌, length, map, length-append, mul-le-mul_left, arith}
use Rattle.std.specs.List.{range_with_len}
use Rattle.std.proofs.lemmas.List.FromFn.{length-range_with_len}
use Rattle.std.proofs.lemmas.Bool.{cases_lt}
use Rattle.lists.specs.Lists.{Has, times}
use Rattle.lists.specs.laws.HasLaws.{Has_cases, Has_left, Has_map, Has_right, times_append, times_some, none_at, range_has, range_once}
use Rattle.lists.specs.laws.ListLaws.{length_map as map_long}
use Rattle.make_laws.proofs.DigitRunLemmas.{has_place}
use Rattle.net_core.specs.LatchValue.{LatchValue}
use Rattle.net_words.specs.Bind.{is_unknown}
use Rattle.net_words.specs.declared.word.Role.TheVariants.{Input, Output}
use Rattle.net_words.specs.declared.word.WordText.{WordText}
use Rattle.make_nets.specs.PlanShape.{IsWellMade}
use Rattle.make_nets.specs.Makeable.{driven_outside}
use Rattle.make_nets.proofs.OuterNets.{CanRead}
use Rattle.make_nets.specs.BindingOfMade.{AreHeld}
use Rattle.make_nets.specs.Made.{IsPlanFor}
use Rattle.make_nets.specs.Ports.{inputs_of, outer_names, role_nets, word_names}
use Rattle.make_nets.proofs.MakeLemmas.{role_low}
use Rattle.make_laws.specs.Held.{net_at}
use Rattle.mult_gen.specs.Form.{AreWide}
use Rattle.mult_digit.specs.DigitForm.{AreDigitWords}
use Rattle.mult_digit.specs.DigitNet.{digit_sums_of, fed_nets}
use Rattle.mult_digit.specs.DigitPlan.{Sums, digit_latches}
use Rattle.mult_digit.proofs.LatchLemmas.{latch_is, latch_outs}
use Rattle.mult_digit.proofs.ShapeLemmas.{AreMade, sums_made}
use Rattle.mult_digit.proofs.WordLemmas.{fed_nets_are_unfed, has_range, input_at, input_nets, names_long, no_states, output_at, output_long, output_nets_are, range_at}

module _ (k : ℕ) (mul : ℕ → ℕ → ℕ) (x width : ℕ) (words : List WordText) (are : AreDigitWords words) (wide : AreWide k words) (small : k ≤ 64) (narrow : width ≤ k) (fed : List (List ℕ)) (fed_long : length fed ≡ width) where
  abbrev sums : Sums
  sums = digit_sums_of k mul x width words

  abbrev latches : List LatchValue
  latches = digit_latches k sums.nets (role_nets Output 0 words)

  abbrev driven : List ℕ
  driven = (range_with_len 0 k ++ range_with_len (k + k) width) ++ range_with_len k k

  outs : map (λ (l : LatchValue). l.out) latches ≡ role_nets Output 0 words
  outs = latch_outs k sums.nets (role_nets Output 0 words) (output_long k words are wide)

  outer_long : length (outer_names words fed) ≡ k + k + width
  outer_long = omega (arith, length-append (word_names words) fed, names_long k words are wide, fed_long)

  driven_is : driven_outside (inputs_of words fed) latches ≡ driven
  driven_is =
      ap₂ ◌++◌
      (ap₂ ◌++◌ (input_nets k words are wide) (ap₂ range_with_len (names_long k words are wide) fed_long))
      (outs ∙ output_nets_are k words are wide)

  -- the sources are the nets of all words and of a digit
  source_from : (n : ℕ) → Has driven n → Has (driven_outside (inputs_of words fed) latches) n
  source_from n there = subst (λ (xs : List ℕ). Has xs n) (sym driven_is) there

  fed_at : (e : ℕ) → e < width → net_at (fed_nets width words) e ≡ k + k + e
  fed_at e less = range_at (length (word_names words)) width e less ∙ ap (λ n. n + e) (names_long k words are wide)

  d_reads : (e : ℕ) → e < length (fed_nets width words) → Has (driven_outside (inputs_of words fed) latches) (net_at (fed_nets width words) e)
  d_reads e less =
      let below : e < width = omega (arith, less, length-range_with_len (length (word_names words)) width) in
      subst (λ (n : ℕ). Has (driven_outside (inputs_of words fed) latches) n) (sym (fed_at e below))
      (source_from (k + k + e) (Has_left (range_with_len 0 k ++ range_with_len (k + k) width) (range_with_len k k) (k + k + e) (Has_right (range_with_len 0 k) (range_with_len (k + k) width) (k + k + e) (has_range (k + k) width e below))))

  b_reads : (j : ℕ) → j < k → Has (driven_outside (inputs_of words fed) latches) (net_at (role_nets Input 0 words) j)
  b_reads j less =
      let plain : 0 + j ≡ j = omega arith in
      subst (λ (n : ℕ). Has (driven_outside (inputs_of words fed) latches) n) (plain ∙ sym (input_at k words are wide j less))
      (source_from (0 + j) (Has_left (range_with_len 0 k ++ range_with_len (k + k) width) (range_with_len k k) (0 + j) (Has_left (range_with_len 0 k) (range_with_len (k + k) width) (0 + j) (has_range 0 k j less))))

  z_reads : (i : ℕ) → i < k → Has (driven_outside (inputs_of words fed) latches) (net_at (role_nets Output 0 words) i)
  z_reads i less =
      subst (λ (n : ℕ). Has (driven_outside (inputs_of words fed) latches) n) (sym (output_at k words are wide i less))
      (source_from (k + i) (Has_right (range_with_len 0 k ++ range_with_len (k + k) width) (range_with_len k k) (k + i) (has_range k k i less)))

  made : AreMade (length (word_names words) + width) (driven_outside (inputs_of words fed) latches) k mul x (fed_nets width words) (role_nets Input 0 words) (role_nets Output 0 words) d_reads b_reads z_reads k sums
  made = sums_made (length (word_names words) + width) (driven_outside (inputs_of words fed) latches) k mul x (fed_nets width words) (role_nets Input 0 words) (role_nets Output 0 words) d_reads b_reads z_reads k

  outer_is : length (word_names words) + width ≡ length (outer_names words fed)
  outer_is = omega (arith, outer_long, names_long k words are wide)

  shape : IsWellMade (length (outer_names words fed)) (driven_outside (inputs_of words fed) latches) [] sums.plan
  shape = subst (λ (n : ℕ). IsWellMade n (driven_outside (inputs_of words fed) latches) [] sums.plan) outer_is made.made

  none_low : (a n m : ℕ) → m < a → times m (range_with_len a n) ≡ 0
  none_low a n m less = let few : 1 ≤ times m (range_with_len a n) → ⊥ = λ some. omega (arith, less, (range_has a n m (times_some m (range_with_len a n) some)).0) in omega (arith, few)

  none_high : (a n m : ℕ) → a + n ≤ m → times m (range_with_len a n) ≡ 0
  none_high a n m more = let few : 1 ≤ times m (range_with_len a n) → ⊥ = λ some. omega (arith, more, (range_has a n m (times_some m (range_with_len a n) some)).1) in omega (arith, few)

  once_driven : (n : ℕ) → n < k + k + width → times n driven ≡ 1
  once_driven n less = elim (cases_lt n k) [
    | inl first ↦ omega (arith, parts, range_once 0 k n (omega arith) (omega (arith, first)), none_low (k + k) width n (omega (arith, first)), none_low k k n first)
    | inr later ↦ elim (cases_lt n (k + k)) [
      | inl second ↦ omega (arith, parts, none_high 0 k n (omega (arith, later)), none_low (k + k) width n second, range_once k k n later second)
      | inr last ↦ omega (arith, parts, none_high 0 k n (omega (arith, later)), range_once (k + k) width n last less, none_high k k n last)
    ]
  ]
    where
      parts : times n driven ≡ times n (range_with_len 0 k) + times n (range_with_len (k + k) width) + times n (range_with_len k k)
      parts = omega (arith, times_append n (range_with_len 0 k ++ range_with_len (k + k) width) (range_with_len k k), times_append n (range_with_len 0 k) (range_with_len (k + k) width))

  once : (n : ℕ) → n < length (outer_names words fed) → times n (driven_outside (inputs_of words fed) latches) + times n [] ≡ 1
  once n less = omega (arith, ap (times n) driven_is, once_driven n (omega (arith, less, outer_long)))

  sum_low : (l : ℕ) → l < k → net_at sums.nets l < sums.plan.next
  sum_low l less = by (made.read (net_at sums.nets l) (has_place sums.nets l (omega (arith, less, made.count))))
    where
      by : CanRead (length (word_names words) + width) (driven_outside (inputs_of words fed) latches) sums.plan (net_at sums.nets l) → net_at sums.nets l < sums.plan.next
      by (inl source) = omega (arith, driven_low (net_at sums.nets l) (subst (λ (xs : List ℕ). Has xs (net_at sums.nets l)) driven_is source), made.made.from, names_long k words are wide)
        where
          driven_low : (n : ℕ) → Has driven n → n < k + k + width
          driven_low n there = elim (Has_cases (range_with_len 0 k ++ range_with_len (k + k) width) (range_with_len k k) n there) [
            | inl inputs ↦ elim (Has_cases (range_with_len 0 k) (range_with_len (k + k) width) n inputs) [
              | inl b ↦ omega (arith, (range_has 0 k n b).1)
              | inr d ↦ (range_has (k + k) width n d).1
            ]
            | inr z ↦ omega (arith, (range_has k k n z).1)
          ]
      by (inr inner) = inner.1

  nexts : (l : LatchValue) → Has latches l → l.next < sums.plan.next
  nexts l there =
      let is = latch_is k sums.nets (role_nets Output 0 words) l there in
      omega (arith, ap (λ (m : LatchValue). m.next) is.2, sum_low is.0 is.1)

  latch_low : (l : LatchValue) → Has latches l → l.out < length (outer_names words fed)
  latch_low l there =
      omega (arith, outer_long, names_long k words are wide, (role_low Output 0 words l.out (subst (λ (xs : List ℕ). Has xs l.out) outs (Has_map (λ (m : LatchValue). m.out) latches l there))).1)

  few : sums.plan.next + length {A = ℕ} [] + length latches ≤ 2 ^ 20
  few =
      let long : length (fed_nets width words) ≡ width = length-range_with_len (length (word_names words)) width in
      let products : k * length (fed_nets width words) ≤ 4096 = omega (arith, mul-le-mul_left k narrow, ap (λ n. k * n) long, square) in
      let chains : suc (k + k * length (fed_nets width words)) * k ≤ 4161 * 64 = omega (arith, bound (suc (k + k * length (fed_nets width words))) (omega (arith, small, products))) in
      omega (arith, made.few, products, chains, small, narrow, names_long k words are wide, map_long (λ (l : LatchValue). l.out) latches, ap (λ xs. length xs) outs, output_long k words are wide)
    where
      square : k * k ≤ 4096
      square = let h : k * k ≤ k * 64 = mul-le-mul_left k small in omega (arith, h, small)

      bound : (m : ℕ) → m ≤ 4161 → m * k ≤ 4161 * 64
      bound m less = let h : m * k ≤ m * 64 = mul-le-mul_left m small in omega (arith, h, less)

  pub plan_for : IsPlanFor words fed latches [] sums.plan
  plan_for = record { shape = shape; once = once; nexts = nexts; latch_outs = latch_low; few = few }

  pub are_held : AreHeld words latches
  are_held = record {
    fed = fed_nets_are_unfed k words are wide;
    states = λ n there. absurd (none_at n (subst (λ (xs : List ℕ). Has xs n) (no_states k words are wide) there));
    starts = λ l there unknown. absurd (known l there unknown);
  }
    where
      known : (l : LatchValue) → Has latches l → is_unknown l.start ≡ true → ⊥
      known l there unknown =
          let is = latch_is k sums.nets (role_nets Output 0 words) l there in
          let e : false ≡ true = ap (λ (m : LatchValue). is_unknown m.start) is.2 ∙ unknown in
          cc
