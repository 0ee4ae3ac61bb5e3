-- Each input has a list of the ranks of its bits that are 1, and the point of these ranks has the input's elements.
use Rattle.std.proofs.Common.{◌≡◌, ◌∙◌, ap, sym, refl, subst, inl, inr, ℕ, zero, suc, ◌<◌, ◌≤◌, ◌+◌, ◌*◌, ◌^◌, ◌↔◌, Bool, true, false, cond, List, [], ◌∷◌, length, Some, arith}
use Rattle.std.specs.Prelude.{slice_get, nat_eq, ◌==◌}
use Rattle.std.specs.Int.{bit_at}
use Rattle.std.specs.Ordering.{nat_cmp}
use Rattle.std.specs.Cmp.{both_ways}
use Rattle.std.specs.declared.cmp.Ordering.TheVariants.{Less}
use Rattle.std.specs.List.{AllByRecursion}
use Rattle.std.specs.List.Sorted.{IsStrictlySortedBy}
use Rattle.std.proofs.Math.Nat.{mul-suc, mul-le-mul_left}
use Rattle.std.proofs.lemmas.Bool.{cases_lt, eq-eqb, eqb-true}
use Rattle.std.proofs.lemmas.Option.{slice_get_within}
use Rattle.lists.specs.Lists.{Has}
use Rattle.lists.specs.laws.HasLaws.{all_in as all_has}
use Rattle.lists.specs.laws.OrderingLaws.{cmp_less}
use Rattle.lists.specs.laws.ReadLaws.{get_below}
use Rattle.net_core.specs.NetList.{nets}
use Rattle.net_core.specs.Value.{bit_of}
use Rattle.net_words.proofs.MemberLemmas.{stands_has}
use Rattle.gf_basis.specs.Basis.{AreBits, HasOnlyBits}
use Rattle.circuit_model.specs.Word.{Word, HasElement}
use Rattle.circuit_model.specs.Circuit.{Circuit, IsInput}
use Rattle.circuit_model.specs.WellFormed.{IsWellFormed}
use Rattle.circuit_model.specs.Out.{IsOut}
use Rattle.circuit_model.proofs.BitLemmas.{index_is}
use Rattle.circuit_model.proofs.OutLemmas.{one_out}
use Rattle.circuit_model.proofs.SourceLemmas.{source_inside, stands_source}
use Rattle.poly_mixed.specs.Polynomial.{Terms, IsPoint, value}
use Rattle.poly_mixed.proofs.FieldLaws.{field_of}
use Rattle.poly_mixed.proofs.SubsetLemmas.{is_in}
use Rattle.poly_mixed.proofs.ValueLemmas.{zero_element}
use Rattle.stage_model.specs.OutputInBits.{IsOutputInBits}
use Rattle.stage_model.specs.Variables.{point_bits, variables_of}
use Rattle.stage_model.proofs.PointLemmas.{point_bits_at}
use Rattle.stage_model.proofs.PlaceLemmas.{place_rank}
use Rattle.circuit_model.specs.Ones.{IsOne, AreOnes}
use Rattle.spec_compare.specs.ValueAt.{at_ones, IsValueAt}
use Rattle.circuit_model.proofs.OnesLemmas.{split, one_place, one_number}
use Rattle.spec_compare.proofs.InputLemmas.{is_member}

-- ---- the numbers that pass a test, rising

collect : (ℕ → Bool) → ℕ → ℕ → List ℕ
collect b first zero = []
collect b first (suc n) = cond (b first) (first ∷ collect b (first + 1) n) (collect b (first + 1) n)

collect_has : (b : ℕ → Bool) (first n r : ℕ) → first ≤ r → r < first + n → b r ≡ true → Has (collect b first n) r
unfolding collect
collect_has b first zero r low high yes' = absurd (omega arith)
collect_has b first (suc n) r low high yes' =
    elim (cases_lt first r) [
      | inl less ↦ elim (b first) as (λ t. Has (cond t (first ∷ collect b (first + 1) n) (collect b (first + 1) n)) r) [
        | true ↦ let rest = collect_has b (first + 1) n r (omega arith) (omega arith) yes' in (suc rest.0, rest.1)
        | false ↦ collect_has b (first + 1) n r (omega arith) (omega arith) yes'
      ]
      | inr more ↦
          let same : first ≡ r = omega arith in
          let here : b first ≡ true = ap b same ∙ yes' in
          let P : Bool → Type 0 = λ t. Has (cond t (first ∷ collect b (first + 1) n) (collect b (first + 1) n)) r in
          subst P (sym here) (0, ap Some same)
    ]

collect_all : (P : ℕ → Type 0) (b : ℕ → Bool) (first n : ℕ) → ((r : ℕ) → first ≤ r → b r ≡ true → P r) → AllByRecursion P (collect b first n)
unfolding collect
collect_all P b first zero h = tt
collect_all P b first (suc n) h =
    elim (b first) as (λ t. b first ≡ t → AllByRecursion P (cond t (first ∷ collect b (first + 1) n) (collect b (first + 1) n))) [
      | true ↦ λ e. (h first (omega arith) e, collect_all P b (first + 1) n (λ r low is. h r (omega arith) is))
      | false ↦ λ e. collect_all P b (first + 1) n (λ r low is. h r (omega arith) is)
    ] refl

collect_rises : (b : ℕ → Bool) (first n : ℕ) → IsStrictlySortedBy nat_cmp (collect b first n)
unfolding collect IsStrictlySortedBy
collect_rises b first zero = tt
collect_rises b first (suc n) =
    elim (b first) as (λ t. IsStrictlySortedBy nat_cmp (cond t (first ∷ collect b (first + 1) n) (collect b (first + 1) n))) [
      | true ↦ (collect_all (λ y. nat_cmp first y ≡ Less) b (first + 1) n (λ r low is. cmp_less first r (omega arith)), collect_rises b (first + 1) n)
      | false ↦ collect_rises b (first + 1) n
    ]

-- ---- the bits of an input

record Test (c : Circuit) (xs : List ℕ) (r : ℕ) : Type 0 where
  pub holds : Bool
  pub there : holds ≡ true → IsOne c xs r
  pub back : IsOne c xs r → holds ≡ true

module _ (c : Circuit) (well : IsWellFormed c) (xs : List ℕ) (input : IsInput c xs) where
  -- the bits of the word's element, which is the input's
  only_bits : (i x : ℕ) (word : Word) → slice_get c.words i ≡ Some word → slice_get xs i ≡ Some x → HasOnlyBits word.basis x
  only_bits i x word at got = (well.words word (i, at)).basis.sums x (input.elements x (i, got))

  one_there : (i x d j : ℕ) (word : Word) → slice_get c.words i ≡ Some word → slice_get xs i ≡ Some x → AreBits word.basis x d → j < c.k → IsOne c xs (c.k * i + j) → bit_at d j ≡ 1
  one_there i x d j word at got bits less is =
      let where_is = one_place c.k i is.w j is.place less is.below is.rank_is in
      let P : ℕ → Type 0 = λ w. slice_get c.words w ≡ Some is.word in
      let Q : ℕ → Type 0 = λ w. slice_get xs w ≡ Some is.element in
      let word_there : slice_get c.words i ≡ Some is.word = subst P (sym where_is.0) is.at_word in
      let x_there : slice_get xs i ≡ Some is.element = subst Q (sym where_is.0) is.at_input in
      let same_word : is.word ≡ word = cc in
      let same_x : is.element ≡ x = cc in
      let R : Word → Type 0 = λ u. AreBits u.basis is.element is.bits in
      let S : ℕ → Type 0 = λ z. AreBits word.basis z is.bits in
      let own = subst S same_x (subst R same_word is.are_bits) in
      let equal = one_number c well i word x is.bits d at (input.elements x (i, got)) own bits in
      (λ t. bit_at (sym equal t) (where_is.1 t)) ∙ is.one

  one_here : (i x d j : ℕ) (word : Word) → slice_get c.words i ≡ Some word → slice_get xs i ≡ Some x → AreBits word.basis x d → j < c.k → bit_at d j ≡ 1 → IsOne c xs (c.k * i + j)
  one_here i x d j word at got bits less one = record { w = i; place = j; word = word; element = x; bits = d; below = less; rank_is = refl; at_word = at; at_input = got; are_bits = bits; one = one }

  one_below : (r : ℕ) → IsOne c xs r → r < c.k * length c.words
  one_below r is = omega (arith, is.rank_is, is.below, mul-suc c.k is.w, mul-le-mul_left {m = suc is.w} {n = length c.words} c.k (slice_get_within c.words is.w is.word is.at_word))

  test : (r : ℕ) → Test c xs r
  test r =
      elim (cases_lt r (c.k * length c.words)) [
        | inl less ↦
            let at = split c.k (length c.words) r less in
            let word = get_below c.words at.0 at.2 in
            let x = get_below xs at.0 (omega (arith, at.2, input.long)) in
            let only = only_bits at.0 x.0 word.0 word.1 x.1 in
            let P : ℕ → Type 0 = IsOne c xs in
            record {
              holds = nat_eq (bit_at only.choice at.1) 1;
              there = λ e. subst P (sym at.4) (one_here at.0 x.0 only.choice at.1 word.0 word.1 x.1 only.chosen at.3 (eqb-true (bit_at only.choice at.1) 1 e));
              back = λ is. eq-eqb (bit_at only.choice at.1) 1 (one_there at.0 x.0 only.choice at.1 word.0 word.1 x.1 only.chosen at.3 (subst P at.4 is));
            }
        | inr more ↦ record { holds = false; there = λ e. absurd (cc); back = λ is. absurd (omega (arith, one_below r is, more)) }
      ]

  pub the_ones : List ℕ
  the_ones = collect (λ r. (test r).holds) 0 (c.k * length c.words)

  pub some_ones : AreOnes c xs the_ones
  unfolding the_ones
  some_ones = record {
    input = input;
    rising = collect_rises (λ r. (test r).holds) 0 (c.k * length c.words);
    are = λ r. (
      λ has. (test r).there (all_has (λ y. (test y).holds ≡ true) (collect (λ y. (test y).holds) 0 (c.k * length c.words)) r (collect_all (λ y. (test y).holds ≡ true) (λ y. (test y).holds) 0 (c.k * length c.words) (λ y low e. e)) has),
      λ is. collect_has (λ y. (test y).holds) 0 (c.k * length c.words) r (omega arith) (omega (arith, one_below r is)) ((test r).back is),
    );
  }

  module _ (ones : List ℕ) (are : AreOnes c xs ones) where
    bits : List Bool
    bits = point_bits (nets c.net) (variables_of c) (at_ones ones)

    one_bit : (i x d j n : ℕ) (word : Word) → slice_get c.words i ≡ Some word → slice_get xs i ≡ Some x → AreBits word.basis x d → slice_get word.nets j ≡ Some n → bit_of (point_bits (nets c.net) (variables_of c) (at_ones ones)) n ≡ (bit_at d j == 1)
    one_bit i x d j n word at got own net =
        let inside = source_inside c.net well.sound n (stands_source c.net word.role n (well.inner word (i, at)) (well.places word n (i, at) (j, net))) in
        let less : j < c.k = omega (arith, slice_get_within word.nets j n net, (well.words word (i, at)).nets) in
        let same : is_in ones (c.k * i + j) ≡ nat_eq (bit_at d j) 1 =
        both_ways (is_in ones (c.k * i + j)) (nat_eq (bit_at d j) 1)
        (λ e. eq-eqb (bit_at d j) 1 (one_there i x d j word at got own less ((are.are (c.k * i + j)).0 (stands_has ones (c.k * i + j) e))))
        (λ e. is_member ones (c.k * i + j) ((are.are (c.k * i + j)).1 (one_here i x d j word at got own less (eqb-true (bit_at d j) 1 e)))) in
        point_bits_at (nets c.net) (variables_of c) (at_ones ones) n inside ∙ ap (is_in ones) (place_rank c well i j n word at net) ∙ same

    -- the point of the ranks is at the input
    pub element_there : (i x : ℕ) (word : Word) → slice_get c.words i ≡ Some word → slice_get xs i ≡ Some x → HasElement (point_bits (nets c.net) (variables_of c) (at_ones ones)) word x
    element_there i x word at got =
        let only = only_bits i x word at got in
        let is = well.words word (i, at) in
        let P : ℕ → Type 0 = λ n. only.choice < 2 ^ n in
        let Q : ℕ → Type 0 = λ n. AreBits word.basis x n in
        let equal = index_is (point_bits (nets c.net) (variables_of c) (at_ones ones)) word.nets only.choice (subst P (is.basis.size ∙ sym is.nets) only.chosen.short) (λ j n net. one_bit i x only.choice j n word at got only.chosen net) in
        record { long = is.basis.size ∙ sym is.nets; sum = subst Q (sym equal) only.chosen }

    pub at_point : IsPoint c.k (at_ones ones)
    at_point = let z = zero_element (field_of c.k c.product well.ring well.no_zero_divisors) in record { words = refl; elements = (z, (z, (z, (z, (z, (z, (z, (z, tt)))))))) }

    pub out_there : (ts : Terms) → IsOutputInBits c ts → IsOut c xs (value c.product (at_ones ones) ts)
    out_there ts is = is.values (at_ones ones) xs at_point input (λ i word x at got any. element_there i x word at got)

pub as_value : (c : Circuit) (ts : Terms) (xs : List ℕ) (e : ℕ) → IsWellFormed c → IsOutputInBits c ts → IsValueAt c ts xs e ↔ IsOut c xs e
as_value c ts xs e well is = (
  (λ v. let P : ℕ → Type 0 = IsOut c xs in subst P v.value_is (out_there c well xs v.are.input v.ones v.are ts is)),
  λ out.
      let input = out.is_run.open_run.input in
      let ones = the_ones c well xs input in
      let are = some_ones c well xs input in
      record { ones = ones; are = are; value_is = one_out c xs (value c.product (at_ones ones) ts) e well (out_there c well xs input ones are ts is) out },
)

pub some_value : (c : Circuit) (ts : Terms) (xs : List ℕ) → IsWellFormed c → IsInput c xs → (e : ℕ) × IsValueAt c ts xs e
some_value c ts xs well input = (value c.product (at_ones (the_ones c well xs input)) ts, record { ones = the_ones c well xs input; are = some_ones c well xs input; value_is = refl })
