-- The input whose bits that are 1 have given ranks, and the one list of ranks of an input.
use Rattle.std.proofs.Common.{◌≡◌, ◌∙◌, ap, sym, refl, subst, inl, inr, ℕ, zero, suc, ◌<◌, ◌+◌, ◌*◌, ◌^◌, Bool, true, false, cond, List, [], ◌∷◌, length, Some, arith}
use Rattle.std.specs.Prelude.{slice_get, nat_eq}
use Rattle.std.specs.Int.{bit_at}
use Rattle.std.specs.Ordering.{nat_cmp}
use Rattle.std.specs.List.{list_all}
use Rattle.std.specs.List.Sorted.{IsStrictlySortedBy}
use Rattle.std.proofs.Math.Nat.{pow-succ'}
use Rattle.std.proofs.lemmas.Bool.{and_from, eq-eqb, or_left, or_right}
use Rattle.std.proofs.lemmas.Nat.Bits.{bit_at_lowest, bit_at-suc}
use Rattle.std.proofs.lemmas.Option.{slice_get_within}
use Rattle.lists.specs.Lists.{Has}
use Rattle.lists.specs.laws.NumberLaws.{lowest_of_choice, rest_of_choice}
use Rattle.lists.specs.laws.ReadLaws.{get_below}
use Rattle.irreducible.specs.Span.{combination}
use Rattle.irreducible.specs.laws.SpanLaws.{combination_below}
use Rattle.net_words.proofs.MemberLemmas.{stands_has}
use Rattle.gf_basis.specs.Basis.{AreBits}
use Rattle.circuit_model.specs.Word.{Word}
use Rattle.circuit_model.specs.Circuit.{Circuit, IsInput}
use Rattle.circuit_model.specs.WellFormed.{IsWellFormed}
use Rattle.circuit_model.proofs.OnesLemmas.{split, one_number}
use Rattle.poly_mixed.proofs.SubsetLemmas.{is_in, subset}
use Rattle.circuit_model.specs.Ones.{IsOne, AreOnes}
use Rattle.spec_compare.proofs.StepLemmas.{inputs_long}
use Rattle.spec_compare.specs.private.First.{number_at}
use Rattle.spec_compare.specs.private.InputOf.{inputs_from}

-- ---- members

pub is_member : (s : List ℕ) (r : ℕ) → Has s r → is_in s r ≡ true
is_member [] r has = let got = has.1 in absurd (cc)
is_member (x ∷ s) r (zero, got) = let same : x ≡ r = cc in or_left (nat_eq x r) (is_in s r) (eq-eqb x r same)
is_member (x ∷ s) r (suc k, got) = or_right (nat_eq x r) (is_in s r) (is_member s r (k, got))

all_members : (s xs : List ℕ) → ((x : ℕ) → Has xs x → Has s x) → list_all (is_in s) xs ≡ true
all_members s [] h = refl
all_members s (x ∷ xs) h = and_from (is_in s x) (list_all (is_in s) xs) (is_member s x (h x (0, refl))) (all_members s xs (λ y has. h y (suc has.0, has.1)))

same_sets : (s xs : List ℕ) → IsStrictlySortedBy nat_cmp s → IsStrictlySortedBy nat_cmp xs → ((x : ℕ) → Has xs x → Has s x) → ((x : ℕ) → Has s x → Has xs x) → xs ≡ s
same_sets s xs p q there back =
    elim (subset s xs p q (all_members s xs there)) [
      | inl l ↦ elim (subset xs s q p (all_members xs s back)) [ inl m ↦ absurd (omega arith) | inr e ↦ sym e ]
      | inr e ↦ e
    ]

-- an input has one list of ranks
pub one_list : (c : Circuit) (xs a b : List ℕ) → AreOnes c xs a → AreOnes c xs b → a ≡ b
one_list c xs a b p q = same_sets b a q.rising p.rising (λ r has. (q.are r).1 ((p.are r).0 has)) (λ r has. (p.are r).1 ((q.are r).0 has))

-- ---- the bits of a number

pub number_small : (ones : List ℕ) (first count : ℕ) → number_at ones first count < 2 ^ count
number_small ones first zero = omega arith
number_small ones first (suc count) =
    elim (is_in ones first) as (λ b. cond b 1 0 + 2 * number_at ones (first + 1) count < 2 ^ suc count) [
      | true ↦ omega (arith, number_small ones (first + 1) count, pow-succ' 2 count)
      | false ↦ omega (arith, number_small ones (first + 1) count, pow-succ' 2 count)
    ]

number_bit : (ones : List ℕ) (first count j : ℕ) → j < count → bit_at (number_at ones first count) j ≡ cond (is_in ones (first + j)) 1 0
number_bit ones first zero j less = absurd (omega arith)
number_bit ones first (suc count) zero less =
    let e : first + 0 ≡ first = omega arith in
    bit_at_lowest (number_at ones first (suc count)) ∙ lowest_of_choice (is_in ones first) (number_at ones (first + 1) count) ∙ ap (λ n. cond (is_in ones n) 1 0) (sym e)
number_bit ones first (suc count) (suc j) less =
    let e : first + 1 + j ≡ first + suc j = omega arith in
    bit_at-suc (number_at ones first (suc count)) j ∙ ap (λ n. bit_at n j) (rest_of_choice (is_in ones first) (number_at ones (first + 1) count))
    ∙ number_bit ones (first + 1) count j (omega arith) ∙ ap (λ n. cond (is_in ones n) 1 0) e

-- ---- the input of given ranks

at_input : (k : ℕ) (ones : List ℕ) (w : ℕ) (ws : List Word) (i : ℕ) (word : Word) → slice_get ws i ≡ Some word → slice_get (inputs_from k ones w ws) i ≡ Some (combination word.basis (number_at ones (k * (w + i)) k))
at_input k ones w [] i word got = absurd (cc)
at_input k ones w (u ∷ us) zero word got =
    let same : u ≡ word = cc in
    let e : w ≡ w + 0 = omega arith in
    (λ i. Some (combination (same i).basis (number_at ones (k * e i) k)))
at_input k ones w (u ∷ us) (suc i) word got =
    let e : w + 1 + i ≡ w + suc i = omega arith in
    at_input k ones (w + 1) us i word got ∙ ap (λ n. Some (combination word.basis (number_at ones (k * n) k))) e

module _ (c : Circuit) (well : IsWellFormed c) where
  module _ (ones : List ℕ) where
    are_bits : (i : ℕ) (word : Word) → slice_get c.words i ≡ Some word → AreBits word.basis (combination word.basis (number_at ones (c.k * i) c.k)) (number_at ones (c.k * i) c.k)
    are_bits i word got =
        let P : ℕ → Type 0 = λ n. number_at ones (c.k * i) c.k < 2 ^ n in
        record { short = subst P (sym (well.words word (i, got)).basis.size) (number_small ones (c.k * i) c.k); is = refl }

    abbrev pub the_input : List ℕ
    the_input = inputs_from c.k ones 0 c.words

    element_at : (i : ℕ) (word : Word) → slice_get c.words i ≡ Some word → slice_get the_input i ≡ Some (combination word.basis (number_at ones (c.k * i) c.k))
    element_at i word got = let e : 0 + i ≡ i = omega arith in at_input c.k ones 0 c.words i word got ∙ ap (λ n. Some (combination word.basis (number_at ones (c.k * n) c.k))) e

    element_in : (i : ℕ) (word : Word) → slice_get c.words i ≡ Some word → combination word.basis (number_at ones (c.k * i) c.k) < 2 ^ c.k
    element_in i word got = combination_below word.basis c.k (number_at ones (c.k * i) c.k) (λ j less. (well.words word (i, got)).basis.inside j less)

    is_input : IsInput c the_input
    is_input = record {
      long = inputs_long c.k ones 0 c.words;
      elements = λ x has.
          let word = get_below c.words has.0 (omega (arith, slice_get_within the_input has.0 x has.1, inputs_long c.k ones 0 c.words)) in
          let at = element_at has.0 word.0 word.1 in
          let got : slice_get the_input has.0 ≡ Some x = has.1 in
          let same : combination word.0.basis (number_at ones (c.k * has.0) c.k) ≡ x = cc in
          let P : ℕ → Type 0 = λ y. y < 2 ^ c.k in
          subst P same (element_in has.0 word.0 word.1);
    }

    bit_of_one : (b : Bool) → ◌≡◌ {A = ℕ} (cond b 1 0) 1 → b ≡ true
    bit_of_one true e = refl
    bit_of_one false e = absurd (omega arith)

    back : (rank : ℕ) → IsOne c the_input rank → Has ones rank
    back rank is =
        let at = element_at is.w is.word is.at_word in
        let got = is.at_input in
        let same : combination is.word.basis (number_at ones (c.k * is.w) c.k) ≡ is.element = cc in
        let P : ℕ → Type 0 = λ x. AreBits is.word.basis x is.bits in
        let equal : is.bits ≡ number_at ones (c.k * is.w) c.k = one_number c well is.w is.word (combination is.word.basis (number_at ones (c.k * is.w) c.k)) is.bits (number_at ones (c.k * is.w) c.k) is.at_word (element_in is.w is.word is.at_word) (subst P (sym same) is.are_bits) (are_bits is.w is.word is.at_word) in
        let one : cond (is_in ones (c.k * is.w + is.place)) 1 0 ≡ 1 = sym (number_bit ones (c.k * is.w) c.k is.place is.below) ∙ ap (λ n. bit_at n is.place) (sym equal) ∙ is.one in
        let Q : ℕ → Type 0 = Has ones in
        subst Q (sym is.rank_is) (stands_has ones (c.k * is.w + is.place) (bit_of_one (is_in ones (c.k * is.w + is.place)) one))

    there : ((rank : ℕ) → Has ones rank → rank < c.k * length c.words) → (rank : ℕ) → Has ones rank → IsOne c the_input rank
    there low rank has =
        let at = split c.k (length c.words) rank (low rank has) in
        let word = get_below c.words at.0 at.2 in
        let in_ones : is_in ones (c.k * at.0 + at.1) ≡ true = (let P : ℕ → Type 0 = λ r. is_in ones r ≡ true in subst P at.4 (is_member ones rank has)) in
        record {
          w = at.0;
          place = at.1;
          word = word.0;
          element = combination word.0.basis (number_at ones (c.k * at.0) c.k);
          bits = number_at ones (c.k * at.0) c.k;
          below = at.3;
          rank_is = at.4;
          at_word = word.1;
          at_input = element_at at.0 word.0 word.1;
          are_bits = are_bits at.0 word.0 word.1;
          one = number_bit ones (c.k * at.0) c.k at.1 at.3 ∙ ap (λ b. cond b 1 0) in_ones;
        }

    pub are_ones : IsStrictlySortedBy nat_cmp ones → ((rank : ℕ) → Has ones rank → rank < c.k * length c.words) → AreOnes c the_input ones
    are_ones up low = record { input = is_input; rising = up; are = λ rank. (there low rank, back rank) }
