-- Inputs and the ranks of their bits that are 1: no two inputs have the same.
use Rattle.std.proofs.Common.{◌≡◌, ◌∙◌, ap, sym, refl, subst, inl, inr, ℕ, zero, suc, ◌<◌, ◌+◌, ◌*◌, ◌-◌, ◌^◌, List, length, Some, map, arith}
use Rattle.std.specs.Prelude.{slice_get}
use Rattle.std.specs.Int.{bit_at}
use Rattle.std.proofs.Math.Nat.{mul-suc, mul-le-mul_left}
use Rattle.std.proofs.lemmas.Bool.{cases_lt, cases_order}
use Rattle.std.proofs.lemmas.Nat.Bits.{bit_at-lt, same_from_bits_below}
use Rattle.std.proofs.lemmas.List.{length-map}
use Rattle.std.proofs.lemmas.Option.{slice_get_within, slice_get-map}
use Rattle.lists.specs.laws.ReadLaws.{same_lists, get_below, from_map}
use Rattle.irreducible.specs.Span.{combination}
use Rattle.gf_basis.specs.Basis.{AreBits}
use Rattle.circuit_model.specs.Word.{Word}
use Rattle.circuit_model.specs.Alike.{AreAlike}
use Rattle.circuit_model.specs.Circuit.{Circuit, IsInput}
use Rattle.circuit_model.specs.Ones.{IsOne, AreOnes}
use Rattle.circuit_model.specs.WellFormed.{IsWellFormed}

-- ---- ranks

pub split : (k count r : ℕ) → r < k * count → (w : ℕ) × (place : ℕ) × (w < count) × (place < k) × (r ≡ k * w + place)
split k zero r less = absurd (omega arith)
split k (suc count) r less =
    elim (cases_lt r (k * count)) [
      | inl low ↦ let rest = split k count r low in (rest.0, rest.1, omega (arith, rest.2), rest.3, rest.4)
      | inr high ↦ (count, r - k * count, omega arith, omega (arith, less, high, mul-suc k count), omega (arith, high))
    ]

pub one_place : (k w v p q : ℕ) → p < k → q < k → k * w + p ≡ k * v + q → (w ≡ v) × (p ≡ q)
one_place k w v p q a b e =
    elim (cases_order w v) [
      | inl same ↦ (same, let f : k * w ≡ k * v = ap (λ n. k * n) same in omega (arith, e, f))
      | inr which ↦ elim which [
        | inl low ↦ absurd (omega (arith, e, a, mul-le-mul_left {m = suc w} {n = v} k low, mul-suc k w))
        | inr high ↦ absurd (omega (arith, e, b, mul-le-mul_left {m = suc v} {n = w} k high, mul-suc k v))
      ]
    ]

module _ (c : Circuit) (well : IsWellFormed c) where
  -- the bits of an element in a basis are one number
  pub one_number : (i : ℕ) (word : Word) (x d e : ℕ) → slice_get c.words i ≡ Some word → x < 2 ^ c.k → AreBits word.basis x d → AreBits word.basis x e → d ≡ e
  one_number i word x d e got less p q =
      let only = (well.words word (i, got)).basis.sums x less in
      only.only d p ∙ sym (only.only e q)

  -- ---- one input

  module _ (xs ys ones : List ℕ) (a : AreOnes c xs ones) (b : AreOnes c ys ones) where
    bit_there : (i x y d e : ℕ) (word : Word) → slice_get c.words i ≡ Some word → slice_get xs i ≡ Some x → slice_get ys i ≡ Some y → AreBits word.basis x d → AreBits word.basis y e → (j : ℕ) → j < c.k → bit_at d j ≡ 1 → bit_at e j ≡ 1
    bit_there i x y d e word got at_x at_y p q j less one =
        let is = (b.are (c.k * i + j)).0 ((a.are (c.k * i + j)).1 (record { w = i; place = j; word = word; element = x; bits = d; below = less; rank_is = refl; at_word = got; at_input = at_x; are_bits = p; one = one })) in
        let where_is = one_place c.k i is.w j is.place less is.below is.rank_is in
        let P : ℕ → Type 0 = λ w. slice_get c.words w ≡ Some is.word in
        let Q : ℕ → Type 0 = λ w. slice_get ys w ≡ Some is.element in
        let word_there : slice_get c.words i ≡ Some is.word = subst P (sym where_is.0) is.at_word in
        let y_there : slice_get ys i ≡ Some is.element = subst Q (sym where_is.0) is.at_input in
        let same_word : is.word ≡ word = cc in
        let same_y : is.element ≡ y = cc in
        let R : Word → Type 0 = λ u. AreBits u.basis is.element is.bits in
        let S : ℕ → Type 0 = λ z. AreBits word.basis z is.bits in
        let bits = subst S same_y (subst R same_word is.are_bits) in
        let equal = one_number i word y is.bits e got (b.input.elements y (i, at_y)) bits q in
        (λ t. bit_at (sym equal t) (where_is.1 t)) ∙ is.one

pub one_input : (c : Circuit) → IsWellFormed c → (xs ys ones : List ℕ) → AreOnes c xs ones → AreOnes c ys ones → xs ≡ ys
one_input c well xs ys ones a b = same_lists xs ys (a.input.long ∙ sym b.input.long) same
  where
    bits_equal : (m n : ℕ) → m < 2 → n < 2 → (m ≡ 1 → n ≡ 1) → (n ≡ 1 → m ≡ 1) → m ≡ n
    bits_equal zero zero p q f g = refl
    bits_equal zero (suc zero) p q f g = g refl
    bits_equal (suc zero) zero p q f g = sym (f refl)
    bits_equal (suc zero) (suc zero) p q f g = refl
    bits_equal (suc (suc m)) n p q f g = absurd (omega arith)
    bits_equal m (suc (suc n)) p q f g = absurd (omega arith)

    same : (i x y : ℕ) → slice_get xs i ≡ Some x → slice_get ys i ≡ Some y → x ≡ y
    same i x y at_x at_y =
        let word = get_below c.words i (omega (arith, slice_get_within xs i x at_x, a.input.long)) in
        let basis = (well.words word.0 (i, word.1)).basis in
        let p = (basis.sums x (a.input.elements x (i, at_x))) in
        let q = (basis.sums y (b.input.elements y (i, at_y))) in
        let P : ℕ → Type 0 = λ n. p.choice < 2 ^ n in
        let Q : ℕ → Type 0 = λ n. q.choice < 2 ^ n in
        let equal : p.choice ≡ q.choice = same_from_bits_below c.k p.choice q.choice (subst P basis.size p.chosen.short) (subst Q basis.size q.chosen.short)
        (λ j less. bits_equal (bit_at p.choice j) (bit_at q.choice j) (bit_at-lt p.choice j) (bit_at-lt q.choice j)
        (bit_there c well xs ys ones a b i x y p.choice q.choice word.0 word.1 at_x at_y p.chosen q.chosen j less)
        (bit_there c well ys xs ones b a i y x q.choice p.choice word.0 word.1 at_y at_x q.chosen p.chosen j less)) in
        sym p.chosen.is ∙ ap (combination word.0.basis) equal ∙ q.chosen.is

-- ---- circuits over the same bases

pub alike_back : (c d : Circuit) → AreAlike c d → AreAlike d c
alike_back c d alike = record { k = sym alike.k; product = sym alike.product; bases = sym alike.bases }

module _ (c d : Circuit) (alike : AreAlike c d) where
  pub alike_long : length c.words ≡ length d.words
  alike_long = sym (length-map c.words (λ (w : Word). w.basis)) ∙ ap length alike.bases ∙ length-map d.words (λ (w : Word). w.basis)

  alike_input : (xs : List ℕ) → IsInput c xs → IsInput d xs
  alike_input xs is = record {
    long = is.long ∙ alike_long;
    elements = λ x has. let P : ℕ → Type 0 = λ k. x < 2 ^ k in subst P alike.k (is.elements x has);
  }

  alike_one : (xs : List ℕ) (rank : ℕ) → IsOne c xs rank → IsOne d xs rank
  alike_one xs rank is =
      let basis_at : slice_get (map (λ (w : Word). w.basis) d.words) is.w ≡ Some is.word.basis = ap (λ bs. slice_get bs is.w) (sym alike.bases) ∙ slice_get-map (λ (w : Word). w.basis) c.words is.w ∙ rw is.at_word refl in
      let found = from_map (λ (w : Word). w.basis) d.words is.w is.word.basis basis_at in
      let P : List ℕ → Type 0 = λ basis. AreBits basis is.element is.bits in
      let Q : ℕ → Type 0 = λ k. is.place < k in
      record {
        w = is.w;
        place = is.place;
        word = found.0;
        element = is.element;
        bits = is.bits;
        below = subst Q alike.k is.below;
        rank_is = is.rank_is ∙ ap (λ k. k * is.w + is.place) alike.k;
        at_word = found.1;
        at_input = is.at_input;
        are_bits = subst P (sym found.2) is.are_bits;
        one = is.one;
      }

pub alike_ones : (c d : Circuit) → AreAlike c d → (xs ones : List ℕ) → AreOnes c xs ones → AreOnes d xs ones
alike_ones c d alike xs ones are = record {
  input = alike_input c d alike xs are.input;
  rising = are.rising;
  are = λ rank. ((λ has. alike_one c d alike xs rank ((are.are rank).0 has)), (λ is. (are.are rank).1 (alike_one d c (alike_back c d alike) xs rank is)));
}
