-- The ranks of the nets of words: rank k * w + i is the net of place i of word w.
use Rattle.std.proofs.Common.{◌≡◌, ◌≢◌, ◌∙◌, ap, refl, subst, inl, inr, ℕ, suc, ◌<◌, ◌≤◌, ◌+◌, ◌*◌, true, false, ◌&&◌, List, ◌++◌, length, Some, arith}
use Rattle.std.specs.Prelude.{slice_get, ◌==◌, nat_le, nat_lt}
use Rattle.std.proofs.Math.Nat.{mul-suc, mul-le-mul_left}
use Rattle.std.proofs.lemmas.Bool.{eq-eqb, ne_eqb, cases_order}
use Rattle.std.proofs.lemmas.Bool.Decides.{nat_tests}
use Rattle.std.proofs.lemmas.List.{length-append}
use Rattle.std.proofs.lemmas.List.Sums.{position_or_len_is}
use Rattle.std.proofs.lemmas.Option.{slice_get_within, get_or_from_slice_get}
use Rattle.lists.specs.Lists.{times}
use Rattle.lists.specs.laws.HasLaws.{times_two}
use Rattle.lists.specs.laws.ReadLaws.{get_below, get_front}
use Rattle.circuit_model.proofs.SharedLemmas.{place_in}
use Rattle.net_core.specs.NetList.{nets}
use Rattle.net_words.specs.Variables.{others}
use Rattle.circuit_model.specs.Word.{Word, word_nets}
use Rattle.circuit_model.specs.WellFormed.{IsWellFormed}
use Rattle.circuit_model.specs.Circuit.{Circuit}
use Rattle.stage_model.specs.Variables.{rank_in, variables_of}
use Rattle.stage_model.specs.WordStage.{is_of_word}

-- the rank of what stands once, in front
once_rank : (xs ys : List ℕ) (j n : ℕ) → times n xs ≤ 1 → slice_get xs j ≡ Some n → rank_in (xs ++ ys) n ≡ j
once_rank xs ys j n once got =
    position_or_len_is (λ m. m == n) (xs ++ ys) j 0 (omega (arith, within, length-append xs ys))
    (λ i less. let m = get_below xs i (omega (arith, within, less)) in
    ap (λ x. x == n) (get_or_from_slice_get (xs ++ ys) i m.0 0 (get_front xs ys i m.0 m.1)) ∙ ne_eqb m.0 n (λ same. twice i m.0 less m.1 same))
    (λ less. ap (λ x. x == n) (get_or_from_slice_get (xs ++ ys) j n 0 (get_front xs ys j n got)) ∙ eq-eqb n n refl)
  where
    within : j < length xs
    within = slice_get_within xs j n got

    twice : (i m : ℕ) → i < j → slice_get xs i ≡ Some m → m ≡ n → ⊥
    twice i m less first same = let P : ℕ → Type 0 = λ x. slice_get xs i ≡ Some x in omega (arith, once, times_two n xs i j (subst P same first) got less)

module _ (c : Circuit) (well : IsWellFormed c) where
  pub place_rank : (w i n : ℕ) (word : Word) → slice_get c.words w ≡ Some word → slice_get word.nets i ≡ Some n → rank_in (variables_of c) n ≡ c.k * w + i
  place_rank w i n word at got = once_rank (word_nets c.words) (others (nets c.net) (word_nets c.words)) (c.k * w + i) n (well.once n) (place_in c.k c.words (λ u has. (well.words u has).nets) w i n word at got)

pub is_own : (k w i : ℕ) → i < k → is_of_word k w (k * w + i) ≡ true
is_own k w i less = own (k * w) less
  where
    own : (b : ℕ) → i < k → (nat_le b (b + i) && nat_lt (b + i) (b + k)) ≡ true
    own b less = grind (arith, nat_tests)

pub is_other : (k v w i : ℕ) → i < k → v ≢ w → is_of_word k w (k * v + i) ≡ false
is_other k v w i less other =
    elim (cases_order v w) [
      | inl same ↦ absurd (other same)
      | inr which ↦ elim which [
        | inl low ↦ below (k * v) (k * w) (omega (arith, mul-le-mul_left {m = suc v} {n = w} k low, mul-suc k v))
        | inr high ↦ above (k * v) (k * w) (omega (arith, mul-le-mul_left {m = suc w} {n = v} k high, mul-suc k w))
      ]
    ]
  where
    below : (a b : ℕ) → a + k ≤ b → (nat_le b (a + i) && nat_lt (a + i) (b + k)) ≡ false
    below a b low = grind (arith, nat_tests)

    above : (a b : ℕ) → b + k ≤ a → (nat_le b (a + i) && nat_lt (a + i) (b + k)) ≡ false
    above a b high = grind (arith, nat_tests)
