-- The polynomial of the mix of all words is the output in words.
use Rattle.std.proofs.Common.{◌≡◌, ◌↔◌, refl, subst, ℕ, zero, suc, ◌<◌, List, [], ◌∷◌, length, take, arith}
use Rattle.std.specs.Prelude.{slice_get}
use Rattle.circuit_model.specs.Circuit.{Circuit}
use Rattle.circuit_model.specs.WellFormed.{IsWellFormed}
use Rattle.circuit_model.specs.Out.{IsOut}
use Rattle.poly_mixed.specs.Polynomial.{Terms, value}
use Rattle.stage_model.specs.InputPoint.{input_of}
use Rattle.stage_model.specs.Mix.{IsMix}
use Rattle.stage_model.specs.OutputInWords.{IsOutputInWords}
use Rattle.stage_model.specs.Stage.{IsOfStage}
use Rattle.stage_model.proofs.FunctionLemmas.{in_first_words, in_first_ranks}
use Rattle.stage_model.proofs.InterpolationLemmas.{LooksAtFirst}
use Rattle.stage_model.proofs.MixLemmas.{some_mix, one_mix, mix_all}

-- lists that agree at their first places begin alike
same_front : (n : ℕ) (xs ys : List ℕ) → length xs ≡ length ys → ((i : ℕ) → i < n → slice_get xs i ≡ slice_get ys i) → take n xs ≡ take n ys
same_front zero xs ys long same = refl
same_front (suc n) [] [] long same = refl
same_front (suc n) [] (y ∷ ys) long same = absurd (omega arith)
same_front (suc n) (x ∷ xs) [] long same = absurd (omega arith)
same_front (suc n) (x ∷ xs) (y ∷ ys) long same =
    let first : x ≡ y = (let both = same 0 (omega arith) in cc) in
    λ i. first i ∷ same_front n xs ys (omega arith) (λ j less. same (suc j) (omega arith)) i

module _ (c : Circuit) (well : IsWellFormed c) where
  looks : LooksAtFirst c.k (IsMix c (length c.words)) (length c.words) 0
  looks = record {
    some = λ p at. some_mix c well (length c.words) p at;
    alone = λ p q e at at' same mix.
        let P : List ℕ → Type 0 = λ xs. IsOut c xs e in
        let out : IsOut c (input_of c p) e = (mix_all c well p e at).0 mix in
        let long : length p.words ≡ length q.words = omega (arith, at.words, at'.words) in
        (mix_all c well q e at').1 (subst P (same_front (length c.words) p.words q.words long same.elements) out);
  }

  pub all_words_is_output : (ts : Terms) → IsOfStage c.k c.product (IsMix c (length c.words)) ts ↔ IsOutputInWords c ts
  all_words_is_output ts = (
    (λ is. record {
      reduced = is.reduced;
      words_alone = in_first_words c.k c.product well.ring well.no_zero_divisors (IsMix c (length c.words)) (λ p x y at a b. one_mix c well (length c.words) p x y a b) (length c.words) 0 looks ts is;
      no_bits = in_first_ranks c.k c.product well.ring well.no_zero_divisors (IsMix c (length c.words)) (λ p x y at a b. one_mix c well (length c.words) p x y a b) (length c.words) 0 looks ts is;
      values = λ p at. (mix_all c well p (value c.product p ts) at).0 (is.values p at);
    }),
    λ is. record { reduced = is.reduced; values = λ p at. (mix_all c well p (value c.product p ts) at).1 (is.values p at) },
  )
