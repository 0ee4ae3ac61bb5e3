-- Two printed polynomials are equal exactly if their circuits are one function.
use Rattle.std.proofs.Common.{◌≡◌, ◌∙◌, ap, sym, refl, subst, ℕ, zero, suc, ◌<◌, ◌≤◌, ◌^◌, false, ◌↔◌, List, [], ◌∷◌, length, take, arith}
use Rattle.std.specs.List.{AllByRecursion}
use Rattle.std.proofs.lemmas.Nat.{pow_pos}
use Rattle.lists.specs.Lists.{Has}
use Rattle.net_words.specs.Binding.{BoundNet}
use Rattle.poly_mixed.specs.Polynomial.{Terms, Point, IsPoint, IsElement, value}
use Rattle.circuit_model.specs.Circuit.{IsInput}
use Rattle.circuit_model.specs.Out.{IsOut}
use Rattle.circuit_model.proofs.OutLemmas.{one_out}
use Rattle.stage_model.specs.InputPoint.{input_of}
use Rattle.job_input.specs.SettingValue.{SettingValue}
use Rattle.answer_core.specs.Printed.{IsTaken, IsInItsWords, StandsInWords, HasOutput, IsPrinted, AreOneFunction}
use Rattle.answer_core.specs.Reply.{Reply}
use Rattle.answer_core.specs.Abstraction.{taken_circuit}
use Rattle.answer_polynomials.proofs.EqualLemmas.{well, count, only_text}

-- ---- the point of an input

-- n elements: those of the list, and then 0
padded : ℕ → List ℕ → List ℕ
padded zero xs = []
padded (suc n) [] = 0 ∷ padded n []
padded (suc n) (x ∷ xs) = x ∷ padded n xs

padded_long : (n : ℕ) (xs : List ℕ) → length (padded n xs) ≡ n
unfolding padded
padded_long zero xs = refl
padded_long (suc n) [] = ap suc (padded_long n [])
padded_long (suc n) (x ∷ xs) = ap suc (padded_long n xs)

padded_first : (n : ℕ) (xs : List ℕ) → length xs ≤ n → take (length xs) (padded n xs) ≡ xs
unfolding padded
padded_first n [] small = refl
padded_first zero (x ∷ xs) small = absurd (omega arith)
padded_first (suc n) (x ∷ xs) small = ap (λ ys. x ∷ ys) (padded_first n xs (omega arith))

padded_elements : (k n : ℕ) (xs : List ℕ) → ((x : ℕ) → Has xs x → x < 2 ^ k) → AllByRecursion (IsElement k) (padded n xs)
unfolding padded
padded_elements k zero xs each = tt
padded_elements k (suc n) [] each = (pow_pos k, padded_elements k n [] each)
padded_elements k (suc n) (x ∷ xs) each = (each x (0, refl), padded_elements k n xs (λ y has. each y (suc has.0, has.1)))

input_point : List ℕ → Point
input_point xs = record { words = padded 8 xs; is_one = λ r. false }

module _ (setting : SettingValue) (circuit : BoundNet) (taken : IsTaken setting circuit) where
  -- a polynomial of the output has the output's element at each input
  at_input : (ts : Terms) (xs : List ℕ) → HasOutput setting (taken_circuit setting circuit) ts → IsInput (taken_circuit setting circuit) xs → IsOut (taken_circuit setting circuit) xs (value setting.product (input_point xs) ts)
  unfolding input_point
  at_input ts xs values input =
      let c = taken_circuit setting circuit in
      let few = (well setting circuit taken).few in
      let is : IsPoint setting.k (input_point xs) = record { words = padded_long 8 xs; elements = padded_elements setting.k 8 xs input.elements } in
      let same : input_of c (input_point xs) ≡ xs = ap (λ n. take n (padded 8 xs)) (sym input.long) ∙ padded_first 8 xs (omega (arith, input.long, few)) in
      let P : List ℕ → Type 0 = λ ys. IsOut c ys (value setting.product (input_point xs) ts) in
      subst P same (values (input_point xs) is)

module _ (setting : SettingValue) (circuit other : BoundNet) (taken : IsTaken setting circuit) (taken' : IsTaken setting other) where
  same_count : length (taken_circuit setting circuit).words ≡ length (taken_circuit setting other).words
  same_count = count setting circuit taken ∙ sym (count setting other taken')

  -- one polynomial of both outputs makes them equal
  follows : (ts : Terms) → HasOutput setting (taken_circuit setting circuit) ts → HasOutput setting (taken_circuit setting other) ts → (xs : List ℕ) (e : ℕ) → IsOut (taken_circuit setting circuit) xs e → IsOut (taken_circuit setting other) xs e
  follows ts first second xs e out =
      let input = out.is_run.open_run.input in
      let input' : IsInput (taken_circuit setting other) xs = record { long = input.long ∙ same_count; elements = input.elements } in
      let same = one_out (taken_circuit setting circuit) xs (value setting.product (input_point xs) ts) e (well setting circuit taken) (at_input setting circuit taken ts xs first input) out in
      let P : ℕ → Type 0 = λ d. IsOut (taken_circuit setting other) xs d in
      subst P same (at_input setting other taken' ts xs second input')

  -- what stands in the words of one stands in those of the other
  in_words : (ts : Terms) → IsInItsWords setting (taken_circuit setting circuit) ts → IsInItsWords setting (taken_circuit setting other) ts
  in_words ts is = let P : ℕ → Type 0 = λ n. StandsInWords n ts in record { reduced = is.reduced; words = subst P same_count is.words }

  -- a polynomial of one output is one of the other, where they are equal
  moved : (ts : Terms) → AreOneFunction (taken_circuit setting circuit) (taken_circuit setting other) → HasOutput setting (taken_circuit setting circuit) ts → HasOutput setting (taken_circuit setting other) ts
  moved ts equal values p at =
      let P : ℕ → Type 0 = λ n. IsOut (taken_circuit setting other) (take n p.words) (value setting.product p ts) in
      subst P same_count ((equal (input_of (taken_circuit setting circuit) p) (value setting.product p ts)).0 (values p at))

pub equal_bytes : (setting : SettingValue) (circuit other : BoundNet) (reply reply' : Reply) → IsTaken setting circuit → IsTaken setting other → IsPrinted setting (taken_circuit setting circuit) reply → IsPrinted setting (taken_circuit setting other) reply' → reply.text ≡ reply'.text ↔ AreOneFunction (taken_circuit setting circuit) (taken_circuit setting other)
equal_bytes setting circuit other reply reply' taken taken' is is' =
    let ts = is.polynomial in
    let text = only_text setting other taken' reply' ts is' (in_words setting circuit other taken taken' ts is.in_words) in (
      (λ same.
          let both = text.0 (sym same ∙ is.line) in
          λ xs e. (follows setting circuit other taken taken' ts is.values both xs e, follows setting other circuit taken' taken ts both is.values xs e)),
      λ equal. is.line ∙ sym (text.1 (moved setting circuit other taken taken' ts equal is.values)),
    )
