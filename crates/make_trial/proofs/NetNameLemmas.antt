-- The names of the nets of a word.
use Rattle.std.proofs.Common.{◌≡◌, refl, ℕ, zero, suc, ◌+◌, ◌%◌, ◌^◌, ◌<◌, ◌≤◌, List, [], ◌∷◌, ◌++◌, length, arith}
use Rattle.std.specs.Prelude.{All}
use Rattle.std.specs.Fmt.{decimal}
use Rattle.std.specs.List.{AllByRecursion}
use Rattle.std.proofs.lemmas.Fmt.{decimal_by_steps, length-decimal-le}
use Rattle.std.proofs.lemmas.List.{length-append}
use Rattle.net_write.proofs.LineTextLemmas.{AreFields, ArePlain, IsField}
use Rattle.net_write.proofs.FieldLemmas.{fields_append}
use Rattle.make_trial.specs.TwoInputs.{net_names}

plain_join : (xs ys : List ℕ) → ArePlain xs → ArePlain ys → ArePlain (xs ++ ys)
plain_join [] ys h k = k
plain_join (x ∷ xs) ys h k = (h.0, plain_join xs ys h.1 k)

digit_plain : (d : ℕ) → d < 10 → ArePlain ((48 + d) ∷ [])
digit_plain d less = ((omega (arith, less), omega (arith, less), (λ e. omega (arith, e, less)), (λ e. omega (arith, e, less))), tt)

decimal_plain : (n : ℕ) → n < 2 ^ 64 → ArePlain (decimal n)
decimal_plain n less = decimal_by_steps (λ m ds. ArePlain ds) digit_plain (λ m ds ten before. plain_join ds ((48 + m % 10) ∷ []) before (digit_plain (m % 10) (omega arith))) n less

module _ (letter : List ℕ) (plain : ArePlain letter) (one : length letter ≡ 1) where
  name_field : (n : ℕ) → n < 64 → IsField (letter ++ decimal n)
  name_field n less =
      let long = length-append letter (decimal n) in
      (omega (arith, long, one), omega (arith, long, one, length-decimal-le 2 n (omega arith) (omega (arith, less))), plain_join letter (decimal n) plain (decimal_plain n (omega (arith, less))))

  pub names_fields : (k : ℕ) → k ≤ 64 → AreFields (net_names letter k)
  names_fields zero most = tt
  names_fields (suc n) most = fields_append (net_names letter n) ((letter ++ decimal n) ∷ []) (names_fields n (omega (arith, most))) (name_field n (omega (arith, most)), tt)

pub all_from : {A : Type 0} (P : A → Type 0) (xs : List A) → AllByRecursion P xs → All P xs
all_from P [] all k d less = absurd (omega (arith, less))
all_from P (x ∷ xs) all zero d less = all.0
all_from P (x ∷ xs) all (suc k) d less = all_from P xs all.1 k d (omega (arith, less))

pub names_long : (letter : List ℕ) (k : ℕ) → length (net_names letter k) ≡ k
names_long letter zero = refl
names_long letter (suc n) = let long = length-append (net_names letter n) ((letter ++ decimal n) ∷ []) in omega (arith, long, names_long letter n)
