-- Names that may be those of bits, and the places where they are cut.
use Rattle.std.proofs.Common.{◌≡◌, ◌∙◌, ap, sym, refl, subst, ℕ, suc, ◌+◌, ◌-◌, ◌≤◌, Bool, true, false, List, [], ◌∷◌, ◌++◌, length, take, drop, decimal, length-append, Option, None, Some, arith}
use Rattle.std.proofs.lemmas.List.{length-take-le as taken_length}
use Rattle.lists.specs.laws.TakeLaws.{front_of as front}
use Rattle.text_core.specs.Numbers.{IsDecimal, value_of}
use Rattle.net_verilog.specs.Declarations.{Declarations, bit_name, range_of}
use Rattle.text_core.proofs.WrittenLemmas.{decimal_back}
use Rattle.verilog_reader.specs.Declares.{HasShortNames, Meets}
use Rattle.verilog_reader.specs.private.Meets.{AreShort, Decides, HasScalar, IsBit, IsFound, IsMet}
use Rattle.verilog_reader.proofs.NameLemmas.{longer, name_split, same_vector}

behind_one : (xs ys : List ℕ) (b : ℕ) → drop (suc (length xs)) (xs ++ b ∷ ys) ≡ ys
behind_one [] ys b = refl
behind_one (x ∷ xs) ys b = behind_one xs ys b

-- what stands between `[` and `]`
middle : (name before : List ℕ) (cut i : ℕ) → name ≡ bit_name before i → length before ≡ cut → take (length name - 1 - (cut + 1)) (drop (cut + 1) name) ≡ decimal i
middle name before cut i same at =
    let split : name ≡ before ++ 91 ∷ (decimal i ++ 93 ∷ []) = same ∙ name_split before i in
    let step : cut + 1 ≡ suc (length before) = omega (arith, at) in
    let rest : drop (cut + 1) name ≡ decimal i ++ 93 ∷ [] = (λ j. drop (step j) (split j)) ∙ behind_one before (decimal i ++ 93 ∷ []) 91 in
    let long : length name - 1 - (cut + 1) ≡ length (decimal i) = omega (arith, ap length split, length-append before (91 ∷ (decimal i ++ 93 ∷ [])), length-append (decimal i) (93 ∷ []), at) in
    (λ j. take (long j) (rest j)) ∙ front (decimal i) (93 ∷ [])

pub index_found : (name before : List ℕ) (cut i index : ℕ) → i ≤ 4294967295 → length before ≡ cut → name ≡ bit_name before i → IsDecimal (take (length name - 1 - (cut + 1)) (drop (cut + 1) name)) index → ◌≡◌ {A = Option ℕ} (Some index) (Some i)
index_found name before cut i index few at same found = ap Some (found.1 ∙ ap (value_of 10) (middle name before cut i same at) ∙ sym (decimal_back i (omega (arith, few))).1)

pub index_none : (name before : List ℕ) (cut i : ℕ) → i ≤ 4294967295 → length before ≡ cut → name ≡ bit_name before i → ((n : ℕ) → IsDecimal (take (length name - 1 - (cut + 1)) (drop (cut + 1) name)) n → n ≤ 4294967295 → ⊥) → ⊥
index_none name before cut i few at same none =
    let P : List ℕ → Type 0 = λ s. IsDecimal s i in
    none i (subst P (sym (middle name before cut i same at)) (decimal_back i (omega (arith, few)))) few

module _ (declared : Declarations) (name : List ℕ) where
  bit_meets : IsBit declared name → Meets declared None name
  bit_meets (k, inside, (low, high, i, range, above, below, same)) =
      (take k name, Some (low, high), name, range, (λ e. omega (arith, inside, ap length e, taken_length k name (omega (arith, inside)))), (i, above, below, same), refl)

  meets_bit : Meets declared None name → IsBit declared name
  meets_bit (other, None, net, range, apart, there, here) = absurd (apart (sym there ∙ here))
  meets_bit (other, Some (low, high), net, range, apart, (i, above, below, there), here) =
      let same : name ≡ bit_name other i = sym here ∙ there in
      let cut : take (length other) name ≡ other = ap (take (length other)) (same ∙ name_split other i) ∙ front other _ in
      (length other, omega (arith, ap length same, longer other i), (low, high, i, ap (range_of declared) cut ∙ range, above, below, same ∙ ap (λ b. bit_name b i) (sym cut)))

  pub met_scalar : (r : Bool) → length name ≤ 255 → Decides r (IsBit declared name) → IsMet declared None name (Some r)
  met_scalar true short bit = ((λ net is. omega (arith, short, ap length is)), bit_meets bit)
  met_scalar false short none = ((λ net is. omega (arith, short, ap length is)), (λ m. none (meets_bit m)))

  module _ (low high : ℕ) where
    short_names : AreShort name low (1 + high) → HasShortNames name (Some (low, high))
    short_names short net (i, above, below, is) = omega (arith, ap length is, short i above (omega (arith, below)))

    pub scalar_meets : HasScalar declared name low (1 + high) → Meets declared (Some (low, high)) name
    scalar_meets (i, above, below, is) = (bit_name name i, None, bit_name name i, is, (λ e. omega (arith, ap length e, longer name i)), refl, (i, above, omega (arith, below), refl))

    meets_scalar : Meets declared (Some (low, high)) name → HasScalar declared name low (1 + high)
    meets_scalar (other, None, net, range, apart, there, (i, above, below, here)) = (i, above, omega (arith, below), ap (range_of declared) (sym here ∙ there) ∙ range)
    meets_scalar (other, Some (l, h), net, range, apart, (j, a, b, there), (i, above, below, here)) = absurd (apart (same_vector other name j i (sym there ∙ here)))

    pub met_vector : (found : Option Bool) → IsFound declared name low (1 + high) found → IsMet declared (Some (low, high)) name found
    met_vector None long = λ short. long (λ i above below. short (bit_name name i) (i, above, omega (arith, below), refl))
    met_vector (Some true) (short, some) = (short_names short, scalar_meets some)
    met_vector (Some false) (short, none) = (short_names short, (λ m. none (meets_scalar m)))
