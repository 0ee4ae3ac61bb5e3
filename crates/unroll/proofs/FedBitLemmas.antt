-- The bits of the fed words, one word after another.
use Rattle.std.proofs.Common.{◌≡◌, ◌∙◌, ap, sym, refl, subst, ℕ, zero, suc, ◌<◌, ◌≤◌, ◌+◌, ◌-◌, ◌^◌, Bool, not, List, [], ◌∷◌, ◌++◌, length, take, Some, cond, arith}
use Rattle.std.specs.Prelude.{slice_get, ◌==◌, filter}
use Rattle.std.specs.Int.{bit_at}
use Rattle.std.specs.List.{range_with_len}
use Rattle.std.proofs.lemmas.List.FromFn.{length-range_with_len}
use Rattle.lists.specs.Lists.{Has}
use Rattle.net_core.specs.Value.{bit_of, index_of}
use Rattle.net_words.specs.Roles.{same_role}
use Rattle.net_words.specs.declared.bound.BoundWord.{BoundWord}
use Rattle.net_words.specs.declared.word.Role.{Role}
use Rattle.net_words.specs.declared.word.Role.TheVariants.{Input, State, Fed, Output}
use Rattle.gf_basis.specs.Basis.{AreBits, IsBasis}
use Rattle.circuit_model.specs.Word.{Word}
use Rattle.circuit_model.specs.JobOfBinding.{inner_number}
use Rattle.circuit_model.proofs.BitLemmas.{index_is}
use Rattle.circuit_model.proofs.GivenLemmas.{bits_at, bits_by, bits_long}
use Rattle.unroll.specs.Places.{fed_bits, first_bit}
use Rattle.unroll.proofs.PlaceLemmas.{bit_high}

pub bit_left : (a b : List Bool) (n : ℕ) → n < length a → bit_of (a ++ b) n ≡ bit_of a n
bit_left [] b n less = absurd (omega arith)
bit_left (x ∷ a) b zero less = refl
bit_left (x ∷ a) b (suc n) less = bit_left a b n (omega arith)

pub bit_right : (a b : List Bool) (n m : ℕ) → m ≡ length a + n → bit_of (a ++ b) m ≡ bit_of b n
bit_right [] b n m is = let same : m ≡ n = omega arith in ap (bit_of b) same
bit_right (x ∷ a) b n zero is = absurd (omega arith)
bit_right (x ∷ a) b n (suc m) is = bit_right a b n m (omega arith)

-- the numbers whose bits are those of the elements
pub record AreDigits (words : List Word) (xs ds : List ℕ) : Type 0 where
  pub long : length ds ≡ length xs
  pub each : (i : ℕ) (w : Word) (x d : ℕ) → slice_get words i ≡ Some w → slice_get xs i ≡ Some x → slice_get ds i ≡ Some d → AreBits w.basis x d

pub some_digits : (k : ℕ) (ws : List Word) (xs : List ℕ) → length xs ≡ length ws → ((w : Word) → Has ws w → IsBasis k w.basis) → ((x : ℕ) → Has xs x → x < 2 ^ k) → (ds : List ℕ) × AreDigits ws xs ds
some_digits k [] xs long words below = ([], record { long = omega arith; each = λ i w x d got. absurd (cc) })
some_digits k (w ∷ ws) [] long words below = absurd (omega arith)
some_digits k (w ∷ ws) (x ∷ xs) long words below =
    let rest = some_digits k ws xs (omega arith) (λ u has. words u (suc has.0, has.1)) (λ y has. below y (suc has.0, has.1)) in
    let only = (words w (0, refl)).sums x (below x (0, refl)) in
    (only.choice ∷ rest.0, record { long = ap suc rest.1.long; each = split only.choice only.chosen rest.0 rest.1 })
  where
    split : (d : ℕ) → AreBits w.basis x d → (ds : List ℕ) → AreDigits ws xs ds → (i : ℕ) (u : Word) (y e : ℕ) → slice_get (w ∷ ws) i ≡ Some u → slice_get (x ∷ xs) i ≡ Some y → slice_get (d ∷ ds) i ≡ Some e → AreBits u.basis y e
    split d chosen ds later zero u y e a b f =
        let one : w ≡ u = cc in
        let two : x ≡ y = cc in
        let three : d ≡ e = cc in
        let P : Word → Type 0 = λ v. AreBits v.basis x d in
        let Q : ℕ → Type 0 = λ z. AreBits u.basis z d in
        let R : ℕ → Type 0 = λ z. AreBits u.basis y z in
        subst R three (subst Q two (subst P one chosen))
    split d chosen ds later (suc i) u y e a b f = later.each i u y e a b f

-- ---- one word after another

abbrev pub first : List ℕ → ℕ
first [] = 0
first (d ∷ ds) = d

abbrev pub later : List ℕ → List ℕ
later [] = []
later (d ∷ ds) = ds

later_get : (ds : List ℕ) (i d : ℕ) → slice_get ds (suc i) ≡ Some d → slice_get (later ds) i ≡ Some d
later_get [] i d got = absurd (cc)
later_get (e ∷ ds) i d got = got

first_get : (ds : List ℕ) (d : ℕ) → slice_get ds 0 ≡ Some d → first ds ≡ d
first_get [] d got = absurd (cc)
first_get (e ∷ ds) d got = cc

-- the k bits of a number
abbrev pub number_bits : ℕ → ℕ → List Bool
number_bits k d = bits_by k (λ i. bit_at d i == 1)

abbrev pub bits_for : ℕ → Role → List ℕ → List Bool
bits_for k Input ds = []
bits_for k State ds = []
bits_for k Fed ds = number_bits k (first ds)
bits_for k Output ds = []

abbrev pub digits_after : Role → List ℕ → List ℕ
digits_after Input ds = later ds
digits_after State ds = later ds
digits_after Fed ds = later ds
digits_after Output ds = ds

-- the bits of the fed words, out of a number for each word beside the output word
abbrev pub fed_list : ℕ → List BoundWord → List ℕ → List Bool
fed_list k [] ds = []
fed_list k (word ∷ words) ds = bits_for k word.role ds ++ fed_list k words (digits_after word.role ds)

-- the bit of a fed word stands where the unrolled net has it
pub fed_at : (k base : ℕ) (words : List BoundWord) (ds : List ℕ) (w place j d : ℕ) (word : BoundWord) → slice_get words w ≡ Some word → word.role ≡ Fed → slice_get ds (inner_number words w) ≡ Some d → place < k → first_bit k base words w + place ≡ base + j → bit_of (fed_list k words ds) j ≡ (bit_at d place == 1)
fed_at k base [] ds w place j d word got is digit less at = absurd (cc)
fed_at k base (u ∷ us) ds zero place j d word got is digit less at =
    let same : u ≡ word = cc in
    let fed : u.role ≡ Fed = ap (λ (v : BoundWord). v.role) same ∙ is in
    let P : Role → Type 0 = λ r. bit_of (bits_for k r ds ++ fed_list k us (digits_after r ds)) j ≡ (bit_at d place == 1) in
    let here : j ≡ place = omega arith in
    subst P (sym fed) (bit_left (number_bits k (first ds)) (fed_list k us (later ds)) j (omega (arith, bits_long k (λ i. bit_at (first ds) i == 1), here, less))
    ∙ (bits_at k (λ i. bit_at (first ds) i == 1) j (omega (arith, here, less))
    ∙ (ap (λ i. bit_at (first ds) i == 1) here ∙ ap (λ f. bit_at f place == 1) (first_get ds d digit))))
fed_at k base (u ∷ us) ds (suc w) place j d word got is digit less at = by (λ base' ds' j' digit' at'. fed_at k base' us ds' w place j' d word got is digit' less at') u.role digit at
  where
    by : ((base' : ℕ) (ds' : List ℕ) (j' : ℕ) → slice_get ds' (inner_number us w) ≡ Some d → first_bit k base' us w + place ≡ base' + j' → bit_of (fed_list k us ds') j' ≡ (bit_at d place == 1)) → (r : Role) → slice_get ds (length (cond (not (same_role r Output)) (u ∷ filter (λ word. not (same_role word.role Output)) (take w us)) (filter (λ word. not (same_role word.role Output)) (take w us)))) ≡ Some d → first_bit k (base + fed_bits k r) us w + place ≡ base + j → bit_of (bits_for k r ds ++ fed_list k us (digits_after r ds)) j ≡ (bit_at d place == 1)
    by rest Input digit at = rest (base + 0) (later ds) j (later_get ds (inner_number us w) d digit) (omega (arith, at))
    by rest State digit at = rest (base + 0) (later ds) j (later_get ds (inner_number us w) d digit) (omega (arith, at))
    by rest Output digit at = rest (base + 0) ds j digit (omega (arith, at))
    by rest Fed digit at =
        let high : k ≤ j = omega (arith, at, bit_high k (base + k) us w) in
        bit_right (number_bits k (first ds)) (fed_list k us (later ds)) (j - k) j (omega (arith, bits_long k (λ i. bit_at (first ds) i == 1), high))
        ∙ rest (base + k) (later ds) (j - k) (later_get ds (inner_number us w) d digit) (omega (arith, at, high))

range_get : (s k place n : ℕ) → slice_get (range_with_len s k) place ≡ Some n → (place < k) × (n ≡ s + place)
range_get s zero place n got = absurd (cc)
range_get s (suc k) zero n got = (omega arith, let same : s ≡ n = cc in omega (arith, same))
range_get s (suc k) (suc place) n got = let rest = range_get (s + 1) k place n got in (omega (arith, rest.0), omega (arith, rest.1))

-- the number of a range of nets that have its bits
pub index_range : (bits : List Bool) (s k d : ℕ) → d < 2 ^ k → ((place : ℕ) → place < k → bit_of bits (s + place) ≡ (bit_at d place == 1)) → index_of bits (range_with_len s k) ≡ d
index_range bits s k d small each =
    let long : length (range_with_len s k) ≡ k = length-range_with_len s k in
    let P : ℕ → Type 0 = λ m. d < 2 ^ m in
    index_is bits (range_with_len s k) d (subst P (sym long) small) (λ place n got. let at = range_get s k place n got in ap (bit_of bits) at.1 ∙ each place at.0)
