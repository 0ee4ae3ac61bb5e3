-- The bits that nets have in words.
use Rattle.std.proofs.Common.{◌≡◌, ◌∙◌, ap, sym, refl, subst, inl, inr, ℕ, zero, suc, ◌<◌, ◌≤◌, ◌+◌, ◌*◌, ◌/◌, ◌%◌, ◌^◌, Bool, List, [], ◌∷◌, length, get_or, map, Some, arith}
use Rattle.std.specs.Prelude.{slice_get, nat_eq, ◌==◌}
use Rattle.std.specs.Int.{bit_at}
use Rattle.std.proofs.Math.ListN.{set}
use Rattle.std.proofs.Math.Nat.{pow-succ'}
use Rattle.std.proofs.lemmas.Nat.Bits.{bit_at_lowest, bit_at-suc}
use Rattle.std.proofs.lemmas.Option.{slice_get_within}
use Rattle.lists.specs.Lists.{Has, times}
use Rattle.lists.specs.laws.HasLaws.{times_get, times_append}
use Rattle.lists.specs.laws.NumberLaws.{nat_eq_or}
use Rattle.lists.specs.laws.ReadLaws.{got_at, get_below, get_set_same, get_set_other}
use Rattle.lists.specs.laws.TestLaws.{one_here, none_here}
use Rattle.net_core.specs.Value.{bit_of, index_of}
use Rattle.gf_basis.specs.Basis.{AreBits}
use Rattle.gf_basis.specs.BasisParts.{elements_of}
use Rattle.circuit_model.specs.declared.circuit_word.CircuitWord.{CircuitWord}
use Rattle.circuit_model.specs.Word.{word_nets}
use Rattle.circuit_model.specs.Flat.{word_of}
use Rattle.circuit_model.specs.private.Found.{IsOnce, IsBitAt, IsBitIn}
use Rattle.circuit_model.proofs.WordLemmas.{has_word, low_bit}
use Rattle.circuit_model.proofs.SliceLemmas.{rest, rest_is, get_rest}

pub bit_first : (ns : List ℕ) (n bits place : ℕ) → 1 ≤ length ns → get_or ns 0 0 ≡ n → slice_get ns place ≡ Some n → times n ns ≤ 1 → nat_eq (bits % 2) 1 ≡ (bit_at bits place == 1)
bit_first [] n bits place some is got once = absurd (omega arith)
bit_first (m ∷ ms) n bits zero some is got once = ap (λ b. b == 1) (sym (bit_at_lowest bits))
bit_first (m ∷ ms) n bits (suc place) some is got once = absurd (omega (arith, once, one_here n m is, times_get n ms place got))

pub bit_later : (ns : List ℕ) (n bits place : ℕ) (r : Bool) → 1 ≤ length ns → (get_or ns 0 0 ≡ n → ⊥) → ((p : ℕ) → slice_get (rest ns) p ≡ Some n → times n (rest ns) ≤ 1 → r ≡ (bit_at (bits / 2) p == 1)) → slice_get ns place ≡ Some n → times n ns ≤ 1 → r ≡ (bit_at bits place == 1)
bit_later [] n bits place r some other later got once = absurd (omega arith)
bit_later (m ∷ ms) n bits zero r some other later got once = let same : m ≡ n = cc in absurd (other same)
bit_later (m ∷ ms) n bits (suc place) r some other later got once =
    let P : List ℕ → Type 0 = λ ns. times n ns ≤ 1 in
    later place (get_rest (m ∷ ms) place n got) (subst P (sym (rest_is m ms)) (omega (arith, once, none_here n m other))) ∙ ap (λ b. b == 1) (sym (bit_at-suc bits place))

first_is : (ys : List ℕ) (x : ℕ) → slice_get ys 0 ≡ Some x → get_or ys 0 0 ≡ x
first_is [] x got = absurd (cc)
first_is (y ∷ ys) x got = cc

pub mapped : (ws : List CircuitWord) (i : ℕ) (w : CircuitWord) → slice_get ws i ≡ Some w → slice_get (map word_of ws) i ≡ Some (word_of w)
mapped [] i w got = absurd (cc)
mapped (v ∷ vs) zero w got = let same : v ≡ w = cc in ap (λ (u : CircuitWord). Some (word_of u)) same
mapped (v ∷ vs) (suc i) w got = mapped vs i w got

pub named_at : (ws : List CircuitWord) (i : ℕ) (w : CircuitWord) (n : ℕ) → slice_get ws i ≡ Some w → Has w.nets.items n → Has (word_nets (map word_of ws)) n
named_at ws i w n got in_w = has_word (map word_of ws) i (word_of w) n (mapped ws i w got) in_w

pub bit_in_all : (words : List CircuitWord) (xs : List ℕ) (first : CircuitWord) (n d : ℕ) (b other : Bool) → slice_get words 0 ≡ Some first → AreBits (elements_of first.basis) (get_or xs 0 0) d → ((Has first.nets.items n → ⊥) → b ≡ other) → ((place : ℕ) → slice_get first.nets.items place ≡ Some n → times n first.nets.items ≤ 1 → b ≡ (bit_at d place == 1)) → (IsOnce (rest words) n → IsBitIn (rest words) (rest xs) n other) → IsOnce words n → IsBitIn words xs n b
bit_in_all [] xs first n d b other is chosen none here later once = absurd (cc)
bit_in_all (u ∷ us) xs first n d b other is chosen none here later once = at
  where
    same : u ≡ first
    same = cc

    apart : times n first.nets.items + times n (word_nets (map word_of us)) ≤ 1
    apart =
        let P : CircuitWord → Type 0 = λ v. times n v.nets.items + times n (word_nets (map word_of us)) ≤ 1 in
        let whole : times n u.nets.items + times n (word_nets (map word_of us)) ≤ 1 = omega (arith, once, times_append n u.nets.items (word_nets (map word_of us))) in
        subst P same whole

    at : IsBitIn (u ∷ us) xs n b
    at zero place w x got value in_w =
        let equal : first ≡ w = cc in
        let is_x : get_or xs 0 0 ≡ x = first_is xs x value in
        let P : CircuitWord → Type 0 = λ v. slice_get v.nets.items place ≡ Some n in
        let Q : CircuitWord → Type 0 = λ v. IsBitAt v x place b in
        let R : ℕ → Type 0 = λ y. AreBits (elements_of first.basis) y d in
        let in_first : slice_get first.nets.items place ≡ Some n = subst P (sym equal) in_w in
        subst Q equal (d, subst R is_x chosen, here place in_first (omega (arith, apart)))
    at (suc i) place w x got value in_w =
        let in_us : Has (word_nets (map word_of us)) n = named_at us i w n got (place, in_w) in
        let few : times n first.nets.items ≤ 0 = omega (arith, apart, times_get n (word_nets (map word_of us)) in_us.0 in_us.1) in
        let gone : Has first.nets.items n → ⊥ = λ has. omega (arith, few, times_get n first.nets.items has.0 has.1) in
        let P : List CircuitWord → Type 0 = λ ws. IsOnce ws n in
        let Q : Bool → Type 0 = λ v. IsBitAt w x place v in
        let once_later : IsOnce us n = omega (arith, apart) in
        subst Q (sym (none gone)) (later (subst P (sym (rest_is u us)) once_later) i place w x (get_rest (u ∷ us) i w got) (get_rest xs i x value) in_w)

-- where each net has its bit of the number, their bits are the number
pub index_is : (bits : List Bool) (ns : List ℕ) (d : ℕ) → d < 2 ^ length ns → ((place n : ℕ) → slice_get ns place ≡ Some n → bit_of bits n ≡ (bit_at d place == 1)) → index_of bits ns ≡ d
index_is bits [] d less are = omega arith
index_is bits (n ∷ ns) d less are =
    let more : d < 2 * 2 ^ length ns = omega (arith, less, pow-succ' 2 (length ns)) in
    rw (are 0 n refl, bit_at_lowest d, index_is bits ns (d / 2) (omega arith) (λ place m got. are (suc place) m got ∙ ap (λ b. b == 1) (bit_at-suc d place))) (low_bit d)

-- what holds of the first values holds of one more where the next one has it
pub values_set : (P : ℕ → Bool → Type 0) (inputs : List ℕ) (values : List Bool) (i : ℕ) (v : Bool) → i < length inputs → length values ≡ length inputs → P (get_or inputs i 0) v → ((k n : ℕ) (u : Bool) → k < i → slice_get inputs k ≡ Some n → slice_get values k ≡ Some u → P n u) → (k n : ℕ) (u : Bool) → k < i + 1 → slice_get inputs k ≡ Some n → slice_get (set values i v) k ≡ Some u → P n u
values_set P inputs values i v within long new old k n u less input value =
    elim (nat_eq_or k i) [
      | inl same ↦
          let was = get_below values i (omega (arith, long)) in
          let at : slice_get (set values i v) i ≡ Some v = get_set_same values i was.0 v was.1 in
          let value' : slice_get (set values i v) i ≡ Some u = rw same at value in
          let is : v ≡ u = cc in
          let input' : slice_get inputs i ≡ Some n = rw same at input in
          let first : slice_get inputs i ≡ Some (get_or inputs i 0) = got_at inputs i (get_or inputs i 0) 0 within refl in
          let net : get_or inputs i 0 ≡ n = cc in
          let Q : ℕ → Type 0 = λ m. P m v in
          let R : Bool → Type 0 = λ b. P n b in
          subst R is (subst Q net new)
      | inr other ↦
          let was = get_below values k (omega (arith, long, slice_get_within inputs k n input)) in
          let kept : slice_get (set values i v) k ≡ Some was.0 = get_set_other values i v k was.0 other was.1 in
          let is : was.0 ≡ u = cc in
          old k n u (omega (arith, less, other)) input (was.1 ∙ ap Some is)
    ]
