-- The bits of words.
use Rattle.std.proofs.Common.{◌≡◌, ◌∙◌, ap, sym, refl, subst, ℕ, zero, suc, ◌<◌, ◌+◌, ◌*◌, ◌/◌, ◌%◌, ◌^◌, Bool, true, false, List, [], ◌∷◌, ◌++◌, length, Some, cond, arith}
use Rattle.std.specs.Prelude.{slice_get, ◌==◌}
use Rattle.std.proofs.Math.Nat.{pow-succ'}
use Rattle.std.proofs.lemmas.Bool.Decides.{nat_tests}
use Rattle.lists.specs.Lists.{Has}
use Rattle.lists.specs.laws.HasLaws.{Has_left, Has_right}
use Rattle.net_core.specs.Value.{bit_of, index_of}
use Rattle.gf_basis.specs.Basis.{IsBasis, AreBits}
use Rattle.circuit_model.specs.Word.{Word, HasElement, word_nets}
use Rattle.circuit_model.proofs.GivenLemmas.{Pairs, keys, Gives}

-- a number of its lowest bit and the others
pub low_bit : (d : ℕ) → ◌≡◌ {A = ℕ} (cond (d % 2 == 1) 1 0 + 2 * (d / 2)) d
low_bit d = grind (arith, nat_tests)

-- each net with its bit of a number
abbrev pub word_pairs : List ℕ → ℕ → Pairs
word_pairs [] d = []
word_pairs (n ∷ ns) d = (n, d % 2 == 1) ∷ word_pairs ns (d / 2)

pub word_index : (bits : List Bool) (ns : List ℕ) (d : ℕ) → d < 2 ^ length ns → Gives (bit_of bits) (word_pairs ns d) → index_of bits ns ≡ d
word_index bits [] d less gives = omega arith
word_index bits (n ∷ ns) d less gives =
    let more : d < 2 * 2 ^ length ns = omega (arith, less, pow-succ' 2 (length ns)) in
    rw (gives n (d % 2 == 1) (0, refl), word_index bits ns (d / 2) (omega arith) (λ m b has. gives m b (suc has.0, has.1))) (low_bit d)

pub keys_word : (ns : List ℕ) (d : ℕ) → keys (word_pairs ns d) ≡ ns
keys_word [] d = refl
keys_word (n ∷ ns) d = ap (λ ms. n ∷ ms) (keys_word ns (d / 2))

pub keys_append : (ps qs : Pairs) → keys (ps ++ qs) ≡ keys ps ++ keys qs
keys_append [] qs = refl
keys_append (p ∷ ps) qs = ap (λ ms. p.0 ∷ ms) (keys_append ps qs)

same_bit : (a b : Bool) (x y : ℕ) → ◌≡◌ {A = ℕ} (cond a 1 0 + 2 * x) (cond b 1 0 + 2 * y) → (a ≡ b) × (x ≡ y)
same_bit true true x y e = (refl, omega arith)
same_bit true false x y e = absurd (omega arith)
same_bit false true x y e = absurd (omega arith)
same_bit false false x y e = (refl, omega arith)

pub index_bits : (v w : List Bool) (ns : List ℕ) → index_of v ns ≡ index_of w ns → (k n : ℕ) → slice_get ns k ≡ Some n → bit_of v n ≡ bit_of w n
index_bits v w [] same k n got = absurd (cc)
index_bits v w (m ∷ ms) same zero n got =
    let is : m ≡ n = cc in
    let P : ℕ → Type 0 = λ n. bit_of v n ≡ bit_of w n in
    subst P is ((same_bit (bit_of v m) (bit_of w m) (index_of v ms) (index_of w ms) same).0)
index_bits v w (m ∷ ms) same (suc k) n got = index_bits v w ms ((same_bit (bit_of v m) (bit_of w m) (index_of v ms) (index_of w ms) same).1) k n got

-- two lists of bits in which a word has one element have the same bits at its nets
pub same_bits : (k : ℕ) (w : Word) (x : ℕ) (u v : List Bool) → IsBasis k w.basis → x < 2 ^ k → HasElement u w x → HasElement v w x → (n : ℕ) → Has w.nets n → bit_of u n ≡ bit_of v n
same_bits k w x u v is less a b n has =
    let only = is.sums x less in
    index_bits u v w.nets (only.only (index_of u w.nets) a.sum ∙ sym (only.only (index_of v w.nets) b.sum)) has.0 n has.1

-- in bits of which a word has an element it has one element
pub same_element : (bits : List Bool) (w : Word) (x y : ℕ) → HasElement bits w x → HasElement bits w y → x ≡ y
same_element bits w x y a b = sym a.sum.is ∙ b.sum.is

pub has_word : (ws : List Word) (i : ℕ) (w : Word) (n : ℕ) → slice_get ws i ≡ Some w → Has w.nets n → Has (word_nets ws) n
has_word [] i w n got has = absurd (cc)
has_word (u ∷ us) zero w n got has =
    let is : u ≡ w = cc in
    let has' : Has u.nets n = rw is has in
    Has_left u.nets (word_nets us) n has'
has_word (u ∷ us) (suc i) w n got has = Has_right u.nets (word_nets us) n (has_word us i w n got has)

-- another list of bits with the same bits at the word's nets
pub moved : (u v : List Bool) (w : Word) (x : ℕ) → index_of u w.nets ≡ index_of v w.nets → HasElement u w x → HasElement v w x
moved u v w x same is =
    let P : ℕ → Type 0 = λ d. AreBits w.basis x d in
    record { long = is.long; sum = subst P same is.sum }

pub index_small : (bits : List Bool) (ns : List ℕ) → index_of bits ns < 2 ^ length ns
index_small bits [] = omega arith
index_small bits (n ∷ ns) = doubled (bit_of bits n) (index_small bits ns)
  where
    doubled : (b : Bool) → index_of bits ns < 2 ^ length ns → cond b 1 0 + 2 * index_of bits ns < 2 ^ suc (length ns)
    doubled true less = omega (arith, less, pow-succ' 2 (length ns))
    doubled false less = omega (arith, less, pow-succ' 2 (length ns))
