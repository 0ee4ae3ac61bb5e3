-- Keys of the terms of a cut, and their order: terms with nets that are eliminated earlier stand last.
-- Source: this project's own; the hash is multiplicative, with the multiplier of Knuth, The Art of Computer Programming, volume 3, 6.4.
use Rattle.std.specs.Prelude.{ℕ, ◌*◌, ◌%◌, ◌^◌, cond, nat_lt, List, [], ◌∷◌, get_or, bit_xor}
use Rattle.std.specs.declared.cmp.Ordering.{Ordering}
use Rattle.std.specs.Ordering.{nat_cmp, flip_args, on, then_cmp}
use Rattle.std.specs.Cmp.{IsTotalOrder, nat_cmp_total, back_total, on_total, then_total}
use Rattle.std.specs.Cmp.Lexicographic.{slice_cmp, nat_list_cmp_total}

-- the first place of the bits in the order of elimination, a hash of the bits, and their ranks, rising
pub record CutKey : Type 0 where
  pub first : ℕ
  pub hash : ℕ
  pub bits : List ℕ

-- the place of a rank; what has none comes last
abbrev pub place_at : List ℕ → ℕ → ℕ
place_at places rank = get_or places rank 4294967295

-- the least of `least` and the places of the ranks
abbrev pub first_from : List ℕ → ℕ → List ℕ → ℕ
first_from places least [] = least
first_from places least (r ∷ rs) = first_from places (cond (nat_lt (place_at places r) least) (place_at places r) least) rs

-- the hash of the ranks, begun with `start`
abbrev pub hash_from : ℕ → List ℕ → ℕ
hash_from start [] = start
hash_from start (r ∷ rs) = hash_from (bit_xor start r * 11400714819323198485 % 2 ^ 64) rs

-- the key of these bits
abbrev pub key_of : List ℕ → List ℕ → CutKey
key_of places bits = record { first = first_from places 4294967295 bits; hash = hash_from 0 bits; bits = bits }

-- the key of no bits: it stands before all others
abbrev pub no_bits : CutKey
no_bits = record { first = 4294967295; hash = 0; bits = [] }

-- by the first place from the last to the first, then by the hash, then by the bits
abbrev pub key_cmp : CutKey → CutKey → Ordering
key_cmp = then_cmp (on (λ k. k.first) (flip_args nat_cmp)) (then_cmp (on (λ k. k.hash) nat_cmp) (on (λ k. k.bits) (slice_cmp nat_cmp)))

-- it is a total order
pub key_cmp_total : IsTotalOrder key_cmp
key_cmp_total = then_total (on_total (λ k. k.first) (back_total nat_cmp_total)) (then_total (on_total (λ k. k.hash) nat_cmp_total) (on_total (λ k. k.bits) nat_list_cmp_total))
