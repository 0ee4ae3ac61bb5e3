-- Hashes of names. Source: Dietzfelbinger, Hagerup, Katajainen, Penttonen, A reliable randomized algorithm for the closest-pair
-- problem, Journal of Algorithms 25, 1997: for two numbers at most 2 in 2^64 of the odd factors give products with one upper half.
use Rattle.std.specs.Prelude.{ℕ, ◌+◌, ◌*◌, ◌/◌, ◌%◌, ◌^◌, List, [], ◌∷◌, length, fold, nat_le, bit_or, if◌then◌else◌}
use Rattle.std.specs.Hash as fed
use Rattle.std.specs.Hash.DefaultHasher as sip
use Rattle.net_core.specs.KeyedHash.{key_start, name_hash}
use Rattle.net_core.specs.declared.name_hash.NameHash.{NameHash}

-- the number whose digits to base 256 are those of the number n and then the bytes, modulo 2^128
abbrev pub number_after : ℕ → List ℕ → ℕ
number_after n [] = n
number_after n (byte ∷ bytes) = number_after ((n * 256 % 2 ^ 128 + byte) % 2 ^ 128) bytes

-- SipHash of a number, with a key
abbrev pub number_hash : ℕ → ℕ → ℕ
number_hash key n = sip.finish (fold sip.write (key_start key) (fed.u64 n))

-- the odd number of 128 bits that is made of a key
abbrev pub key_factor : ℕ → ℕ
key_factor key = bit_or (bit_or (number_hash key 0 * 2 ^ 64 % 2 ^ 128) (number_hash key 1)) 1

-- the hash of a name: of at most 15 bytes the upper half of a product modulo 2^128, and else SipHash
abbrev pub hash_of : NameHash → List ℕ → ℕ
hash_of hash name = if nat_le (length name) 15 then hash.factor * number_after (length name) name % 2 ^ 128 / 2 ^ 64 else name_hash hash.long name
