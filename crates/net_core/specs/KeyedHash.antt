-- A hash with a key. Source: SipHash-1-3, after Aumasson and Bernstein, SipHash: a fast short-input PRF, 2012.
use Rattle.std.specs.Prelude.{ℕ, List, fold}
use Rattle.std.specs.Hash as fed
use Rattle.std.specs.Hash.DefaultHasher as sip
use Rattle.std.specs.declared.hash.DefaultHasher.{DefaultHasher}
use Rattle.net_core.specs.declared.keyed_hash.KeyedHash.{KeyedHash}

-- the state in which a hash with this key begins
abbrev pub key_start : ℕ → DefaultHasher
key_start key = fold sip.write sip.initial (fed.u64 key)

-- the state in which this hash begins
abbrev pub start_of : KeyedHash → DefaultHasher
start_of hash = hash.start

-- the hash of a name
abbrev pub name_hash : KeyedHash → List ℕ → ℕ
name_hash hash name = sip.finish (sip.write (start_of hash) name)

-- the hash of a whole text, by SipHash
abbrev pub text_key : List ℕ → ℕ
text_key text = sip.finish (sip.write sip.initial text)
