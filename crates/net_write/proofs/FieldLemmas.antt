-- The fields of each statement of a text.
use Rattle.std.proofs.Common.{◌≡◌, refl, ℕ, suc, ◌<◌, ◌≤◌, ◌==◌, ◌&&◌, Bool, true, not, List, [], ◌∷◌, ◌++◌, length, codes, arith}
use Rattle.std.specs.Prelude.{All, nat_le}
use Rattle.std.specs.List.{list_all}
use Rattle.std.proofs.lemmas.Bool.Decides.{nat_tests}
use Rattle.lists.specs.laws.BoolLaws.{both_true as both}
use Rattle.lists.specs.laws.ReadLaws.{get_below}
use Rattle.net_core.specs.NetList.{NetList, nets, text_of}
use Rattle.net_core.specs.Sound.{IsSound}
use Rattle.net_core.specs.declared.latch.Start.{Start}
use Rattle.net_core.specs.declared.latch.Start.TheVariants.{Zero, One, Unknown}
use Rattle.net_blif.specs.Statement.{Token, row_tokens}
use Rattle.net_write.specs.Plain.{HasPlainNames, IsPlainByte, IsPlainName}
use Rattle.net_write.specs.Written.{names_of, pattern, start_token}
use Rattle.net_write.proofs.LineTextLemmas.{AreFields, ArePlain, IsField, IsLine}
use Rattle.net_write.proofs.RowLemmas.{pattern_length, pattern_plain}

is_plain : ℕ → Bool
is_plain b = nat_le 33 b && nat_le b 126 && not (b == 35) && not (b == 92)

byte_from : (b : ℕ) → is_plain b ≡ true → IsPlainByte b
unfolding is_plain
byte_from b e =
    let whole = both (nat_le 33 b && nat_le b 126 && not (b == 35)) (not (b == 92)) e in
    let front = both (nat_le 33 b && nat_le b 126) (not (b == 35)) whole.0 in
    let ends = both (nat_le 33 b) (nat_le b 126) front.0 in
    (grind (arith, nat_tests), grind (arith, nat_tests), grind (arith, nat_tests), grind (arith, nat_tests))

-- bytes that pass the test
plain_from : (bytes : List ℕ) → list_all is_plain bytes ≡ true → ArePlain bytes
plain_from [] e = tt
plain_from (b ∷ bs) e = let parts = both (is_plain b) (list_all is_plain bs) e in (byte_from b parts.0, plain_from bs parts.1)

-- a word of at most 255 bytes that pass the test
word : (bytes : List ℕ) → 1 ≤ length bytes → length bytes ≤ 255 → list_all is_plain bytes ≡ true → IsField bytes
word bytes some short e = (some, short, plain_from bytes e)

pub make_field : IsField (codes "make")
unfolding is_plain
make_field = word (codes "make") (omega arith) (omega arith) refl

pub model_word : IsField (codes ".model")
unfolding is_plain
model_word = word (codes ".model") (omega arith) (omega arith) refl

pub inputs_word : IsField (codes ".inputs")
unfolding is_plain
inputs_word = word (codes ".inputs") (omega arith) (omega arith) refl

pub outputs_word : IsField (codes ".outputs")
unfolding is_plain
outputs_word = word (codes ".outputs") (omega arith) (omega arith) refl

pub latch_word : IsField (codes ".latch")
unfolding is_plain
latch_word = word (codes ".latch") (omega arith) (omega arith) refl

pub names_word : IsField (codes ".names")
unfolding is_plain
names_word = word (codes ".names") (omega arith) (omega arith) refl

pub end_word : IsField (codes ".end")
unfolding is_plain
end_word = word (codes ".end") (omega arith) (omega arith) refl

one_word : IsField (codes "1")
unfolding is_plain
one_word = word (codes "1") (omega arith) (omega arith) refl

pub start_field : (start : Start) → IsField (start_token start)
unfolding is_plain
start_field Zero = word (codes "0") (omega arith) (omega arith) refl
start_field One = one_word
start_field Unknown = word (codes "3") (omega arith) (omega arith) refl

pub fields_append : (xs ys : List Token) → AreFields xs → AreFields ys → AreFields (xs ++ ys)
fields_append [] ys h k = k
fields_append (x ∷ xs) ys h k = (h.0, fields_append xs ys h.1 k)

-- a row of at most 6 characters
row_of : (cells : Token) → ArePlain cells → length cells ≤ 6 → IsLine (row_tokens cells true)
row_of [] plain short = (omega arith, (one_word, tt))
row_of (b ∷ bs) plain short = (omega arith, ((omega arith, omega (arith, short), plain), (one_word, tt)))

pub row_line : (n index : ℕ) → n ≤ 6 → IsLine (row_tokens (pattern n index) true)
row_line n index few = row_of (pattern n index) (pattern_plain n index) (omega (arith, few, pattern_length n index))

all_plain : (bytes : List ℕ) → IsPlainName bytes → ArePlain bytes
all_plain [] all = tt
all_plain (b ∷ bs) all = (all 0 0 (omega arith), all_plain bs (λ k d less. all (suc k) d (omega (arith, less))))

module _ (net : NetList) (sound : IsSound net) (plain : HasPlainNames net) where
  -- the name of each net
  pub name_field : (n : ℕ) → n < nets net → IsField (text_of net n)
  name_field n below =
      let label = get_below net.labels n below in
      let named = plain n label.0 label.1 in
      let fits = sound.inside.names n label.0 label.1 named.0 in
      rw label.1 (fits.0.0, fits.0.1, all_plain label.0.text named.1)

  pub names_fields : (ns : List ℕ) → All (λ n. n < nets net) ns → AreFields (names_of net ns)
  names_fields [] all = tt
  names_fields (n ∷ ns) all = (name_field n (all 0 0 (omega arith)), names_fields ns (λ k d less. all (suc k) d (omega (arith, less))))
