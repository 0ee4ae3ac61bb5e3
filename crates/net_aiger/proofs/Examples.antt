-- Small worked examples of the definitions of specs/, which the check computes.
use Rattle.std.proofs.Common.{◌≡◌, [], ◌∷◌, Some, Ok, Err, codes, inl, inr, refl, arith}
use Rattle.net_core.specs.declared.latch.Start.TheVariants.{Zero, Unknown}
use Rattle.net_aiger.specs.Numbers.{numbers_of, words_of}
use Rattle.net_aiger.specs.Reading.{reading_of}
use Rattle.net_aiger.specs.Sections.{Heading, Text, Input}
use Rattle.net_aiger.specs.Spelling.{SpellsLatch, SpellsSymbol}
use Rattle.net_aiger.specs.declared.fault.AigerFault.TheVariants.{DefinedTwice, LeftOut}
use Rattle.net_aiger.specs.declared.reading.Header.{Header}

-- `6  2 4` says three numbers
three_numbers : numbers_of (words_of (codes "6  2 4")) ≡ Some (6 ∷ 2 ∷ 4 ∷ [])
three_numbers = refl

-- two inputs, an output and an AND, and at most 3 variables
and_header : Header
and_header = record { most = 3; inputs = 2; latches = 0; outputs = 1; ands = 1 }

-- `aag 3 2 0 1 1` is their header
header_is_read : Heading (codes "aag 3 2 0 1 1") (Ok and_header)
unfolding and_header
header_is_read = ((codes "aag", 3 ∷ 2 ∷ 0 ∷ 1 ∷ 1 ∷ []), (_, refl, refl, refl), (tt, refl, refl))

-- `aig 3 2 0 1 1` is that of the binary format
binary_is_left_out : Heading (codes "aig 3 2 0 1 1") (Err (LeftOut 1 (codes "aig")))
binary_is_left_out = inr ((codes "aig", 3 ∷ 2 ∷ 0 ∷ 1 ∷ 1 ∷ []), (_, refl, refl, refl), inl refl)

-- `2 3` is a latch that begins with 0, and `2 3 2` one that begins with either
latch_begins_with_0 : SpellsLatch (2 ∷ 3 ∷ []) (record { literal = 2; next = 3; start = Zero })
latch_begins_with_0 = inl (refl, refl)

latch_begins_with_either : SpellsLatch (2 ∷ 3 ∷ 2 ∷ []) (record { literal = 2; next = 3; start = Unknown })
latch_begins_with_either = inr (2, refl, (omega arith, refl))

-- `o0 z` names the output of place 0, which is the port of number 2 behind two inputs
output_is_named : SpellsSymbol and_header (codes "o0 z") (2, codes "z")
unfolding and_header
output_is_named = (111, 0, codes "0", refl, refl, refl, refl)

-- a line `2` behind an input 2 defines it twice
input_is_twice : Input and_header (codes "2" ∷ codes "2" ∷ []) (2 ∷ []) 1 (Err (DefinedTwice 3))
unfolding and_header
input_is_twice = inr (2, refl, inl refl)

-- a header without counted lines is a text, behind whose line `c` anything may stand
empty_header : Header
empty_header = record { most = 0; inputs = 0; latches = 0; outputs = 0; ands = 0 }

comment_ends : Text (codes "aag 0 0 0 0 0" ∷ codes "c" ∷ codes "x y" ∷ []) (Ok (reading_of empty_header [] [] [] [] []))
unfolding empty_header
comment_ends = (
  empty_header,
  ((codes "aag", 0 ∷ 0 ∷ 0 ∷ 0 ∷ 0 ∷ []), (_, refl, refl, refl), (tt, refl, refl)),
  ([], (refl, λ k a got. absurd (cc)), ([], (refl, λ k a got. absurd (cc)), ([], (refl, λ k a got. absurd (cc)), ([], (refl, λ k a got. absurd (cc)), ([], ((λ k a got. absurd (cc)), inr refl), refl))))),
)
