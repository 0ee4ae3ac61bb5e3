-- Small worked examples of the definitions of specs/, which the check computes.
use Rattle.std.proofs.Common.{◌≡◌, ℕ, List, [], ◌∷◌, true, codes, refl, map}
use Rattle.net_core.specs.NetList.{LabelValue, NetList}
use Rattle.net_core.specs.declared.latch.Start.TheVariants.{Zero, Unknown}
use Rattle.net_write.specs.SameByName.{named_gate, named_latch}
use Rattle.net_write.specs.Written.{gate_statements, latch_statement, pattern, text_with, written}

-- a net of this name
abbrev net_named : List ℕ → LabelValue
net_named name = record { text = name; named = true }

-- the adder of two bits: bit i of Z is the exclusive or of the bits i of A and B
abbrev adder : NetList
adder = record {
  labels = map net_named (codes "a0" ∷ codes "a1" ∷ codes "b0" ∷ codes "b1" ∷ codes "z0" ∷ codes "z1" ∷ []);
  inputs = 0 ∷ 1 ∷ 2 ∷ 3 ∷ [];
  outputs = 4 ∷ 5 ∷ [];
  gates = record { out = 4; inputs = 0 ∷ 2 ∷ []; table = 6 } ∷ record { out = 5; inputs = 1 ∷ 3 ∷ []; table = 6 } ∷ [];
  latches = [];
}

adder_written : written adder ≡ codes ".model make\n.inputs a0 a1 b0 b1\n.outputs z0 z1\n.names a0 b0 z0\n10 1\n01 1\n.names a1 b1 z1\n10 1\n01 1\n.end\n"
adder_written = refl

-- bit 0 of the index 6 is 0, and bits 1 and 2 are 1
pattern_of_6 : pattern 3 6 ≡ codes "011"
pattern_of_6 = refl

-- the constants 1 and 0
one_written : text_with (gate_statements adder (record { out = 4; inputs = []; table = 1 })) ≡ codes ".names z0\n1\n"
one_written = refl

none_written : text_with (gate_statements adder (record { out = 4; inputs = []; table = 0 })) ≡ codes ".names z0\n"
none_written = refl

-- a latch with an unknown start
latch_written : text_with (latch_statement adder (record { next = 4; out = 5; start = Unknown }) ∷ []) ≡ codes ".latch z0 z1 3\n"
latch_written = refl

-- the first gate by its names
gate_named : named_gate adder (record { out = 4; inputs = 0 ∷ 2 ∷ []; table = 6 }) ≡ record { out = codes "z0"; inputs = codes "a0" ∷ codes "b0" ∷ []; table = 6 }
gate_named = refl

latch_named : named_latch adder (record { next = 4; out = 5; start = Zero }) ≡ record { next = codes "z0"; out = codes "z1"; start = Zero }
latch_named = refl
