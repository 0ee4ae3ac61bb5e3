-- The products so far.
use Rattle.std.proofs.Common.{◌≡◌, ◌++◌}
use Rattle.gf_field.specs.Ring2k.{modulus_of}
use Rattle.irreducible.specs.Proved.{ring_of}
use Rattle.mult_gen.specs.Chains.{added_row}
use Rattle.mult_gen.proofs.added_nets.push_row.Given as goal

abbrev pub invariant-loop-j : goal.invariant-loop-j
invariant-loop-j l = l.list.items ≡ l.fn.list.items ++ added_row l.k (modulus_of (ring_of l._ring)) l.first l.i l.l l.j
