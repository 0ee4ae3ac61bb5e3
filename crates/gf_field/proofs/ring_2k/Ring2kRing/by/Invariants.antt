use Rattle.std.proofs.Common.{◌≡◌, ℕ, ◌<◌, ◌+◌, ◌^◌, ◌*◌, ◌/◌, ◌-◌}
use Rattle.gf_field.specs.Table16.{AreMultiples}
use Rattle.gf_field.specs.private.ShiftAndAdd.{part}
use Rattle.gf_field.proofs.ring_2k.Ring2kRing.by.Given as goal

abbrev pub invariant-loop-i : goal.invariant-loop-i
invariant-loop-i l = record {
  element : l.sum < 2 ^ l.self.degree;
  sum : (a : ℕ) → a < 2 ^ l.self.degree → AreMultiples l.self.degree l.self.modulus a l.multiples → l.sum ≡ part l.self.degree l.self.modulus (4 * ((l.self.degree + 3) / 4 - l.i)) (l.b / 2 ^ (4 * l.i)) a;
}
