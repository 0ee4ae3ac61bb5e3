use Rattle.std.proofs.Common.{◌≡◌, ℕ, ◌<◌, ◌*◌, length, get_or}
use Rattle.gf_field.specs.private.ShiftAndAdd.{part}
use Rattle.gf_field.proofs.table_16.Table16.new.Given as goal

abbrev pub invariant-loop-n : goal.invariant-loop-n
invariant-loop-n l = record {
  whole : length l.multiples ≡ 16;
  done : (m : ℕ) → m < 2 * l.n → get_or l.multiples m 0 ≡ part l.degree l.modulus 4 m l.a;
}
