use Rattle.gf_field.specs.Ring2k.{degree_of, modulus_of}
use Rattle.gf_field.specs.laws.ModulusLaws.{IsRing-from_modulus}
use Rattle.irreducible.specs.Proved.{ring_of}
use Rattle.mult_digit.proofs.FinalLemmas.{digit_sums_held, unit_powers}
use Rattle.mult_digit.proofs.laws.latches_hold_the_sums.Goals as goal

pub returns : goal.returns
returns c = λ signature net wide.
    let ring = c.args._ring.now in
    let k = degree_of (ring_of ring) in
    let g = modulus_of (ring_of ring) in
    digit_sums_held k _ (IsRing-from_modulus k g ring.ring.fits) ring.no_zero_divisors _ (unit_powers k g ring.ring.fits) signature wide net
