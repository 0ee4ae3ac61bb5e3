use Rattle.std.proofs.Common.{mod-lt, pow_pos, subst}
use Rattle.gf_field.specs.Table16.{entries_of}
use Rattle.gf_field.specs.private.ShiftAndAdd.{AreParts}
use Rattle.gf_field.specs.laws.ModulusLaws.{IsModulus-from_log, no_small_modulus, no_large_modulus}
use Rattle.gf_field.proofs.TableStepLemmas.{lower, below_64}
use Rattle.gf_field.proofs.ring_2k.Ring2k.new.Goals as goal

pub returns-then-modulus-lt2-clause-accepted : goal.returns-then-modulus-lt2-clause-accepted
returns-then-modulus-lt2-clause-accepted c = (λ h. cc, λ m. absurd (no_small_modulus c.args.modulus c.if-modulus-lt2.true m))

pub returns-then-degree-gt64-clause-accepted : goal.returns-then-degree-gt64-clause-accepted
returns-then-degree-gt64-clause-accepted c =
    (λ h. cc, λ m. absurd (no_large_modulus c.ilog2-degree.result c.args.modulus c.if-degree-gt64.true c.ilog2-degree.ensures.power_le m))

pub new-requires-clause-modulus : goal.new-requires-clause-modulus
new-requires-clause-modulus c = IsModulus-from_log c.ilog2-degree.result c.args.modulus c.if-modulus-lt2.false c.if-degree-gt64.false c.ilog2-degree.ensures.power_le c.ilog2-degree.ensures.next_power_gt

pub overflow_cast-low-2 : goal.overflow_cast-low-2
overflow_cast-low-2 c =
    let d = c.ilog2-degree.result in let g = c.args.modulus in
    let ok = IsModulus-from_log d g c.if-modulus-lt2.false c.if-degree-gt64.false c.ilog2-degree.ensures.power_le c.ilog2-degree.ensures.next_power_gt in
    rw (lower d g ok) (record { fits = below_64 d g _ ok (mod-lt g (pow_pos d)) })

pub new-requires-clause-element : goal.new-requires-clause-element
new-requires-clause-element c =
    let d = c.ilog2-degree.result in let g = c.args.modulus in
    let ok = IsModulus-from_log d g c.if-modulus-lt2.false c.if-degree-gt64.false c.ilog2-degree.ensures.power_le c.ilog2-degree.ensures.next_power_gt in
    rw (lower d g ok) (mod-lt g (pow_pos d))

pub invariant_of-result : goal.invariant_of-result
invariant_of-result c =
    let d = c.ilog2-degree.result in let g = c.args.modulus in
    let ok = IsModulus-from_log d g c.if-modulus-lt2.false c.if-degree-gt64.false c.ilog2-degree.ensures.power_le c.ilog2-degree.ensures.next_power_gt in
    record {
      fits = ok;
      reduces = subst (λ a. AreParts d g a (entries_of c.new.result)) (lower d g ok) c.new.ensures.multiples;
      whole = c.new.ensures.whole;
    }
