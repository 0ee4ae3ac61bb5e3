use Rattle.std.proofs.Common.{◌≡◌, ◌-◌, ◌/◌, ◌+◌, ◌*◌, ◌^◌, sym, ◌∙◌, ap, suc, arith}
use Rattle.gf_field.specs.private.ShiftAndAdd.{part}
use Rattle.gf_field.proofs.TableStepLemmas.{group_start, group_step, group_element, group_end}
use Rattle.std.proofs.Common.{pow_pos}
use Rattle.gf_field.proofs.ring_2k.Ring2kRing.by.Goals as goal

pub loop-i-init : goal.loop-i-init
loop-i-init c = record {
  element = pow_pos c.args.self.now.degree;
  sum = λ a h are. group_start c.args.self.now.degree c.args.self.now.modulus ((c.args.self.now.degree + 3) / 4) c.args.b a c.args.self.now.fits;
}

pub loop-i-preserved : goal.loop-i-preserved
loop-i-preserved c =
    let same : suc (c.loop-i.i - 1) ≡ c.loop-i.i = omega arith in
    let d = c.args.self.now.degree in let g = c.args.self.now.modulus in record {
      element = group_element d g c.requires.table.0 c.multiples-multiples.result.now c.times_x4.result (c.args.b / 2 ^ (4 * (c.loop-i.i - 1))) (rw (c.multiples-multiples.ensures) c.requires.table.2) c.times_x4.ensures.element;
      sum = λ a h are. group_step d g ((d + 3) / 4) (c.loop-i.i - 1) c.args.b a c.multiples-multiples.result.now c.loop-i.sum c.times_x4.result c.args.self.now.fits h are (omega arith)
          (c.loop-i.invariant.sum a h are ∙ ap (λ x. part d g (4 * ((d + 3) / 4 - x)) (c.args.b / 2 ^ (4 * x)) a) (sym same)) c.times_x4.ensures.product;
    }

pub returns-clause-product : goal.returns-clause-product
returns-clause-product c =
    let done : c.loop-i.i ≡ 0 = omega arith in
    let d = c.args.self.now.degree in let g = c.args.self.now.modulus in
    λ a h are. group_end d g c.args.b a c.loop-i.sum c.args.self.now.fits h c.requires.element
    (c.loop-i.invariant.sum a h (rw (c.multiples-multiples.ensures) are) ∙ ap (λ x. part d g (4 * ((d + 3) / 4 - x)) (c.args.b / 2 ^ (4 * x)) a) done)
