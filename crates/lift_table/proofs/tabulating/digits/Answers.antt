use Rattle.std.proofs.Common.{◌≡◌, ◌+◌, ◌-◌, ◌/◌, ◌%◌, ◌^◌, ◌∙◌, ◌++◌, ap}
use Rattle.lift_table.specs.private.Digits.{digits_of}
use Rattle.lift_table.proofs.GatherLemmas.{pushed_long}
use Rattle.lift_table.proofs.TableLemmas.{digit_more, digits_end, digits_elements}
use Rattle.lift_table.proofs.tabulating.digits.Goals as goal

pub loop-preserved : goal.loop-preserved
loop-preserved g c =
    let k = g.F.Ring.degree c.args.field.now in
    let list = c.loop.list.items in
    let new = c.push.new.self.items in
    let left = c.loop.left in
    let base : c.from-base.result ≡ 2 ^ k = c.from-base.ensures ∙ (c.two_to.ensures ∙ ap (λ n. 2 ^ n) c.k.ensures) in
    record {
      digits = ap (λ b. new ++ digits_of k (c.args.count - (c.loop.counter + 1)) (left / b)) base
          ∙ digit_more k c.args.count c.loop.counter left (left % c.from-base.result) list new (digits_of k c.args.count c.args.row) c.loop-test.true (ap (λ b. left % b) base) c.in_ok-push.ensures.items c.loop.invariant.digits;
      long = pushed_long list new (left % c.from-base.result) c.loop.counter c.in_ok-push.ensures.items c.loop.invariant.long;
    }

pub returns-clause-elements : goal.returns-clause-elements
returns-clause-elements g c =
    let k = g.F.Ring.degree c.args.field.now in
    digits_elements k c.args.count c.args.row c.loop.list.items (digits_end k c.args.count c.loop.counter c.loop.left c.loop.list.items (digits_of k c.args.count c.args.row) c.loop-test.false c.loop.invariant.digits)
