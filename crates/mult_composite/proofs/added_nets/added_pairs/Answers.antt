use Rattle.std.proofs.Common.{◌+◌, ◌*◌, ◌-◌, refl, arith}
use Rattle.std.specs.Prelude.{slice_index}
use Rattle.make_laws.specs.TowerProduct.{adds_to}
use Rattle.make_nets.specs.Plan.{where_so}
use Rattle.mult_composite.proofs.ListLemmas.{gathered_more}
use Rattle.mult_composite.proofs.added_nets.added_pairs.Goals as goal

pub loop-i-preserved : goal.loop-i-preserved
loop-i-preserved c =
    let m = c.args.m in
    let n = c.args.n in
    let d = c.args.d in (
      gathered_more (λ i. where_so (adds_to m d i) (slice_index c.args.products.now ((i * m + (d - i)) * n + c.args.l))) c.loop-i.i c.loop-i.list.items c.push_pair.new.list.items
          (where_so (adds_to m d c.loop-i.i) (slice_index c.args.products.now ((c.loop-i.i * m + (d - c.loop-i.i)) * n + c.args.l))) c.loop-i.invariant.0 c.in_ok-push_pair.ensures.list refl,
      omega (arith, c.in_ok-push_pair.ensures.few, c.loop-i.invariant.1),
    )
