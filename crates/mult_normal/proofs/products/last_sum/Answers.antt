use Rattle.std.proofs.Common.{◌≡◌, ◌∙◌, ap, sym, subst, ℕ, Bool, [], ◌*◌}
use Rattle.lists.specs.laws.NumberLaws.{square_few}
use Rattle.make_nets.specs.Plan.{begun, each}
use Rattle.mult_normal.specs.Coordinates.{counts_in}
use Rattle.mult_normal.specs.NormalPlan.{Products, with_row}
use Rattle.mult_normal.proofs.ShapeLemmas.{AreFew, room_for_sum, rows_few}
use Rattle.gf_basis.specs.BasisParts.{elements_of}
use Rattle.mult_normal.proofs.products.last_sum.Goals as goal

pub sum-requires : goal.sum-requires
sum-requires g c =
    let counts : ℕ → ℕ → Bool = counts_in (g.F.Ring.degree c.args.field.now) (g.F.Ring.product c.args.field.now) (elements_of c.args.basis.now) in
    let P : Products → Type 0 = λ s. AreFew c.args.first (g.F.Ring.degree c.args.field.now * g.F.Ring.degree c.args.field.now) s in
    let made : c.add_rows.new.self ≡ each (g.F.Ring.degree c.args.field.now) (with_row (g.F.Ring.degree c.args.field.now) counts c.args.a.now c.args.b.now) (record { plan = begun c.args.first; nets = [] }) =
    c.in_ok-add_rows.ensures ∙ ap (each (g.F.Ring.degree c.args.field.now) (with_row (g.F.Ring.degree c.args.field.now) counts c.args.a.now c.args.b.now)) c.new-products.ensures in
    record {
      room =
          room_for_sum c.args.first (g.F.Ring.degree c.args.field.now * g.F.Ring.degree c.args.field.now) c.add_rows.new.self c.requires.room
          (square_few (g.F.Ring.degree c.args.field.now) (g.met.F.Ring.laws c.args.field.now).small)
          (subst P (sym made) (rows_few (g.F.Ring.degree c.args.field.now) counts c.args.a.now c.args.b.now c.args.first (g.F.Ring.degree c.args.field.now)));
    }
