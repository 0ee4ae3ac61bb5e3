use Rattle.std.proofs.Common.{rules, ◌≡◌, ◌∙◌, ◌<◌, ◌+◌, sym, ap, subst, ℕ, List, Some, length, map, set, arith}
use Rattle.std.specs.Prelude.{slice_get, slice_index}
use Rattle.std.proofs.lemmas.List.{map-set}
use Rattle.std.proofs.lemmas.Option.{slice_get-get_or}
use Rattle.lists.specs.laws.ListLaws.{length_map as mapped_long}
use Rattle.lists.specs.laws.ReadLaws.{got_read, mapped_at}
use Rattle.poly_mixed.specs.Polynomial.{value, IsPolynomialOf, Terms}
use Rattle.poly_mixed.specs.declared.poly.Poly.{Poly}
use Rattle.stage_model.specs.Listing.{AreAllWithin, IsRefusal}
use Rattle.compose_polys.specs.Instance.{block_terms, point_of}
use Rattle.compose_polys.specs.InstanceListing.{instance_listing}
use Rattle.compose_model.specs.declared.feeder.Feeder.{Feeder}
use Rattle.compose_polys.specs.Words.{values_of, IsBlockFor, IsFeedAmong}
use Rattle.compose_polys.specs.Instances.{IsReady, IsRefused}
use Rattle.compose_polys.proofs.OrderLemmas.{none_done, one_done, refused}
use Rattle.compose_polys.proofs.instances.instance_polys.Goals as goal

pub loop-m-init : goal.loop-m-init
loop-m-init g c =
    let k : ℕ = g.F.Ring.degree c.args.field.now in
    let mul : ℕ → ℕ → ℕ = g.F.Ring.product c.args.field.now in
    let ring = g.met.F.Ring.laws c.args.field.now in
    let free = g.met.F.Field.no_zero_divisors c.args.field.now in
    let words : List Terms = map (λ q. q.terms) c.args.words.now in
    let blocks : List Terms = map (λ f. f.now.terms) c.args.blocks.now in
    let rows : List (List Feeder) = map (λ row. row.items) c.args.rows.now in
    none_done k mul words blocks rows c.args.bound c.args.order.now c.requires ring free (map (λ q. q.terms) c.in_ok-polys.polys.items) (length c.args.rows.now) (sym (mapped_long (λ row. row.items) c.args.rows.now)) c.in_ok-polys.ensures

pub bounds-rows-i : goal.bounds-rows-i
bounds-rows-i g c =
    let k : ℕ = g.F.Ring.degree c.args.field.now in
    let words : List Terms = map (λ q. q.terms) c.args.words.now in
    let blocks : List Terms = map (λ f. f.now.terms) c.args.blocks.now in
    let rows : List (List Feeder) = map (λ row. row.items) c.args.rows.now in
    let order : List ℕ = c.args.order.now in
    let bound : ℕ = c.args.bound in
    let ready : IsReady k words blocks rows order = c.requires in
    let m : ℕ = c.loop-m.m in
    let polys : List Terms = map (λ q. q.terms) c.loop-m.polys.items in
    let i : ℕ = slice_index order m in
    let here : slice_get order m ≡ Some i = slice_get-get_or order m 0 c.loop-m-test.true in
    let inside : i < length rows = ready.inside m i here in
    let row_inside : i < length c.args.rows.now = omega (arith, inside, mapped_long (λ row. row.items) c.args.rows.now) in
    let block_inside : i < length c.args.blocks.now = omega (arith, inside, ready.long, mapped_long (λ f. f.now.terms) c.args.blocks.now) in
    row_inside

pub bounds-blocks-i : goal.bounds-blocks-i
bounds-blocks-i g c =
    let k : ℕ = g.F.Ring.degree c.args.field.now in
    let words : List Terms = map (λ q. q.terms) c.args.words.now in
    let blocks : List Terms = map (λ f. f.now.terms) c.args.blocks.now in
    let rows : List (List Feeder) = map (λ row. row.items) c.args.rows.now in
    let order : List ℕ = c.args.order.now in
    let bound : ℕ = c.args.bound in
    let ready : IsReady k words blocks rows order = c.requires in
    let m : ℕ = c.loop-m.m in
    let polys : List Terms = map (λ q. q.terms) c.loop-m.polys.items in
    let i : ℕ = slice_index order m in
    let here : slice_get order m ≡ Some i = slice_get-get_or order m 0 c.loop-m-test.true in
    let inside : i < length rows = ready.inside m i here in
    let row_inside : i < length c.args.rows.now = omega (arith, inside, mapped_long (λ row. row.items) c.args.rows.now) in
    let block_inside : i < length c.args.blocks.now = omega (arith, inside, ready.long, mapped_long (λ f. f.now.terms) c.args.blocks.now) in
    block_inside

pub overflow_add-i : goal.overflow_add-i
overflow_add-i g c =
    let k : ℕ = g.F.Ring.degree c.args.field.now in
    let words : List Terms = map (λ q. q.terms) c.args.words.now in
    let blocks : List Terms = map (λ f. f.now.terms) c.args.blocks.now in
    let rows : List (List Feeder) = map (λ row. row.items) c.args.rows.now in
    let order : List ℕ = c.args.order.now in
    let bound : ℕ = c.args.bound in
    let ready : IsReady k words blocks rows order = c.requires in
    let m : ℕ = c.loop-m.m in
    let polys : List Terms = map (λ q. q.terms) c.loop-m.polys.items in
    let i : ℕ = slice_index order m in
    let here : slice_get order m ≡ Some i = slice_get-get_or order m 0 c.loop-m-test.true in
    let inside : i < length rows = ready.inside m i here in
    let row_inside : i < length c.args.rows.now = omega (arith, inside, mapped_long (λ row. row.items) c.args.rows.now) in
    let block_inside : i < length c.args.blocks.now = omega (arith, inside, ready.long, mapped_long (λ f. f.now.terms) c.args.blocks.now) in
    omega (arith, inside, ready.few)

pub one_instance-requires-clause-feeds : goal.one_instance-requires-clause-feeds
one_instance-requires-clause-feeds g c =
    let k : ℕ = g.F.Ring.degree c.args.field.now in
    let words : List Terms = map (λ q. q.terms) c.args.words.now in
    let blocks : List Terms = map (λ f. f.now.terms) c.args.blocks.now in
    let rows : List (List Feeder) = map (λ row. row.items) c.args.rows.now in
    let order : List ℕ = c.args.order.now in
    let bound : ℕ = c.args.bound in
    let ready : IsReady k words blocks rows order = c.requires in
    let m : ℕ = c.loop-m.m in
    let polys : List Terms = map (λ q. q.terms) c.loop-m.polys.items in
    let i : ℕ = slice_index order m in
    let here : slice_get order m ≡ Some i = slice_get-get_or order m 0 c.loop-m-test.true in
    let inside : i < length rows = ready.inside m i here in
    let row_inside : i < length c.args.rows.now = omega (arith, inside, mapped_long (λ row. row.items) c.args.rows.now) in
    let block_inside : i < length c.args.blocks.now = omega (arith, inside, ready.long, mapped_long (λ f. f.now.terms) c.args.blocks.now) in
    let feeds : List Feeder = c.index-rows-i.result.items in
    let block : Terms = c.index-blocks-i.result.now.terms in
    let row_at : slice_get rows i ≡ Some feeds = mapped_at (λ row. row.items) c.args.rows.now i c.index-rows-i.result (got_read c.args.rows.now i c.index-rows-i.result row_inside c.index-rows-i.is) in
    let block_at : slice_get blocks i ≡ Some block = mapped_at (λ f. f.now.terms) c.args.blocks.now i c.index-blocks-i.result (got_read c.args.blocks.now i c.index-blocks-i.result block_inside c.index-blocks-i.is) in
    λ j feed got.
    let P : List Feeder → Type 0 = λ fs. slice_get fs j ≡ Some feed in
    let is : IsFeedAmong (length words) (length rows) feed = ready.feeds_are i j feeds feed row_at (subst P c.deref-in-loop-m.ensures.value got) in
    let many : length rows ≡ length c.deref.result.now = sym c.loop-m.invariant.long ∙ mapped_long (λ q. q.terms) c.loop-m.polys.items ∙ sym (ap length c.deref.ensures.value) in
    let Q : ℕ → Type 0 = λ n. IsFeedAmong n (length rows) feed in
    let R : ℕ → Type 0 = λ n. IsFeedAmong (length c.args.words.now) n feed in
    subst R many (subst Q (mapped_long (λ q. q.terms) c.args.words.now) is)

pub one_instance-requires-clause-block : goal.one_instance-requires-clause-block
one_instance-requires-clause-block g c =
    let k : ℕ = g.F.Ring.degree c.args.field.now in
    let words : List Terms = map (λ q. q.terms) c.args.words.now in
    let blocks : List Terms = map (λ f. f.now.terms) c.args.blocks.now in
    let rows : List (List Feeder) = map (λ row. row.items) c.args.rows.now in
    let order : List ℕ = c.args.order.now in
    let bound : ℕ = c.args.bound in
    let ready : IsReady k words blocks rows order = c.requires in
    let m : ℕ = c.loop-m.m in
    let polys : List Terms = map (λ q. q.terms) c.loop-m.polys.items in
    let i : ℕ = slice_index order m in
    let here : slice_get order m ≡ Some i = slice_get-get_or order m 0 c.loop-m-test.true in
    let inside : i < length rows = ready.inside m i here in
    let row_inside : i < length c.args.rows.now = omega (arith, inside, mapped_long (λ row. row.items) c.args.rows.now) in
    let block_inside : i < length c.args.blocks.now = omega (arith, inside, ready.long, mapped_long (λ f. f.now.terms) c.args.blocks.now) in
    let feeds : List Feeder = c.index-rows-i.result.items in
    let block : Terms = c.index-blocks-i.result.now.terms in
    let row_at : slice_get rows i ≡ Some feeds = mapped_at (λ row. row.items) c.args.rows.now i c.index-rows-i.result (got_read c.args.rows.now i c.index-rows-i.result row_inside c.index-rows-i.is) in
    let block_at : slice_get blocks i ≡ Some block = mapped_at (λ f. f.now.terms) c.args.blocks.now i c.index-blocks-i.result (got_read c.args.blocks.now i c.index-blocks-i.result block_inside c.index-blocks-i.is) in
    let P : List Feeder → Type 0 = λ fs. IsBlockFor k fs block in
    subst P (sym c.deref-in-loop-m.ensures.value) (ready.blocks_are i block feeds block_at row_at)

pub returns-in_err-poly-clause-fault : goal.returns-in_err-poly-clause-fault
returns-in_err-poly-clause-fault g c =
    let k : ℕ = g.F.Ring.degree c.args.field.now in
    let mul : ℕ → ℕ → ℕ = g.F.Ring.product c.args.field.now in
    let ring = g.met.F.Ring.laws c.args.field.now in
    let free = g.met.F.Field.no_zero_divisors c.args.field.now in
    let words : List Terms = map (λ q. q.terms) c.args.words.now in
    let blocks : List Terms = map (λ f. f.now.terms) c.args.blocks.now in
    let rows : List (List Feeder) = map (λ row. row.items) c.args.rows.now in
    let order : List ℕ = c.args.order.now in
    let bound : ℕ = c.args.bound in
    let ready : IsReady k words blocks rows order = c.requires in
    let m : ℕ = c.loop-m.m in
    let polys : List Terms = map (λ q. q.terms) c.loop-m.polys.items in
    let i : ℕ = slice_index order m in
    let here : slice_get order m ≡ Some i = slice_get-get_or order m 0 c.loop-m-test.true in
    let inside : i < length rows = ready.inside m i here in
    let row_inside : i < length c.args.rows.now = omega (arith, inside, mapped_long (λ row. row.items) c.args.rows.now) in
    let block_inside : i < length c.args.blocks.now = omega (arith, inside, ready.long, mapped_long (λ f. f.now.terms) c.args.blocks.now) in
    let feeds : List Feeder = c.index-rows-i.result.items in
    let block : Terms = c.index-blocks-i.result.now.terms in
    let row_at : slice_get rows i ≡ Some feeds = mapped_at (λ row. row.items) c.args.rows.now i c.index-rows-i.result (got_read c.args.rows.now i c.index-rows-i.result row_inside c.index-rows-i.is) in
    let block_at : slice_get blocks i ≡ Some block = mapped_at (λ f. f.now.terms) c.args.blocks.now i c.index-blocks-i.result (got_read c.args.blocks.now i c.index-blocks-i.result block_inside c.index-blocks-i.is) in
    let P : List Poly → Type 0 = λ ps. IsRefusal k mul (instance_listing mul (values_of mul words (map (λ q. q.terms) ps) c.deref-in-loop-m.result.now) (i + 1) (block_terms block)) bound c.in_err-poly.field-0.0 in
    let Q : List Feeder → Type 0 = λ fs. IsRefusal k mul (instance_listing mul (values_of mul words polys fs) (i + 1) (block_terms block)) bound c.in_err-poly.field-0.0 in
    let own : IsRefusal k mul (instance_listing mul (values_of mul words polys feeds) (i + 1) (block_terms block)) bound c.in_err-poly.field-0.0 = subst Q c.deref-in-loop-m.ensures.value (subst P c.deref.ensures.value c.in_err-poly.ensures.fault) in
    let fault : IsRefused k mul words blocks rows bound order c.in_err-poly.field-0.0 = refused k mul words blocks rows bound order ready m i polys c.loop-m.invariant here block block_at feeds row_at c.in_err-poly.field-0.0 own in
    search rules

pub index_mut-requires : goal.index_mut-requires
index_mut-requires g c =
    let k : ℕ = g.F.Ring.degree c.args.field.now in
    let words : List Terms = map (λ q. q.terms) c.args.words.now in
    let blocks : List Terms = map (λ f. f.now.terms) c.args.blocks.now in
    let rows : List (List Feeder) = map (λ row. row.items) c.args.rows.now in
    let order : List ℕ = c.args.order.now in
    let bound : ℕ = c.args.bound in
    let ready : IsReady k words blocks rows order = c.requires in
    let m : ℕ = c.loop-m.m in
    let polys : List Terms = map (λ q. q.terms) c.loop-m.polys.items in
    let i : ℕ = slice_index order m in
    let here : slice_get order m ≡ Some i = slice_get-get_or order m 0 c.loop-m-test.true in
    let inside : i < length rows = ready.inside m i here in
    let row_inside : i < length c.args.rows.now = omega (arith, inside, mapped_long (λ row. row.items) c.args.rows.now) in
    let block_inside : i < length c.args.blocks.now = omega (arith, inside, ready.long, mapped_long (λ f. f.now.terms) c.args.blocks.now) in
    omega (arith, inside, c.loop-m.invariant.long, mapped_long (λ q. q.terms) c.loop-m.polys.items, ap length c.deref.ensures.value, c.deref.ensures.len)

pub loop-m-preserved : goal.loop-m-preserved
loop-m-preserved g c =
    let k : ℕ = g.F.Ring.degree c.args.field.now in
    let mul : ℕ → ℕ → ℕ = g.F.Ring.product c.args.field.now in
    let ring = g.met.F.Ring.laws c.args.field.now in
    let free = g.met.F.Field.no_zero_divisors c.args.field.now in
    let words : List Terms = map (λ q. q.terms) c.args.words.now in
    let blocks : List Terms = map (λ f. f.now.terms) c.args.blocks.now in
    let rows : List (List Feeder) = map (λ row. row.items) c.args.rows.now in
    let order : List ℕ = c.args.order.now in
    let bound : ℕ = c.args.bound in
    let ready : IsReady k words blocks rows order = c.requires in
    let m : ℕ = c.loop-m.m in
    let polys : List Terms = map (λ q. q.terms) c.loop-m.polys.items in
    let i : ℕ = slice_index order m in
    let here : slice_get order m ≡ Some i = slice_get-get_or order m 0 c.loop-m-test.true in
    let inside : i < length rows = ready.inside m i here in
    let row_inside : i < length c.args.rows.now = omega (arith, inside, mapped_long (λ row. row.items) c.args.rows.now) in
    let block_inside : i < length c.args.blocks.now = omega (arith, inside, ready.long, mapped_long (λ f. f.now.terms) c.args.blocks.now) in
    let feeds : List Feeder = c.index-rows-i.result.items in
    let block : Terms = c.index-blocks-i.result.now.terms in
    let row_at : slice_get rows i ≡ Some feeds = mapped_at (λ row. row.items) c.args.rows.now i c.index-rows-i.result (got_read c.args.rows.now i c.index-rows-i.result row_inside c.index-rows-i.is) in
    let block_at : slice_get blocks i ≡ Some block = mapped_at (λ f. f.now.terms) c.args.blocks.now i c.index-blocks-i.result (got_read c.args.blocks.now i c.index-blocks-i.result block_inside c.index-blocks-i.is) in
    let ts : Terms = c.in_ok-poly.poly.terms in
    let P : List Poly → Type 0 = λ ps. IsPolynomialOf k mul (λ p. value mul (point_of (values_of mul words (map (λ q. q.terms) ps) c.deref-in-loop-m.result.now p)) block) ts in
    let Q : List Feeder → Type 0 = λ fs. IsPolynomialOf k mul (λ p. value mul (point_of (values_of mul words polys fs p)) block) ts in
    let is = subst Q c.deref-in-loop-m.ensures.value (subst P c.deref.ensures.value c.in_ok-poly.ensures.polynomial) in
    let R : List Poly → Type 0 = λ ps. AreAllWithin k mul (instance_listing mul (values_of mul words (map (λ q. q.terms) ps) c.deref-in-loop-m.result.now) (i + 1) (block_terms block)) bound in
    let S : List Feeder → Type 0 = λ fs. AreAllWithin k mul (instance_listing mul (values_of mul words polys fs) (i + 1) (block_terms block)) bound in
    let within = subst S c.deref-in-loop-m.ensures.value (subst R c.deref.ensures.value c.in_ok-poly.ensures.within) in
    one_done k mul words blocks rows bound order ready m i polys c.loop-m.invariant here block block_at feeds row_at ts (map (λ q. q.terms) (set c.loop-m.polys.items i c.in_ok-poly.poly)) (map-set (λ q. q.terms) c.loop-m.polys.items i c.in_ok-poly.poly) is within
