use Rattle.std.proofs.Common.{◌≡◌, ◌-◌, ◌≤◌, ℕ, length, ◌∙◌, ap, subst}
use Rattle.std.proofs.lemmas.Result.{on_ok_weaker}
use Rattle.poly_mixed.specs.Cofactor.{cofactors, lacking}
use Rattle.rato_reduce.specs.private.Buckets.{level_at, AreLevelled, ListedPolynomial}
use Rattle.rato_reduce.proofs.AddedLemmas.{ok_both}
use Rattle.rato_reduce.proofs.BucketLemmas.{out_left, out_part}
use Rattle.rato_reduce.proofs.buckets.Buckets.take_list.Goals as goal

-- the level is that of the bit
level : (c : goal.After-take_last) → c.saturating_sub-level.result ≡ level_at c.self.inside.places.items c.args.rank
level c =
    c.saturating_sub-level.ensures
    ∙ ap (λ n. length c.as_slice-places.result.now - n) c.place_of.ensures
    ∙ ap (λ ps. level_at ps c.args.rank) c.as_slice-places.ensures.value

after : (c : goal.After-take_last) → AreLevelled c.self.inside.places.items 0 c.take_last.new.list.items
after c = c.take_last.ensures.levelled c.self.inside.places.items c.self.invariant.0

pub returns-clause-left : goal.returns-clause-left
returns-clause-left c =
    let P : ℕ → Type 0 = λ n. length c.take_last.new.list.items ≤ n in
    ok_both c.take_last.result
    (λ made long others.
    out_left c.self.inside.places.items c.args.rank c.self.inside.list.items c.take_last.new.list.items c.take_last.new.part c.self.invariant.0 (after c) (subst P (level c) long) made others
    ∙ ap (λ (q : ListedPolynomial). lacking c.args.rank q.terms) c.self.view_is)
    c.take_last.ensures.taken c.take_last.ensures.rest

pub returns-clause-part : goal.returns-clause-part
returns-clause-part c =
    let P : ℕ → Type 0 = λ n. length c.take_last.new.list.items ≤ n in
    ok_both c.take_last.result
    (λ made long others.
    out_part c.self.inside.places.items c.args.rank c.self.inside.list.items c.take_last.new.list.items c.take_last.new.part c.self.invariant.0 (after c) (subst P (level c) long) made
    ∙ ap (λ (q : ListedPolynomial). cofactors c.args.rank q.terms) c.self.view_is)
    c.take_last.ensures.taken c.take_last.ensures.rest

pub returns-clause-each : goal.returns-clause-each
returns-clause-each c = on_ok_weaker c.take_last.result (λ made. made.each c.self.inside.places.items c.self.invariant.0) c.take_last.ensures.taken
