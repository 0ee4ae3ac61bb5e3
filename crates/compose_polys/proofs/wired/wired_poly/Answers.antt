use Rattle.std.proofs.Common.{◌≡◌, ◌∙◌, sym, subst, ℕ, List, length, map}
use Rattle.std.proofs.lemmas.Result.{IfErr-weaker, IfOk-weaker}
use Rattle.lists.specs.laws.ListLaws.{length_map as mapped_long}
use Rattle.poly_mixed.specs.Polynomial.{value, IsPolynomialOf, Terms}
use Rattle.poly_mixed.specs.declared.poly.Poly.{Poly}
use Rattle.poly_mixed.specs.declared.stage.ReduceFault.{ReduceFault}
use Rattle.poly_mixed.specs.declared.stage.ReduceFault.TheVariants.{OutOfMemory}
use Rattle.compose_model.specs.Wiring.{feeding_graph}
use Rattle.compose_model.specs.declared.feeder.Feeder.{Feeder}
use Rattle.compose_polys.specs.Instance.{AreReduced}
use Rattle.compose_polys.specs.LevelOrder.{IsLevelOrder}
use Rattle.compose_polys.specs.Instances.{AreDone, IsReady, IsRefused}
use Rattle.compose_polys.specs.Words.{feed_terms}
use Rattle.compose_polys.specs.Wired.{IsStageFault, IsTakenByLevel, IsWired}
use Rattle.compose_polys.proofs.WiredLemmas.{ready, stage_refused, words_reduced}
use Rattle.compose_polys.proofs.wired.wired_poly.Goals as goal

pub instance_polys-requires : goal.instance_polys-requires
instance_polys-requires g c =
    let k : ℕ = g.F.Ring.degree c.args.field.now in
    let mul : ℕ → ℕ → ℕ = g.F.Ring.product c.args.field.now in
    let blocks : List Terms = map (λ f. f.now.terms) c.args.blocks.now in
    let rows : List (List Feeder) = map (λ row. row.items) c.args.rows.now in
    let wired : IsWired k c.args.count blocks rows c.args.output = c.requires.wired in
    let items : List Poly = c.in_ok-words.words.items in
    let words : List Terms = map (λ q. q.terms) items in
    let order : List ℕ = c.args.order.now in
    let reduced = words_reduced k mul words c.in_ok-words.ensures.words in
    let many : length words ≡ c.args.count = mapped_long (λ q. q.terms) items ∙ c.in_ok-words.ensures.count in
    let by_level : IsLevelOrder (feeding_graph rows) order = c.requires.order in
    let is_ready : IsReady k words blocks rows order = ready k c.args.count blocks rows c.args.output wired words order reduced many by_level in
    let taken : IsTakenByLevel k mul c.args.count blocks rows c.args.bound words order = record { words_are = c.in_ok-words.ensures.words; many = many; by_level = by_level; ready = is_ready } in
    let Q : List Poly → List ℕ → Type 0 = λ ws os. IsReady k (map (λ q. q.terms) ws) blocks rows os in
    let S : List Poly → Type 0 = λ ws. Q ws order in
    subst S (sym c.deref.ensures.value) is_ready

pub returns-clause-fault : goal.returns-clause-fault
returns-clause-fault g c =
    let k : ℕ = g.F.Ring.degree c.args.field.now in
    let mul : ℕ → ℕ → ℕ = g.F.Ring.product c.args.field.now in
    let blocks : List Terms = map (λ f. f.now.terms) c.args.blocks.now in
    let rows : List (List Feeder) = map (λ row. row.items) c.args.rows.now in
    let wired : IsWired k c.args.count blocks rows c.args.output = c.requires.wired in
    let items : List Poly = c.in_ok-words.words.items in
    let words : List Terms = map (λ q. q.terms) items in
    let order : List ℕ = c.args.order.now in
    let reduced = words_reduced k mul words c.in_ok-words.ensures.words in
    let many : length words ≡ c.args.count = mapped_long (λ q. q.terms) items ∙ c.in_ok-words.ensures.count in
    let by_level : IsLevelOrder (feeding_graph rows) order = c.requires.order in
    let is_ready : IsReady k words blocks rows order = ready k c.args.count blocks rows c.args.output wired words order reduced many by_level in
    let taken : IsTakenByLevel k mul c.args.count blocks rows c.args.bound words order = record { words_are = c.in_ok-words.ensures.words; many = many; by_level = by_level; ready = is_ready } in
    let Q : List Poly → List ℕ → Type 0 = λ ws os. IsReady k (map (λ q. q.terms) ws) blocks rows os in
    let T : List Poly → List ℕ → Type 0 = λ ws os. IsRefused k mul (map (λ q. q.terms) ws) blocks rows c.args.bound os c.in-Err.fault in
    let S : List Poly → Type 0 = λ ws. T ws order in
    let refused : IsRefused k mul words blocks rows c.args.bound order c.in-Err.fault = subst S c.deref.ensures.value c.in-Err.ensures.fault in
    stage_refused k mul c.args.count blocks rows c.args.bound words order c.in-Err.fault taken refused

pub copied-requires-clause-words : goal.copied-requires-clause-words
copied-requires-clause-words g c =
    let k : ℕ = g.F.Ring.degree c.args.field.now in
    let mul : ℕ → ℕ → ℕ = g.F.Ring.product c.args.field.now in
    let blocks : List Terms = map (λ f. f.now.terms) c.args.blocks.now in
    let rows : List (List Feeder) = map (λ row. row.items) c.args.rows.now in
    let wired : IsWired k c.args.count blocks rows c.args.output = c.requires.wired in
    let P : List Poly → Type 0 = λ ws. AreReduced k (map (λ q. q.terms) ws) in
    subst P (sym c.deref-in-Ok.ensures.value) (words_reduced k mul (map (λ q. q.terms) c.in_ok-words.words.items) c.in_ok-words.ensures.words)

pub returns-in-Ok-clause-poly : goal.returns-in-Ok-clause-poly
returns-in-Ok-clause-poly g c =
    let k : ℕ = g.F.Ring.degree c.args.field.now in
    let mul : ℕ → ℕ → ℕ = g.F.Ring.product c.args.field.now in
    let blocks : List Terms = map (λ f. f.now.terms) c.args.blocks.now in
    let rows : List (List Feeder) = map (λ row. row.items) c.args.rows.now in
    let wired : IsWired k c.args.count blocks rows c.args.output = c.requires.wired in
    let items : List Poly = c.in_ok-words.words.items in
    let words : List Terms = map (λ q. q.terms) items in
    let order : List ℕ = c.args.order.now in
    let reduced = words_reduced k mul words c.in_ok-words.ensures.words in
    let many : length words ≡ c.args.count = mapped_long (λ q. q.terms) items ∙ c.in_ok-words.ensures.count in
    let by_level : IsLevelOrder (feeding_graph rows) order = c.requires.order in
    let is_ready : IsReady k words blocks rows order = ready k c.args.count blocks rows c.args.output wired words order reduced many by_level in
    let taken : IsTakenByLevel k mul c.args.count blocks rows c.args.bound words order = record { words_are = c.in_ok-words.ensures.words; many = many; by_level = by_level; ready = is_ready } in
    let Q : List Poly → List ℕ → Type 0 = λ ws os. IsReady k (map (λ q. q.terms) ws) blocks rows os in
    let polys : List Terms = map (λ q. q.terms) c.in-Ok.polys.items in
    let T : List Poly → List ℕ → Type 0 = λ ws os. AreDone k mul (map (λ q. q.terms) ws) blocks rows c.args.bound os (length os) polys in
    let S : List Poly → Type 0 = λ ws. T ws order in
    let done : AreDone k mul words blocks rows c.args.bound order (length order) polys = subst S c.deref.ensures.value c.in-Ok.ensures.polynomials in
    let V : List Poly → List Poly → Terms → Type 0 = λ ws ps ts. IsPolynomialOf k mul (λ p. value mul p (feed_terms (map (λ q. q.terms) ws) (map (λ q. q.terms) ps) c.args.output)) ts in
    IfOk-weaker c.copied.result _ _ (λ poly has.
    let W : List Poly → Type 0 = λ ps. V items ps poly.terms in
    let X : List Poly → Type 0 = λ ws. V ws c.deref-in-Ok-2.result.now poly.terms in
    let is = subst W c.deref-in-Ok-2.ensures.value (subst X c.deref-in-Ok.ensures.value has) in
    record { words = words; order = order; taken = taken; polys = polys; done = done; is = is }) c.copied.ensures.values

pub returns-in-Ok-clause-fault : goal.returns-in-Ok-clause-fault
returns-in-Ok-clause-fault g c =
    let P : ReduceFault → Type 0 = IsStageFault (g.F.Ring.degree c.args.field.now) (g.F.Ring.product c.args.field.now) c.args.count (map (λ f. f.now.terms) c.args.blocks.now) (map (λ row. row.items) c.args.rows.now) c.args.bound in
    IfErr-weaker c.copied.result _ _ (λ (fault : ReduceFault) (is : fault ≡ OutOfMemory). subst P (sym is) tt) c.copied.ensures.fault
