-- The polynomials of instances that are done have the instances' values, and so what feeds the next instance has the values of its
-- polynomials.
use Rattle.std.proofs.Common.{◌≡◌, ◌∙◌, ap, ap₂, sym, refl, ℕ, zero, suc, ◌<◌, ◌≤◌, List, [], ◌∷◌, length, map, Some, arith}
use Rattle.std.specs.Prelude.{slice_get, slice_index}
use Rattle.std.proofs.lemmas.List.{get_or-take}
use Rattle.std.proofs.lemmas.Option.{get_or_from_slice_get, slice_get_within}
use Rattle.lists.specs.laws.ReadLaws.{get_below}
use Rattle.net_blif.specs.Top.{instances_of}
use Rattle.gf_field.specs.Field.{HasNoZeroDivisors}
use Rattle.gf_field.specs.Ring.{IsRing}
use Rattle.poly_mixed.specs.Polynomial.{value, IsPoint, Point, Terms}
use Rattle.circuit_model.specs.Out.{IsOut}
use Rattle.compose_polys.specs.Instance.{point_of}
use Rattle.compose_model.specs.Given.{IsGiven}
use Rattle.compose_model.specs.Hierarchy.{top_words, Hierarchy}
use Rattle.compose_model.specs.NamedWord.{inputs_among}
use Rattle.compose_model.specs.Values.{feed_value, AreInstanceValues}
use Rattle.compose_model.specs.Wiring.{AreAllFeeds, HaveBlocks}
use Rattle.compose_model.specs.declared.feeder.Feeder.{Feeder}
use Rattle.compose_model.specs.declared.feeder.Feeder.TheVariants.{InputWord, OutputOf}
use Rattle.compose_polys.proofs.FeedLemmas.{among}
use Rattle.compose_polys.proofs.OrderedLemmas.{read_terms}
use Rattle.compose_polys.specs.Instances.{AreDone, IsReady}
use Rattle.compose_polys.specs.Words.{feed_terms, values_of, AreWordPolys}
use Rattle.compose_polys.specs.InstancePolys.{poly_at, HaveBlockPolys}
use Rattle.compose_stages.specs.InstanceStages.{top_elements}
use Rattle.compose_stages.proofs.BlockLemmas.{block_value}

mapped_twice : (f : Feeder → Terms) (g : Terms → ℕ) (h : Feeder → ℕ) (fs : List Feeder) → ((j : ℕ) (x : Feeder) → slice_get fs j ≡ Some x → h x ≡ g (f x)) → map h fs ≡ map g (map f fs)
mapped_twice f g h [] same = refl
mapped_twice f g h (x ∷ fs) same = ap₂ (λ y ys. y ∷ ys) (same 0 x refl) (mapped_twice f g h fs (λ j y got. same (suc j) y got))

module _ (k : ℕ) (mul : ℕ → ℕ → ℕ) (ring : IsRing k mul) (field : HasNoZeroDivisors k mul) (h : Hierarchy) (given : IsGiven k h) (rows : List (List Feeder)) (all : AreAllFeeds h rows) (blocks_are : HaveBlocks k mul h) (words blocks polys : List Terms) (made : HaveBlockPolys k mul h blocks) (words_are : AreWordPolys k mul words) (count : length words ≡ length (inputs_among (top_words h))) (bound : ℕ) (order : List ℕ) (ready : IsReady k words blocks rows order) (n : ℕ) (done : AreDone k mul words blocks rows bound order n polys) (p : Point) (at : IsPoint k p) (es : List ℕ) (values : AreInstanceValues k mul h rows (top_elements h p) es) where
  abbrev xs : List ℕ
  xs = top_elements h p

  word_same : (w : ℕ) → w < length words → slice_index xs w ≡ value mul p (feed_terms words polys (InputWord w))
  word_same w less =
      let word = get_below words w less in
      get_or-take (length (inputs_among (top_words h))) p.words w 0 (omega (arith, less, count)) ∙ sym (ap (value mul p) (read_terms words w word.0 word.1) ∙ (words_are w word.0 word.1).values p at)

  -- what feeds an instance has the values of its polynomials where the instances before it have
  feeds_same : (m i : ℕ) (feeds : List Feeder) → slice_get order m ≡ Some i → slice_get rows i ≡ Some feeds → ((l j : ℕ) → l < m → slice_get order l ≡ Some j → slice_index es j ≡ value mul p (poly_at polys j)) → map (feed_value k mul h xs es) feeds ≡ values_of mul words polys feeds p
  feeds_same m i feeds at_m row earlier = mapped_twice (feed_terms words polys) (value mul p) (feed_value k mul h xs es) feeds each
    where
      each : (j : ℕ) (feed : Feeder) → slice_get feeds j ≡ Some feed → feed_value k mul h xs es feed ≡ value mul p (feed_terms words polys feed)
      each j (InputWord w) got = word_same w (ready.feeds_are i j feeds (InputWord w) row got)
      each j (OutputOf a) got = let before = ready.after m i a feeds at_m row (among feeds j a got) in earlier before.0 a before.1 before.2

  -- so has the instance itself
  value_same : (m i : ℕ) → m < n → slice_get order m ≡ Some i → ((l j : ℕ) → l < m → slice_get order l ≡ Some j → slice_index es j ≡ value mul p (poly_at polys j)) → slice_index es i ≡ value mul p (poly_at polys i)
  value_same m i low at_m earlier =
      let was = done.each m i low at_m in
      let item = get_below (instances_of h.design) i (omega (arith, all.long, slice_get_within rows i was.feeds was.row)) in
      let block = blocks_are i item.0 item.1 in
      let e = get_below es i (omega (arith, values.long, slice_get_within (instances_of h.design) i item.0 item.1)) in
      let ys : List ℕ = map (feed_value k mul h xs es) was.feeds in
      let out : IsOut block.0 ys e.0 = values.each i e.0 item.0 was.feeds block.0 e.1 item.1 was.row block.1 in
      let output = made i was.block item.0 block.0 was.block_at item.1 block.1 in
      let same : ys ≡ values_of mul words polys was.feeds p = feeds_same m i was.feeds at_m was.row earlier in
      get_or_from_slice_get es i e.0 0 e.1
      ∙ block_value k mul ring field h given item.0 block.0 was.block ys e.0 block.1 output out
      ∙ ap (λ zs. value mul (point_of zs) was.block) same
      ∙ sym (was.is.values p at)
      ∙ ap (value mul p) (sym (read_terms polys i was.poly was.at))

  values_to : (d m i : ℕ) → m < d → m < n → slice_get order m ≡ Some i → slice_index es i ≡ value mul p (poly_at polys i)
  values_to zero m i less low at_m = absurd (omega (arith, less))
  values_to (suc d) m i less low at_m = value_same m i low at_m (λ l j lower at_l. values_to d l j (omega (arith, less, lower)) (omega (arith, low, lower)) at_l)

  -- what feeds an instance that is done, or the next one, has the values of its polynomials
  pub fed_same : (m i : ℕ) (feeds : List Feeder) → m ≤ n → slice_get order m ≡ Some i → slice_get rows i ≡ Some feeds → map (feed_value k mul h xs es) feeds ≡ values_of mul words polys feeds p
  fed_same m i feeds low at_m row = feeds_same m i feeds at_m row (λ l j lower at_l. values_to (suc l) l j (omega arith) (omega (arith, low, lower)) at_l)
