-- Instances that got their polynomials in an order have polynomials at what feeds them.
use Rattle.std.proofs.Common.{◌≡◌, ◌∙◌, ap, sym, refl, subst, ℕ, suc, ◌<◌, List, [], ◌∷◌, length, map, Some, arith}
use Rattle.std.specs.Prelude.{slice_get, slice_index}
use Rattle.std.specs.Option.{unwrap_or}
use Rattle.std.proofs.lemmas.Option.{slice_get_within}
use Rattle.lists.specs.Lists.{Has}
use Rattle.lists.specs.laws.ReadLaws.{get_below}
use Rattle.net_blif.specs.Top.{instances_of}
use Rattle.gf_field.specs.Field.{HasNoZeroDivisors}
use Rattle.gf_field.specs.Ring.{IsRing}
use Rattle.poly_mixed.specs.Polynomial.{value, IsPoint, IsPolynomialOf, IsReduced, Point, Terms}
use Rattle.circuit_model.specs.Circuit.{Circuit}
use Rattle.stage_model.specs.OutputInWords.{IsOutputInWords}
use Rattle.compose_polys.specs.Instance.{point_of}
use Rattle.compose_model.specs.Feeds.{FeedsOutput, IsFeedOn}
use Rattle.compose_model.specs.Given.{IsGiven}
use Rattle.compose_model.specs.Hierarchy.{top_words, Hierarchy}
use Rattle.compose_model.specs.NamedWord.{inputs_among}
use Rattle.compose_model.specs.Values.{IsTop}
use Rattle.compose_model.specs.Wiring.{AreAllFeeds, HaveBlocks, IsWithoutCycle}
use Rattle.compose_model.specs.declared.feeder.Feeder.{Feeder}
use Rattle.compose_model.specs.declared.feeder.Feeder.TheVariants.{InputWord, OutputOf}
use Rattle.compose_polys.specs.Instances.{AreDone, IsReady}
use Rattle.compose_polys.specs.Words.{feed_terms, values_of, AreWordPolys, IsFeedAmong}
use Rattle.compose_polys.specs.InstancePolys.{feed_at, AreInstancePolys, HaveBlockPolys}
use Rattle.compose_polys.proofs.ComposedLemmas.{composed_output}
use Rattle.term_expand.proofs.PowerLemmas.{feed_reduced}

mapped_twice : {A : Type 0} (f : A → Terms) (g : Terms → ℕ) (h : A → ℕ) (xs : List A) → ((j : ℕ) (x : A) → slice_get xs j ≡ Some x → g (f x) ≡ h x) → map g (map f xs) ≡ map h xs
mapped_twice f g h [] same = refl
mapped_twice f g h (x ∷ xs) same = (λ i. same 0 x refl i ∷ mapped_twice f g h xs (λ j y got. same (suc j) y got) i)

pub read_terms : (words : List Terms) (w : ℕ) (ts : Terms) → slice_get words w ≡ Some ts → unwrap_or (slice_get words w) [] ≡ ts
read_terms words w ts got = ap (λ found. unwrap_or found []) got

module _ (k : ℕ) (mul : ℕ → ℕ → ℕ) (h : Hierarchy) (rows : List (List Feeder)) (words blocks polys : List Terms) (bound : ℕ) (order : List ℕ) (all : AreAllFeeds h rows) (made : HaveBlockPolys k mul h blocks) (words_are : AreWordPolys k mul words) (ready : IsReady k words blocks rows order) (stand : (i : ℕ) → i < length rows → Has order i) (done : AreDone k mul words blocks rows bound order (length order) polys) where
  -- the polynomial of a feed has the feed's value at each point
  feed_same : (n : ℕ) (p : Point) → IsPoint k p → (feed : Feeder) → IsFeedAmong (length words) n feed → value mul p (feed_terms words polys feed) ≡ feed_at mul polys p feed
  feed_same n p at (InputWord w) among =
      let word = get_below words w among in
      ap (value mul p) (read_terms words w word.0 word.1) ∙ (words_are w word.0 word.1).values p at
  feed_same n p at (OutputOf i) among = refl

  pub instances_made : AreInstancePolys k mul h rows polys
  instances_made = record {
    long = done.long ∙ all.long;
    reduced = done.reduced;
    each = λ i poly item feeds circuit at_poly at_item at_row block_is.
        let place = stand i (slice_get_within rows i feeds at_row) in
        let was = done.each place.0 i (slice_get_within order place.0 i place.1) place.1 in
        let poly_at_i : slice_get polys i ≡ Some was.poly = was.at in
        let row_at_i : slice_get rows i ≡ Some was.feeds = was.row in
        let same_poly : was.poly ≡ poly = cc in
        let same_feeds : was.feeds ≡ feeds = cc in
        let P : Terms → Type 0 = λ ts. IsPolynomialOf k mul (λ p. value mul (point_of (values_of mul words polys was.feeds p)) was.block) ts in
        let Q : List Feeder → Type 0 = λ fs. IsPolynomialOf k mul (λ p. value mul (point_of (values_of mul words polys fs p)) was.block) poly in
        let is = subst Q same_feeds (subst P same_poly was.is) in (
          was.block,
          made i was.block item circuit was.block_at at_item block_is,
          record {
            reduced = is.reduced;
            values = λ p at.
                is.values p at
                ∙ ap (λ xs. value mul (point_of xs) was.block) (mapped_twice (feed_terms words polys) (value mul p) (feed_at mul polys p) feeds (λ j feed got. feed_same (length rows) p at feed (ready.feeds_are i j feeds feed at_row got)));
          },
        );
  }

  -- the polynomial of what stands on nets of the top
  feed_made : length words ≡ length (inputs_among (top_words h)) → (feed : Feeder) (nets : List (List ℕ)) (basis : List ℕ) → IsFeedOn h feed nets basis → IsPolynomialOf k mul (λ p. feed_at mul polys p feed) (feed_terms words polys feed)
  feed_made count (InputWord w) nets basis is =
      let word = get_below words w (omega (arith, count, slice_get_within (inputs_among (top_words h)) w is.word is.at)) in
      let P : Terms → Type 0 = λ ts. IsPolynomialOf k mul (λ p. slice_index p.words w) ts in
      subst P (sym (read_terms words w word.0 word.1)) (words_are w word.0 word.1)
  feed_made count (OutputOf i) nets basis is =
      let poly = get_below polys i (omega (arith, done.long, all.long, slice_get_within (instances_of h.design) i is.item is.instance.at)) in
      let P : Terms → Type 0 = IsReduced k in
      record { reduced = subst P (sym (read_terms polys i poly.0 poly.1)) (feed_reduced k polys i poly.0 done.reduced poly.1); values = λ p at. refl }

  pub output_made : IsRing k mul → HasNoZeroDivisors k mul → IsGiven k h → HaveBlocks k mul h → IsWithoutCycle rows → (top : Circuit) (feed : Feeder) → IsTop k mul h top → FeedsOutput h feed → length words ≡ length (inputs_among (top_words h)) → IsOutputInWords top (feed_terms words polys feed)
  output_made ring field given bind free top feed is_top fed count =
      composed_output k mul h rows polys top feed (feed_terms words polys feed) ring field given all bind free instances_made is_top fed (feed_made count feed fed.word.nets fed.word.basis fed.stands)
