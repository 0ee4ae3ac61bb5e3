-- Instances one after another.
use Rattle.std.proofs.Common.{◌≡◌, ◌≢◌, ◌∙◌, ap, sym, refl, subst, inl, inr, ℕ, zero, suc, ◌<◌, ◌≤◌, ◌+◌, List, [], ◌∷◌, length, map, set, replicate, Some, arith}
use Rattle.std.specs.Prelude.{slice_get}
use Rattle.std.proofs.lemmas.Bool.{cases_order}
use Rattle.std.proofs.lemmas.Option.{slice_get_within}
use Rattle.lists.specs.Lists.{Has}
use Rattle.lists.specs.laws.ReadLaws.{get_below, get_set_other, get_set_same}
use Rattle.gf_field.specs.Field.{HasNoZeroDivisors}
use Rattle.gf_field.specs.Ring.{IsRing}
use Rattle.poly_mixed.specs.Polynomial.{value, IsPolynomialOf, IsReduced, Terms}
use Rattle.poly_mixed.specs.declared.stage.ReduceFault.{ReduceFault}
use Rattle.poly_mixed.specs.declared.stage.ReduceFault.TheVariants.{TooManyTerms, OutOfMemory}
use Rattle.poly_mixed.proofs.FieldLaws.{field_of}
use Rattle.poly_mixed.proofs.SimpleLemmas.{reduced_nothing}
use Rattle.stage_model.specs.Listing.{AreAllWithin, IsRefusal}
use Rattle.compose_polys.specs.Instance.{block_terms, feed_values, point_of, AreReduced}
use Rattle.compose_polys.specs.InstanceListing.{instance_listing}
use Rattle.compose_model.specs.Wiring.{instances_among}
use Rattle.compose_model.specs.declared.feeder.Feeder.{Feeder}
use Rattle.compose_polys.specs.Words.{feed_terms, values_of}
use Rattle.compose_polys.specs.Instances.{AreDone, IsDone, IsReady, IsRefused}
use Rattle.compose_polys.proofs.FeedLemmas.{feeds_kept}

nothing_long : (n : ℕ) → length (replicate {A = Terms} n []) ≡ n
nothing_long zero = refl
nothing_long (suc n) = ap suc (nothing_long n)

nothing_reduced : (k : ℕ) (n : ℕ) → IsReduced k [] → AreReduced k (replicate n [])
nothing_reduced k zero is = tt
nothing_reduced k (suc n) is = (is, nothing_reduced k n is)

set_long : (polys : List Terms) (i : ℕ) (ts : Terms) → length (set polys i ts) ≡ length polys
set_long [] i ts = refl
set_long (p ∷ polys) zero ts = refl
set_long (p ∷ polys) (suc i) ts = ap suc (set_long polys i ts)

set_reduced : (k : ℕ) (polys : List Terms) (i : ℕ) (ts : Terms) → AreReduced k polys → IsReduced k ts → AreReduced k (set polys i ts)
set_reduced k [] i ts all is = tt
set_reduced k (p ∷ polys) zero ts all is = (is, all.1)
set_reduced k (p ∷ polys) (suc i) ts all is = (all.0, set_reduced k polys i ts all.1 is)

module _ (k : ℕ) (mul : ℕ → ℕ → ℕ) (words blocks : List Terms) (rows : List (List Feeder)) (bound : ℕ) (order : List ℕ) (ready : IsReady k words blocks rows order) where
  pub none_done : IsRing k mul → HasNoZeroDivisors k mul → (polys : List Terms) (n : ℕ) → n ≡ length rows → polys ≡ replicate n [] → AreDone k mul words blocks rows bound order 0 polys
  none_done ring field polys n count e =
      let P : List Terms → Type 0 = AreDone k mul words blocks rows bound order 0 in
      subst P (sym e) (record { long = nothing_long n ∙ count; reduced = nothing_reduced k n (reduced_nothing (field_of k mul ring field)); each = λ m i less got. absurd (omega (arith, less)) })

  -- what is done stays so where another instance gets its polynomial
  kept : (polys : List Terms) (i j : ℕ) (ts : Terms) → j ≢ i → (done : IsDone k mul words blocks rows bound polys j) → (Has (instances_among done.feeds) i → ⊥) → IsDone k mul words blocks rows bound (set polys i ts) j
  kept polys i j ts other done none =
      let same : map (feed_terms words polys) done.feeds ≡ map (feed_terms words (set polys i ts)) done.feeds = sym (feeds_kept words polys done.feeds i ts none) in
      let P : List Terms → Type 0 = λ fs. IsPolynomialOf k mul (λ p. value mul (point_of (feed_values mul fs p)) done.block) done.poly in
      let Q : List Terms → Type 0 = λ fs. AreAllWithin k mul (instance_listing mul (feed_values mul fs) (j + 1) (block_terms done.block)) bound in
      record {
        poly = done.poly;
        block = done.block;
        feeds = done.feeds;
        at = get_set_other polys i ts j done.poly other done.at;
        block_at = done.block_at;
        row = done.row;
        is = subst P same done.is;
        within = subst Q same done.within;
      }

  module _ (n i : ℕ) (polys : List Terms) (done : AreDone k mul words blocks rows bound order n polys) (here : slice_get order n ≡ Some i) (block : Terms) (block_at : slice_get blocks i ≡ Some block) (feeds : List Feeder) (row : slice_get rows i ≡ Some feeds) where
    -- an instance that stands in the order before another one is not fed by it
    not_fed : (m j : ℕ) (own : List Feeder) → m ≤ n → slice_get order m ≡ Some j → slice_get rows j ≡ Some own → Has (instances_among own) i → ⊥
    not_fed m j own low at own_row has =
        let earlier = ready.after m j i own at own_row has in
        let same = ready.once earlier.0 n i earlier.2 here in
        absurd (omega (arith, earlier.1, same, low))

    -- one instance more
    pub one_done : (ts : Terms) (new : List Terms) → new ≡ set polys i ts → IsPolynomialOf k mul (λ p. value mul (point_of (values_of mul words polys feeds p)) block) ts → AreAllWithin k mul (instance_listing mul (values_of mul words polys feeds) (i + 1) (block_terms block)) bound
        → AreDone k mul words blocks rows bound order (n + 1) new
    one_done ts new e is within =
        let P : List Terms → Type 0 = AreDone k mul words blocks rows bound order (n + 1) in
        subst P (sym e) (record { long = set_long polys i ts ∙ done.long; reduced = set_reduced k polys i ts done.reduced is.reduced; each = each })
      where
        own : IsDone k mul words blocks rows bound (set polys i ts) i
        own =
            let same : map (feed_terms words polys) feeds ≡ map (feed_terms words (set polys i ts)) feeds = sym (feeds_kept words polys feeds i ts (not_fed n i feeds (omega arith) here row)) in
            let Q : List Terms → Type 0 = λ fs. IsPolynomialOf k mul (λ p. value mul (point_of (feed_values mul fs p)) block) ts in
            let R : List Terms → Type 0 = λ fs. AreAllWithin k mul (instance_listing mul (feed_values mul fs) (i + 1) (block_terms block)) bound in
            let old = get_below polys i (omega (arith, done.long, slice_get_within rows i feeds row)) in
            record {
              poly = ts;
              block = block;
              feeds = feeds;
              at = get_set_same polys i old.0 ts old.1;
              block_at = block_at;
              row = row;
              is = subst Q same is;
              within = subst R same within;
            }

        each : (m j : ℕ) → m < n + 1 → slice_get order m ≡ Some j → IsDone k mul words blocks rows bound (set polys i ts) j
        each m j less at =
            elim (cases_order m n) [
              | inl same ↦
                  let S : ℕ → Type 0 = λ l. slice_get order l ≡ Some j in
                  let at_n : slice_get order n ≡ Some j = subst S same at in
                  let at_i : slice_get order n ≡ Some i = here in
                  let equal : i ≡ j = cc in
                  let T : ℕ → Type 0 = IsDone k mul words blocks rows bound (set polys i ts) in
                  subst T equal own
              | inr other ↦ elim other [
                | inl low ↦
                    let was = done.each m j low at in
                    kept polys i j ts (λ same. let S : ℕ → Type 0 = λ l. slice_get order m ≡ Some l in let twice = ready.once m n i (subst S same at) here in absurd (omega (arith, twice, low))) was (not_fed m j was.feeds (omega (arith, low)) at was.row)
                | inr high ↦ absurd (omega (arith, less, high))
              ]
            ]

    -- the refusal of the instance is the first of all
    pub refused : (fault : ReduceFault) → IsRefusal k mul (instance_listing mul (values_of mul words polys feeds) (i + 1) (block_terms block)) bound fault → IsRefused k mul words blocks rows bound order fault
    refused OutOfMemory is = tt
    refused (TooManyTerms stage size) is = record { n = n; i = i; polys = polys; block = block; feeds = feeds; here = here; before = done; block_at = block_at; row = row; over = is }
