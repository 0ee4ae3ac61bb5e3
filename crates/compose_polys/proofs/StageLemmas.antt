-- The stages of an instance as those of a sum at its feeds.
use Rattle.std.proofs.Common.{◌≡◌, ◌≢◌, ◌∙◌, ap, sym, refl, subst, ℕ, zero, suc, ◌+◌, ◌<◌, ◌≤◌, ◌^◌, List, [], ◌∷◌, ◌++◌, length, drop, take, Some, arith}
use Rattle.std.specs.Prelude.{slice_get}
use Rattle.std.specs.List.{AllByRecursion}
use Rattle.std.proofs.Math.Pow.{pow_mono}
use Rattle.lists.specs.laws.ListLaws.{map_push}
use Rattle.lists.specs.laws.TakeLaws.{taken_more}
use Rattle.gf_field.specs.Ring.{IsRing}
use Rattle.poly_mixed.specs.Monomial.{Monomial}
use Rattle.poly_mixed.specs.Polynomial.{value, IsPoint, IsPolynomialOf, IsTerm, Point, Terms}
use Rattle.poly_mixed.specs.laws.Uniqueness.{InFirstWords, IsZeros}
use Rattle.poly_mixed.specs.declared.stage.Stage.{Stage}
use Rattle.poly_mixed.specs.declared.stage.Stage.TheVariants.{Cut, WordProduct, WordSum, SpecProduct, SpecSum, InstanceProduct, InstanceSum}
use Rattle.stage_model.specs.First.{InFirstRanks}
use Rattle.stage_model.specs.Listing.{AreAllWithin, IsRefusal}
use Rattle.term_expand.specs.declared.stage.SumFault.{SumFault}
use Rattle.term_expand.specs.declared.stage.SumFault.TheVariants as faults
use Rattle.term_expand.specs.declared.stage.SumStage.{SumStage}
use Rattle.term_expand.specs.declared.stage.SumStage.TheVariants.{TermProduct, TermSum}
use Rattle.term_expand.specs.Sums.{IsFedSum, SumOfProducts}
use Rattle.term_expand.specs.SumValue.{factors_of, powers_at, product_at, sum_at}
use Rattle.term_expand.specs.SumListing.{is_earlier_sum_stage, is_sum_stage, sum_listing, sum_stage_of, IsSumOver}
use Rattle.term_expand.proofs.RenamedLemmas.{all_within_there, over_there, IsRenamed}
use Rattle.term_expand.proofs.StageLemmas.{sum_in}
use Rattle.compose_polys.specs.Instance.{block_term, block_terms, point_of, powers_from}
use Rattle.compose_polys.specs.InstanceListing.{instance_listing, instance_stage_of, is_earlier_instance_stage, is_instance_stage}
use Rattle.compose_polys.specs.private.Names.{instance_fault, instance_stage}
use Rattle.compose_polys.proofs.ValueLemmas.{terms_value}

-- ---- a block's terms

pub mapped_long : (ts : Terms) → length (block_terms ts) ≡ length ts
mapped_long [] = refl
mapped_long (t ∷ ts) = ap suc (mapped_long ts)

-- the powers of a term are as many as its words, each at its place
pub powers_long : (n : ℕ) (es : List ℕ) → length (powers_from n es) ≡ length es
powers_long n [] = refl
powers_long n (e ∷ es) = ap suc (powers_long (n + 1) es)

pub power_at : (n : ℕ) (es : List ℕ) (w e : ℕ) → slice_get es w ≡ Some e → slice_get (powers_from n es) w ≡ Some (n + w, e)
power_at n [] w e got = absurd (cc)
power_at n (x ∷ es) zero e got = let same : x ≡ e = cc in let none : n ≡ n + 0 = omega arith in (λ i. Some (none i, same i))
power_at n (x ∷ es) (suc w) e got =
    let up : n + 1 + w ≡ n + suc w = omega arith in
    power_at (n + 1) es w e got ∙ ap (λ m. Some (m, e)) up

-- one word more
pub powers_more : (es : List ℕ) (w e : ℕ) (xs new : List (ℕ × ℕ)) → slice_get es w ≡ Some e → new ≡ xs ++ (w, e) ∷ [] → xs ≡ take w (powers_from 0 es) → new ≡ take (w + 1) (powers_from 0 es)
powers_more es w e xs new got is so_far =
    let plain : 0 + w ≡ w = omega arith in
    is ∙ ap (λ ps. ps ++ (w, e) ∷ []) so_far ∙ sym (taken_more (powers_from 0 es) w (w, e) (power_at 0 es w e got ∙ ap (λ m. Some (m, e)) plain))

-- one term more
pub terms_more : (ts : Terms) (s : ℕ) (t : Monomial × ℕ) (xs new : SumOfProducts) → slice_get ts s ≡ Some t → new ≡ xs ++ block_term t ∷ [] → xs ≡ block_terms (take s ts) → new ≡ block_terms (take (s + 1) ts)
terms_more ts s t xs new got is so_far = is ∙ ap (λ us. us ++ block_term t ∷ []) so_far ∙ sym (ap block_terms (taken_more ts s t got) ∙ map_push block_term (take s ts) t)

-- each word of a block's polynomial that stands in it has a feed
module _ (k words : ℕ) (small : k ≤ 64) where
  fed_powers : (es : List ℕ) → AllByRecursion (λ e. e < 2 ^ k) es → IsZeros (drop words es) → AllByRecursion (λ (p : ℕ × ℕ). (p.1 < 2 ^ 64) × (p.1 ≢ 0 → p.0 < words)) (powers_from 0 es)
  fed_powers es below zeros = let plain : 0 + words ≡ words = omega arith in each es words 0 plain below zeros
    where
      unfed : (es : List ℕ) (m : ℕ) → AllByRecursion (λ e. e < 2 ^ k) es → IsZeros es → AllByRecursion (λ (p : ℕ × ℕ). (p.1 < 2 ^ 64) × (p.1 ≢ 0 → p.0 < words)) (powers_from m es)
      unfed [] m below zeros = tt
      unfed (e ∷ es) m below zeros = ((omega (arith, below.0, pow_mono {i = k} {j = 64} small), λ some. absurd (some zeros.0)), unfed es (m + 1) below.1 zeros.1)

      each : (es : List ℕ) (left m : ℕ) → m + left ≡ words → AllByRecursion (λ e. e < 2 ^ k) es → IsZeros (drop left es) → AllByRecursion (λ (p : ℕ × ℕ). (p.1 < 2 ^ 64) × (p.1 ≢ 0 → p.0 < words)) (powers_from m es)
      each [] left m same below zeros = tt
      each (e ∷ es) zero m same below zeros = unfed (e ∷ es) m below zeros
      each (e ∷ es) (suc left) m same below zeros = ((omega (arith, below.0, pow_mono {i = k} {j = 64} small), λ some. omega (arith, same)), each es left (m + 1) (omega (arith, same)) below.1 zeros)

  pub fed_block : (ts : Terms) → AllByRecursion (IsTerm k) ts → InFirstWords words ts → IsFedSum k words (block_terms ts)
  fed_block [] all first = tt
  fed_block (t ∷ ts) all first = (record { element = all.0.element; powers = fed_powers t.0.exponents all.0.monomial.exponents first.0 }, fed_block ts all.1 first.1)

-- ---- the stages of an instance

stage_named : (i : ℕ) (block : SumOfProducts) (name : Stage) → is_instance_stage i block name → (stage : SumStage) × is_sum_stage block stage × (instance_stage i stage ≡ name)
stage_named i block (InstanceProduct n s j) listed = (TermProduct s j, listed.1, ap (λ m. InstanceProduct m s j) (sym listed.0))
stage_named i block (InstanceSum n s) listed = (TermSum s, (listed.1, listed.2), ap (λ m. InstanceSum m s) (sym listed.0))
stage_named i block (Cut t) listed = absurd listed
stage_named i block (WordProduct w s j) listed = absurd listed
stage_named i block (WordSum w s) listed = absurd listed
stage_named i block (SpecProduct s j) listed = absurd listed
stage_named i block (SpecSum s) listed = absurd listed

stage_listed : (i : ℕ) (block : SumOfProducts) (stage : SumStage) → is_sum_stage block stage → is_instance_stage i block (instance_stage i stage)
stage_listed i block (TermProduct s j) listed = (refl, listed)
stage_listed i block (TermSum s) listed = (refl, listed.0, listed.1)

stage_before : (i : ℕ) (stage other : SumStage) → is_earlier_instance_stage (instance_stage i stage) (instance_stage i other) → is_earlier_sum_stage stage other
stage_before i (TermProduct r m) (TermProduct s j) earlier = earlier
stage_before i (TermProduct r m) (TermSum s) earlier = earlier
stage_before i (TermSum r) (TermProduct s j) earlier = earlier
stage_before i (TermSum r) (TermSum s) earlier = earlier

module _ (k : ℕ) (mul : ℕ → ℕ → ℕ) (feeds : Point → List ℕ) (i : ℕ) where
  related : (block : SumOfProducts) (stage : SumStage) (p : Point) (e : ℕ) → is_sum_stage block stage → IsPoint k p → sum_stage_of mul feeds block stage p e → instance_stage_of mul feeds block (instance_stage i stage) p e
  related block (TermProduct s j) p e listed at is = is
  related block (TermSum s) p e listed at is = is

  renamed : (block : SumOfProducts) → IsRenamed k (sum_listing mul feeds block) (instance_listing mul feeds i block) (instance_stage i)
  renamed block = record { listed = stage_listed i block; named = stage_named i block; related = related block; before = stage_before i }

  pub instance_within : (block : SumOfProducts) (bound : ℕ) → AreAllWithin k mul (sum_listing mul feeds block) bound → AreAllWithin k mul (instance_listing mul feeds i block) bound
  instance_within block bound all = all_within_there k mul (sum_listing mul feeds block) (instance_listing mul feeds i block) (instance_stage i) bound (renamed block) all

  pub instance_refused : (block : SumOfProducts) (bound : ℕ) (fault : SumFault) → IsSumOver k mul feeds block bound fault → IsRefusal k mul (instance_listing mul feeds i block) bound (instance_fault i fault)
  instance_refused block bound (faults.TooManyTerms stage n) over = over_there k mul (sum_listing mul feeds block) (instance_listing mul feeds i block) (instance_stage i) bound (renamed block) stage n over
  instance_refused block bound faults.OutOfMemory over = tt

-- the sum of all terms is the block's polynomial at the values of the feeds
pub block_polynomial : (k : ℕ) (mul : ℕ → ℕ → ℕ) (feeds : Point → List ℕ) (block ts : Terms) → AllByRecursion (IsTerm k) block → InFirstRanks 0 block → IsPolynomialOf k mul (λ p. sum_at mul (feeds p) (block_terms block)) ts → IsPolynomialOf k mul (λ p. value mul (point_of (feeds p)) block) ts
block_polynomial k mul feeds block ts all lacks is = record { reduced = is.reduced; values = λ p at. is.values p at ∙ terms_value k mul (feeds p) block all lacks }

-- ---- values of stages

module _ (k : ℕ) (mul : ℕ → ℕ → ℕ) (ring : IsRing k mul) (feeds : Point → List ℕ) where
  pub some_stage : (i : ℕ) (block : SumOfProducts) (name : Stage) (p : Point) → is_instance_stage i block name → (e : ℕ) × instance_stage_of mul feeds block name p e × (e < 2 ^ k)
  some_stage i block (InstanceProduct n s j) p is =
      let t = is.1.term in
      (product_at mul (feeds p) t j, record { place = is.1.place; term = t; number = is.1.number; at = is.1.at; is = refl }, ring.closed t.0 (powers_at mul (feeds p) (take j (factors_of t.1))))
  some_stage i block (InstanceSum n s) p is = (sum_at mul (feeds p) (take s block), refl, sum_in k mul ring (feeds p) (take s block))
  some_stage i block (Cut t) p is = absurd is
  some_stage i block (WordProduct w s j) p is = absurd is
  some_stage i block (WordSum w s) p is = absurd is
  some_stage i block (SpecProduct s j) p is = absurd is
  some_stage i block (SpecSum s) p is = absurd is

pub only_stage : (mul : ℕ → ℕ → ℕ) (feeds : Point → List ℕ) (block : SumOfProducts) (name : Stage) (p : Point) (e other : ℕ) → instance_stage_of mul feeds block name p e → instance_stage_of mul feeds block name p other → e ≡ other
only_stage mul feeds block (InstanceProduct n s j) p e other a b =
    let place : b.place ≡ a.place = omega (arith, a.number, b.number) in
    let P : ℕ → Type 0 = λ n. slice_get block n ≡ Some b.term in
    let there : slice_get block a.place ≡ Some b.term = subst P place b.at in
    let here : slice_get block a.place ≡ Some a.term = a.at in
    let same : a.term ≡ b.term = cc in
    sym a.is ∙ ap (λ t. product_at mul (feeds p) t j) same ∙ b.is
only_stage mul feeds block (InstanceSum n s) p e other a b = sym a ∙ b
only_stage mul feeds block (Cut t) p e other a b = absurd a
only_stage mul feeds block (WordProduct w s j) p e other a b = absurd a
only_stage mul feeds block (WordSum w s) p e other a b = absurd a
only_stage mul feeds block (SpecProduct s j) p e other a b = absurd a
only_stage mul feeds block (SpecSum s) p e other a b = absurd a
