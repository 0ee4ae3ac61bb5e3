-- Where no stage has more than n terms, neither has the polynomial of a mix.
use Rattle.std.proofs.Common.{◌≡◌, refl, ℕ, zero, suc, ◌+◌, ◌-◌, ◌<◌, ◌≤◌, [], ◌∷◌, length, Some, slice_get, arith}
use Rattle.lists.specs.laws.ReadLaws.{get_below}
use Rattle.poly_mixed.specs.Monomial.{Monomial}
use Rattle.poly_mixed.specs.Polynomial.{Terms, Point, value}
use Rattle.poly_mixed.specs.declared.stage.Stage.TheVariants.{Cut, WordProduct, WordSum}
use Rattle.poly_mixed.proofs.FieldLaws.{field_of}
use Rattle.poly_mixed.proofs.SimpleLemmas.{reduced_nothing}
use Rattle.circuit_model.specs.Circuit.{Circuit}
use Rattle.circuit_model.specs.WellFormed.{IsWellFormed}
use Rattle.stage_model.specs.CircuitListing.{circuit_stages}
use Rattle.stage_model.specs.Cut.{CutOf}
use Rattle.stage_model.specs.Listing.{AreAllWithin, Earlier, Later}
use Rattle.stage_model.specs.Mix.{IsMix}
use Rattle.stage_model.specs.Stage.{IsOfStage, IsWithin}
use Rattle.stage_model.specs.WordStage.{word_bits, with_word, IsTermProduct, IsTermSum}
use Rattle.stage_model.specs.WordListing.{HasProduct, HasSum}
use Rattle.stage_model.proofs.MixLemmas.{mix_none}
use Rattle.stage_model.proofs.NextMixLemmas.{next_mix, all_terms}
use Rattle.stage_model.proofs.WordStageLemmas.{some_read, with_point}
use Rattle.cert_laws.proofs.WordWalkLemmas.{AreSmall}

module _ (c : Circuit) (well : IsWellFormed c) (flat : c.net.latches ≡ []) (n : ℕ) (within : AreAllWithin c.k c.product (circuit_stages c) n) where
  -- a polynomial within the bound
  abbrev pub Low : (Point → ℕ → Type 0) → Type 0
  Low stage = (ts : Terms) × IsOfStage c.k c.product stage ts × (length ts ≤ n)

  low_of_within : (stage : Point → ℕ → Type 0) → IsWithin c.k c.product stage n → Low stage
  low_of_within stage is = (is.has.terms, is.has.is, (let size = is.has.size in let most = is.within in omega (arith, size, most)))

  pub low_cut : (t : ℕ) → t ≤ length c.net.gates → Low (CutOf c t)
  low_cut t less = low_of_within (CutOf c t) (within (Earlier (Cut t)) (omega (arith, less)))

  low_sum : (w s : ℕ) (ts : Terms) → w < length c.words → IsOfStage c.k c.product (IsMix c w) ts → 1 ≤ s → s ≤ length ts → Low (IsTermSum c w s)
  low_sum w s ts inside is least most =
      let t = get_below ts (s - 1) (omega (arith, least, most)) in
      let named : HasSum c w s = record { word = inside; term = t.0; is_term = record { terms = ts; before = is; place = s - 1; number = omega (arith, least); at = t.1 } } in
      low_of_within (IsTermSum c w s) (within (Later (WordSum w s)) named)

  low_product : (w s j : ℕ) (ts : Terms) (t : Monomial × ℕ) → w < length c.words → IsOfStage c.k c.product (IsMix c w) ts → slice_get ts s ≡ Some t → 1 ≤ j → j ≤ length (word_bits c.k w t) → Low (IsTermProduct c w (s + 1) j)
  low_product w s j ts t inside is at least most =
      let named : HasProduct c w (s + 1) j = record { word = inside; term = t; is_term = record { terms = ts; before = is; place = s; number = refl; at = at }; some = least; bits = most } in
      low_of_within (IsTermProduct c w (s + 1) j) (within (Later (WordProduct w (s + 1) j)) named)

  next_low : (w : ℕ) → w < length c.words → (ts : Terms) → IsOfStage c.k c.product (IsMix c w) ts → Low (IsMix c (suc w))
  next_low w inside [] is = (
    [],
    record {
      reduced = reduced_nothing (field_of c.k c.product well.ring well.no_zero_divisors);
      values = λ p at.
          let read = some_read c well w p at inside in
          (next_mix c well w read.0 p read.1 0).0 (is.values (with_word c.k w read.0 p) (with_point c.k c.k w read.0 p at));
    },
    omega arith,
  )
  next_low w inside (t ∷ ts) is =
      let sum = low_sum w (length (t ∷ ts)) (t ∷ ts) inside is (omega arith) (omega arith) in (
        sum.0,
        record { reduced = sum.1.reduced; values = λ p at. (all_terms c well w (t ∷ ts) p (value c.product p sum.0) at inside is).0 (sum.1.values p at) },
        sum.2,
      )

  pub low_mix : (w : ℕ) → w ≤ length c.words → Low (IsMix c w)
  low_mix zero less =
      let cut = low_cut (length c.net.gates) (omega arith) in
      (cut.0, record { reduced = cut.1.reduced; values = λ p at. (mix_none c well flat p (value c.product p cut.0) at).1 (cut.1.values p at) }, cut.2)
  low_mix (suc w) less = let before = low_mix w (omega (arith, less)) in next_low w (omega (arith, less)) before.0 before.1

  pub all_small : AreSmall c.k c.product c n
  all_small = record { mixes = low_mix; sums = low_sum; products = low_product }
