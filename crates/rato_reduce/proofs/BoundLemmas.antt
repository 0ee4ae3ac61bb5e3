-- Cuts within a bound, and the first one over it.
use Rattle.std.proofs.Common.{◌≡◌, ℕ, ◌+◌, ◌<◌, ◌≤◌, inl, inr, length, refl, sym, subst, arith}
use Rattle.std.proofs.lemmas.Bool.{cases_eq}
use Rattle.poly_mixed.specs.Polynomial.{Terms, Point}
use Rattle.poly_mixed.specs.declared.stage.ReduceFault.{ReduceFault}
use Rattle.poly_mixed.specs.declared.stage.ReduceFault.TheVariants.{TooManyTerms}
use Rattle.poly_mixed.specs.declared.stage.Stage.{Stage}
use Rattle.poly_mixed.specs.declared.stage.Stage.TheVariants.{Cut, WordProduct, WordSum, SpecProduct, SpecSum, InstanceProduct, InstanceSum}
use Rattle.stage_model.specs.Stage.{IsOfStage, IsWithin}
use Rattle.stage_model.specs.Listing.{AreAllWithin, IsRefusal, is_first_cut, is_earlier_cut, cut_of, cut_listing}
use Rattle.stage_model.proofs.NoneOver.{IsNoneOver}

module _ (k : ℕ) (mul : ℕ → ℕ → ℕ) (cuts : ℕ → Point → ℕ → Type 0) (bound : ℕ) where
  pub none_before : IsNoneOver k mul cuts 0 bound
  none_before i less = absurd (omega arith)

  pub one_more : (n : ℕ) (ts : Terms) → IsNoneOver k mul cuts n bound → IsOfStage k mul (cuts n) ts → length ts ≤ bound → IsNoneOver k mul cuts (n + 1) bound
  one_more n ts before is within i less = elim (cases_eq i n) [
    | inl same ↦
        let P : ℕ → Type 0 = λ j. IsWithin k mul (cuts j) bound in
        subst P (sym same) (record { size = length ts; has = record { terms = ts; is = is; size = refl }; within = within })
    | inr other ↦ before i (omega arith)
  ]

  earlier : (count n : ℕ) → IsNoneOver k mul cuts n bound → (name : Stage) → is_first_cut count cuts name → is_earlier_cut count cuts name (Cut n) → IsWithin k mul (cut_of count cuts name) bound
  earlier count n before (Cut t) listed less = before t less
  earlier count n before (WordProduct word term bit) listed less = absurd listed
  earlier count n before (WordSum word term) listed less = absurd listed
  earlier count n before (SpecProduct term factor) listed less = absurd listed
  earlier count n before (SpecSum term) listed less = absurd listed
  earlier count n before (InstanceProduct instance term factor) listed less = absurd listed
  earlier count n before (InstanceSum instance term) listed less = absurd listed

  pub just : (count n : ℕ) (ts : Terms) (fault : ReduceFault) → n < count → IsNoneOver k mul cuts n bound → IsOfStage k mul (cuts n) ts → bound < length ts → fault ≡ TooManyTerms (Cut n) (length ts)
      → IsRefusal k mul (cut_listing count cuts) bound fault
  just count n ts fault less before is over same =
      let P : ReduceFault → Type 0 = IsRefusal k mul (cut_listing count cuts) bound in
      subst P (sym same) (record { listed = less; size = record { terms = ts; is = is; size = refl }; over = over; before = earlier count n before })

  pub all_within : (count : ℕ) → IsNoneOver k mul cuts count bound → AreAllWithin k mul (cut_listing count cuts) bound
  all_within count none (Cut t) less = none t less
  all_within count none (WordProduct word term bit) listed = absurd listed
  all_within count none (WordSum word term) listed = absurd listed
  all_within count none (SpecProduct term factor) listed = absurd listed
  all_within count none (SpecSum term) listed = absurd listed
  all_within count none (InstanceProduct instance term factor) listed = absurd listed
  all_within count none (InstanceSum instance term) listed = absurd listed
