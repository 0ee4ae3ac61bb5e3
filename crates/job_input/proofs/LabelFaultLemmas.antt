-- Labels of nets without a line feed, and the label that a fault of the net repeats.
use Rattle.std.proofs.Common.{◌≡◌, refl, subst, sym, ℕ, zero, suc, List, [], ◌∷◌, Err}
use Rattle.std.specs.Prelude.{slice_get}
use Rattle.std.specs.List.{AllByRecursion}
use Rattle.std.specs.Option.{option_map_or}
use Rattle.net_core.specs.Finish.{Finishes}
use Rattle.net_core.specs.NetList.{LabelValue, NetList, text_of}
use Rattle.net_core.specs.declared.fault.NetFault.{NetFault}
use Rattle.net_core.specs.declared.fault.NetFault.TheVariants as nets
use Rattle.job_words.proofs.OneLineLemmas.{IsClean}

-- no label has a line feed
abbrev pub HasCleanLabels : NetList → Type 0
HasCleanLabels net = AllByRecursion (λ (l : LabelValue). IsClean l.text) net.labels

-- what is a net called, if there is one
pub text_clean : (net : NetList) (n : ℕ) → HasCleanLabels net → IsClean (text_of net n)
text_clean net n labels = by net.labels n labels
  where
    by : (list : List LabelValue) (n : ℕ) → AllByRecursion (λ (l : LabelValue). IsClean l.text) list → IsClean (option_map_or (λ (l : LabelValue). l.text) (slice_get list n) [])
    by [] n all = refl
    by (l ∷ list) zero all = all.0
    by (l ∷ list) (suc n) all = by list n all.1

-- the label of a fault has no line feed
abbrev pub NetKeeps : NetFault → Type 0
NetKeeps (nets.DrivenTwice n label) = IsClean label
NetKeeps (nets.Undriven n label) = IsClean label
NetKeeps (nets.Loop loop label) = IsClean label
NetKeeps fault = Unit {0}

same_clean : (label text : List ℕ) → label ≡ text → IsClean text → IsClean label
same_clean label text same clean = let P : List ℕ → Type 0 = IsClean in subst P (sym same) clean

pub finish_keeps : (net : NetList) → HasCleanLabels net → (fault : NetFault) → Finishes net (Err fault) → NetKeeps fault
finish_keeps net labels nets.TooManyNets is = tt
finish_keeps net labels nets.TooManyGates is = tt
finish_keeps net labels (nets.DrivenTwice n label) is = same_clean label (text_of net n) is.3 (text_clean net n labels)
finish_keeps net labels (nets.Undriven n label) is = same_clean label (text_of net n) is.4 (text_clean net n labels)
finish_keeps net labels (nets.Loop loop label) is = same_clean label (text_of net is.2.0) is.2.2 (text_clean net is.2.0 labels)
finish_keeps net labels nets.OutOfMemory is = tt
