-- What is made step by step.
use Rattle.std.proofs.Common.{◌≡◌, ◌∙◌, ap, sym, refl, inl, inr, subst, ℕ, suc, ◌<◌, ◌+◌, ◌^◌, Bool, true, false, cond, List, [], ◌∷◌, ◌++◌, length, get_or, drop, Option, None, Some, Result, Ok, Err, arith, drop-cons}
use Rattle.std.specs.Prelude.{nat_le, nat_lt, position}
use Rattle.std.specs.List.{position_or_len}
use Rattle.std.proofs.lemmas.Bool.{ltb-true}
use Rattle.std.proofs.lemmas.List.{length-append}
use Rattle.std.proofs.Math.Numerals.{add-one}
use Rattle.net_core.specs.GateValue.{GateValue}
use Rattle.net_core.specs.LatchValue.{LatchValue}
use Rattle.net_core.specs.NetList.{NetList, nets, number_of, with_gate, with_label, with_latch, with_name}
use Rattle.net_core.specs.declared.fault.NetFault.{NetFault}
use Rattle.net_core.specs.declared.fault.NetFault.TheVariants.{TooManyNets, TooManyGates}
use Rattle.net_core.proofs.NameLemmas.{named_found}
use Rattle.net_aiger.specs.Nets.{gated, labelled, latched}
use Rattle.net_aiger.specs.Reading.{Name}
use Rattle.net_aiger.specs.Steps.{◌>>=◌}
use Rattle.net_aiger.specs.private.Making.{IsFaultOf}

-- ---- what the maker answers

pub new_label : (net new : NetList) (text : Name) → number_of net text ≡ None → new ≡ with_name net text → new ≡ with_label net text true
new_label net new text none made = made ∙ rw none refl

-- ---- what steps keep

-- a gate leaves the labels as they are
pub gated_labels : (gate : GateValue) (net more : NetList) → gated gate net ≡ Ok more → more.labels ≡ net.labels
gated_labels gate net more made = by (nat_le (2 ^ 20) (length net.gates + length net.latches)) made
  where
    by : (b : Bool) → cond b (Err TooManyGates) (Ok (with_gate net gate)) ≡ Ok more → more.labels ≡ net.labels
    by true e = absurd (cc)
    by false e = let same : with_gate net gate ≡ more = cc in ap (λ (n : NetList). n.labels) (sym same)

pub gated_is : (gate : GateValue) (net more : NetList) → gated gate net ≡ Ok more → more ≡ with_gate net gate
gated_is gate net more made = by (nat_le (2 ^ 20) (length net.gates + length net.latches)) made
  where
    by : (b : Bool) → cond b (Err TooManyGates) (Ok (with_gate net gate)) ≡ Ok more → more ≡ with_gate net gate
    by true e = absurd (cc)
    by false e = let same : with_gate net gate ≡ more = cc in sym same

pub gated_gates : (gate : GateValue) (net more : NetList) → gated gate net ≡ Ok more → more.gates ≡ net.gates ++ gate ∷ []
gated_gates gate net more made = ap (λ (n : NetList). n.gates) (gated_is gate net more made)

pub latched_is : (latch : LatchValue) (net more : NetList) → latched latch net ≡ Ok more → more ≡ with_latch net latch
latched_is latch net more made = by (nat_le (2 ^ 20) (length net.gates + length net.latches)) made
  where
    by : (b : Bool) → cond b (Err TooManyGates) (Ok (with_latch net latch)) ≡ Ok more → more ≡ with_latch net latch
    by true e = absurd (cc)
    by false e = let same : with_latch net latch ≡ more = cc in sym same

pub labelled_is : (text : Name) (named : Bool) (net more : NetList) → labelled text named net ≡ Ok more → more ≡ with_label net text named
labelled_is text named net more made = by (nat_le (2 ^ 20) (nets net)) made
  where
    by : (b : Bool) → cond b (Err TooManyNets) (Ok (with_label net text named)) ≡ Ok more → more ≡ with_label net text named
    by true e = absurd (cc)
    by false e = let same : with_label net text named ≡ more = cc in sym same

-- one more net
pub labelled_nets : (text : Name) (named : Bool) (net more : NetList) → labelled text named net ≡ Ok more → nets more ≡ nets net + 1
labelled_nets text named net more made = ap nets (labelled_is text named net more made) ∙ length-append net.labels (record { text = text; named = named } ∷ [])

-- ---- one step after another

-- the value of a first step goes on
pub first_ok : {A B : Type 0} (first : Result A NetFault) (a : A) (further : A → Result B NetFault) → first ≡ Ok a → (first >>= further) ≡ further a
first_ok first a further is = ap (λ r. r >>= further) is

-- the fault of a first step is the whole's
pub first_fault : (first : Result NetList NetFault) (further : NetList → Result NetList NetFault) (fault : NetFault) → IsFaultOf first fault → IsFaultOf (first >>= further) fault
first_fault first further fault (inl is) = inl is
first_fault first further fault (inr is) = inr (ap (λ r. r >>= further) is)

pub same_fault : (a b : Result NetList NetFault) (fault : NetFault) → a ≡ b → IsFaultOf b fault → IsFaultOf a fault
same_fault a b fault is refused = let P : Result NetList NetFault → Type 0 = λ r. IsFaultOf r fault in subst P (sym is) refused

-- steps over a list, each with its place
module _ {A : Type 0} (step : ℕ → A → NetList → Result NetList NetFault) (steps : ℕ → List A → NetList → Result NetList NetFault) (cons : (p : ℕ) (x : A) (xs : List A) (net : NetList) → steps p (x ∷ xs) net ≡ (step p x net >>= (λ more. steps (p + 1) xs more))) where
  next_steps : (xs : List A) (i p : ℕ) (x d : A) (net : NetList) → i < length xs → x ≡ get_or xs i d → steps p (drop i xs) net ≡ (step p x net >>= (λ more. steps (p + 1) (drop (i + 1) xs) more))
  next_steps xs i p x d net below is =
      ap (λ (ys : List A). steps p ys net) (drop-cons xs i d below ∙ ap (λ (y : A). y ∷ drop (suc i) xs) (sym is))
      ∙ (cons p x (drop (suc i) xs) net ∙ ap (λ (k : ℕ). step p x net >>= (λ more. steps (p + 1) (drop k xs) more)) (sym (add-one i)))

  pub made_next : (xs : List A) (i p : ℕ) (x d : A) (net more : NetList) (whole : Result NetList NetFault) → i < length xs → x ≡ get_or xs i d → whole ≡ steps p (drop i xs) net → step p x net ≡ Ok more → whole ≡ steps (p + 1) (drop (i + 1) xs) more
  made_next xs i p x d net more whole below is so_far made = so_far ∙ (next_steps xs i p x d net below is ∙ first_ok (step p x net) more (λ m. steps (p + 1) (drop (i + 1) xs) m) made)

  pub fault_next : (xs : List A) (i p : ℕ) (x d : A) (net : NetList) (whole : Result NetList NetFault) (fault : NetFault) → i < length xs → x ≡ get_or xs i d → whole ≡ steps p (drop i xs) net → IsFaultOf (step p x net) fault → IsFaultOf whole fault
  fault_next xs i p x d net whole fault below is so_far refused = same_fault whole _ fault (so_far ∙ next_steps xs i p x d net below is) (first_fault (step p x net) (λ m. steps (p + 1) (drop (i + 1) xs) m) fault refused)

-- ---- nets of literals

pub position_below : {A : Type 0} (test : A → Bool) (xs : List A) (k : ℕ) → position test xs ≡ Some k → k < length xs
position_below test xs k found = by (nat_lt (position_or_len test xs) (length xs)) refl found
  where
    by : (b : Bool) → nat_lt (position_or_len test xs) (length xs) ≡ b → cond b (Some (position_or_len test xs)) None ≡ Some k → k < length xs
    by true e f = let same : position_or_len test xs ≡ k = cc in let less = ltb-true (position_or_len test xs) (length xs) e in omega (arith, same, less)
    by false e f = absurd (cc)

-- ---- tables

-- the number of a new net of a name
pub new_number : (net new : NetList) (text : Name) (n : ℕ) → number_of net text ≡ None → new ≡ with_name net text → number_of new text ≡ Some n → n ≡ nets net
new_number net new text n none made found =
    let at : number_of new text ≡ Some (nets net) = named_found net.labels new.labels text (nets net) (ap (λ (x : NetList). x.labels) (new_label net new text none made)) refl none in
    same (sym found ∙ at)
  where
    same : ◌≡◌ {A = Option ℕ} (Some n) (Some (nets net)) → n ≡ nets net
    same e = cc
