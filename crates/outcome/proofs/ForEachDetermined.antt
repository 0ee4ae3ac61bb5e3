-- Where at most one outcome comes of each element, at most one comes of all.
use Rattle.std.proofs.Common.{◌≡◌, ◌∙◌, ap, sym, subst, ℕ, ◌<◌, List, Some, Ok, Err, arith}
use Rattle.std.specs.Prelude.{slice_get}
use Rattle.std.proofs.lemmas.Option.{slice_get_within}
use Rattle.lists.specs.laws.NumberLaws.{even}
use Rattle.lists.specs.laws.OptionLaws.{same_ok, same_fault, ok_no_fault}
use Rattle.lists.specs.laws.ReadLaws.{get_below, same_lists}
use Rattle.outcome.specs.Outcome.{Determined, Outcome}
use Rattle.outcome.specs.ForEach.{AreValues, ForEach, IsFirstFault}

module _ {X A F : Type 0} (may : X → Outcome F A) (xs : List X) (one : (x : X) → Determined (may x)) where
  values_same : (values others : List A) → AreValues may xs values → AreValues may xs others → values ≡ others
  values_same values others a b = same_lists values others (a.long ∙ sym b.long) each
    where
      each : (i : ℕ) (x y : A) → slice_get values i ≡ Some x → slice_get others i ≡ Some y → x ≡ y
      each i x y at_x at_y =
          let element = get_below xs i (omega (arith, a.long, slice_get_within values i x at_x)) in
          same_ok x y (one element.0 (Ok x) (Ok y) (a.each i element.0 x element.1 at_x) (b.each i element.0 y element.1 at_y))

  values_or_fault : (values : List A) (fault : F) → AreValues may xs values → IsFirstFault may xs fault → ⊥
  values_or_fault values fault are is =
      let value = get_below values is.place (omega (arith, are.long, slice_get_within xs is.place is.element is.at)) in
      ok_no_fault value.0 fault (one is.element (Ok value.0) (Err fault) (are.each is.place is.element value.0 is.at value.1) is.is)

  -- before the first element with a fault there is none
  none_before : (fault other : F) (a : IsFirstFault may xs fault) (b : IsFirstFault may xs other) → a.place < b.place → ⊥
  none_before fault other a b less =
      let value = b.before a.place a.element less a.at in
      ok_no_fault value.0 fault (one a.element (Ok value.0) (Err fault) value.1 a.is)

  faults_same : (fault other : F) → IsFirstFault may xs fault → IsFirstFault may xs other → fault ≡ other
  faults_same fault other a b =
      let place : a.place ≡ b.place = even a.place b.place (λ less. none_before fault other a b less) (λ less. none_before other fault b a less) in
      let P : ℕ → Type 0 = λ i. slice_get xs i ≡ Some a.element in
      let here : slice_get xs b.place ≡ Some a.element = subst P place a.at in
      let there : slice_get xs b.place ≡ Some b.element = b.at in
      let element : a.element ≡ b.element = cc in
      let Q : X → Type 0 = λ x. may x (Err fault) in
      same_fault fault other (one b.element (Err fault) (Err other) (subst Q element a.is) b.is)

  pub for_each_determined : Determined (ForEach may xs)
  for_each_determined (Ok values) (Ok others) a b = ap Ok (values_same values others a b)
  for_each_determined (Ok values) (Err fault) a b = absurd (values_or_fault values fault a b)
  for_each_determined (Err fault) (Ok values) a b = absurd (values_or_fault values fault b a)
  for_each_determined (Err fault) (Err other) a b = ap Err (faults_same fault other a b)
