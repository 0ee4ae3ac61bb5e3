-- What the nets of a plan are called.
use Rattle.std.proofs.Common.{◌≡◌, ◌⊎◌, ◌∙◌, ap, sym, refl, subst, inl, inr, ℕ, zero, suc, ◌<◌, ◌≤◌, ◌+◌, ◌^◌, true, false, ◌&&◌, List, [], ◌∷◌, ◌++◌, length, map, Option, None, Some, arith}
use Rattle.std.specs.Prelude.{slice_get}
use Rattle.std.specs.List.{range_with_len}
use Rattle.std.specs.Option.{option_map_or}
use Rattle.std.specs.Str.{bytes_eq}
use Rattle.std.proofs.lemmas.Slice.Eq.{bytes_eq-Decides}
use Rattle.std.specs.Fmt.{decimal}
use Rattle.std.proofs.lemmas.Fmt.{decimal_injective, length-decimal-le}
use Rattle.lists.specs.laws.BoolLaws.{both_true as both}
use Rattle.lists.specs.laws.ListLaws.{length_map as map_long, append_same}
use Rattle.lists.specs.laws.ReadLaws.{from_map}
use Rattle.net_core.specs.Inside.{IsNetName}
use Rattle.net_core.specs.NetList.{LabelValue, is_named, number_from}
use Rattle.net_core.proofs.PlaceLemmas.{first_at}
use Rattle.make_nets.specs.MadeNet.{named, inner_name, labels_with}
use Rattle.make_nets.specs.Makeable.{AreNames, IsPrefix}

-- an element of two lists, one after the other, is in the first or that far in the second
pub got_append : {X : Type 0} (xs ys : List X) (k : ℕ) (z : X) → slice_get (xs ++ ys) k ≡ Some z → ((k < length xs) × (slice_get xs k ≡ Some z)) ⊎ ((j : ℕ) × (k ≡ length xs + j) × (slice_get ys j ≡ Some z))
got_append [] ys k z got = inr (k, omega arith, got)
got_append (x ∷ xs) ys zero z got = inl (omega arith, got)
got_append (x ∷ xs) ys (suc k) z got = elim (got_append xs ys k z got) [ inl w ↦ inl (omega (arith, w.0), w.1) | inr w ↦ inr (w.0, omega (arith, w.1), w.2) ]

pub got_range : (a n k m : ℕ) → slice_get (range_with_len a n) k ≡ Some m → (m ≡ a + k) × (k < n)
got_range a zero k m got = let none : None ≡ Some m = got in absurd (cc)
got_range a (suc n) zero m got = let same : Some a ≡ Some m = got in let e : a ≡ m = cc in (omega (arith, e), omega arith)
got_range a (suc n) (suc k) m got = let rest = got_range (a + 1) n k m got in (omega (arith, rest.0), omega (arith, rest.1))

pub range_long : (a n : ℕ) → length (range_with_len a n) ≡ n
range_long a zero = refl
range_long a (suc n) = ap suc (range_long (a + 1) n)

pub append_long : {X : Type 0} (xs ys : List X) → length (xs ++ ys) ≡ length xs + length ys
append_long [] ys = omega arith
append_long (x ∷ xs) ys = omega (arith, append_long xs ys)

module _ (names : List (List ℕ)) (prefix : List ℕ) (count : ℕ) (are : AreNames names) (is : IsPrefix names prefix) (few : length names + count ≤ 2 ^ 20) where
  pub labels_long : length (labels_with names prefix count) ≡ length names + count
  labels_long = omega (arith, append_long (map named names) (map (λ i. named (inner_name prefix i)) (range_with_len 0 count)), map_long named names, map_long (λ i. named (inner_name prefix i)) (range_with_len 0 count), range_long 0 count)

  -- a label is that of an outer net, or of the inner net so far after them
  pub label_is : (n : ℕ) (label : LabelValue) → slice_get (labels_with names prefix count) n ≡ Some label →
      ((name : List ℕ) × (slice_get names n ≡ Some name) × (label ≡ named name)) ⊎ ((i : ℕ) × (i < count) × (n ≡ length names + i) × (label ≡ named (inner_name prefix i)))
  label_is n label got =
      elim (got_append (map named names) (map (λ i. named (inner_name prefix i)) (range_with_len 0 count)) n label got) [
        | inl w ↦ let found = from_map named names n label w.1 in inl (found.0, found.1, sym found.2)
        | inr w ↦
            let found = from_map (λ i. named (inner_name prefix i)) (range_with_len 0 count) w.0 label w.2 in
            let place = got_range 0 count w.0 found.0 found.1 in
            inr (found.0, omega (arith, place.0, place.1), omega (arith, place.0, w.1, map_long named names), sym found.2)
      ]

  inner_named : (i : ℕ) → i < 2 ^ 20 → IsNetName (inner_name prefix i)
  inner_named i less = (omega (arith, append_long prefix (decimal i), is.some), omega (arith, append_long prefix (decimal i), is.short, length-decimal-le 7 i (omega arith) (omega (arith, less)) (omega (arith, less))))

  pub label_named : (n : ℕ) (label : LabelValue) → slice_get (labels_with names prefix count) n ≡ Some label → (label.named ≡ true) × IsNetName label.text
  label_named n label got =
      elim (label_is n label got) [
        | inl w ↦ let P : LabelValue → Type 0 = λ l. (l.named ≡ true) × IsNetName l.text in subst P (sym w.2) (refl, are.each w.0 (n, w.1))
        | inr w ↦ let P : LabelValue → Type 0 = λ l. (l.named ≡ true) × IsNetName l.text in subst P (sym w.3) (refl, inner_named w.0 (omega (arith, w.1, few)))
      ]

  -- two nets of one text are one
  pub labels_apart : (n m : ℕ) (x y : LabelValue) → slice_get (labels_with names prefix count) n ≡ Some x → slice_get (labels_with names prefix count) m ≡ Some y → x.text ≡ y.text → n ≡ m
  labels_apart n m x y first second same =
      elim (label_is n x first) [
        | inl v ↦ elim (label_is m y second) [
          | inl w ↦
              let e : v.0 ≡ w.0 = sym (ap (λ (l : LabelValue). l.text) v.2) ∙ (same ∙ ap (λ (l : LabelValue). l.text) w.2) in
              are.apart n m v.0 v.1 (w.1 ∙ ap Some (sym e))
          | inr w ↦
              let e : v.0 ≡ prefix ++ decimal w.0 = sym (ap (λ (l : LabelValue). l.text) v.2) ∙ (same ∙ ap (λ (l : LabelValue). l.text) w.3) in
              absurd (is.fresh v.0 (decimal w.0) (n, v.1) e)
        ]
        | inr v ↦ elim (label_is m y second) [
          | inl w ↦
              let e : w.0 ≡ prefix ++ decimal v.0 = sym (ap (λ (l : LabelValue). l.text) w.2) ∙ (sym same ∙ ap (λ (l : LabelValue). l.text) v.3) in
              absurd (is.fresh w.0 (decimal v.0) (m, w.1) e)
          | inr w ↦
              let e : prefix ++ decimal v.0 ≡ prefix ++ decimal w.0 = sym (ap (λ (l : LabelValue). l.text) v.3) ∙ (same ∙ ap (λ (l : LabelValue). l.text) w.3) in
              let i : v.0 ≡ w.0 = decimal_injective v.0 w.0 (omega (arith, v.1, few)) (omega (arith, w.1, few)) (append_same prefix (decimal v.0) (decimal w.0) e) in
              omega (arith, v.2, w.2, i)
        ]
      ]

  hit_by : (n : ℕ) (label : LabelValue) (at : Option LabelValue) → at ≡ Some label → label.named ≡ true → option_map_or (is_named label.text) at false ≡ true
  hit_by n label None is named = absurd (cc)
  hit_by n label (Some l) is named =
      let same : l ≡ label = cc in
      let P : LabelValue → Type 0 = λ x. (x.named && bytes_eq label.text x.text) ≡ true in
      subst P (sym same) (rw (named, (bytes_eq-Decides label.text label.text).1 refl) refl)

  missed_by : (n k : ℕ) (label : LabelValue) (at : Option LabelValue) → slice_get (labels_with names prefix count) n ≡ Some label → slice_get (labels_with names prefix count) k ≡ at → k < n → option_map_or (is_named label.text) at false ≡ true → ⊥
  missed_by n k label None got is less hit = absurd (cc)
  missed_by n k label (Some l) got is less hit =
      let parts = both l.named (bytes_eq label.text l.text) hit in
      omega (arith, less, labels_apart n k label l got is ((bytes_eq-Decides label.text l.text).0 parts.1))

  -- a net is found by what it is called
  pub label_found : (n : ℕ) (label : LabelValue) → slice_get (labels_with names prefix count) n ≡ Some label → number_from 0 (labels_with names prefix count) label.text ≡ Some n
  label_found n label got =
      first_at 0 (labels_with names prefix count) label.text n
      (hit_by n label (slice_get (labels_with names prefix count) n) got (label_named n label got).0)
      (λ k less hit. missed_by n k label (slice_get (labels_with names prefix count) k) got refl less hit)
      ∙ ap Some (omega arith)
