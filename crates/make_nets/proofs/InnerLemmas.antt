-- The names of inner nets, one by one.
use Rattle.std.proofs.Common.{◌≡◌, ◌∙◌, ap, sym, refl, subst, inl, inr, ℕ, zero, suc, ◌<◌, ◌+◌, ◌^◌, true, false, List, [], ◌∷◌, ◌++◌, length, map, Option, None, Some, arith}
use Rattle.std.specs.Prelude.{slice_get}
use Rattle.std.specs.List.{range_with_len}
use Rattle.std.specs.Option.{option_map_or}
use Rattle.std.specs.Fmt.{decimal}
use Rattle.std.proofs.lemmas.List.{append_assoc}
use Rattle.std.specs.Str.{bytes_eq}
use Rattle.std.proofs.lemmas.Slice.Eq.{bytes_eq-Decides}
use Rattle.std.proofs.lemmas.Fmt.{decimal_injective, length-decimal-le}
use Rattle.lists.specs.laws.BoolLaws.{both_true as both}
use Rattle.lists.specs.laws.ListLaws.{length_map as map_long, append_same}
use Rattle.net_core.specs.Inside.{IsNetName}
use Rattle.net_core.specs.NetList.{LabelValue, NetList, nets, number_from, number_of, with_label, is_named}
use Rattle.net_core.proofs.PlaceLemmas.{none_at}
use Rattle.make_nets.specs.MadeNet.{named, inner_name, labels_with, names_in, outer_net, with_inner}
use Rattle.make_nets.specs.Makeable.{AreNames, IsPrefix}
use Rattle.make_nets.proofs.LabelLemmas.{append_long, range_long, label_is}

pub inner_is_name : (names : List (List ℕ)) (prefix : List ℕ) (i : ℕ) → IsPrefix names prefix → i < 2 ^ 20 → IsNetName (inner_name prefix i)
inner_is_name names prefix i is less = (omega (arith, append_long prefix (decimal i), is.some), omega (arith, append_long prefix (decimal i), is.short, length-decimal-le 7 i (omega arith) (omega (arith, less)) (omega (arith, less))))

range_more : (f : ℕ → LabelValue) (a n : ℕ) → map f (range_with_len a (suc n)) ≡ map f (range_with_len a n) ++ f (a + n) ∷ []
range_more f a zero = let same : a + 0 ≡ a = omega arith in rw same refl
range_more f a (suc n) = let same : a + suc n ≡ (a + 1) + n = omega arith in rw same (ap (λ (xs : List LabelValue). f a ∷ xs) (range_more f (a + 1) n))

pub inner_nets : (net : NetList) (prefix : List ℕ) (i : ℕ) → nets (with_inner net prefix i) ≡ nets net + i
inner_nets net prefix i = omega (arith, append_long net.labels (map (λ j. named (inner_name prefix j)) (range_with_len 0 i)), map_long (λ j. named (inner_name prefix j)) (range_with_len 0 i), range_long 0 i)

-- with one inner net more
pub inner_more : (net : NetList) (prefix : List ℕ) (i : ℕ) → with_label (with_inner net prefix i) (inner_name prefix i) true ≡ with_inner net prefix (suc i)
inner_more net prefix i =
    let more : map (λ j. named (inner_name prefix j)) (range_with_len 0 (suc i)) ≡ map (λ j. named (inner_name prefix j)) (range_with_len 0 i) ++ named (inner_name prefix i) ∷ [] = range_more (λ j. named (inner_name prefix j)) 0 i ∙ ap (λ m. map (λ j. named (inner_name prefix j)) (range_with_len 0 i) ++ named (inner_name prefix m) ∷ []) (omega arith) in
    ap (λ (labels : List LabelValue). record net { labels = labels }) (append_assoc net.labels (map (λ j. named (inner_name prefix j)) (range_with_len 0 i)) (named (inner_name prefix i) ∷ []) ∙ ap (λ (xs : List LabelValue). net.labels ++ xs) (sym more))

-- its name is new
fresh_among : (names : List (List ℕ)) (prefix : List ℕ) (i : ℕ) → AreNames names → IsPrefix names prefix → length names + i < 2 ^ 20 → number_from 0 (labels_with names prefix i) (inner_name prefix i) ≡ None
fresh_among names prefix i are is few = none_at 0 (labels_with names prefix i) (inner_name prefix i) (λ k less hit. missed k (slice_get (labels_with names prefix i) k) refl hit)
  where
    missed : (k : ℕ) (at : Option LabelValue) → slice_get (labels_with names prefix i) k ≡ at → option_map_or (is_named (inner_name prefix i)) at false ≡ true → ⊥
    missed k None got hit = absurd (cc)
    missed k (Some l) got hit =
        let same : inner_name prefix i ≡ l.text = (bytes_eq-Decides (inner_name prefix i) l.text).0 (both l.named (bytes_eq (inner_name prefix i) l.text) hit).1 in
        elim (label_is names prefix i are is (omega (arith, few)) k l got) [
          | inl w ↦ is.fresh w.0 (decimal i) (k, w.1) (sym (ap (λ (x : LabelValue). x.text) w.2) ∙ sym same)
          | inr w ↦
              let e : prefix ++ decimal i ≡ prefix ++ decimal w.0 = same ∙ ap (λ (x : LabelValue). x.text) w.3 in
              omega (arith, w.1, decimal_injective i w.0 (omega (arith, few)) (omega (arith, w.1, few)) (append_same prefix (decimal i) (decimal w.0) e))
        ]

pub inner_fresh : (net : NetList) (prefix : List ℕ) (i : ℕ) → net ≡ outer_net (names_in net) → AreNames (names_in net) → IsPrefix (names_in net) prefix → nets net + i < 2 ^ 20 → number_of (with_inner net prefix i) (inner_name prefix i) ≡ None
inner_fresh net prefix i outer are is few =
    let labels : net.labels ≡ map named (names_in net) = ap (λ (n : NetList). n.labels) outer in
    let long : length (names_in net) ≡ nets net = map_long (λ (l : LabelValue). l.text) net.labels in
    let P : List LabelValue → Type 0 = λ xs. number_from 0 (xs ++ map (λ j. named (inner_name prefix j)) (range_with_len 0 i)) (inner_name prefix i) ≡ None in
    subst P (sym labels) (fresh_among (names_in net) prefix i are is (omega (arith, few, long)))
