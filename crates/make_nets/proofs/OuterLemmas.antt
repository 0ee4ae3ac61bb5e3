-- Names of outer nets, one after another.
use Rattle.std.proofs.Common.{◌≡◌, ◌∙◌, ap, sym, refl, subst, inl, inr, ℕ, zero, suc, ◌<◌, ◌+◌, Bool, true, false, ◌&&◌, cond, List, [], ◌∷◌, ◌++◌, length, map, Option, None, Some, arith}
use Rattle.std.specs.Prelude.{slice_get, ◌==◌, is_some}
use Rattle.std.specs.Str.{bytes_eq}
use Rattle.std.proofs.lemmas.List.{map-append}
use Rattle.std.proofs.lemmas.Slice.Eq.{bytes_eq-Decides}
use Rattle.std.proofs.lemmas.Bool.{eq-eqb, ne_eqb}
use Rattle.lists.specs.Lists.{Has}
use Rattle.lists.specs.laws.HasLaws.{Has_left}
use Rattle.lists.specs.laws.ListLaws.{length_map as map_long}
use Rattle.lists.specs.laws.ReadLaws.{got_push, get_front, get_here}
use Rattle.net_core.specs.Inside.{IsNetName}
use Rattle.net_core.specs.NetList.{LabelValue, NetList, nets, number_from, number_of, with_name, with_label}
use Rattle.net_core.proofs.NameLemmas.{number_below, number_new}
use Rattle.make_nets.specs.MadeNet.{named, outer_net}
use Rattle.make_nets.specs.MakerNames.{AreMade, AreMakerNames, IsMakerName}

pub is_net_name : (name : List ℕ) → IsMakerName name → IsNetName name
is_net_name name is = (is.some, omega (arith, is.most))

-- a name that is found stands among the names
pub found_has : (n : ℕ) (ns : List (List ℕ)) (name : List ℕ) (k : ℕ) → number_from n (map named ns) name ≡ Some k → Has ns name
found_has n [] name k found = absurd (cc)
found_has n (x ∷ ns) name k found =
    elim (bytes_eq name x) as (λ b. bytes_eq name x ≡ b → cond (true && b) (Some n) (number_from (n + 1) (map named ns) name) ≡ Some k → Has (x ∷ ns) name) [
      | true ↦ λ e f. (0, ap Some (sym ((bytes_eq-Decides name x).0 e)))
      | false ↦ λ e f. (let rest = found_has (n + 1) ns name k f in (suc rest.0, rest.1))
    ] refl found

-- a name that stands there is found
pub has_found : (n : ℕ) (ns : List (List ℕ)) (name : List ℕ) → Has ns name → number_from n (map named ns) name ≡ None → ⊥
has_found n [] name has none = absurd (let got = has.1 in cc)
has_found n (x ∷ ns) name (k, got) none =
    elim (bytes_eq name x) as (λ b. bytes_eq name x ≡ b → cond (true && b) (Some n) (number_from (n + 1) (map named ns) name) ≡ None → ⊥) [
      | true ↦ λ e f. absurd (cc)
      | false ↦ λ e f. has_found (n + 1) ns name (later k got e) f
    ] refl none
  where
    later : (k : ℕ) → slice_get (x ∷ ns) k ≡ Some name → bytes_eq name x ≡ false → Has ns name
    later zero got e = let same : x ≡ name = cc in let hit : bytes_eq name x ≡ true = (bytes_eq-Decides name x).1 (sym same) in absurd (cc)
    later (suc k) got e = (k, got)

-- fewer names
pub names_front : (xs ys : List (List ℕ)) → AreMakerNames (xs ++ ys) → AreMakerNames xs
names_front xs ys are = record {
  each = λ name has. are.each name (Has_left xs ys name has);
  apart = λ i j name first second. are.apart i j name (get_front xs ys i name first) (get_front xs ys j name second);
}

-- one name more
pub names_more : (ns : List (List ℕ)) (name : List ℕ) → AreMakerNames ns → IsMakerName name → (Has ns name → ⊥) → AreMakerNames (ns ++ name ∷ [])
names_more ns name are is other = record {
  each = λ x has. elim (got_push ns name has.0 x has.1) [
    | inl w ↦ are.each x (has.0, w.0)
    | inr w ↦ let P : List ℕ → Type 0 = λ y. IsMakerName y in subst P (sym w.1) is
  ];
  apart = λ i j x first second. elim (got_push ns name i x first) [
    | inl v ↦ elim (got_push ns name j x second) [
      | inl w ↦ are.apart i j x v.0 w.0
      | inr w ↦ let P : List ℕ → Type 0 = λ y. Has ns y in absurd (other (subst P w.1 (i, v.0)))
    ]
    | inr v ↦ elim (got_push ns name j x second) [
      | inl w ↦ let P : List ℕ → Type 0 = λ y. Has ns y in absurd (other (subst P v.1 (j, w.0)))
      | inr w ↦ omega (arith, v.0, w.0)
    ]
  ];
}

-- the last of such names is one, and none of those before
pub names_last : (ns : List (List ℕ)) (name : List ℕ) → AreMakerNames (ns ++ name ∷ []) → IsMakerName name × (Has ns name → ⊥)
names_last ns name are = (
  are.each name (length ns, get_here ns name []),
  λ has. omega (arith, are.apart has.0 (length ns) name (get_front ns (name ∷ []) has.0 name has.1) (get_here ns name []), below ns has.0 name has.1),
)
  where
    below : (xs : List (List ℕ)) (k : ℕ) (x : List ℕ) → slice_get xs k ≡ Some x → k < length xs
    below [] k x got = absurd (cc)
    below (y ∷ xs) zero x got = omega arith
    below (y ∷ xs) (suc k) x got = omega (arith, below xs k x got)

outer_more : (ns : List (List ℕ)) (name : List ℕ) → with_label (outer_net ns) name true ≡ outer_net (ns ++ name ∷ [])
outer_more ns name = ap (λ (labels : List LabelValue). record (outer_net []) { labels = labels }) (sym (map-append named ns (name ∷ [])))

-- a net was made of a name that was new, and none of one that was not
pub named_once : (ns : List (List ℕ)) (old new : NetList) (name : List ℕ) (count number : ℕ) → AreMade ns old true → length ns ≡ count → IsMakerName name → new ≡ with_name old name → number_of new name ≡ Some number → AreMade (ns ++ name ∷ []) new (number == count)
named_once ns old new name count number (was, are) long is made found = by (number_of (outer_net ns) name) refl
  where
    there : new ≡ with_name (outer_net ns) name
    there = made ∙ ap (λ (n : NetList). with_name n name) was

    by : (at : Option ℕ) → number_of (outer_net ns) name ≡ at → AreMade (ns ++ name ∷ []) new (number == count)
    by None none =
        let with : with_name (outer_net ns) name ≡ outer_net (ns ++ name ∷ []) = ap (λ (o : Option ℕ). cond (is_some o) (outer_net ns) (with_label (outer_net ns) name true)) none ∙ outer_more ns name in
        let all : new ≡ outer_net (ns ++ name ∷ []) = there ∙ with in
        let fresh : number_from 0 (map named ns ++ named name ∷ []) name ≡ Some (0 + length (map named ns)) = number_new 0 (map named ns) (named name) name none ((bytes_eq-Decides name name).1 refl) in
        let last : number_of new name ≡ Some (0 + length (map named ns)) = ap (λ (n : NetList). number_of n name) (there ∙ ap (λ (o : Option ℕ). cond (is_some o) (outer_net ns) (with_label (outer_net ns) name true)) none) ∙ fresh in
        let same : Some number ≡ Some (0 + length (map named ns)) = sym found ∙ last in
        let place : number ≡ 0 + length (map named ns) = cc in
        let P : Bool → Type 0 = λ b. AreMade (ns ++ name ∷ []) new b in
        subst P (sym (eq-eqb number count (omega (arith, place, map_long named ns, long)))) (all, names_more ns name are is (λ has. has_found 0 ns name has none))
    by (Some k) hit =
        let kept : new ≡ outer_net ns = there ∙ ap (λ (o : Option ℕ). cond (is_some o) (outer_net ns) (with_label (outer_net ns) name true)) hit in
        let same : Some number ≡ Some k = sym found ∙ (ap (λ (n : NetList). number_of n name) kept ∙ hit) in
        let place : number ≡ k = cc in
        let low : k < 0 + length (map named ns) = number_below 0 (map named ns) name k hit in
        let P : Bool → Type 0 = λ b. AreMade (ns ++ name ∷ []) new b in
        subst P (sym (ne_eqb number count (λ e. omega (arith, e, place, low, map_long named ns, long)))) (λ all. (names_last ns name all).1 (found_has 0 ns name k hit))

-- the number of names is that of nets
pub same_count : (ns ms : List (List ℕ)) (maker : NetList) → maker ≡ outer_net ns → maker ≡ outer_net ms → length ns ≡ length ms
same_count ns ms maker one two = omega (arith, ap nets one, ap nets two, map_long named ns, map_long named ms)

-- where some of the names could not be made, all are not such names
pub refuse_all : (front more all : List (List ℕ)) (maker : NetList) (b : Bool) → AreMade front maker b → b ≡ false → all ≡ front ++ more → AreMakerNames all → ⊥
refuse_all front more all maker true made is same are = absurd (cc)
refuse_all front more all maker false made is same are = let P : List (List ℕ) → Type 0 = λ x. AreMakerNames x in made (names_front front more (subst P same are))

pub not_made : (ns : List (List ℕ)) (maker : NetList) (b : Bool) → AreMade ns maker b → b ≡ false → AreMakerNames ns → ⊥
not_made ns maker true made is are = absurd (cc)
not_made ns maker false made is are = made are

-- where they could, they were
pub made_with : (ns : List (List ℕ)) (maker : NetList) (b : Bool) → AreMade ns maker b → b ≡ true → AreMade ns maker true
made_with ns maker true made is = made
made_with ns maker false made is = absurd (cc)
