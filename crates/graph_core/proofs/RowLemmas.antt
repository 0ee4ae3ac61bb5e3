-- Rows of a graph, which stand one after another in one list.
use Rattle.std.proofs.Common.{◌≡◌, ◌∙◌, ap, sym, refl, subst, ℕ, zero, suc, ◌+◌, ◌-◌, ◌<◌, ◌≤◌, ◌^◌, List, [], ◌∷◌, ◌++◌, length, length-set, take, drop, replicate, Option, Some, arith}
use Rattle.std.specs.Prelude.{slice_get, slice_range, unwrap_or, All}
use Rattle.std.proofs.Math.ListN.{set}
use Rattle.std.proofs.Math.Seq.{take-length, drop-append_seam}
use Rattle.std.proofs.lemmas.List.{drop-append-le, take-append-le, length-append, length-drop, length-replicate, map-set, take_all}
use Rattle.std.proofs.lemmas.List.Elements.{All-replicate, All-set}
use Rattle.lists.specs.laws.ReadLaws.{mapped_at}
use Rattle.graph_core.specs.Graph.{Graph, edges, IsInside}
use Rattle.graph_core.specs.Rows.{row_in, rows_in, AreRows, AreRowsOfGraph, IsRow}
use Rattle.graph_core.specs.declared.graph.Row.{Row}
use Rattle.graph_core.proofs.GraphLemmas.{inside_none, inside_set}

abbrev none : Row
none = record { start = 0; end = 0 }

-- a part of a list stays where the list grows
range_kept : (xs more : List ℕ) (from end : ℕ) → from ≤ end → end ≤ length xs → slice_range (xs ++ more) from end ≡ slice_range xs from end
range_kept xs more from end order within =
    let start : from ≤ length xs = omega (arith, order, within) in
    let room : end - from ≤ length (drop from xs) = omega (arith, length-drop from xs, order, within) in
    ap (take (end - from)) (drop-append-le from xs more start) ∙ take-append-le (end - from) (drop from xs) more room

-- what was appended last
range_new : (xs more : List ℕ) (from end : ℕ) → from ≡ length xs → end ≡ length xs + length more → slice_range (xs ++ more) from end ≡ more
range_new xs more from end is size =
    let count : end - from ≡ length more = omega (arith, is, size) in
    rw (count, is, drop-append_seam xs more) (take-length more)

rows_kept : (heads more : List ℕ) (rows : List Row) → AreRows (length heads) rows → rows_in (heads ++ more) rows ≡ rows_in heads rows
rows_kept heads more [] are = refl
rows_kept heads more (row ∷ rows) are =
    let first = are zero row (omega arith) in
    ap (λ (r : List ℕ). r ∷ rows_in (heads ++ more) rows) (range_kept heads more row.start row.end first.0 first.1) ∙ ap (λ (rs : Graph). row_in heads row ∷ rs) (rows_kept heads more rows (λ k d less. are (suc k) d (omega arith)))

pub rows_same : (heads more new : List ℕ) (rows : List Row) → AreRows (length heads) rows → new ≡ heads ++ more → rows_in new rows ≡ rows_in heads rows
rows_same heads more new rows are is = rw is (rows_kept heads more rows are)

-- the row of a point has its edges
pub row_edges : (heads : List ℕ) (rows : List Row) (graph : Graph) (a : ℕ) (row : Row) → rows_in heads rows ≡ graph → slice_get rows a ≡ Some row → row_in heads row ≡ edges graph a
row_edges heads rows graph a row same at =
    ap (λ (o : Option (List ℕ)). unwrap_or o []) (sym (mapped_at (row_in heads) rows a row at)) ∙ ap (λ (g : Graph). edges g a) same

-- the row of a point is within the list
pub row_within : (heads : List ℕ) (rows : List Row) (a : ℕ) (row : Row) → AreRows (length heads) rows → slice_get rows a ≡ Some row → IsRow (length heads) row
row_within heads [] a row are at = absurd (cc)
row_within heads (r ∷ rows) zero row are at =
    let same : r ≡ row = cc in
    let P : Row → Type 0 = IsRow (length heads) in
    subst P same (are zero r (omega arith))
row_within heads (r ∷ rows) (suc a) row are at = row_within heads rows a row (λ k d less. are (suc k) d (omega arith)) at

-- another row, whose points were appended
module _ (heads to new : List ℕ) (rows : List Row) (from : ℕ) (row : Row) (are : AreRows (length heads) rows) (is : new ≡ heads ++ to) (start : row.start ≡ length heads) (end : row.end ≡ length new) where
  long : length new ≡ length heads + length to
  long = ap length is ∙ length-append heads to

  pub rows_set : rows_in new (set rows from row) ≡ set (rows_in heads rows) from to
  rows_set =
      rw is (map-set (row_in (heads ++ to)) rows from row ∙ (ap (λ (rs : Graph). set rs from (row_in (heads ++ to) row)) (rows_kept heads to rows are) ∙ ap (λ (r : List ℕ). set (rows_in heads rows) from r) (range_new heads to row.start row.end start (end ∙ long))))

  are_set : AreRows (length new) (set rows from row)
  are_set = All-set (IsRow (length new)) rows from row (omega (arith, start, end, long), omega (arith, end)) (λ k d less. let h = are k d less in (h.0, omega (arith, h.1, long)))

  pub set_fits : (graph : Graph) → rows_in heads rows ≡ graph → from < length graph → All (λ a. a < length graph) to → IsInside (rows_in heads rows) × (length rows ≤ 2 ^ 32) → AreRowsOfGraph new (set rows from row)
  set_fits graph same less all fits =
      let P : Graph → Type 0 = λ g. (from < length g) × All (λ a. a < length g) to in
      let here : P (rows_in heads rows) = subst P (sym same) (less, all) in
      let Q : Graph → Type 0 = IsInside in
      (are_set, subst Q (sym rows_set) (inside_set (rows_in heads rows) from to here.0 here.1 fits.0), omega (arith, length-set rows from row, fits.1))

-- rows without points
no_rows : (n : ℕ) → rows_in [] (replicate n none) ≡ replicate n []
no_rows zero = refl
no_rows (suc n) = ap (λ (rs : Graph). [] ∷ rs) (no_rows n)

pub none_made : (heads : List ℕ) (rows : List Row) (n : ℕ) → heads ≡ [] → rows ≡ replicate n none → rows_in heads rows ≡ replicate n []
none_made heads rows n empty are = rw (empty, are) (no_rows n)

pub none_fits : (heads : List ℕ) (rows : List Row) (n : ℕ) → heads ≡ [] → rows ≡ replicate n none → n ≤ 2 ^ 32 → AreRowsOfGraph heads rows
none_fits heads rows n empty are few =
    let Q : Graph → Type 0 = IsInside in
    let within : IsRow 0 none = (omega arith, omega arith) in
    rw (empty, are) (All-replicate (IsRow 0) n none within, subst Q (sym (no_rows n)) (inside_none n), omega (arith, length-replicate {A = Row} n none, few))

-- a list that was empty and is filled up
pub filled : {A : Type 0} (old new : List A) (x : A) (n count : ℕ) → old ≡ [] → count ≡ 0 → new ≡ take n old ++ replicate (n - count) x → new ≡ replicate n x
filled old new x n count empty none is =
    let whole : n - count ≡ n = omega (arith, none) in
    is ∙ rw (empty, whole) (ap (λ ys. ys ++ replicate n x) (take_all n [] (omega arith)))
