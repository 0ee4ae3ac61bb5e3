-- Lists that stand one after another in one list, by the places where they begin and end. Source: this project's own.
use Rattle.std.specs.Prelude.{ℕ, ◌≤◌, ◌^◌, List, All, length, map, slice_range}
use Rattle.graph_core.specs.Graph.{Graph, IsInside}
use Rattle.graph_core.specs.declared.graph.Row.{Row}

abbrev pub row_in : List ℕ → Row → List ℕ
row_in heads row = slice_range heads row.start row.end

abbrev pub rows_in : List ℕ → List Row → Graph
rows_in heads rows = map (row_in heads) rows

-- the end is not before the start, and at most at n
abbrev pub IsRow : ℕ → Row → Type 0
IsRow n row = (row.start ≤ row.end) × (row.end ≤ n)

abbrev pub AreRows : ℕ → List Row → Type 0
AreRows n rows = All (IsRow n) rows

-- the rows are those of a graph, whose points fit a number of 32 bits
abbrev pub AreRowsOfGraph : List ℕ → List Row → Type 0
AreRowsOfGraph heads rows = AreRows (length heads) rows × IsInside (rows_in heads rows) × (length rows ≤ 2 ^ 32)
