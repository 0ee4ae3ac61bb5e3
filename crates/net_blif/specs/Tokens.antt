-- Tokens that stand one after another in one text, by the places where they begin and end. Source: this project's own.
use Rattle.std.specs.Prelude.{ℕ, ◌≤◌, List, slice_range, map, All}
use Rattle.net_blif.specs.Statement.{Token}
use Rattle.net_blif.specs.declared.token_list.Span.{Span}

-- the bytes of a text from a start and before an end
abbrev pub token_at : List ℕ → Span → Token
token_at text span = slice_range text span.start span.end

abbrev pub tokens_at : List ℕ → List Span → List Token
tokens_at text spans = map (token_at text) spans

-- the end is not before the start, and at most at n
abbrev pub IsSpan : ℕ → Span → Type 0
IsSpan n span = (span.start ≤ span.end) × (span.end ≤ n)

abbrev pub AreSpans : ℕ → List Span → Type 0
AreSpans n spans = All (IsSpan n) spans
