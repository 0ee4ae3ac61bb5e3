-- Rows: where their bits stand, and how equal terms of them are added up.
use Rattle.std.proofs.Common.{◌≡◌, ℕ, zero, suc, ◌+◌, ◌-◌, ◌<◌, ◌≤◌, ◌==◌, Bool, true, false, cond, not, List, [], ◌∷◌, ◌++◌, length, get_or, take, drop, drop_of_length-le, Some, inl, inr, bit_xor, refl, sym, ◌∙◌, ap, subst, arith}
use Rattle.std.specs.Prelude.{slice_get, slice_set}
use Rattle.std.specs.List.{AllByRecursion, filter}
use Rattle.std.proofs.lemmas.Bool.{cases_order}
use Rattle.std.proofs.lemmas.List.{take-append-le, drop-append-le, drop_more, take_all, length-drop, length-append, map-append}
use Rattle.lists.specs.laws.ListLaws.{all_append}
use Rattle.lists.specs.laws.OptionLaws.{same_some}
use Rattle.rato_reduce.specs.declared.row.Row.{Row}
use Rattle.rato_reduce.specs.private.CutTerms.{of_bits}
use Rattle.rato_reduce.specs.private.Rows.{bits_at, line_at, lines_of, AddsAt, AreAddedUp, AreMerged, HaveSameBits, IsInside, IsLonger}
use Rattle.rato_reduce.proofs.AddedLemmas.{merged_each, merged_sums, moved, stays, AddsToTerm, AreSummed, HaveSameProduct}

-- ---- where bits stand

pub inside_more : (ranks more : List ℕ) (rows : List Row) → AllByRecursion (IsInside ranks) rows → AllByRecursion (IsInside (ranks ++ more)) rows
inside_more ranks more [] all = tt
inside_more ranks more (r ∷ rows) all = (record { ordered = all.0.ordered; inside = omega (arith, all.0.inside, length-append ranks more) }, inside_more ranks more rows all.1)

bits_more : (ranks more : List ℕ) (row : Row) → IsInside ranks row → bits_at (ranks ++ more) row ≡ bits_at ranks row
bits_more ranks more row is =
    let low : row.start ≤ length ranks = omega (arith, is.ordered, is.inside) in
    let fits : row.stop - row.start ≤ length (drop row.start ranks) = omega (arith, is.ordered, is.inside, length-drop row.start ranks) in
    ap (take (row.stop - row.start)) (drop-append-le row.start ranks more low) ∙ take-append-le (row.stop - row.start) (drop row.start ranks) more fits

pub lines_more : (ranks more : List ℕ) (rows : List Row) → AllByRecursion (IsInside ranks) rows → lines_of (ranks ++ more) rows ≡ lines_of ranks rows
lines_more ranks more [] all = refl
lines_more ranks more (r ∷ rows) all = λ i. (of_bits (bits_more ranks more r all.0 i), r.coefficient) ∷ lines_more ranks more rows all.1 i

-- the rows of a list with more behind it
pub inside_longer : (old new : List ℕ) (rows : List Row) → IsLonger old new → AllByRecursion (IsInside old) rows → AllByRecursion (IsInside new) rows
inside_longer old new rows longer all = let P : List ℕ → Type 0 = λ ranks. AllByRecursion (IsInside ranks) rows in subst P (sym longer.is) (inside_more old longer.more rows all)

pub lines_longer : (old new : List ℕ) (rows : List Row) → IsLonger old new → AllByRecursion (IsInside old) rows → lines_of new rows ≡ lines_of old rows
lines_longer old new rows longer all = ap (λ (ranks : List ℕ). lines_of ranks rows) longer.is ∙ lines_more old longer.more rows all

new_bits : (ranks more : List ℕ) (row : Row) → row.start ≡ length ranks → row.stop ≡ length (ranks ++ more) → bits_at (ranks ++ more) row ≡ more
new_bits ranks more row start stop =
    let low : row.start ≤ length ranks = omega (arith, start) in
    let after : drop row.start (ranks ++ more) ≡ more = drop-append-le row.start ranks more low ∙ ap (λ n. drop n ranks ++ more) start ∙ ap (λ xs. xs ++ more) (drop_of_length-le ranks {i = length ranks} (omega arith)) in
    let long : length more ≤ row.stop - row.start = omega (arith, start, stop, length-append ranks more) in
    ap (take (row.stop - row.start)) after ∙ take_all (row.stop - row.start) more long

-- one term more
pub lines_pushed : (ranks more : List ℕ) (rows : List Row) (row : Row) → AllByRecursion (IsInside ranks) rows → row.start ≡ length ranks → row.stop ≡ length (ranks ++ more)
    → lines_of (ranks ++ more) (rows ++ row ∷ []) ≡ lines_of ranks rows ++ (of_bits more, row.coefficient) ∷ []
lines_pushed ranks more rows row all start stop =
    map-append (line_at (ranks ++ more)) rows (row ∷ [])
    ∙ (λ i. lines_more ranks more rows all i ++ (of_bits (new_bits ranks more row start stop i), row.coefficient) ∷ [])

pub inside_pushed : (ranks more : List ℕ) (rows : List Row) (row : Row) → AllByRecursion (IsInside ranks) rows → row.start ≡ length ranks → row.stop ≡ length (ranks ++ more)
    → AllByRecursion (IsInside (ranks ++ more)) (rows ++ row ∷ [])
inside_pushed ranks more rows row all start stop =
    all_append (IsInside (ranks ++ more)) rows (row ∷ []) (inside_more ranks more rows all)
    (record { ordered = omega (arith, start, stop, length-append ranks more); inside = omega (arith, stop) }, tt)

-- the first of the rows that are left
abbrev pub no_row : Row
no_row = record { start = 0; stop = 0; hash = 0; coefficient = 0 }

pub next_line : (ranks : List ℕ) (rows : List Row) (i : ℕ) → i < length rows → lines_of ranks (drop i rows) ≡ line_at ranks (get_or rows i no_row) ∷ lines_of ranks (drop (i + 1) rows)
next_line ranks rows i less = ap (lines_of ranks) (drop_more rows i no_row less)

-- bits that end behind the list end with it
ends_clipped : (ranks : List ℕ) (row : Row) (stop : ℕ) → (row.stop ≤ length ranks → stop ≡ row.stop) → (length ranks ≤ row.stop → stop ≡ length ranks) → take (stop - row.start) (drop row.start ranks) ≡ bits_at ranks row
ends_clipped ranks row stop within past =
    elim (cases_order row.stop (length ranks)) [
      | inl same ↦ ap (λ n. take (n - row.start) (drop row.start ranks)) (within (omega (arith, same)))
      | inr less ↦ elim less [
        | inl before ↦ ap (λ n. take (n - row.start) (drop row.start ranks)) (within (omega (arith, before)))
        | inr after ↦
            (let end : stop ≡ length ranks = past (omega (arith, after)) in
            let long = length-drop row.start ranks in
            take_all (stop - row.start) (drop row.start ranks) (omega (arith, end, long)) ∙ sym (take_all (row.stop - row.start) (drop row.start ranks) (omega (arith, after, long))))
      ]
    ]

-- bits that begin behind their end are none
none_behind : (ranks : List ℕ) (row : Row) (start stop : ℕ) → (row.stop ≤ length ranks → stop ≡ row.stop) → (length ranks ≤ row.stop → stop ≡ length ranks) → start ≡ stop → stop ≤ row.start → take (stop - start) (drop start ranks) ≡ bits_at ranks row
none_behind ranks row start stop within past is low =
    let nothing : stop - start ≡ 0 = omega (arith, is) in
    ap (λ n. take n (drop start ranks)) nothing ∙
    elim (cases_order row.stop (length ranks)) [
      | inl same ↦ (let end : stop ≡ row.stop = within (omega (arith, same)) in let rest : 0 ≡ row.stop - row.start = omega (arith, end, low) in ap (λ n. take n (drop row.start ranks)) rest)
      | inr less ↦ elim less [
        | inl before ↦ (let end : stop ≡ row.stop = within (omega (arith, before)) in let rest : 0 ≡ row.stop - row.start = omega (arith, end, low) in ap (λ n. take n (drop row.start ranks)) rest)
        | inr after ↦
            (let end : stop ≡ length ranks = past (omega (arith, after)) in
            let none : drop row.start ranks ≡ [] = drop_of_length-le ranks {i = row.start} (omega (arith, end, low)) in
            sym (ap (take (row.stop - row.start)) none ∙ take_all (row.stop - row.start) [] (omega arith)))
      ]
    ]

pub bits_clipped : (ranks : List ℕ) (row : Row) (start stop : ℕ) → (row.stop ≤ length ranks → stop ≡ row.stop) → (length ranks ≤ row.stop → stop ≡ length ranks)
    → (row.start ≤ stop → start ≡ row.start) → (stop ≤ row.start → start ≡ stop) → take (stop - start) (drop start ranks) ≡ bits_at ranks row
bits_clipped ranks row start stop within past early late =
    elim (cases_order row.start stop) [
      | inl same ↦ ap (λ n. take (stop - n) (drop n ranks)) (early (omega (arith, same))) ∙ ends_clipped ranks row stop within past
      | inr less ↦ elim less [
        | inl before ↦ ap (λ n. take (stop - n) (drop n ranks)) (early (omega (arith, before))) ∙ ends_clipped ranks row stop within past
        | inr after ↦ none_behind ranks row start stop within past (late (omega (arith, after))) (omega (arith, after))
      ]
    ]

-- ---- rows as terms

line_got : (ranks : List ℕ) (rows : List Row) (i : ℕ) (row : Row) → slice_get rows i ≡ Some row → slice_get (lines_of ranks rows) i ≡ Some (line_at ranks row)
line_got ranks [] i row got = absurd (cc)
line_got ranks (r ∷ rows) zero row got = ap (λ x. Some (line_at ranks x)) (same_some r row got)
line_got ranks (r ∷ rows) (suc i) row got = line_got ranks rows i row got

line_set : (ranks : List ℕ) (rows : List Row) (i : ℕ) (row : Row) → lines_of ranks (slice_set rows i row) ≡ slice_set (lines_of ranks rows) i (line_at ranks row)
line_set ranks [] i row = refl
line_set ranks (r ∷ rows) zero row = refl
line_set ranks (r ∷ rows) (suc i) row = ap (λ ts. line_at ranks r ∷ ts) (line_set ranks rows i row)

adds_line : (ranks : List ℕ) (old new : List Row) (i c : ℕ) → AddsAt old new i c → AddsToTerm (lines_of ranks old) (lines_of ranks new) i c
adds_line ranks old new i c adds =
    let row : Row = adds.row in
    record {
      term = line_at ranks row;
      got = line_got ranks old i row adds.got;
      set = ap (lines_of ranks) adds.set ∙ line_set ranks old i (record { start = row.start; stop = row.stop; hash = row.hash; coefficient = bit_xor row.coefficient c });
    }

-- ---- the rows stay inside

all_set : (P : Row → Type 0) (rows : List Row) (i : ℕ) (new : Row) → AllByRecursion P rows → P new → AllByRecursion P (slice_set rows i new)
all_set P [] i new all one = tt
all_set P (r ∷ rows) zero new all one = (one, all.1)
all_set P (r ∷ rows) (suc i) new all one = (all.0, all_set P rows i new all.1 one)

all_got : (P : Row → Type 0) (rows : List Row) (i : ℕ) (row : Row) → AllByRecursion P rows → slice_get rows i ≡ Some row → P row
all_got P [] i row all got = absurd (cc)
all_got P (r ∷ rows) zero row all got = subst P (same_some r row got) all.0
all_got P (r ∷ rows) (suc i) row all got = all_got P rows i row all.1 got

adds_inside : (ranks : List ℕ) (old new : List Row) (i c : ℕ) → AddsAt old new i c → AllByRecursion (IsInside ranks) old → AllByRecursion (IsInside ranks) new
adds_inside ranks old new i c adds all =
    let P : List Row → Type 0 = AllByRecursion (IsInside ranks) in
    let row : Row = adds.row in
    let is : IsInside ranks row = all_got (IsInside ranks) old i row all adds.got in
    subst P (sym adds.set) (all_set (IsInside ranks) old i (record { start = row.start; stop = row.stop; hash = row.hash; coefficient = bit_xor row.coefficient c }) all (record { ordered = is.ordered; inside = is.inside }))

-- ---- rows that are added up

-- the coefficient of one row was added to it, and to one of the same bits
pub moved_rows : (ranks : List ℕ) (old mid new : List Row) (to from c : ℕ) → HaveSameBits ranks old to from → AddsAt old mid from c → AddsAt mid new to c → AreAddedUp ranks old new
moved_rows ranks old mid new to from c has first second =
    let product : HaveSameProduct (lines_of ranks old) to from =
    record {
      one = line_at ranks has.one;
      other = line_at ranks has.other;
      got_one = line_got ranks old to has.one has.got_one;
      got_other = line_got ranks old from has.other has.got_other;
      same = ap of_bits has.same;
    } in
    let made = moved (lines_of ranks old) (lines_of ranks mid) (lines_of ranks new) to from c product (adds_line ranks old mid from c first) (adds_line ranks mid new to c second) in
    record {
      sums = made.sums;
      each = made.each;
      inside = λ all. adds_inside ranks mid new to c second (adds_inside ranks old mid from c first all);
    }

pub added_more : (ranks : List ℕ) (old mid new : List Row) → AreAddedUp ranks old mid → AreAddedUp ranks mid new → AreAddedUp ranks old new
added_more ranks old mid new one two = record {
  sums = λ q. two.sums q ∙ one.sums q;
  each = λ places level all. two.each places level (one.each places level all);
  inside = λ all. two.inside (one.inside all);
}

-- ---- without zeros

abbrev pub row_stays : Row → Bool
row_stays r = not (r.coefficient == 0)

lines_stay : (ranks : List ℕ) (rows : List Row) → lines_of ranks (filter row_stays rows) ≡ filter stays (lines_of ranks rows)
lines_stay ranks [] = refl
lines_stay ranks (r ∷ rows) =
    elim (r.coefficient == 0) as (λ b. lines_of ranks (cond (not b) (r ∷ filter row_stays rows) (filter row_stays rows)) ≡ cond (not b) (line_at ranks r ∷ filter stays (lines_of ranks rows)) (filter stays (lines_of ranks rows))) [
      | true ↦ lines_stay ranks rows
      | false ↦ ap (λ ts. line_at ranks r ∷ ts) (lines_stay ranks rows)
    ]

all_stay : (P : Row → Type 0) (rows : List Row) → AllByRecursion P rows → AllByRecursion P (filter row_stays rows)
all_stay P [] all = tt
all_stay P (r ∷ rows) all = elim (r.coefficient == 0) as (λ b. AllByRecursion P (cond (not b) (r ∷ filter row_stays rows) (filter row_stays rows))) [
  | true ↦ all_stay P rows all.1
  | false ↦ (all.0, all_stay P rows all.1)
]

module _ (ranks : List ℕ) (old mid new : List Row) (added : AreAddedUp ranks old mid) (kept : new ≡ filter row_stays mid) where
  summed : AreSummed (lines_of ranks old) (lines_of ranks mid)
  summed = record { sums = added.sums; each = added.each }

  as_lines : lines_of ranks new ≡ filter stays (lines_of ranks mid)
  as_lines = ap (lines_of ranks) kept ∙ lines_stay ranks mid

  pub merged_rows : AreMerged ranks old new
  merged_rows =
      let P : List Row → Type 0 = AllByRecursion (IsInside ranks) in
      record {
        sums = merged_sums (lines_of ranks old) (lines_of ranks mid) (lines_of ranks new) summed as_lines;
        each = λ places level all. merged_each (lines_of ranks old) (lines_of ranks mid) (lines_of ranks new) places level summed as_lines all;
        inside = λ all. subst P (sym kept) (all_stay (IsInside ranks) mid (added.inside all));
      }
