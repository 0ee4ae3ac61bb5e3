use Rattle.std.proofs.Common.{Result, Ok, Err, OnErr, ◌≡◌, ◌++◌, ℕ, List, length, bit_xor, ◌∙◌, ap, sym, subst, arith}
use Rattle.std.specs.List.{AllByRecursion}
use Rattle.poly_mixed.specs.Product.{union}
use Rattle.rato_reduce.specs.declared.row.Row.{Row}
use Rattle.rato_reduce.specs.private.Rows.{lines_of, term_bits, IsInside}
use Rattle.rato_reduce.proofs.RowLemmas.{inside_longer, inside_pushed, lines_longer, lines_pushed}
use Rattle.rato_reduce.proofs.bucket.push_row.Goals as goal

on_any_error : {A E P : Type 0} (r : Result A E) → P → OnErr r P
on_any_error (Ok a) p = tt
on_any_error (Err e) p = p

pub returns-in_err-added-clause-inside : goal.returns-in_err-added-clause-inside
returns-in_err-added-clause-inside c = inside_longer c.args.ranks.now.items c.add_union.new.list.items c.args.rows.now.items c.add_union.ensures.longer c.requires

pub returns-in_err-added-clause-kept : goal.returns-in_err-added-clause-kept
returns-in_err-added-clause-kept c =
    on_any_error c.from_residual.result
    (lines_longer c.args.ranks.now.items c.add_union.new.list.items c.args.rows.now.items c.add_union.ensures.longer c.requires)

pub returns-in_err-push-clause-inside : goal.returns-in_err-push-clause-inside
returns-in_err-push-clause-inside c =
    let P : List Row → Type 0 = AllByRecursion (IsInside c.add_union.new.list.items) in
    subst P (sym c.in_err-push.ensures.items) (inside_longer c.args.ranks.now.items c.add_union.new.list.items c.args.rows.now.items c.add_union.ensures.longer c.requires)

pub returns-in_err-push-clause-kept : goal.returns-in_err-push-clause-kept
returns-in_err-push-clause-kept c =
    on_any_error c.from_residual-in_err-push.result
    (ap (lines_of c.add_union.new.list.items) c.in_err-push.ensures.items ∙ lines_longer c.args.ranks.now.items c.add_union.new.list.items c.args.rows.now.items c.add_union.ensures.longer c.requires)

pub returns-clause-inside : goal.returns-clause-inside
returns-clause-inside c =
    let ranks : List ℕ = c.args.ranks.now.items in
    let bits : List ℕ = union (term_bits c.args.term.now) c.args.set.now in
    let row : Row = record { start = c.len-start.result; stop = c.len-stop.result; hash = bit_xor c.args.term.now.hash c.in_ok-added.added; coefficient = c.args.term.now.coefficient } in
    let start : row.start ≡ length ranks = omega (arith, c.len-start.ensures, c.args.ranks.now.ok.0) in
    let stop : row.stop ≡ length (ranks ++ bits) = omega (arith, c.len-stop.ensures, c.add_union.new.list.ok.0, ap length c.in_ok-added.ensures.added) in
    let P : List ℕ → Type 0 = λ rs. AllByRecursion (IsInside rs) c.push.new.self.items in
    let Q : List Row → Type 0 = AllByRecursion (IsInside (ranks ++ bits)) in
    subst P (sym c.in_ok-added.ensures.added) (subst Q (sym c.in_ok-push.ensures.items) (inside_pushed ranks bits c.args.rows.now.items row c.requires start stop))

pub returns-clause-pushed : goal.returns-clause-pushed
returns-clause-pushed c =
    let ranks : List ℕ = c.args.ranks.now.items in
    let bits : List ℕ = union (term_bits c.args.term.now) c.args.set.now in
    let row : Row = record { start = c.len-start.result; stop = c.len-stop.result; hash = bit_xor c.args.term.now.hash c.in_ok-added.added; coefficient = c.args.term.now.coefficient } in
    let start : row.start ≡ length ranks = omega (arith, c.len-start.ensures, c.args.ranks.now.ok.0) in
    let stop : row.stop ≡ length (ranks ++ bits) = omega (arith, c.len-stop.ensures, c.add_union.new.list.ok.0, ap length c.in_ok-added.ensures.added) in
    (λ i. lines_of (c.in_ok-added.ensures.added i) (c.in_ok-push.ensures.items i)) ∙ lines_pushed ranks bits c.args.rows.now.items row c.requires start stop
