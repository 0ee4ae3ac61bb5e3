use Rattle.std.proofs.Common.{◌≡◌, ℕ, List, length, take, drop, ◌∙◌, ap, arith}
use Rattle.std.proofs.lemmas.List.{length-append}
use Rattle.poly_mixed.specs.Product.{union}
use Rattle.rato_reduce.specs.private.Rows.{term_bits}
use Rattle.rato_reduce.proofs.UnitedLemmas.{united_is, united_more}
use Rattle.rato_reduce.proofs.united.add_set.Goals as goal

pub unite-requires : goal.unite-requires
unite-requires c = omega (arith, c.len-start.ensures, c.args.list.now.ok.0, ap length c.in_ok-add_bits.ensures.added, length-append c.args.list.now.items (term_bits c.args.term.now))

pub returns-clause-added : goal.returns-clause-added
returns-clause-added c =
    let old : List ℕ = c.args.list.now.items in
    let bits : List ℕ = term_bits c.args.term.now in
    let start = c.len-start.result in
    let mid = c.in_ok-add_bits.ensures.added in
    let first : start ≡ length old = omega (arith, c.len-start.ensures, c.args.list.now.ok.0) in
    united_is old bits c.unite.new.list.items start first (c.unite.ensures.front ∙ ap (take start) mid) c.args.set.now (c.in_ok-hash.ensures.united ∙ ap (λ (xs : List ℕ). union (drop start xs) c.args.set.now) mid)

pub returns-in_err-hash-clause-longer : goal.returns-in_err-hash-clause-longer
returns-in_err-hash-clause-longer c =
    let old : List ℕ = c.args.list.now.items in
    let first : c.len-start.result ≡ length old = omega (arith, c.len-start.ensures, c.args.list.now.ok.0) in
    united_more old (term_bits c.args.term.now) c.unite.new.list.items c.len-start.result first (c.unite.ensures.front ∙ ap (take c.len-start.result) c.in_ok-add_bits.ensures.added)

pub returns-clause-longer : goal.returns-clause-longer
returns-clause-longer c =
    let old : List ℕ = c.args.list.now.items in
    let first : c.len-start.result ≡ length old = omega (arith, c.len-start.ensures, c.args.list.now.ok.0) in
    united_more old (term_bits c.args.term.now) c.unite.new.list.items c.len-start.result first (c.unite.ensures.front ∙ ap (take c.len-start.result) c.in_ok-add_bits.ensures.added)
