use Rattle.std.proofs.Common.{ℕ, List, [], ◌++◌, append-nil, sym, ◌∙◌, ap, subst}
use Rattle.std.proofs.lemmas.List.{take_rest}
use Rattle.rato_reduce.specs.private.LowBits.{AddsLow}
use Rattle.rato_reduce.proofs.LowLemmas.{adds_longer, longer_more, one_united}
use Rattle.rato_reduce.proofs.united.add_with_one.Goals as goal

pub returns-in_err-reserve-clause-longer : goal.returns-in_err-reserve-clause-longer
returns-in_err-reserve-clause-longer c = record { more = []; is = c.reserve.ensures.items ∙ sym (append-nil c.args.list.now.items) }

pub returns-in_err-add_bits-clause-longer : goal.returns-in_err-add_bits-clause-longer
returns-in_err-add_bits-clause-longer c =
    let old : List ℕ = c.args.list.now.items in
    let front : List ℕ = c.args.term.now.front.now in
    let at = c.add_low-at.result.0 in
    let mid : List ℕ = c.add_low-at.new.list.items in
    let P : List ℕ → Type 0 = λ xs. AddsLow front 0 at c.args.rank xs mid in
    longer_more old mid c.add_bits.new.list.items (adds_longer front 0 at c.args.rank old mid (subst P c.reserve.ensures.items c.add_low-at.ensures.added)) c.add_bits.ensures.longer

pub returns-clause-added : goal.returns-clause-added
returns-clause-added c =
    let old : List ℕ = c.args.list.now.items in
    let front : List ℕ = c.args.term.now.front.now in
    let back : List ℕ = c.args.term.now.back.now in
    let at = c.add_low-at.result.0 in
    let mid : List ℕ = c.add_low-at.new.list.items in
    let P : List ℕ → Type 0 = λ xs. AddsLow front 0 at c.args.rank xs mid in
    let end = c.in_ok-add_bits.ensures.added ∙ ap (λ (rs : List ℕ). mid ++ (rs ++ back)) (take_rest front at) in
    one_united front back 0 at c.args.rank old mid c.add_bits.new.list.items (subst P c.reserve.ensures.items c.add_low-at.ensures.added) c.requires end

pub returns-clause-longer : goal.returns-clause-longer
returns-clause-longer c =
    let old : List ℕ = c.args.list.now.items in
    let front : List ℕ = c.args.term.now.front.now in
    let at = c.add_low-at.result.0 in
    let mid : List ℕ = c.add_low-at.new.list.items in
    let P : List ℕ → Type 0 = λ xs. AddsLow front 0 at c.args.rank xs mid in
    longer_more old mid c.add_bits.new.list.items (adds_longer front 0 at c.args.rank old mid (subst P c.reserve.ensures.items c.add_low-at.ensures.added)) c.add_bits.ensures.longer
