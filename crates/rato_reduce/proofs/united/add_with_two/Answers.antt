use Rattle.std.proofs.Common.{ℕ, List, [], ◌++◌, append-nil, sym, ◌∙◌, ap, subst, arith}
use Rattle.std.proofs.lemmas.List.{take_rest}
use Rattle.rato_reduce.specs.private.LowBits.{AddsLow}
use Rattle.rato_reduce.proofs.LowLemmas.{adds_longer, longer_more, two_united}
use Rattle.rato_reduce.proofs.united.add_with_two.Goals as goal

pub add_low-at-requires-clause-room : goal.add_low-at-requires-clause-room
add_low-at-requires-clause-room c = omega (arith, c.in_ok-reserve.ensures.ok, c.add_low-middle.ensures.few, c.add_low-middle.ensures.room)

pub returns-in_err-reserve-clause-longer : goal.returns-in_err-reserve-clause-longer
returns-in_err-reserve-clause-longer c = record { more = []; is = c.reserve.ensures.items ∙ sym (append-nil c.args.list.now.items) }

pub returns-in_err-add_bits-clause-longer : goal.returns-in_err-add_bits-clause-longer
returns-in_err-add_bits-clause-longer c =
    let old : List ℕ = c.args.list.now.items in
    let front : List ℕ = c.args.term.now.front.now in
    let middle = c.add_low-middle.result.0 in
    let at = c.add_low-at.result.0 in
    let one : List ℕ = c.add_low-middle.new.list.items in
    let mid : List ℕ = c.add_low-at.new.list.items in
    let new : List ℕ = c.add_bits.new.list.items in
    let P : List ℕ → Type 0 = λ xs. AddsLow front 0 middle c.args.first xs one in
    longer_more old one new (adds_longer front 0 middle c.args.first old one (subst P c.reserve.ensures.items c.add_low-middle.ensures.added))
    (longer_more one mid new (adds_longer front middle at c.args.second one mid c.add_low-at.ensures.added) c.add_bits.ensures.longer)

pub returns-clause-added : goal.returns-clause-added
returns-clause-added c =
    let old : List ℕ = c.args.list.now.items in
    let front : List ℕ = c.args.term.now.front.now in
    let back : List ℕ = c.args.term.now.back.now in
    let middle = c.add_low-middle.result.0 in
    let at = c.add_low-at.result.0 in
    let one : List ℕ = c.add_low-middle.new.list.items in
    let mid : List ℕ = c.add_low-at.new.list.items in
    let P : List ℕ → Type 0 = λ xs. AddsLow front 0 middle c.args.first xs one in
    let end = c.in_ok-add_bits.ensures.added ∙ ap (λ (rs : List ℕ). mid ++ (rs ++ back)) (take_rest front at) in
    two_united front back middle at c.args.first c.args.second old one mid c.add_bits.new.list.items (subst P c.reserve.ensures.items c.add_low-middle.ensures.added) c.add_low-at.ensures.added c.requires.rising c.requires.before end

pub returns-clause-longer : goal.returns-clause-longer
returns-clause-longer c =
    let old : List ℕ = c.args.list.now.items in
    let front : List ℕ = c.args.term.now.front.now in
    let middle = c.add_low-middle.result.0 in
    let at = c.add_low-at.result.0 in
    let one : List ℕ = c.add_low-middle.new.list.items in
    let mid : List ℕ = c.add_low-at.new.list.items in
    let new : List ℕ = c.add_bits.new.list.items in
    let P : List ℕ → Type 0 = λ xs. AddsLow front 0 middle c.args.first xs one in
    longer_more old one new (adds_longer front 0 middle c.args.first old one (subst P c.reserve.ensures.items c.add_low-middle.ensures.added))
    (longer_more one mid new (adds_longer front middle at c.args.second one mid c.add_low-at.ensures.added) c.add_bits.ensures.longer)
