use Rattle.std.proofs.Common.{◌≡◌, ◌<◌, ◌+◌, ◌-◌, ℕ, List, length, get_or, take, drop, sym, ◌∙◌, ap, arith}
use Rattle.std.proofs.lemmas.List.{take_rest}
use Rattle.rato_reduce.proofs.UnitedLemmas.{at_end, front_stays, is_put, is_there, not_shorter}
use Rattle.rato_reduce.proofs.united.add_rank.Goals as goal

pub returns-then-at-len-clause-front : goal.returns-then-at-len-clause-front
returns-then-at-len-clause-front c =
    let xs : List ℕ = c.args.list.now.items in
    let start = c.args.start in
    let all : c.as_slice.result.now ≡ xs = c.as_slice.ensures.value in
    let rest : List ℕ = take (length c.as_slice.result.now - start) (drop start c.as_slice.result.now) in
    let same : rest ≡ drop start xs = take_rest c.as_slice.result.now start ∙ ap (drop start) all in
    let place = c.place_of.result in
    let near = c.place_of.ensures.within in
    let end : start + place ≡ length xs = omega (arith, c.len.ensures, c.if-at-len.true, c.args.list.now.ok.0) in
    let put = c.in_ok-push.ensures.items ∙ at_end xs rest start place c.args.rank c.requires same near end in
    front_stays xs rest start place c.args.rank c.requires same near c.push.new.self.items put

pub returns-then-at-len-clause-long : goal.returns-then-at-len-clause-long
returns-then-at-len-clause-long c =
    let xs : List ℕ = c.args.list.now.items in
    let start = c.args.start in
    let all : c.as_slice.result.now ≡ xs = c.as_slice.ensures.value in
    let rest : List ℕ = take (length c.as_slice.result.now - start) (drop start c.as_slice.result.now) in
    let same : rest ≡ drop start xs = take_rest c.as_slice.result.now start ∙ ap (drop start) all in
    let place = c.place_of.result in
    let near = c.place_of.ensures.within in
    let end : start + place ≡ length xs = omega (arith, c.len.ensures, c.if-at-len.true, c.args.list.now.ok.0) in
    let put = c.in_ok-push.ensures.items ∙ at_end xs rest start place c.args.rank c.requires same near end in
    not_shorter xs rest start place c.args.rank c.requires same near c.push.new.self.items put

pub returns-then-at-len-clause-with : goal.returns-then-at-len-clause-with
returns-then-at-len-clause-with c =
    let xs : List ℕ = c.args.list.now.items in
    let start = c.args.start in
    let all : c.as_slice.result.now ≡ xs = c.as_slice.ensures.value in
    let rest : List ℕ = take (length c.as_slice.result.now - start) (drop start c.as_slice.result.now) in
    let same : rest ≡ drop start xs = take_rest c.as_slice.result.now start ∙ ap (drop start) all in
    let place = c.place_of.result in
    let near = c.place_of.ensures.within in
    let end : start + place ≡ length xs = omega (arith, c.len.ensures, c.if-at-len.true, c.args.list.now.ok.0) in
    let put = c.in_ok-push.ensures.items ∙ at_end xs rest start place c.args.rank c.requires same near end in
    is_put xs rest start place c.args.rank c.requires same near c.place_of.ensures.place c.push.new.self.items put c.place_of.ensures.stop (λ less _. omega (arith, less, end))

pub returns-then-here-rank-clause-with : goal.returns-then-here-rank-clause-with
returns-then-here-rank-clause-with c =
    let xs : List ℕ = c.args.list.now.items in
    let start = c.args.start in
    let all : c.as_slice.result.now ≡ xs = c.as_slice.ensures.value in
    let rest : List ℕ = take (length c.as_slice.result.now - start) (drop start c.as_slice.result.now) in
    let same : rest ≡ drop start xs = take_rest c.as_slice.result.now start ∙ ap (drop start) all in
    let place = c.place_of.result in
    let near = c.place_of.ensures.within in
    let less : start + place < length xs = omega (arith, c.len.ensures, c.if-at-len.false, c.args.list.now.ok.0) in
    is_there xs rest start place c.args.rank c.requires same near c.place_of.ensures.place less (ap (λ (ys : List ℕ). get_or ys (start + place) 0) (sym c.as_slice-2.ensures.value) ∙ c.if-here-rank.true)

pub returns-clause-front : goal.returns-clause-front
returns-clause-front c =
    let xs : List ℕ = c.args.list.now.items in
    let start = c.args.start in
    let all : c.as_slice.result.now ≡ xs = c.as_slice.ensures.value in
    let rest : List ℕ = take (length c.as_slice.result.now - start) (drop start c.as_slice.result.now) in
    let same : rest ≡ drop start xs = take_rest c.as_slice.result.now start ∙ ap (drop start) all in
    let place = c.place_of.result in
    let near = c.place_of.ensures.within in
    let put = c.in_ok-insert.ensures.items in
    front_stays xs rest start place c.args.rank c.requires same near c.insert.new.self.items put

pub returns-clause-long : goal.returns-clause-long
returns-clause-long c =
    let xs : List ℕ = c.args.list.now.items in
    let start = c.args.start in
    let all : c.as_slice.result.now ≡ xs = c.as_slice.ensures.value in
    let rest : List ℕ = take (length c.as_slice.result.now - start) (drop start c.as_slice.result.now) in
    let same : rest ≡ drop start xs = take_rest c.as_slice.result.now start ∙ ap (drop start) all in
    let place = c.place_of.result in
    let near = c.place_of.ensures.within in
    let put = c.in_ok-insert.ensures.items in
    not_shorter xs rest start place c.args.rank c.requires same near c.insert.new.self.items put

pub returns-clause-with : goal.returns-clause-with
returns-clause-with c =
    let xs : List ℕ = c.args.list.now.items in
    let start = c.args.start in
    let all : c.as_slice.result.now ≡ xs = c.as_slice.ensures.value in
    let rest : List ℕ = take (length c.as_slice.result.now - start) (drop start c.as_slice.result.now) in
    let same : rest ≡ drop start xs = take_rest c.as_slice.result.now start ∙ ap (drop start) all in
    let place = c.place_of.result in
    let near = c.place_of.ensures.within in
    let put = c.in_ok-insert.ensures.items in
    is_put xs rest start place c.args.rank c.requires same near c.place_of.ensures.place c.insert.new.self.items put c.place_of.ensures.stop (λ _ found. c.if-here-rank.false (ap (λ (ys : List ℕ). get_or ys (start + place) 0) c.as_slice-2.ensures.value ∙ found))
