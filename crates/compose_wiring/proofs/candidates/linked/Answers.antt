use Rattle.std.proofs.Common.{rules, ◌≡◌, ◌∙◌, ◌+◌, ◌-◌, ap, subst, ℕ, length, drop, set, arith}
use Rattle.net_blif.specs.Table.{numbers_in, with_number}
use Rattle.compose_wiring.specs.private.Linked.{first_from, its_key, LeadOn}
use Rattle.compose_wiring.proofs.LinkedLemmas.{linked_none, linked_step}
use Rattle.compose_wiring.proofs.candidates.linked.Goals as goal

pub loop-place-init : goal.loop-place-init
loop-place-init c =
    let count : c.in-Ok.count ≡ length c.args.list.now = search rules in
    let long : length c.in_ok-next.next.items ≡ length c.args.list.now = search rules in
    let made = linked_none c.args.list.now c.in-Ok.count c.in_ok-next.next.items count long in
    record { firsts = c.new-firsts.ensures ∙ made.0; leads = made.1 }

pub key-requires : goal.key-requires
key-requires c = c.requires c.candidate_at.result.now (c.loop-place.place - 1, c.candidate_at.ensures)

pub loop-place-preserved : goal.loop-place-preserved
loop-place-preserved c =
    let p : ℕ = c.loop-place.place - 1 in
    let after : c.loop-place.place ≡ p + 1 = omega (arith, c.loop-place-test.true) in
    let read : c.as_str.result.now ≡ its_key c.candidate_at.result.now = c.as_str.ensures.value ∙ c.in_ok-text.ensures in
    let written : c.as_str-in-loop-place.result.now ≡ its_key c.candidate_at.result.now = c.as_str-in-loop-place.ensures.value ∙ c.in_ok-text.ensures in
    let step = linked_step c.args.list.now c.loop-place.place p c.candidate_at.result.now (numbers_in c.loop-place.firsts) (numbers_in c.insert.new.self) c.loop-place.next.items (set c.loop-place.next.items p c.get.result) after c.candidate_at.ensures c.loop-place.invariant.firsts c.loop-place.invariant.leads
    (c.in_ok-insert.ensures ∙ ap (λ name. with_number (numbers_in c.loop-place.firsts) name p) written)
    (ap (set c.loop-place.next.items p) (c.get.ensures ∙ ap (numbers_in c.loop-place.firsts) read)) in
    record { firsts = step.0; leads = step.1 }

pub returns : goal.returns
returns c =
    let zero_is : c.loop-place.place ≡ 0 = omega (arith, c.loop-place-test.false) in
    let P : ℕ → Type 0 = λ n. LeadOn n c.args.list.now c.loop-place.next.items in
    record { firsts_are = c.loop-place.invariant.firsts ∙ ap (λ n. first_from n (drop n c.args.list.now)) zero_is; lead_on = subst P zero_is c.loop-place.invariant.leads }
