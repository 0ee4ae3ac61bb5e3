use Rattle.std.proofs.Common.{arith, ◌≤◌, ◌∙◌, ◌*◌, ◌≡◌, ◌^◌, ◌/◌, ◌%◌, ap, mod-lt, pow_pos}
use Rattle.mult_composite.proofs.RoomLemmas.{masked, wide_few}
use Rattle.mult_composite.proofs.places.coefficient_of.Goals as goal

pub returns-clause-is : goal.returns-clause-is
returns-clause-is c =
    let low : c.args.n ≤ 64 = wide_few c.args.n c.args.m c.args.e c.requires.place c.requires.small in
    let start : c.word_place-start.result ≡ c.args.n * c.args.e = omega (arith, c.word_place-start.ensures.is) in
    masked (c.args.element / 2 ^ c.word_place-start.result) c.args.n low ∙ ap (λ s. c.args.element / 2 ^ s % 2 ^ c.args.n) start

pub returns-clause-element : goal.returns-clause-element
returns-clause-element c =
    let low : c.args.n ≤ 64 = wide_few c.args.n c.args.m c.args.e c.requires.place c.requires.small in
    rw (masked (c.args.element / 2 ^ c.word_place-start.result) c.args.n low) (mod-lt (c.args.element / 2 ^ c.word_place-start.result) (pow_pos c.args.n))

pub overflow_sub-result : goal.overflow_sub-result
overflow_sub-result c = wide_few c.args.n c.args.m c.args.e c.requires.place c.requires.small
