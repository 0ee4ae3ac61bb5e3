use Rattle.std.proofs.Common.{◌+◌, not, take, arith}
use Rattle.lists.specs.laws.ListLaws.{filter_few}
use Rattle.net_words.specs.Roles.{same_role}
use Rattle.net_words.specs.declared.word.Role.TheVariants.{Output}
use Rattle.compose_model.specs.NamedWord.{NamedWord}
use Rattle.compose_wiring.proofs.ListLemmas.{taken_short}
use Rattle.compose_wiring.proofs.StepLemmas.{words_more}
use Rattle.compose_wiring.proofs.listing.add_words.Goals as goal

pub overflow_add-number : goal.overflow_add-number
overflow_add-number c =
    let more = words_more c.args.top.now c.loop-place.place c.loop-place.number c.counted-number.result c.word_at-word.result.now c.args.list.now.items c.loop-place.list.items c.add_word.new.list.items c.word_at-word.ensures c.loop-place.invariant.list c.loop-place.invariant.number c.in_ok-add_word.ensures c.counted-number.ensures in
    omega (arith, more.1, filter_few (λ (word : NamedWord). not (same_role word.role Output)) (take (c.loop-place.place + 1) c.args.top.now), taken_short (c.loop-place.place + 1) c.args.top.now, c.requires)

pub loop-place-preserved : goal.loop-place-preserved
loop-place-preserved c =
    let more = words_more c.args.top.now c.loop-place.place c.loop-place.number c.counted-number.result c.word_at-word.result.now c.args.list.now.items c.loop-place.list.items c.add_word.new.list.items c.word_at-word.ensures c.loop-place.invariant.list c.loop-place.invariant.number c.in_ok-add_word.ensures c.counted-number.ensures in
    record { list = more.0; number = more.1 }
