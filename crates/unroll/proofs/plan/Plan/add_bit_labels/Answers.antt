use Rattle.std.proofs.Common.{◌∙◌, ◌++◌, ap, arith}
use Rattle.std.specs.Prelude.{codes}
use Rattle.std.specs.Fmt.{decimal}
use Rattle.lists.specs.laws.ReadLaws.{get_below}
use Rattle.unroll.proofs.CodeLemmas.{bit_label_step, bit_room}
use Rattle.unroll.proofs.plan.Plan.add_bit_labels.Goals as goal

pub add_label-requires : goal.add_label-requires
add_label-requires c =
    let got = get_below c.args.self.now.binding.words c.args.w c.requires.word in
    bit_room c.args.maker.now c.loop-i.maker got.0.name c.loop-i.i c.args.self.now.binding.k c.requires.room (omega (arith, c.k-i-end.ensures.bits)) (c.loop-i.invariant got.0 got.1)

pub loop-i-preserved : goal.loop-i-preserved
loop-i-preserved c = λ word got. bit_label_step c.args.maker.now c.loop-i.maker c.add_label.new.maker word.name c.deref.result.now c.loop-i.i (c.deref.ensures ∙ (c.in_ok-label.ensures ∙ ap (λ text. text ++ (codes "[" ++ (decimal c.loop-i.i ++ codes "]"))) (c.name.ensures word got))) (c.loop-i.invariant word got) c.in_ok-add_label.ensures
