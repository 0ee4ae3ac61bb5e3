use Rattle.std.proofs.Common.{◌≡◌, ◌∙◌, ap, ◌^◌, ◌*◌, ◌%◌, arith}
use Rattle.std.proofs.lemmas.Nat.{one_shl, pow_below}
use Rattle.gf_iso.specs.IsoParts.{size_of, there_of}
use Rattle.gf_basis.specs.Basis.{first_values}
use Rattle.lift_table.specs.TableText.{value_lines}
use Rattle.answer_tables.proofs.IsoLemmas.{one_image}
use Rattle.answer_tables.proofs.iso.images.Goals as goal

pub to_big-requires : goal.to_big-requires
to_big-requires c = rw (one_shl c.loop-i.i 64 (omega (arith, c.requires.small))) (pow_below c.loop-i.i (size_of c.args.iso.now) (omega (arith, c.requires.size)))

pub loop-i-preserved : goal.loop-i-preserved
loop-i-preserved c =
    let iso = c.args.iso.now in
    let unit : 1 * 2 ^ c.loop-i.i % 2 ^ 64 ≡ 2 ^ c.loop-i.i = one_shl c.loop-i.i 64 (omega (arith, c.requires.small)) in
    one_image (λ i. there_of iso (2 ^ i)) c.loop-i.i c.to_big.result c.loop-i.text.items c.add_value.new.text.items c.loop-i.invariant (c.to_big.ensures.image ∙ ap (λ a. there_of iso a) unit) c.in_ok-add_value.ensures

pub returns : goal.returns
returns c =
    let last : c.loop-i.i ≡ c.args.k = omega (arith, c.loop-i-test.false, c.loop-i.auto.i-end) in
    c.loop-i.invariant ∙ ap (λ n. value_lines (first_values n (λ i. there_of c.args.iso.now (2 ^ i)))) last
