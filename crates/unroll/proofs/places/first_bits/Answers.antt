use Rattle.std.proofs.Common.{◌∙◌, ◌+◌, ap, arith, length, length-append, drop, refl, sym, ◌≡◌, [], ◌∷◌}
use Rattle.unroll.proofs.CodeLemmas.{count_step, first_bit_here, first_bit_step, firsts_step}
use Rattle.unroll.specs.Places.{cycle_nets, fed_bits, fed_count, first_bit}
use Rattle.net_core.specs.NetList.{nets}
use Rattle.unroll.proofs.places.first_bits.Goals as goal

pub loop-w-preserved : goal.loop-w-preserved
loop-w-preserved c =
    let k = c.args.binding.now.k in
    let words = c.args.binding.now.words in
    let base = cycle_nets (nets c.args.net.now) c.args.cycles in
    let was = c.loop-w.invariant in
    let bits = c.fed_bits-next.ensures.count ∙ ap (λ n. fed_bits n c.role.result) c.k.ensures.bits in
    let here : c.loop-w.w + 0 ≡ c.loop-w.w = omega arith in
    record {
      long = omega (arith, was.long, ap length c.in_ok-push.ensures.items, length-append c.loop-w.firsts.items (c.loop-w.next ∷ []));
      each = firsts_step (first_bit k base words) c.loop-w.firsts.items c.push.new.self.items c.loop-w.w c.loop-w.next was.long c.in_ok-push.ensures.items (sym (first_bit_here k c.loop-w.next (drop c.loop-w.w words)) ∙ (was.rest 0 ∙ ap (first_bit k base words) here)) was.each;
      rest = first_bit_step k base c.loop-w.next (c.loop-w.next + c.fed_bits-next.result) c.fed_bits-next.result words c.loop-w.w c.role.result (omega (arith, c.words-w-end.ensures.count)) c.role.ensures bits refl was.rest;
      total = count_step k words c.loop-w.w c.loop-w.next (c.loop-w.next + c.fed_bits-next.result) c.fed_bits-next.result (base + fed_count k words) c.role.result (omega (arith, c.words-w-end.ensures.count)) c.role.ensures bits refl was.total;
    }
