use Rattle.std.proofs.Common.{◌∙◌, ◌<◌, ap, sym, subst}
use Rattle.std.proofs.lemmas.Result.{IfOk-weaker}
use Rattle.net_core.specs.NetList.{NetList, nets}
use Rattle.net_words.specs.Binding.{Binding}
use Rattle.net_words.specs.BoundTo.{output_bits}
use Rattle.net_simplify.proofs.WordLemmas.{ends_exist, simple_cycle, simple_is}
use Rattle.net_simplify.proofs.circuit.simplify.Goals as goal

pub simplified_twice-requires : goal.simplified_twice-requires
simplified_twice-requires c = record {
  flat = ap (λ (n : NetList). n.latches) c.net.ensures.net ∙ c.net.ensures.flat;
  ends = λ n has.
      let P : NetList → Type 0 = λ net. n < nets net in
      subst P (sym c.net.ensures.net) (ends_exist c.args.circuit.now c.deref.result.now c.binding.ensures.is_bound (c.deref.ensures.value ∙ c.in_ok-ends.ensures ∙ ap (λ (b : Binding). output_bits b.words) c.binding.ensures.binding) n has);
}

pub with_words-requires : goal.with_words-requires
with_words-requires c =
    let both = simple_cycle c.args.circuit.now c.net.result.now c.in_ok-net.net c.binding.result.now c.binding-2.result.now c.in_ok-ends.ends.items c.deref.result.now c.net.ensures.sound c.net.ensures.is_bound c.net.ensures.net c.binding.ensures.binding c.binding-2.ensures.binding c.in_ok-ends.ensures c.deref.ensures.value c.in_ok-net.ensures in
    record { sound = both.0; bound = both.1 }

pub returns : goal.returns
returns c = IfOk-weaker c.with_words.result _ _ (λ simple made. simple_is c.args.circuit.now simple c.net.result.now c.in_ok-net.net c.binding.result.now c.binding-2.result.now c.in_ok-ends.ends.items c.deref.result.now c.net.ensures.net c.binding.ensures.binding c.binding-2.ensures.binding c.in_ok-ends.ensures c.deref.ensures.value c.in_ok-net.ensures made) c.with_words.ensures
