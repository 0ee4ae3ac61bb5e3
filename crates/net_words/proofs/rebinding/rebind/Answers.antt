use Rattle.std.proofs.Common.{◌≡◌, sym, subst}
use Rattle.net_words.specs.Binding.{Binding}
use Rattle.net_words.specs.OneCycle.{IsClosed, IsFlat, IsOneCycle}
use Rattle.net_words.specs.Rebind.{rebinding}
use Rattle.net_words.proofs.FlatLemmas.{rebound_parts, rebound_flat, rebound_cycle}
use Rattle.net_words.proofs.rebinding.rebind.Goals as goal

pub ordered-requires : goal.ordered-requires
ordered-requires c = rw (c.k.ensures.bits, c.in_ok-words.ensures, c.new.ensures.items) (rebound_parts c.args.net.now c.args.binding.now c.args.nets.now c.k.ensures.is_binding c.requires)

pub returns-clause-flat : goal.returns-clause-flat
returns-clause-flat c =
    let P : Binding → Type 0 = λ b. IsFlat c.args.net.now b in
    let is : c.in_ok-made.made ≡ rebinding c.args.net.now c.args.binding.now c.args.nets.now = rw (c.k.ensures.bits, c.in_ok-words.ensures, c.new.ensures.items) at c.in_ok-made.ensures in
    subst P (sym is) (rebound_flat c.args.net.now c.args.binding.now c.args.nets.now c.k.ensures.is_binding c.requires)

pub returns-clause-one_cycle : goal.returns-clause-one_cycle
returns-clause-one_cycle c =
    let P : Binding → Type 0 = λ b. IsClosed c.args.net.now b.words → IsOneCycle c.args.net.now b in
    let is : c.in_ok-made.made ≡ rebinding c.args.net.now c.args.binding.now c.args.nets.now = rw (c.k.ensures.bits, c.in_ok-words.ensures, c.new.ensures.items) at c.in_ok-made.ensures in
    subst P (sym is) (rebound_cycle c.args.net.now c.args.binding.now c.args.nets.now c.k.ensures.is_binding c.requires)
