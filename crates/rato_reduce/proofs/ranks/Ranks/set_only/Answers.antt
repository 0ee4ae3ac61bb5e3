use Rattle.std.proofs.Common.{◌≡◌, length, refl, sym, ◌∙◌, ap}
use Rattle.rato_reduce.proofs.AddedLemmas.{refilled}
use Rattle.rato_reduce.proofs.ranks.Ranks.set_only.Goals as goal

pub set_first-requires : goal.set_first-requires
set_first-requires c = ap length (c.as_mut_slice.ensures.value ∙ c.self.view_is) ∙ c.requires

pub returns : goal.returns
returns c =
    let old = c.self.inside.items.items in
    let new = c.set_first.new.items in
    let long : length new ≡ length old = ap length c.set_first.ensures ∙ sym (ap length c.self.view_is ∙ c.requires) in
    refilled old new (length old) long refl ∙ c.set_first.ensures
