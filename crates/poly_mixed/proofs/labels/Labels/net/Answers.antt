use Rattle.std.proofs.Common.{sym, subst, string_bytes}
use Rattle.poly_mixed.specs.Labels.{Labelling, Differs}
use Rattle.poly_mixed.proofs.TextLemmas.{labels_with_net}
use Rattle.poly_mixed.proofs.labels.Labels.net.Goals as goal

pub invariant_of-self-2 : goal.invariant_of-self-2
invariant_of-self-2 c =
    let P : Labelling → Type 0 = λ l. Differs c.args.number l.nets in
    labels_with_net (record { output = string_bytes c.self.inside.output; words = c.self.inside.words.items; nets = c.self.inside.nets.items })
    c.args.number _ c.self.invariant c.ranges.number.fits (subst P (sym c.self.view_is) c.requires.new) c.in_ok-push.ensures.items
