use Rattle.std.proofs.Common.{◌<◌, List, ℕ, [], ◌∷◌, ◌++◌, ◌∙◌, ap, sym, subst, string_bytes, map, length}
use Rattle.poly_mixed.specs.Labels.{Labelling, Differs}
use Rattle.poly_mixed.proofs.TextLemmas.{labels_with_word}
use Rattle.poly_mixed.proofs.labels.Labels.word.Goals as goal

pub invariant_of-self-2 : goal.invariant_of-self-2
invariant_of-self-2 c =
    let D : Labelling → Type 0 = λ l. Differs c.args.name.now (map (λ w. w.0) l.words) in
    let F : Labelling → Type 0 = λ l. length l.words < 8 in
    labels_with_word (record { output = string_bytes c.self.inside.output; words = c.self.inside.words.items; nets = c.self.inside.nets.items })
    (c.args.name.now, c.args.bits) _ c.self.invariant (c.requires.name, c.requires.bits.0, c.requires.bits.1) (subst D (sym c.self.view_is) c.requires.new) (subst F (sym c.self.view_is) c.requires.few)
    (c.in_ok-push.ensures.items ∙ ap (λ (bs : List ℕ). c.self.inside.words.items ++ (bs, c.args.bits) ∷ []) c.in_ok-name.ensures.ok)
