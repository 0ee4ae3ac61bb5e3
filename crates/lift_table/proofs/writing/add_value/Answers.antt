use Rattle.std.proofs.Common.{◌∙◌, ap, List, ℕ, [], ◌∷◌, ◌++◌, append_assoc}
use Rattle.text_core.specs.Numbers.{hex_text}
use Rattle.lift_table.proofs.writing.add_value.Goals as goal

pub returns : goal.returns
returns c =
    c.in_ok-push.ensures.items
    ∙ ap (λ (bytes : List ℕ). bytes ++ 10 ∷ []) (c.in_ok-push_hex.ensures ∙ ap (λ (n : ℕ). c.args.text.now.items ++ hex_text n) c.from.ensures)
    ∙ append_assoc c.args.text.now.items (hex_text c.args.value) (10 ∷ [])
