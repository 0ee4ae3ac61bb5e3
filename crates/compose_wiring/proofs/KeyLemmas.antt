-- Keys of words, one part after another.
use Rattle.std.proofs.Common.{◌≡◌, ◌∙◌, ap, sym, ℕ, ◌+◌, List, [], ◌∷◌, ◌++◌, drop, Some, add-one, append_assoc}
use Rattle.std.specs.Prelude.{slice_get}
use Rattle.lists.specs.laws.TakeLaws.{dropped_at}
use Rattle.net_blif.specs.Statement.{Token}
use Rattle.compose_wiring.specs.private.Keys.{spaced}

-- one part more was added
pub part_more : (parts : List Token) (p : ℕ) (part old new whole : Token) → slice_get parts p ≡ Some part → old ++ spaced (drop p parts) ≡ whole → new ≡ old ++ (part ++ 32 ∷ []) → new ++ spaced (drop (p + 1) parts) ≡ whole
part_more parts p part old new whole got is made =
    ap (λ text. text ++ spaced (drop (p + 1) parts)) made
    ∙ append_assoc old (part ++ 32 ∷ []) (spaced (drop (p + 1) parts))
    ∙ ap (λ n. old ++ ((part ++ 32 ∷ []) ++ spaced (drop n parts))) (add-one p)
    ∙ ap (λ rest. old ++ spaced rest) (sym (dropped_at parts p part got))
    ∙ is
