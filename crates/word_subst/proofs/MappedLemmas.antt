-- What a function makes of the items of a list, one after another.
use Rattle.std.proofs.Common.{◌≡◌, ◌∙◌, ap, sym, ℕ, zero, suc, ◌<◌, ◌≤◌, ◌+◌, List, [], ◌∷◌, ◌++◌, length, drop, map, get_or, append_assoc, append-nil, arith}
use Rattle.std.proofs.lemmas.List.{drop_more}
use Rattle.std.proofs.Math.ListN.{drop_of_length-le}
use Rattle.std.specs.List.{AllByRecursion}
use Rattle.word_subst.specs.Univariate.{Powers, IsPower}

-- one item further
pub mapped_more : {X Y : Type 0} (g : X → Y) (xs : List X) (acc new : List Y) (i : ℕ) (d : X) (y : Y) → i < length xs → y ≡ g (get_or xs i d) → new ≡ acc ++ y ∷ [] → acc ++ map g (drop i xs) ≡ map g xs → new ++ map g (drop (i + 1) xs) ≡ map g xs
mapped_more {X} {Y} g xs acc new i d y less is made before =
    let rest : List Y = map g (drop (i + 1) xs) in
    ap (λ zs. zs ++ rest) made ∙ (append_assoc acc (y ∷ []) rest ∙ (ap (λ z. acc ++ z ∷ rest) is ∙ (ap (λ zs. acc ++ map g zs) (sym (drop_more xs i d less)) ∙ before)))

-- none is left
pub mapped_all : {X Y : Type 0} (g : X → Y) (xs : List X) (acc : List Y) (i : ℕ) → length xs ≤ i → acc ++ map g (drop i xs) ≡ map g xs → acc ≡ map g xs
mapped_all g xs acc i most before = sym (append-nil acc) ∙ (ap (λ zs. acc ++ map g zs) (sym (drop_of_length-le xs most)) ∙ before)

pub pair_power : (k : ℕ) (us : Powers) (i : ℕ) → i < length us → AllByRecursion (IsPower k) us → IsPower k (get_or us i (0, 0))
pair_power k [] i less all = absurd (omega arith)
pair_power k (u ∷ us) zero less all = all.0
pair_power k (u ∷ us) (suc i) less all = pair_power k us i (omega arith) all.1
