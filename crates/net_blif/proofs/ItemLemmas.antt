-- Which names and tables statements and items have.
use Rattle.std.proofs.Common.{◌≡◌, subst, ℕ, zero, suc, ◌<◌, List, [], ◌∷◌, ◌++◌, length, Some, arith}
use Rattle.std.specs.Prelude.{All, IsTrue}
use Rattle.std.proofs.lemmas.List.{get_or_append_left}
use Rattle.net_blif.specs.Statement.{Token, IsToken, is_well, spelled}
use Rattle.net_blif.specs.Spelling.{statement_of}
use Rattle.net_blif.specs.Item.{HasPrintingNames}
use Rattle.net_blif.specs.declared.statement.Statement.{Statement}
use Rattle.net_blif.specs.declared.statement.Statement.TheVariants.{Model, Inputs, Outputs, Clock, Cover, Latch, Instance, Row, End, Other}
use Rattle.net_blif.proofs.StatementLemmas.{read_spells, all_rest}

names_front : (xs : List Token) (y : Token) → All IsToken (xs ++ y ∷ []) → All IsToken xs
names_front xs y all = λ k d less. let P : Token → Type 0 = IsToken in subst P (get_or_append_left xs (y ∷ []) d k less) (all k d (below xs k less))
  where
    below : (xs : List Token) (k : ℕ) → k < length xs → k < length (xs ++ y ∷ [])
    below [] k less = absurd (omega arith)
    below (x ∷ xs) zero less = omega arith
    below (x ∷ xs) (suc k) less = let h = below xs k (omega arith) in omega (arith, h)

name_last : (xs : List Token) (y : Token) → All IsToken (xs ++ y ∷ []) → IsToken y
name_last [] y all = all zero [] (omega arith)
name_last (x ∷ xs) y all = name_last xs y (λ k d less. all (suc k) d (omega arith))

spelled_names : (s : Statement) → All IsToken (spelled s) → IsTrue (is_well s) → HasPrintingNames s
spelled_names (Model []) all well = λ k d less. absurd (omega (arith, less))
spelled_names (Model (b ∷ bs)) all well = (all 1 [] (omega arith)).2
spelled_names (Inputs nets) all well = all_rest _ nets all
spelled_names (Outputs nets) all well = all_rest _ nets all
spelled_names (Clock nets) all well = tt
spelled_names (Cover inputs out) all well = let nets = all_rest _ (inputs ++ out ∷ []) all in (names_front inputs out nets, name_last inputs out nets)
spelled_names (Latch next out rest) all well = (all 1 [] (omega arith), all 2 [] (omega arith))
spelled_names (Instance model connections) all well = (all 1 [] (omega arith), all_rest model connections (all_rest _ (model ∷ connections) all), well)
spelled_names (Row pattern output) all well = tt
spelled_names End all well = tt
spelled_names (Other word rest) all well = (all 0 [] (omega arith)).2

-- the nets of a statement that is read have names
pub read_names : (tokens : List Token) (s : Statement) → All IsToken tokens → statement_of tokens ≡ Some s → HasPrintingNames s
read_names tokens s all is =
    let P : List Token → Type 0 = All IsToken in
    let h = read_spells tokens s all is in
    spelled_names s (subst P h.0 all) h.1
