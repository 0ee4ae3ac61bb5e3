-- The words that the plain program reads one after another.
use Rattle.std.proofs.Common.{◌≡◌, subst, ℕ, zero, suc, Bool, List, Some}
use Rattle.std.specs.Prelude.{slice_get}
use Rattle.circuit_model.specs.declared.circuit_word.CircuitWord.{CircuitWord}
use Rattle.circuit_model.specs.Word.{HasElement}
use Rattle.circuit_model.specs.Flat.{word_of}
use Rattle.plain_runs.specs.private.Cycle.{HaveAsked, IsAsked}
use Rattle.circuit_model.proofs.SliceLemmas.{rest, rest_get, get_rest}

pub have_asked : (states : Bool) (words : List CircuitWord) (xs : List ℕ) (bits : List Bool) (first : CircuitWord) (e : ℕ) → slice_get words 0 ≡ Some first → slice_get xs 0 ≡ Some e → (IsAsked states first.role → HasElement bits (word_of first) e) → HaveAsked states (rest words) (rest xs) bits → HaveAsked states words xs bits
have_asked states words xs bits first e is here has later zero w x got at =
    let same : first ≡ w = cc in
    let equal : e ≡ x = cc in
    let P : CircuitWord → Type 0 = λ v. IsAsked states v.role → HasElement bits (word_of v) x in
    let Q : ℕ → Type 0 = λ y. IsAsked states first.role → HasElement bits (word_of first) y in
    subst P same (subst Q equal has)
have_asked states words xs bits first e is here has later (suc i) w x got at = later i w x (get_rest words i w got) (get_rest xs i x at)

pub asked_rest : (states : Bool) (words : List CircuitWord) (xs : List ℕ) (bits : List Bool) → HaveAsked states words xs bits → HaveAsked states (rest words) (rest xs) bits
asked_rest states words xs bits have i w x got at = have (suc i) w x (rest_get words i w got) (rest_get xs i x at)
