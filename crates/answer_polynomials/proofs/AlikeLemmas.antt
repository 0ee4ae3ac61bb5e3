-- The circuits of two netlists to which the words of one signature are bound are over the same words.
use Rattle.std.proofs.Common.{◌≡◌, ◌∙◌, ap, sym, refl, ℕ, List, [], ◌∷◌, ◌++◌, map}
use Rattle.net_words.specs.Binding.{BoundNet}
use Rattle.net_words.specs.declared.bound.BoundWord.{BoundWord}
use Rattle.net_words.specs.declared.word.Role.{Role}
use Rattle.net_words.specs.declared.word.Role.TheVariants.{Input, State, Fed, Output}
use Rattle.net_words.specs.declared.word.WordText.{WordText}
use Rattle.circuit_model.specs.Alike.{AreAlike}
use Rattle.circuit_model.specs.OfBinding.{word_with, words_of}
use Rattle.circuit_model.specs.Word.{Word}
use Rattle.job_input.specs.Setting.{HaveRoles}
use Rattle.job_input.specs.SettingValue.{SettingValue}
use Rattle.answer_core.specs.Abstraction.{taken_circuit}

abbrev bases : List Word → List (List ℕ)
bases words = map (λ (w : Word). w.basis) words

first_role : List Role → Role
first_role [] = Output
first_role (r ∷ rs) = r

rest_roles : List Role → List Role
rest_roles [] = []
rest_roles (r ∷ rs) = rs

-- the nets of a word are not in its basis
before : (r : Role) (m n b : List ℕ) (us vs : List Word) → bases us ≡ bases vs → bases (word_with r m b ++ us) ≡ bases (word_with r n b ++ vs)
before Input m n b us vs e = ap (λ bs. b ∷ bs) e
before State m n b us vs e = ap (λ bs. b ∷ bs) e
before Fed m n b us vs e = ap (λ bs. b ∷ bs) e
before Output m n b us vs e = e

same_bases : (us vs : List BoundWord) (bs : List (List ℕ)) → map (λ (w : BoundWord). w.role) us ≡ map (λ (w : BoundWord). w.role) vs → bases (words_of us bs) ≡ bases (words_of vs bs)
unfolding first_role rest_roles
same_bases [] [] bs e = refl
same_bases [] (v ∷ vs) bs e = absurd (cc)
same_bases (u ∷ us) [] bs e = absurd (cc)
same_bases (u ∷ us) (v ∷ vs) [] e = refl
same_bases (u ∷ us) (v ∷ vs) (b ∷ bs) e =
    (λ i. bases (word_with (ap first_role e i) u.nets b ++ words_of us bs))
    ∙ before v.role u.nets v.nets b (words_of us bs) (words_of vs bs) (same_bases us vs bs (ap rest_roles e))

pub alike : (setting : SettingValue) (circuit other : BoundNet) (words : List WordText) → HaveRoles words circuit.binding.words → HaveRoles words other.binding.words → AreAlike (taken_circuit setting circuit) (taken_circuit setting other)
alike setting circuit other words roles more = record { k = refl; product = refl; bases = same_bases circuit.binding.words other.binding.words setting.bases (roles ∙ sym more) }
