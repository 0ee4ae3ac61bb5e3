-- A circuit has as many input and state words as labels.
use Rattle.std.proofs.Common.{◌≡◌, ◌∙◌, ap, sym, refl, ℕ, ◌+◌, List, [], ◌∷◌, length, arith}
use Rattle.std.proofs.lemmas.List.{length-append}
use Rattle.net_words.specs.declared.bound.BoundWord.{BoundWord}
use Rattle.net_words.specs.declared.word.Role.{Role}
use Rattle.net_words.specs.declared.word.Role.TheVariants.{Input, State, Fed, Output}
use Rattle.net_words.specs.declared.word.WordText.{WordText}
use Rattle.circuit_model.specs.OfBinding.{word_with, words_of}
use Rattle.job_input.specs.Setting.{HaveRoles}
use Rattle.job_input.specs.Labelling.{word_label, word_labels}

label_with : (r : Role) (name nets basis : List ℕ) (k : ℕ) → length (word_with r nets basis) ≡ length (word_label r name k)
label_with Input name nets basis k = refl
label_with State name nets basis k = refl
label_with Fed name nets basis k = refl
label_with Output name nets basis k = refl

first_role : List Role → Role
first_role [] = Output
first_role (r ∷ rs) = r

rest_roles : List Role → List Role
rest_roles [] = []
rest_roles (r ∷ rs) = rs

pub as_many : (k : ℕ) (bound : List BoundWord) (words : List WordText) (bases : List (List ℕ)) → length bases ≡ length bound → HaveRoles words bound → length (words_of bound bases) ≡ length (word_labels k words)
unfolding first_role rest_roles
as_many k [] [] bases long same = refl
as_many k [] (w ∷ ws) bases long same = absurd (cc)
as_many k (b ∷ bs) [] bases long same = absurd (cc)
as_many k (b ∷ bs) (w ∷ ws) [] long same = absurd (omega arith)
as_many k (b ∷ bs) (w ∷ ws) (e ∷ es) long same =
    length-append (word_with b.role b.nets e) (words_of bs es)
    ∙ ((λ i. length (word_with (ap first_role same i) b.nets e) + as_many k bs ws es (omega arith) (ap rest_roles same) i)
    ∙ (ap (λ n. n + length (word_labels k ws)) (label_with w.role w.name b.nets e k)
    ∙ sym (length-append (word_label w.role w.name k) (word_labels k ws))))
