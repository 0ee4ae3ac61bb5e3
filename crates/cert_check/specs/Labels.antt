-- Labels of a circuit's variables. Source: this project's own.
use Rattle.std.specs.Prelude.{◌≡◌, not, filter, length}
use Rattle.std.specs.List.{AllByRecursion}
use Rattle.net_words.specs.Binding.{Binding}
use Rattle.net_words.specs.Roles.{same_role}
use Rattle.net_words.specs.declared.word.Role.TheVariants.{Output}
use Rattle.poly_mixed.specs.Labels.{Labelling}

-- the labels name the input, state and fed words of the binding, each with its k bits
pub record NameWords (binding : Binding) (labels : Labelling) : Type 0 where
  pub count : length labels.words ≡ length (filter (λ word. not (same_role word.role Output)) binding.words)
  pub bits : AllByRecursion (λ w. w.1 ≡ binding.k) labels.words
