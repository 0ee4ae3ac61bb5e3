-- What follows the files of a command.
use Rattle.std.proofs.Common.{◌∙◌, ap, sym, subst, List, [], ◌∷◌}
use Rattle.job_words.specs.Operands.{Word}
use Rattle.job_words.specs.Shapes.{IsOverFile, IsOverFiles}
use Rattle.job_words.specs.private.Rest.{Anything, IsRest}

-- the first word
abbrev pub first_word : List Word → Word
first_word (a ∷ rest) = a
first_word [] = []

-- the words behind the first
abbrev pub rest_of : List Word → List Word
rest_of (a ∷ rest) = rest
rest_of [] = []

-- ---- a signature and a file

module _ (Follow : List Word → Type 0) (words : List Word) where
  -- no file at all
  pub no_file : ((s f : Word) → IsOverFile Anything words s f → ⊥) → (s f : Word) → IsOverFile Follow words s f → ⊥
  no_file none s f is = none s f (record { rest = is.rest; words_are = is.words_are; signature_is = is.signature_is; file_is = is.file_is; follow = tt })

  -- or something else
  pub file_follows_not : (rest : List Word) (s f : Word) → IsOverFile (IsRest rest) words s f → (Follow rest → ⊥) → (s' f' : Word) → IsOverFile Follow words s' f' → ⊥
  file_follows_not rest s f is none s' f' other =
      let P : List Word → Type 0 = λ ws. Follow ws in
      none (subst P (ap (λ ws. rest_of (rest_of ws)) (sym other.words_are ∙ is.words_are) ∙ is.follow) other.follow)

-- ---- a signature and two files

module _ (Follow : List Word → Type 0) (words : List Word) where
  pub no_files : ((s f o : Word) → IsOverFiles Anything words s f o → ⊥) → (s f o : Word) → IsOverFiles Follow words s f o → ⊥
  no_files none s f o is = none s f o (record { rest = is.rest; words_are = is.words_are; signature_is = is.signature_is; file_is = is.file_is; other_is = is.other_is; follow = tt })

  pub files_follow_not : (rest : List Word) (s f o : Word) → IsOverFiles (IsRest rest) words s f o → (Follow rest → ⊥) → (s' f' o' : Word) → IsOverFiles Follow words s' f' o' → ⊥
  files_follow_not rest s f o is none s' f' o' other =
      let P : List Word → Type 0 = λ ws. Follow ws in
      none (subst P (ap (λ ws. rest_of (rest_of (rest_of ws))) (sym other.words_are ∙ is.words_are) ∙ is.follow) other.follow)
