-- Whether words behind the name of a command are its files with what follows them, a kind with its signature, or those of a trial.
use Rattle.std.proofs.Common.{◌≡◌, sym, refl, subst, inr, ℕ, List, [], ◌∷◌}
use Rattle.job_words.specs.declared.kind.Kind.{Kind}
use Rattle.job_words.specs.Kind.{kind_name}
use Rattle.job_words.specs.MadeWords.{AreTrialWords, IsOfKind, IsTrialNumber, IsValueOf}
use Rattle.job_words.specs.Operands.{IsBlifName, IsOperand, Word}
use Rattle.job_words.specs.Options.{IsTermsOption}
use Rattle.job_words.specs.Shapes.{IsOverBlif, IsOverFile, IsOverFiles}
use Rattle.reader_laws.proofs.DecidedLemmas.{IsDecided, both_decided, moved_decided}
use Rattle.job_laws.proofs.OptionDecided.{terms_option_decided, trial_number_decided}
use Rattle.job_laws.proofs.WordDecided.{blif_decided, kind_decided, operand_decided, value_of_decided}

-- what follows the files says some value
module _ {A : Type 0} (Follow : A → List Word → Type 0) (each : (rest : List Word) → IsDecided ((a : A) × Follow a rest)) where
  -- ---- a signature and a file

  abbrev IsFileAnd : List Word → Type 0
  IsFileAnd words = (r : Word × Word × A) × IsOverFile (Follow r.2) words r.0 r.1

  second_is : (s f : Word) (rest : List Word) (r : Word × Word × A) → IsOverFile (Follow r.2) (s ∷ f ∷ rest) r.0 r.1 → r.1 ≡ f
  second_is s f rest r is = let whole = is.words_are in cc

  file_parts : (s f : Word) (rest : List Word) (r : Word × Word × A) → IsOverFile (Follow r.2) (s ∷ f ∷ rest) r.0 r.1 → IsOperand s × (IsOperand f × ((a : A) × Follow a rest))
  file_parts s f rest r is =
      let whole = is.words_are in
      let one : r.0 ≡ s = cc in
      let behind : is.rest ≡ rest = cc in
      (subst IsOperand one is.signature_is, (subst IsOperand (second_is s f rest r is) is.file_is, (r.2, subst (Follow r.2) behind is.follow)))

  pub file_decided : (words : List Word) → IsDecided (IsFileAnd words)
  file_decided [] = inr (λ is. let whole = is.1.words_are in absurd (cc))
  file_decided (s ∷ []) = inr (λ is. let whole = is.1.words_are in absurd (cc))
  file_decided (s ∷ f ∷ rest) =
      moved_decided (λ is. ((s, f, is.1.1.0), record { rest = rest; words_are = refl; signature_is = is.0; file_is = is.1.0; follow = is.1.1.1 })) (λ is. file_parts s f rest is.0 is.1)
      (both_decided (operand_decided s) (both_decided (operand_decided f) (each rest)))

  -- ---- a netlist in BLIF

  pub blif_file_decided : (words : List Word) → IsDecided ((r : Word × Word × A) × IsOverBlif (Follow r.2) words r.0 r.1)
  blif_file_decided [] = inr (λ is. let whole = is.1.files.words_are in absurd (cc))
  blif_file_decided (s ∷ []) = inr (λ is. let whole = is.1.files.words_are in absurd (cc))
  blif_file_decided (s ∷ f ∷ rest) =
      moved_decided (λ is. (is.1.0, record { files = is.1.1; in_blif = let same = second_is s f rest is.1.0 is.1.1 in subst IsBlifName (sym same) is.0 }))
      (λ is. (subst IsBlifName (second_is s f rest is.0 is.1.files) is.1.in_blif, (is.0, is.1.files))) (both_decided (blif_decided f) (file_decided (s ∷ f ∷ rest)))

  -- ---- two files

  abbrev IsFilesAnd : List Word → Type 0
  IsFilesAnd words = (r : Word × Word × Word × A) × IsOverFiles (Follow r.3) words r.0 r.1 r.2

  files_parts : (s f o : Word) (rest : List Word) (r : Word × Word × Word × A) → IsOverFiles (Follow r.3) (s ∷ f ∷ o ∷ rest) r.0 r.1 r.2 → IsOperand s × (IsOperand f × (IsOperand o × ((a : A) × Follow a rest)))
  files_parts s f o rest r is =
      let whole = is.words_are in
      let one : r.0 ≡ s = cc in
      let two : r.1 ≡ f = cc in
      let three : r.2 ≡ o = cc in
      let behind : is.rest ≡ rest = cc in
      (subst IsOperand one is.signature_is, (subst IsOperand two is.file_is, (subst IsOperand three is.other_is, (r.3, subst (Follow r.3) behind is.follow))))

  pub files_decided : (words : List Word) → IsDecided (IsFilesAnd words)
  files_decided [] = inr (λ is. let whole = is.1.words_are in absurd (cc))
  files_decided (s ∷ []) = inr (λ is. let whole = is.1.words_are in absurd (cc))
  files_decided (s ∷ f ∷ []) = inr (λ is. let whole = is.1.words_are in absurd (cc))
  files_decided (s ∷ f ∷ o ∷ rest) =
      moved_decided (λ is. ((s, f, o, is.1.1.1.0), record { rest = rest; words_are = refl; signature_is = is.0; file_is = is.1.0; other_is = is.1.1.0; follow = is.1.1.1.1 })) (λ is. files_parts s f o rest is.0 is.1)
      (both_decided (operand_decided s) (both_decided (operand_decided f) (both_decided (operand_decided o) (each rest))))

-- ---- kinds

kind_parts : (a s : Word) (r : Word × Kind) → IsOfKind (a ∷ s ∷ []) r.0 r.1 → ((kind : Kind) × (a ≡ kind_name kind)) × IsOperand s
kind_parts a s r is =
    let whole = is.words_are in
    let named : a ≡ kind_name r.1 = cc in
    let signed : r.0 ≡ s = cc in
    ((r.1, named), subst IsOperand signed is.signature_is)

pub made_decided : (words : List Word) → IsDecided ((r : Word × Kind) × IsOfKind words r.0 r.1)
made_decided [] = inr (λ is. let whole = is.1.words_are in absurd (cc))
made_decided (a ∷ []) = inr (λ is. let whole = is.1.words_are in absurd (cc))
made_decided (a ∷ s ∷ []) =
    moved_decided (λ is. ((s, is.0.0), record { words_are = let named = is.0.1 in (λ i. named i ∷ s ∷ []); signature_is = is.1 })) (λ is. kind_parts a s is.0 is.1) (both_decided (kind_decided a) (operand_decided s))
made_decided (a ∷ s ∷ more ∷ words) = inr (λ is. let whole = is.1.words_are in absurd (cc))

-- ---- trials

trial_parts : (a b : Word) (rest : List Word) (r : ℕ × ℕ × ℕ) → AreTrialWords (a ∷ b ∷ rest) r.0 r.1 r.2 → ((n : ℕ) × IsTrialNumber a n) × (((m : ℕ) × IsValueOf b m) × ((t : ℕ) × IsTermsOption 262144 65536 rest t))
trial_parts a b rest r is =
    let whole = is.words_are in
    let one : is.first ≡ a = cc in
    let two : is.second ≡ b = cc in
    let behind : is.options ≡ rest = cc in
    let P : Word → Type 0 = λ word. IsTrialNumber word r.0 in
    let Q : Word → Type 0 = λ word. IsValueOf word r.1 in
    let R : List Word → Type 0 = λ words. IsTermsOption 262144 65536 words r.2 in
    ((r.0, subst P one is.number_is), ((r.1, subst Q two is.modulus_is), (r.2, subst R behind is.set)))

pub trial_decided : (words : List Word) → IsDecided ((r : ℕ × ℕ × ℕ) × AreTrialWords words r.0 r.1 r.2)
trial_decided [] = inr (λ is. let whole = is.1.words_are in absurd (cc))
trial_decided (a ∷ []) = inr (λ is. let whole = is.1.words_are in absurd (cc))
trial_decided (a ∷ b ∷ rest) =
    moved_decided
    (λ is. ((is.0.0, is.1.0.0, is.1.1.0), record { first = a; second = b; options = rest; words_are = refl; number_is = is.0.1; modulus_is = is.1.0.1; set = is.1.1.1 })) (λ is. trial_parts a b rest is.0 is.1)
    (both_decided (trial_number_decided a) (both_decided (value_of_decided b) (terms_option_decided 262144 65536 rest)))
