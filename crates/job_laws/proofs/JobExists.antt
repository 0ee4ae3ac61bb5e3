-- Words spell a command, or none: each form of a command is decided.
use Rattle.std.proofs.Common.{◌⊎◌, refl, inl, inr, ℕ, Bool, List, [], codes, Ok, Err}
use Rattle.job_words.specs.declared.fault.Fault.TheVariants.{Words}
use Rattle.job_words.specs.declared.kind.Kind.{Kind}
use Rattle.job_words.specs.Command.{Abstract, Bits, Certify, Check, Compose, Eval, Iso, Lift, Make, Same, Table, Upgrade, Verify, Job, Over, Trial, IsNamed, IsSpelled}
use Rattle.job_words.specs.MadeWords.{AreTrialWords, IsOfKind}
use Rattle.job_words.specs.Operands.{Word}
use Rattle.job_words.specs.Options.{AreCircuitOptions, AreNone, AreStageOptions, AreSumOptions, IsCyclesOption, IsTermsOption}
use Rattle.job_words.specs.Shapes.{AreValues, IsOverBlif, IsOverFile, IsOverFiles}
use Rattle.reader_laws.proofs.DecidedLemmas.{IsDecided, moved_decided, one_decided, tokens_decided}
use Rattle.reader_laws.proofs.SignatureWords.{after_keyword}
use Rattle.job_laws.specs.HasOutcome.{HasOutcome}
use Rattle.job_laws.specs.Spelled.{Spelled}
use Rattle.job_laws.proofs.CircuitOptionDecided.{circuit_options_decided, values_decided}
use Rattle.job_laws.proofs.OptionDecided.{cycles_option_decided, options_decided, terms_option_decided}
use Rattle.job_laws.proofs.ShapeDecided.{blif_file_decided, file_decided, files_decided, made_decided, trial_decided}

-- ---- behind a name

-- the name stands first, and the words behind it say some value
abbrev IsNamedBy : {A : Type 0} → Word → (A → List Word → Type 0) → List Word → Type 0
IsNamedBy {A} name Follow words = (a : A) × IsNamed name (Follow a) words

module _ {A : Type 0} (name : Word) (Follow : A → List Word → Type 0) (each : (rest : List Word) → IsDecided ((a : A) × Follow a rest)) where
  named_decided : (words : List Word) → IsDecided (IsNamedBy name Follow words)
  named_decided words =
      moved_decided (λ is. (is.2.0, record { rest = is.0; words_are = is.1; follow = is.2.1 })) (λ is. (is.1.rest, is.1.words_are, (is.0, is.1.follow)))
      (after_keyword name (λ rest. (a : A) × Follow a rest) each words)

-- ---- over one file

abbrev OverFile : {A : Type 0} → (A → List Word → Type 0) → Word × Word × A → List Word → Type 0
OverFile Follow a rest = IsOverFile (Follow a.2) rest a.0 a.1

abbrev OverFiles : {A : Type 0} → (A → List Word → Type 0) → Word × Word × Word × A → List Word → Type 0
OverFiles Follow a rest = IsOverFiles (Follow a.3) rest a.0 a.1 a.2

module _ {A : Type 0} (name : Word) (Follow : A → List Word → Type 0) (each : (rest : List Word) → IsDecided ((a : A) × Follow a rest)) where
  with_file : (words : List Word) → IsDecided (IsNamedBy name (OverFile Follow) words)
  with_file = named_decided name (OverFile Follow) (file_decided Follow each)

  with_files : (words : List Word) → IsDecided (IsNamedBy name (OverFiles Follow) words)
  with_files = named_decided name (OverFiles Follow) (files_decided Follow each)

-- what follows the files
abbrev ByCircuit : ℕ × ℕ × Bool → List Word → Type 0
ByCircuit r rest = AreCircuitOptions rest r.0 r.1 r.2

abbrev ByStages : ℕ × ℕ → List Word → Type 0
ByStages r rest = AreStageOptions rest r.0 r.1

abbrev BySums : ℕ × ℕ → List Word → Type 0
BySums r rest = AreSumOptions rest r.0 r.1

abbrev ByCycles : ℕ → List Word → Type 0
ByCycles c rest = IsCyclesOption rest c

abbrev ByTerms : ℕ → List Word → Type 0
ByTerms t rest = IsTermsOption 262144 65536 rest t

abbrev ByValues : List Word × ℕ → List Word → Type 0
ByValues r rest = AreValues rest r.0 r.1

abbrev ByNone : Unit {0} → List Word → Type 0
ByNone u rest = AreNone rest

none_decided : (rest : List Word) → IsDecided ((u : Unit {0}) × ByNone u rest)
none_decided rest = moved_decided (λ none. (tt, none)) (λ is. is.1) (tokens_decided rest [])

-- ---- the others

abbrev OverBlif : Word × Word × ℕ → List Word → Type 0
OverBlif a rest = IsOverBlif (ByTerms a.2) rest a.0 a.1

abbrev OfKind : Word × Kind → List Word → Type 0
OfKind a rest = IsOfKind rest a.0 a.1

abbrev OfTrial : ℕ × ℕ × ℕ → List Word → Type 0
OfTrial a rest = AreTrialWords rest a.0 a.1 a.2

-- ---- all forms

module _ (words : List Word) where
  abbrev Circuits : Type 0
  Circuits = (IsNamedBy (codes "bits") (OverFile ByCircuit) words ⊎ IsNamedBy (codes "abstract") (OverFile ByCircuit) words) ⊎ (IsNamedBy (codes "check") (OverFiles ByCircuit) words ⊎ IsNamedBy (codes "same") (OverFiles ByCircuit) words)

  abbrev Certificates : Type 0
  Certificates = IsNamedBy (codes "certify") (OverFile ByStages) words ⊎ (IsNamedBy (codes "verify") (OverFiles BySums) words ⊎ IsNamedBy (codes "upgrade") (OverFiles ByCycles) words)

  abbrev Tables : Type 0
  Tables = (IsNamedBy (codes "eval") (OverFile ByValues) words ⊎ IsNamedBy (codes "iso") (OverFile ByNone) words) ⊎ (IsNamedBy (codes "lift") (OverFile ByNone) words ⊎ IsNamedBy (codes "table") (OverFile ByCycles) words)

  abbrev Others : Type 0
  Others = IsNamedBy (codes "make") OfKind words ⊎ (IsNamedBy (codes "compose") OverBlif words ⊎ IsNamedBy (codes "trial") OfTrial words)

  abbrev IsOfAForm : Type 0
  IsOfAForm = (Circuits ⊎ Certificates) ⊎ (Tables ⊎ Others)

  abbrev SpellsOne : Type 0
  SpellsOne = (job : Job) × IsSpelled words job

  of_circuits : Circuits → SpellsOne
  of_circuits (inl (inl (a, is))) = (Over a.0 (Bits a.1 a.2.0 a.2.1 a.2.2), is)
  of_circuits (inl (inr (a, is))) = (Over a.0 (Abstract a.1 a.2.0 a.2.1 a.2.2), is)
  of_circuits (inr (inl (a, is))) = (Over a.0 (Check a.1 a.2 a.3.0 a.3.1 a.3.2), is)
  of_circuits (inr (inr (a, is))) = (Over a.0 (Same a.1 a.2 a.3.0 a.3.1 a.3.2), is)

  of_certificates : Certificates → SpellsOne
  of_certificates (inl (a, is)) = (Over a.0 (Certify a.1 a.2.0 a.2.1), is)
  of_certificates (inr (inl (a, is))) = (Over a.0 (Verify a.1 a.2 a.3.0 a.3.1), is)
  of_certificates (inr (inr (a, is))) = (Over a.0 (Upgrade a.1 a.2 a.3), is)

  of_tables : Tables → SpellsOne
  of_tables (inl (inl (a, is))) = (Over a.0 (Eval a.1 a.2.0 a.2.1), is)
  of_tables (inl (inr (a, is))) = (Over a.0 (Iso a.1), is)
  of_tables (inr (inl (a, is))) = (Over a.0 (Lift a.1), is)
  of_tables (inr (inr (a, is))) = (Over a.0 (Table a.1 a.2), is)

  of_others : Others → SpellsOne
  of_others (inl (a, is)) = (Over a.0 (Make a.1), is)
  of_others (inr (inl (a, is))) = (Over a.0 (Compose a.1 a.2), is)
  of_others (inr (inr (a, is))) = (Trial a.0 a.1 a.2, is)

  of_form : IsOfAForm → SpellsOne
  of_form (inl (inl is)) = of_circuits is
  of_form (inl (inr is)) = of_certificates is
  of_form (inr (inl is)) = of_tables is
  of_form (inr (inr is)) = of_others is

  to_form : (job : Job) → IsSpelled words job → IsOfAForm
  to_form (Over s (Bits n t c b)) is = inl (inl (inl (inl ((s, n, (t, c, b)), is))))
  to_form (Over s (Abstract n t c b)) is = inl (inl (inl (inr ((s, n, (t, c, b)), is))))
  to_form (Over s (Check n o t c b)) is = inl (inl (inr (inl ((s, n, o, (t, c, b)), is))))
  to_form (Over s (Same n o t c b)) is = inl (inl (inr (inr ((s, n, o, (t, c, b)), is))))
  to_form (Over s (Certify n t c)) is = inl (inr (inl ((s, n, (t, c)), is)))
  to_form (Over s (Verify n o t c)) is = inl (inr (inr (inl ((s, n, o, (t, c)), is))))
  to_form (Over s (Upgrade n o c)) is = inl (inr (inr (inr ((s, n, o, c), is))))
  to_form (Over s (Eval n values c)) is = inr (inl (inl (inl ((s, n, (values, c)), is))))
  to_form (Over s (Iso o)) is = inr (inl (inl (inr ((s, o, tt), is))))
  to_form (Over s (Lift f)) is = inr (inl (inr (inl ((s, f, tt), is))))
  to_form (Over s (Table n c)) is = inr (inl (inr (inr ((s, n, c), is))))
  to_form (Over s (Make kind)) is = inr (inr (inl ((s, kind), is)))
  to_form (Over s (Compose n t)) is = inr (inr (inr (inl ((s, n, t), is))))
  to_form (Trial n m t) is = inr (inr (inr (inr ((n, m, t), is))))

  form_decided : IsDecided IsOfAForm
  form_decided =
      one_decided
      (one_decided
      (one_decided (one_decided (with_file (codes "bits") ByCircuit circuit_options_decided words) (with_file (codes "abstract") ByCircuit circuit_options_decided words))
      (one_decided (with_files (codes "check") ByCircuit circuit_options_decided words) (with_files (codes "same") ByCircuit circuit_options_decided words)))
      (one_decided (with_file (codes "certify") ByStages (options_decided 262144 65536) words)
      (one_decided (with_files (codes "verify") BySums (options_decided 1048576 1048576) words) (with_files (codes "upgrade") ByCycles cycles_option_decided words))))
      (one_decided
      (one_decided (one_decided (with_file (codes "eval") ByValues values_decided words) (with_file (codes "iso") ByNone none_decided words))
      (one_decided (with_file (codes "lift") ByNone none_decided words) (with_file (codes "table") ByCycles cycles_option_decided words)))
      (one_decided (named_decided (codes "make") OfKind made_decided words)
      (one_decided (named_decided (codes "compose") OverBlif (blif_file_decided ByTerms (terms_option_decided 262144 65536)) words) (named_decided (codes "trial") OfTrial trial_decided words))))

  pub spelled_decided : IsDecided SpellsOne
  spelled_decided = moved_decided of_form (λ is. to_form is.0 is.1) form_decided

pub some_job : (words : List Word) → HasOutcome (Spelled words)
some_job words = elim (spelled_decided words) [ inl is ↦ (Ok is.0, is.1) | inr none ↦ (Err Words, (refl, λ job is. none (job, is))) ]
