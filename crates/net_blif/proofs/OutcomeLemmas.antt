-- A text has at most one outcome.
use Rattle.std.proofs.Common.{ap, refl, ℕ, List, [], ◌∷◌, Ok, Err}
use Rattle.outcome.proofs.DeterminedLemmas.{determined_bind, determined_returns, determined_exactly}
use Rattle.outcome.specs.Outcome.{◌>>=◌, Exactly, Returns, Determined}
use Rattle.text_core.specs.Lines.{tokens_of}
use Rattle.net_blif.specs.Lines.{Numbered, lines_of}
use Rattle.net_blif.specs.Statement.{Token}
use Rattle.net_blif.specs.Models.{Reading, start, models_of, Says, next, ReadsLine, Reads, AreRight, HasModel, BlifDesign}
use Rattle.net_blif.specs.declared.fault.BlifFault.TheVariants.{NoModel, Syntax, LeftOut, TooWide, ModelTwice, NoSuchModel, NoSuchFormal, FormalTwice, FormalMissing, Recursive, TooDeep, OutOfMemory}
use Rattle.net_blif.proofs.RightLemmas.{determined_right}
use Rattle.net_blif.proofs.StatementLemmas.{spelled_same}

determined_says : (reading : Reading) (n : ℕ) (tokens : List Token) → Determined (Says reading n tokens)
determined_says reading n tokens (Ok s) (Ok t) h k = ap Ok (spelled_same tokens s t (h.1, h.2) (k.1, k.2))
determined_says reading n tokens (Ok s) (Err (Syntax m)) h k = absurd (k.1 s h.0 h.1 h.2 h.3)
determined_says reading n tokens (Ok s) (Err NoModel) h k = absurd k
determined_says reading n tokens (Ok s) (Err (LeftOut m word)) h k = absurd k
determined_says reading n tokens (Ok s) (Err (TooWide m i)) h k = absurd k
determined_says reading n tokens (Ok s) (Err (ModelTwice m)) h k = absurd k
determined_says reading n tokens (Ok s) (Err (NoSuchModel m)) h k = absurd k
determined_says reading n tokens (Ok s) (Err (NoSuchFormal m)) h k = absurd k
determined_says reading n tokens (Ok s) (Err (FormalTwice m)) h k = absurd k
determined_says reading n tokens (Ok s) (Err (FormalMissing m)) h k = absurd k
determined_says reading n tokens (Ok s) (Err (Recursive m)) h k = absurd k
determined_says reading n tokens (Ok s) (Err TooDeep) h k = absurd k
determined_says reading n tokens (Ok s) (Err OutOfMemory) h k = absurd k
determined_says reading n tokens (Err (Syntax m)) (Ok t) h k = absurd (h.1 t k.0 k.1 k.2 k.3)
determined_says reading n tokens (Err (Syntax m)) (Err (Syntax q)) h k = rw (h.0, k.0) refl
determined_says reading n tokens (Err (Syntax m)) (Err NoModel) h k = absurd k
determined_says reading n tokens (Err (Syntax m)) (Err (LeftOut q word)) h k = absurd k
determined_says reading n tokens (Err (Syntax m)) (Err (TooWide q i)) h k = absurd k
determined_says reading n tokens (Err (Syntax m)) (Err (ModelTwice q)) h k = absurd k
determined_says reading n tokens (Err (Syntax m)) (Err (NoSuchModel q)) h k = absurd k
determined_says reading n tokens (Err (Syntax m)) (Err (NoSuchFormal q)) h k = absurd k
determined_says reading n tokens (Err (Syntax m)) (Err (FormalTwice q)) h k = absurd k
determined_says reading n tokens (Err (Syntax m)) (Err (FormalMissing q)) h k = absurd k
determined_says reading n tokens (Err (Syntax m)) (Err (Recursive q)) h k = absurd k
determined_says reading n tokens (Err (Syntax m)) (Err TooDeep) h k = absurd k
determined_says reading n tokens (Err (Syntax m)) (Err OutOfMemory) h k = absurd k
determined_says reading n tokens (Err NoModel) y h k = absurd h
determined_says reading n tokens (Err (LeftOut m word)) y h k = absurd h
determined_says reading n tokens (Err (TooWide m i)) y h k = absurd h
determined_says reading n tokens (Err (ModelTwice m)) y h k = absurd h
determined_says reading n tokens (Err (NoSuchModel m)) y h k = absurd h
determined_says reading n tokens (Err (NoSuchFormal m)) y h k = absurd h
determined_says reading n tokens (Err (FormalTwice m)) y h k = absurd h
determined_says reading n tokens (Err (FormalMissing m)) y h k = absurd h
determined_says reading n tokens (Err (Recursive m)) y h k = absurd h
determined_says reading n tokens (Err TooDeep) y h k = absurd h
determined_says reading n tokens (Err OutOfMemory) y h k = absurd h

determined_line : (reading : Reading) (n : ℕ) (tokens : List Token) → Determined (ReadsLine reading n tokens)
determined_line reading n [] = determined_exactly reading
determined_line reading n (word ∷ words) =
    determined_bind (Says reading n (word ∷ words)) (λ s. Returns (next reading n s)) (determined_says reading n (word ∷ words)) (λ s. determined_returns (next reading n s))

determined_reads : (reading : Reading) (lines : List Numbered) → Determined (Reads reading lines)
determined_reads reading [] = determined_exactly reading
determined_reads reading (line ∷ lines) =
    determined_bind (ReadsLine reading line.0 (tokens_of line.1)) (λ more. Reads more lines) (determined_line reading line.0 (tokens_of line.1)) (λ more. determined_reads more lines)

pub determined_design : (text : List ℕ) → Determined (BlifDesign text)
determined_design text =
    determined_bind (HasModel (lines_of text)) (λ _. Reads start (lines_of text) >>= (λ reading. AreRight (models_of reading) >>= (λ _. Exactly (models_of reading)))) (determined_returns _)
    (λ _. determined_bind (Reads start (lines_of text)) (λ reading. AreRight (models_of reading) >>= (λ _. Exactly (models_of reading))) (determined_reads start (lines_of text))
    (λ reading. determined_bind (AreRight (models_of reading)) (λ _. Exactly (models_of reading)) (determined_right (models_of reading)) (λ _. determined_exactly (models_of reading))))
