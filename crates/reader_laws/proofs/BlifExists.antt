-- Each text has a design or a fault.
use Rattle.std.proofs.Common.{◌≡◌, ◌⊎◌, refl, inl, inr, ℕ, zero, suc, ◌≤◌, Bool, true, false, List, [], ◌∷◌, length, Option, None, Some, Result, Ok, Err, arith}
use Rattle.std.specs.Prelude.{nat_le, All}
use Rattle.std.proofs.lemmas.Bool.{leb-false, leb-true}
use Rattle.std.proofs.lemmas.List.Elements.{All-cons}
use Rattle.outcome.specs.Outcome.{◌>>=◌, Exactly}
use Rattle.outcome.proofs.SomeLemmas.{some_bind, some_exactly, some_returns}
use Rattle.text_core.specs.Lines.{tokens_of, IsPrinting}
use Rattle.graph_core.specs.Cycle.{IsCycleOf, IsGrounded}
use Rattle.reader_laws.proofs.CycleExists.{first_of_cycle, some_cycle}
use Rattle.lists.specs.Lists.{Has}
use Rattle.net_blif.specs.Chains.{graph_of, AreWithinDepth, WalkEnds}
use Rattle.net_blif.specs.Design.{name_of, ModelValue}
use Rattle.net_blif.specs.Instances.{HaveFormals}
use Rattle.net_blif.specs.Lines.{lines_of, Numbered}
use Rattle.net_blif.specs.Models.{may_stand, models_of, next, start, AreRight, BlifDesign, HasModel, Reading, Reads, ReadsLine}
use Rattle.net_blif.specs.Spelling.{statement_of}
use Rattle.net_blif.specs.Statement.{IsToken, Token}
use Rattle.net_blif.specs.declared.statement.Statement.{Statement}
use Rattle.net_blif.specs.declared.fault.BlifFault.{BlifFault}
use Rattle.net_blif.specs.declared.fault.BlifFault.TheVariants.{Recursive, Syntax}
use Rattle.net_blif.proofs.ReadLemmas.{added, bad_token, misplaced, no_statement, refused}

-- ---- whether all are tokens

at_most_or : (a b : ℕ) → (a ≤ b) ⊎ (a ≤ b → ⊥)
at_most_or a b = by (nat_le a b) refl
  where
    by : (c : Bool) → nat_le a b ≡ c → (a ≤ b) ⊎ (a ≤ b → ⊥)
    by true is = inl (leb-true a b is)
    by false is = inr (λ le. omega (arith, le, leb-false a b is))

both_or : {P Q : Type 0} → P ⊎ (P → ⊥) → Q ⊎ (Q → ⊥) → (P × Q) ⊎ (P × Q → ⊥)
both_or (inl p) (inl q) = inl (p, q)
both_or (inl p) (inr not) = inr (λ both. not both.1)
both_or (inr not) other = inr (λ both. not both.0)

all_or : {X : Type 0} (P : X → Type 0) → ((x : X) → P x ⊎ (P x → ⊥)) → (xs : List X) → All P xs ⊎ (All P xs → ⊥)
all_or P each [] = inl (λ k d less. absurd (omega (arith, less)))
all_or P each (x ∷ xs) = by (each x) (all_or P each xs)
  where
    by : P x ⊎ (P x → ⊥) → All P xs ⊎ (All P xs → ⊥) → All P (x ∷ xs) ⊎ (All P (x ∷ xs) → ⊥)
    by (inl here) (inl rest) = inl (All-cons P x xs here rest)
    by (inl here) (inr not) = inr (λ all. not (λ k d less. all (suc k) d (omega (arith, less))))
    by (inr not) other = inr (λ all. not (all zero x (omega arith)))

printing_or : (token : Token) → IsPrinting token ⊎ (IsPrinting token → ⊥)
printing_or token = all_or (λ b. (33 ≤ b) × (b ≤ 126)) (λ b. both_or (at_most_or 33 b) (at_most_or b 126)) token

token_or : (token : Token) → IsToken token ⊎ (IsToken token → ⊥)
token_or token = by (at_most_or 1 (length token)) (at_most_or (length token) 255) (printing_or token)
  where
    by : (1 ≤ length token) ⊎ (1 ≤ length token → ⊥) → (length token ≤ 255) ⊎ (length token ≤ 255 → ⊥) → IsPrinting token ⊎ (IsPrinting token → ⊥) → IsToken token ⊎ (IsToken token → ⊥)
    by (inl some) (inl few) (inl prints) = inl (some, few, prints)
    by (inl some) (inl few) (inr not) = inr (λ is. not is.2)
    by (inl some) (inr not) other = inr (λ is. not is.1)
    by (inr not) few other = inr (λ is. not is.0)

-- ---- what comes of a line

abbrev SomeLine : Reading → ℕ → List Token → Type 0
SomeLine reading n tokens = (outcome : Result Reading BlifFault) × ReadsLine reading n tokens outcome

module _ (reading : Reading) (n : ℕ) (word : Token) (words : List Token) where
  line_added : All IsToken (word ∷ words) → (s : Statement) → statement_of (word ∷ words) ≡ Some s → may_stand reading s ≡ true → (r : Result Reading BlifFault) → next reading n s ≡ r → SomeLine reading n (word ∷ words)
  line_added all s is may (Ok more) made = (Ok more, added reading n (word ∷ words) s more all is may made)
  line_added all s is may (Err fault) made = (Err fault, refused reading n (word ∷ words) s fault all is may made)

  line_stands : All IsToken (word ∷ words) → (s : Statement) → statement_of (word ∷ words) ≡ Some s → (b : Bool) → may_stand reading s ≡ b → SomeLine reading n (word ∷ words)
  line_stands all s is true may = line_added all s is may (next reading n s) refl
  line_stands all s is false may = (Err (Syntax n), misplaced reading n (word ∷ words) s all is may)

  line_says : All IsToken (word ∷ words) → (found : Option Statement) → statement_of (word ∷ words) ≡ found → SomeLine reading n (word ∷ words)
  line_says all None is = (Err (Syntax n), no_statement reading n (word ∷ words) all (λ none. omega (arith, none)) is)
  line_says all (Some s) is = line_stands all s is (may_stand reading s) refl

  line_of : All IsToken (word ∷ words) ⊎ (All IsToken (word ∷ words) → ⊥) → SomeLine reading n (word ∷ words)
  line_of (inl all) = line_says all (statement_of (word ∷ words)) refl
  line_of (inr bad) = (Err (Syntax n), bad_token reading n (word ∷ words) bad)

some_line : (reading : Reading) (n : ℕ) (tokens : List Token) → SomeLine reading n tokens
some_line reading n [] = (Ok reading, refl)
some_line reading n (word ∷ words) = line_of reading n word words (all_or IsToken token_or (word ∷ words))

-- ---- what comes of all lines, and of the models

some_reads : (reading : Reading) (lines : List Numbered) → (outcome : Result Reading BlifFault) × Reads reading lines outcome
some_reads reading [] = (Ok reading, refl)
some_reads reading (line ∷ lines) =
    some_bind (ReadsLine reading line.0 (tokens_of line.1)) (λ more. Reads more lines) (some_line reading line.0 (tokens_of line.1)) (λ more may. some_reads more lines)

some_walk : (models : List ModelValue) → (outcome : Result (Unit {0}) BlifFault) × WalkEnds models outcome
some_walk models = by (some_cycle (graph_of models) (zero ∷ []))
  where
    by : ((a : ℕ) → Has (zero ∷ []) a → IsGrounded (graph_of models) a) ⊎ ((cycle : List ℕ) × IsCycleOf (graph_of models) (zero ∷ []) cycle) → (outcome : Result (Unit {0}) BlifFault) × WalkEnds models outcome
    by (inl all) = (Ok tt, all zero (zero, refl))
    by (inr found) =
        let first = first_of_cycle (graph_of models) (zero ∷ []) found.0 found.1 in
        (Err (Recursive (name_of models first.0)), (found.0, first.0, found.1, first.1, refl))

some_right : (models : List ModelValue) → (outcome : Result (Unit {0}) BlifFault) × AreRight models outcome
some_right models =
    some_bind (HaveFormals models) (λ _. WalkEnds models >>= (λ _. AreWithinDepth models)) (some_returns _)
    (λ formals have. some_bind (WalkEnds models) (λ _. AreWithinDepth models) (some_walk models) (λ walk ends. some_returns _))

pub some_design : (text : List ℕ) → (outcome : Result (List ModelValue) BlifFault) × BlifDesign text outcome
some_design text =
    some_bind (HasModel (lines_of text)) (λ _. Reads start (lines_of text) >>= (λ reading. AreRight (models_of reading) >>= (λ _. Exactly (models_of reading)))) (some_returns _)
    (λ first has. some_bind (Reads start (lines_of text)) (λ reading. AreRight (models_of reading) >>= (λ _. Exactly (models_of reading))) (some_reads start (lines_of text))
    (λ reading reads. some_bind (AreRight (models_of reading)) (λ _. Exactly (models_of reading)) (some_right (models_of reading)) (λ right are. some_exactly (models_of reading))))
