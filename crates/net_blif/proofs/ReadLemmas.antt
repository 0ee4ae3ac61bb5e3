-- What comes of a line.
use Rattle.std.proofs.Common.{◌≡◌, ◌⊎◌, ◌∙◌, inl, inr, ap, sym, refl, subst, ℕ, true, false, List, [], ◌∷◌, length, Option, None, Some, Ok, Err, arith}
use Rattle.std.specs.Prelude.{All, IsTrue}
use Rattle.net_blif.specs.Statement.{Token, IsToken}
use Rattle.net_blif.specs.Spelling.{statement_of}
use Rattle.net_blif.specs.Models.{Reading, may_stand, next, ReadsLine}
use Rattle.net_blif.specs.declared.statement.Statement.{Statement}
use Rattle.net_blif.specs.declared.fault.BlifFault.{BlifFault}
use Rattle.net_blif.specs.declared.fault.BlifFault.TheVariants.{Syntax}
use Rattle.net_blif.proofs.StatementLemmas.{read_spells, spelled_read, spelled_same}

-- a line on which not all are tokens
pub bad_token : (reading : Reading) (n : ℕ) (tokens : List Token) → (All IsToken tokens → ⊥) → ReadsLine reading n tokens (Err (Syntax n))
bad_token reading n [] bad = absurd (bad (λ k d less. absurd (omega arith)))
bad_token reading n (word ∷ words) bad = inl (refl, λ s all spelled well may. bad all)

-- tokens that spell no statement
pub no_statement : (reading : Reading) (n : ℕ) (tokens : List Token) → All IsToken tokens → (length tokens ≡ 0 → ⊥) → statement_of tokens ≡ None → ReadsLine reading n tokens (Err (Syntax n))
no_statement reading n [] all some none = absurd (some refl)
no_statement reading n (word ∷ words) all some none = inl (refl, λ s _ is well _. never s (sym none ∙ (ap statement_of is ∙ spelled_read s well)))
  where
    never : (s : Statement) → ◌≡◌ {A = Option Statement} None (Some s) → ⊥
    never s e = cc

-- a statement that may not stand here
pub misplaced : (reading : Reading) (n : ℕ) (tokens : List Token) (s : Statement) → All IsToken tokens → statement_of tokens ≡ Some s → may_stand reading s ≡ false → ReadsLine reading n tokens (Err (Syntax n))
misplaced reading n [] s all is may = absurd (cc)
misplaced reading n (word ∷ words) s all is may = inl (refl, λ t _ spelled well stands. never t (spelled_same (word ∷ words) s t (read_spells (word ∷ words) s all is) (spelled, well)) stands)
  where
    never : (t : Statement) → s ≡ t → IsTrue (may_stand reading t) → ⊥
    never t same stands = let P : Statement → Type 0 = λ u. IsTrue (may_stand reading u) in let here : may_stand reading s ≡ true = subst P (sym same) stands in absurd (cc)

-- what a statement adds
pub added : (reading : Reading) (n : ℕ) (tokens : List Token) (s : Statement) (more : Reading) → All IsToken tokens → statement_of tokens ≡ Some s → may_stand reading s ≡ true → next reading n s ≡ Ok more → ReadsLine reading n tokens (Ok more)
added reading n [] s more all is may next = absurd (cc)
added reading n (word ∷ words) s more all is may next =
    let h = read_spells (word ∷ words) s all is in (s, (all, h.0, h.1, may), sym next)

-- the fault of a statement
pub refused : (reading : Reading) (n : ℕ) (tokens : List Token) (s : Statement) (fault : BlifFault) → All IsToken tokens → statement_of tokens ≡ Some s → may_stand reading s ≡ true → next reading n s ≡ Err fault → ReadsLine reading n tokens (Err fault)
refused reading n [] s fault all is may next = absurd (cc)
refused reading n (word ∷ words) s fault all is may next =
    let h = read_spells (word ∷ words) s all is in inr (s, (all, h.0, h.1, may), sym next)

pub refused_or : (reading : Reading) (n : ℕ) (tokens line : List Token) (s : Statement) (fault wanting : BlifFault) → tokens ≡ line → All IsToken tokens → statement_of tokens ≡ Some s → may_stand reading s ≡ true → (fault ≡ wanting) ⊎ (next reading n s ≡ Err fault) → (fault ≡ wanting) ⊎ ReadsLine reading n line (Err fault)
refused_or reading n tokens line s fault wanting is all said stands why =
    let P : List Token → Type 0 = λ t. ReadsLine reading n t (Err fault) in
    elim why [ inl w ↦ inl w | inr w ↦ inr (subst P is (refused reading n tokens s fault all said stands w)) ]
