-- Lines that begin with `.names`, by the tokens behind it.
use Rattle.std.proofs.Common.{◌≡◌, ◌⊎◌, ◌∙◌, ap, sym, refl, subst, ℕ, ◌≤◌, Bool, true, false, List, [], ◌∷◌, ◌++◌, take, drop, take-append-drop, None, Some, Ok, Err, arith}
use Rattle.std.specs.Prelude.{All, codes, is_some}
use Rattle.std.specs.Str.{bytes_eq}
use Rattle.std.proofs.lemmas.List.Elements.{All-append, All-cons, All-nil}
use Rattle.std.proofs.lemmas.Slice.Eq.{bytes_eq-Decides}
use Rattle.net_blif.specs.Models.{Reading, ReadsLine, next}
use Rattle.net_blif.specs.Spelling.{cover_of, statement_of}
use Rattle.net_blif.specs.Statement.{IsToken, Token}
use Rattle.net_blif.specs.private.FirstLine.{with_names, IsWordByte, StandsAlone}
use Rattle.net_blif.specs.declared.statement.Statement.TheVariants.{Cover}
use Rattle.net_blif.specs.declared.fault.BlifFault.{BlifFault}
use Rattle.net_blif.specs.declared.fault.BlifFault.TheVariants.{Syntax}
use Rattle.net_blif.proofs.InPlaceLemmas.{with_word, word_before}
use Rattle.net_blif.proofs.ItemLemmas.{read_names}
use Rattle.net_blif.proofs.ReadLemmas.{added, misplaced, no_statement, refused_or}

names_word : All IsWordByte (codes ".names")
names_word =
    All-cons IsWordByte 46 (codes "names") (omega arith, omega arith)
    (All-cons IsWordByte 110 (codes "ames") (omega arith, omega arith)
    (All-cons IsWordByte 97 (codes "mes") (omega arith, omega arith)
    (All-cons IsWordByte 109 (codes "es") (omega arith, omega arith)
    (All-cons IsWordByte 101 (codes "s") (omega arith, omega arith)
    (All-cons IsWordByte 115 [] (omega arith, omega arith) (All-nil IsWordByte))))))

-- what stands behind `.names` and a space
pub names_cut : (text rest : List ℕ) → bytes_eq (take 7 text) (codes ".names ") ≡ true → rest ≡ drop 7 text → text ≡ codes ".names" ++ 32 ∷ rest
names_cut text rest is behind =
    sym (take-append-drop 7 text) ∙ (ap (λ (l : List ℕ). l ++ drop 7 text) ((bytes_eq-Decides (take 7 text) (codes ".names ")).0 is) ∙ ap (λ (l : List ℕ). codes ".names " ++ l) (sym behind))

-- a line that stands alone, with or without `.names` before it
pub names_alone : (text rest : List ℕ) (words : List Token) (after : List ℕ) (named : Bool) → (named ≡ true → text ≡ codes ".names" ++ 32 ∷ rest) → (named ≡ false → rest ≡ text) → StandsAlone rest words after → StandsAlone text (with_names named words) after
names_alone text rest words after true is other alone = word_before text (codes ".names") 32 rest words after (is refl) names_word refl refl alone
names_alone text rest words after false is other alone = let P : List ℕ → Type 0 = λ t. StandsAlone t words after in subst P (other refl) alone

names_tokens : (nets : List Token) → All IsToken nets → All IsToken (codes ".names" ∷ nets)
names_tokens nets all =
    let short : 6 ≤ 255 = omega arith in
    All-append IsToken (codes ".names" ∷ []) nets (with_word [] (codes ".names") (All-nil IsToken) names_word short) all

names_statement : (nets : List Token) → statement_of (codes ".names" ∷ nets) ≡ cover_of nets
names_statement nets = refl

-- what the tokens behind `.names` say
module _ (reading : Reading) (line : ℕ) (nets : List Token) (all : All IsToken nets) where
  pub no_nets : cover_of nets ≡ None → ReadsLine reading line (codes ".names" ∷ nets) (Err (Syntax line))
  no_nets none = no_statement reading line (codes ".names" ∷ nets) (names_tokens nets all) (λ e. omega (arith, e)) (names_statement nets ∙ none)

  module _ (inputs : List Token) (out : Token) (some : cover_of nets ≡ Some (Cover inputs out)) where
    said : statement_of (codes ".names" ∷ nets) ≡ Some (Cover inputs out)
    said = names_statement nets ∙ some

    pub nets_are_tokens : All IsToken inputs × IsToken out
    nets_are_tokens = read_names (codes ".names" ∷ nets) (Cover inputs out) (names_tokens nets all) said

    pub cover_misplaced : is_some reading.model ≡ false → ReadsLine reading line (codes ".names" ∷ nets) (Err (Syntax line))
    cover_misplaced closed = misplaced reading line (codes ".names" ∷ nets) (Cover inputs out) (names_tokens nets all) said closed

    pub cover_added : (more : Reading) → is_some reading.model ≡ true → next reading line (Cover inputs out) ≡ Ok more → ReadsLine reading line (codes ".names" ∷ nets) (Ok more)
    cover_added more is_open made = added reading line (codes ".names" ∷ nets) (Cover inputs out) more (names_tokens nets all) said is_open made

    pub cover_refused : (fault wanting : BlifFault) → is_some reading.model ≡ true → (fault ≡ wanting) ⊎ (next reading line (Cover inputs out) ≡ Err fault) → (fault ≡ wanting) ⊎ ReadsLine reading line (codes ".names" ∷ nets) (Err fault)
    cover_refused fault wanting is_open why = refused_or reading line (codes ".names" ∷ nets) (codes ".names" ∷ nets) (Cover inputs out) fault wanting refl (names_tokens nets all) said is_open why
