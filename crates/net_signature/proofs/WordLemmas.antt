-- What the line of a word says, part by part.
use Rattle.std.proofs.Common.{◌≡◌, ap, sym, refl, subst, ℕ, ◌≤◌, ◌-◌, List, [], ◌∷◌, length, map, take, drop, get_or, arith, All, Result, Err, codes}
use Rattle.std.proofs.Math.Seq.{take-length}
use Rattle.text_core.specs.Names.{IsName}
use Rattle.net_words.specs.declared.word.BasisText.{BasisText}
use Rattle.net_words.specs.declared.word.WordText.{WordText}
use Rattle.net_signature.specs.Lines.{Token}
use Rattle.net_signature.specs.Statement.{SaysRole, SaysBasis, IsNetToken, IsNetCount, SaysWord}
use Rattle.net_signature.specs.Outcomes.{OrSyntax}
use Rattle.net_signature.specs.Reading.{Fits}
use Rattle.net_signature.specs.declared.fault.SigFault.{SigFault}
use Rattle.net_signature.proofs.ReaderLemmas.{syntax_moves}

abbrev pub same_word : WordText → WordText
same_word word = word

abbrev pub same_basis : BasisText → BasisText
same_basis basis = basis

-- three tokens and those after them
pub three : {C : Type 0} (f : C → Token) (xs : List C) (d : C) → 3 ≤ length xs → f (get_or xs 0 d) ∷ f (get_or xs 1 d) ∷ f (get_or xs 2 d) ∷ map f (take (length xs - 3) (drop 3 xs)) ≡ map f xs
three f [] d long = absurd (omega arith)
three f (a ∷ []) d long = absurd (omega arith)
three f (a ∷ b ∷ []) d long = absurd (omega arith)
three f (a ∷ b ∷ c ∷ xs) d long =
    let same : length (a ∷ b ∷ c ∷ xs) - 3 ≡ length xs = omega arith in
    ap (λ rest. f a ∷ f b ∷ f c ∷ map f rest) (rw same (take-length xs))

-- the line has this word, where these tokens stand behind `word`
abbrev pub IsWord : ℕ → List Token → WordText → Type 0
IsWord line tokens word = SaysWord (codes "word" ∷ tokens) word × (word.line ≡ line)

-- a line of three tokens and those after them, behind `word`
pub three_fit : {C : Type 0} (f : C → Token) (xs : List C) (d : C) (line : ℕ) (result : Result WordText SigFault) → 3 ≤ length xs → Fits same_word result (OrSyntax line (IsWord line (f (get_or xs 0 d) ∷ f (get_or xs 1 d) ∷ f (get_or xs 2 d) ∷ map f (take (length xs - 3) (drop 3 xs))))) → Fits same_word result (OrSyntax line (IsWord line (map f xs)))
three_fit f xs d line result long fits =
    let P : List Token → Type 0 = λ tokens. Fits same_word result (OrSyntax line (IsWord line tokens)) in
    subst P (three f xs d long) fits

module _ (line : ℕ) (name role basis : Token) (nets : List Token) where
  abbrev tokens : List Token
  tokens = name ∷ role ∷ basis ∷ nets

  basis_of : (word : WordText) → IsWord line tokens word → (b : BasisText) × SaysBasis basis b
  basis_of word says = (word.basis, let P : Token → Type 0 = λ t. SaysBasis t word.basis in subst P (sym (ap (λ ts. get_or ts 3 []) says.0.tokens_are)) says.0.is_basis)

  pub basis_err : (fault : SigFault) → Fits same_basis (Err fault) (OrSyntax line (SaysBasis basis)) → Fits same_word (Err fault) (OrSyntax line (IsWord line tokens))
  basis_err fault fits = syntax_moves same_basis same_word line (SaysBasis basis) (IsWord line tokens) fault basis_of fits

  pub word_ok : (word : WordText) → word.line ≡ line → word.name ≡ name → IsName name → SaysRole role word.role → SaysBasis basis word.basis → IsNetCount word.role (length nets) → (word.nets ≡ nets) × All IsNetToken word.nets → IsWord line tokens word
  word_ok word place called is_name is_role is_basis some are =
      let P : Token → Type 0 = λ t. IsName t in
      let Q : List Token → Type 0 = λ ts. IsNetCount word.role (length ts) in (
        record {
          role = role;
          basis = basis;
          tokens_are = rw (called, are.0) refl;
          is_name = subst P (sym called) is_name;
          is_role = is_role;
          is_basis = is_basis;
          some = subst Q (sym are.0) some;
          are_nets = are.1;
        },
        place,
      )
