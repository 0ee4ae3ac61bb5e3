-- At most one outcome comes of a signature's text.
use Rattle.std.proofs.Common.{◌≡◌, ◌∙◌, ap, sym, ℕ, ◌&&◌, List, [], ◌∷◌, Bool, true, false, Ok, Err}
use Rattle.outcome.proofs.DeterminedLemmas.{determined_returns, determined_bind, determined_exactly}
use Rattle.outcome.specs.Outcome.{◌>>=◌, Exactly, Returns, Determined}
use Rattle.net_signature.specs.Lines.{Token, Line, lines_from, end_from}
use Rattle.net_signature.specs.Statement.{SaysVersion, SaysField, SaysTower, SaysEntry}
use Rattle.net_signature.specs.Outcomes.{OrSyntax, Says, first_of, Next, tower_comes}
use Rattle.net_signature.specs.Body.{BodyValue, begun, blocks_of, has_feeds, may_stand, next, whole, SaysHere, ReadsLine, Reads}
use Rattle.net_signature.specs.Signature.{SignatureValue, TowerIf, TowerOf, UpperOf, WholeSignature, SignatureOf, Sig}
use Rattle.net_signature.specs.declared.fault.SigFault.{SigFault}
use Rattle.net_signature.specs.declared.fault.SigFault.TheVariants.{Syntax, NameTwice, NoFedWord, FeedTwice, TwoOutputs, TooManyWords, NoOutput, OutOfMemory}
use Rattle.net_signature.proofs.EntryDetermined.{IsSingle, one_version, one_field, one_tower, one_entry}
use Rattle.net_signature.proofs.SignatureLemmas.{after_version, after_field, after_tower, after_upper}

module _ {A : Type 0} (number : ℕ) (says : A → Type 0) (one : IsSingle says) where
  syntax_is : (e : SigFault) → OrSyntax number says (Err e) → (e ≡ Syntax number) × ((value : A) → says value → ⊥)
  syntax_is (Syntax n) h = (ap Syntax h.0, h.1)
  syntax_is (NameTwice n) h = absurd h
  syntax_is (NoFedWord n) h = absurd h
  syntax_is (FeedTwice n) h = absurd h
  syntax_is (TwoOutputs n) h = absurd h
  syntax_is (TooManyWords n) h = absurd h
  syntax_is (NoOutput block) h = absurd h
  syntax_is OutOfMemory h = absurd h

  or_syntax : Determined (OrSyntax number says)
  or_syntax (Ok a) (Ok b) h k = ap Ok (one a b h k)
  or_syntax (Ok a) (Err e) h k = absurd ((syntax_is e k).1 a h)
  or_syntax (Err e) (Ok b) h k = absurd ((syntax_is e h).1 b k)
  or_syntax (Err d) (Err e) h k = ap Err ((syntax_is d h).0 ∙ sym (syntax_is e k).0)

next_determined : {A : Type 0} (end : ℕ) (says : List Token → A → Type 0) → ((tokens : List Token) → IsSingle (says tokens)) → (lines : List Line) → Determined (Next end says lines)
next_determined end says one lines =
    determined_bind (Returns (first_of end lines)) (λ first. Says first.0 says >>= (λ value. Exactly (value, first.1))) (determined_returns (first_of end lines)) (λ first.
    determined_bind (Says first.0 says) (λ value. Exactly (value, first.1)) (or_syntax first.0.number (says first.0.tokens) (one first.0.tokens)) (λ value. determined_exactly (value, first.1)))

tower_if : (b : Bool) (end : ℕ) (lines : List Line) → Determined (TowerIf b end lines)
tower_if true end lines = next_determined end SaysTower one_tower lines
tower_if false end lines = determined_exactly ([], lines)

here_determined : (body : BodyValue) (line : Line) → Determined (SaysHere body line)
here_determined body line = or_syntax line.number (λ said. SaysEntry line said × (may_stand body said ≡ true)) (λ a b h k. one_entry line a b h.0 k.0)

line_determined : (body : BodyValue) (line : Line) → Determined (ReadsLine body line)
line_determined body line = determined_bind (SaysHere body line) (λ said. Returns (next body line.number said)) (here_determined body line) (λ said. determined_returns (next body line.number said))

reads_determined : (body : BodyValue) (lines : List Line) → Determined (Reads body lines)
reads_determined body [] = determined_exactly body
reads_determined body (line ∷ lines) = determined_bind (ReadsLine body line) (λ more. Reads more lines) (line_determined body line) (λ more. reads_determined more lines)

whole_determined : (modulus : ℕ) (tower upper : List ℕ) (body : BodyValue) → Determined (WholeSignature modulus tower upper body)
whole_determined modulus tower upper body = determined_bind (Returns (whole body.words (blocks_of body))) (λ complete. Exactly made) (determined_returns (whole body.words (blocks_of body))) (λ complete. determined_exactly made)
  where
    made : SignatureValue
    made = record { modulus = modulus; tower = tower; upper = upper; words = body.words; feeds = body.feeds; blocks = blocks_of body }

signature_determined : (end : ℕ) (lines : List Line) → Determined (SignatureOf end lines)
signature_determined end lines =
    determined_bind (Next end SaysVersion lines) (λ v. after_version v.0 end v.1) (next_determined end SaysVersion one_version lines) (λ v.
    determined_bind (Next end SaysField v.1) (λ field. after_field v.0 end field.0 field.1) (next_determined end SaysField one_field v.1) (λ field.
    determined_bind (TowerOf end field.1) (λ tower. after_tower v.0 end field.0 tower.0 tower.1) (tower_if (tower_comes field.1) end field.1) (λ tower.
    determined_bind (UpperOf v.0 end tower.1) (λ upper. after_upper v.0 field.0 tower.0 upper.0 upper.1) (tower_if (has_feeds v.0 && tower_comes tower.1) end tower.1) (λ upper.
    determined_bind (Reads (begun v.0) upper.1) (λ body. WholeSignature field.0 tower.0 upper.0 body) (reads_determined (begun v.0) upper.1) (λ body. whole_determined field.0 tower.0 upper.0 body)))))

pub text_determined : (text : List ℕ) → Determined (Sig text)
text_determined text = signature_determined (end_from 1 text) (lines_from 1 text)
