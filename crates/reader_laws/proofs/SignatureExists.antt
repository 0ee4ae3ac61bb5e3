-- Of each text there is a signature or a fault: the steps of the definition have outcomes, one after another.
use Rattle.std.proofs.Common.{◌≡◌, ◌∙◌, sym, refl, subst, inl, inr, ℕ, ◌&&◌, List, [], ◌∷◌, Bool, true, false, Result, Ok, Err}
use Rattle.lists.specs.laws.BoolLaws.{either}
use Rattle.outcome.proofs.SomeLemmas.{some_bind, some_exactly, some_returns}
use Rattle.outcome.specs.Outcome.{◌>>=◌, Exactly, Returns}
use Rattle.net_signature.specs.Lines.{Token, Line, lines_from, end_from}
use Rattle.net_signature.specs.Statement.{SaysVersion, SaysField, SaysTower, SaysEntry}
use Rattle.net_signature.specs.Outcomes.{OrSyntax, Says, first_of, Next, tower_comes}
use Rattle.net_signature.specs.Body.{BodyValue, begun, blocks_of, has_feeds, may_stand, next, whole, SaysHere, ReadsLine, Reads}
use Rattle.net_signature.specs.Signature.{SignatureValue, TowerIf, TowerOf, UpperOf, WholeSignature, SignatureOf, Sig}
use Rattle.net_signature.specs.declared.entry.Entry.{Entry}
use Rattle.net_signature.specs.declared.fault.SigFault.{SigFault}
use Rattle.net_signature.specs.declared.fault.SigFault.TheVariants.{Syntax}
use Rattle.net_signature.proofs.EntryDetermined.{one_entry}
use Rattle.reader_laws.proofs.SignatureSays.{entry_decided}
use Rattle.reader_laws.proofs.SignatureWords.{IsSaidOr, version_decided, field_decided, tower_decided}
use Rattle.net_signature.proofs.SignatureLemmas.{after_version, after_field, after_tower, after_upper}

some_syntax : {A : Type 0} (number : ℕ) (says : A → Type 0) → IsSaidOr says → (outcome : Result A SigFault) × OrSyntax number says outcome
some_syntax number says (inl said) = (Ok said.0, said.1)
some_syntax number says (inr other) = (Err (Syntax number), (refl, λ value is. other (value, is)))

some_next : {A : Type 0} (end : ℕ) (says : List Token → A → Type 0) → ((tokens : List Token) → IsSaidOr (says tokens)) → (lines : List Line) → (outcome : Result (A × List Line) SigFault) × Next end says lines outcome
some_next end says decided lines =
    some_bind (Returns (first_of end lines)) (λ first. Says first.0 says >>= (λ value. Exactly (value, first.1))) (some_returns (first_of end lines)) (λ first may.
    some_bind (Says first.0 says) (λ value. Exactly (value, first.1)) (some_syntax first.0.number (says first.0.tokens) (decided first.0.tokens)) (λ value is. some_exactly (value, first.1)))

some_tower : (b : Bool) (end : ℕ) (lines : List Line) → (outcome : Result (List ℕ × List Line) SigFault) × TowerIf b end lines outcome
some_tower true end lines = some_next end SaysTower tower_decided lines
some_tower false end lines = some_exactly ([], lines)

-- what the line says may stand here, or nothing that it says may
here_decided : (body : BodyValue) (line : Line) → IsSaidOr (λ said. SaysEntry line said × (may_stand body said ≡ true))
here_decided body line = by (entry_decided line)
  where
    by : IsSaidOr (SaysEntry line) → IsSaidOr (λ said. SaysEntry line said × (may_stand body said ≡ true))
    by (inr other) = inr (λ is. other (is.0, is.1.0))
    by (inl found) =
        either (may_stand body found.0) (λ stands. inl (found.0, (found.1, stands))) (λ barred. inr (λ is.
        let same : is.0 ≡ found.0 = one_entry line is.0 found.0 is.1.0 found.1 in
        let P : Entry → Type 0 = λ said. may_stand body said ≡ true in
        let bad : true ≡ false = sym (subst P same is.1.1) ∙ barred in
        absurd (cc)))

some_line : (body : BodyValue) (line : Line) → (outcome : Result BodyValue SigFault) × ReadsLine body line outcome
some_line body line =
    some_bind (SaysHere body line) (λ said. Returns (next body line.number said)) (some_syntax line.number (λ said. SaysEntry line said × (may_stand body said ≡ true)) (here_decided body line)) (λ said is. some_returns (next body line.number said))

some_reads : (body : BodyValue) (lines : List Line) → (outcome : Result BodyValue SigFault) × Reads body lines outcome
some_reads body [] = some_exactly body
some_reads body (line ∷ lines) = some_bind (ReadsLine body line) (λ more. Reads more lines) (some_line body line) (λ more is. some_reads more lines)

some_whole : (modulus : ℕ) (tower upper : List ℕ) (body : BodyValue) → (outcome : Result SignatureValue SigFault) × WholeSignature modulus tower upper body outcome
some_whole modulus tower upper body = some_bind (Returns (whole body.words (blocks_of body))) (λ complete. Exactly made) (some_returns (whole body.words (blocks_of body))) (λ complete is. some_exactly made)
  where
    made : SignatureValue
    made = record { modulus = modulus; tower = tower; upper = upper; words = body.words; feeds = body.feeds; blocks = blocks_of body }

some_signature : (end : ℕ) (lines : List Line) → (outcome : Result SignatureValue SigFault) × SignatureOf end lines outcome
some_signature end lines =
    some_bind (Next end SaysVersion lines) (λ v. after_version v.0 end v.1) (some_next end SaysVersion version_decided lines) (λ v is.
    some_bind (Next end SaysField v.1) (λ field. after_field v.0 end field.0 field.1) (some_next end SaysField field_decided v.1) (λ field is.
    some_bind (TowerOf end field.1) (λ tower. after_tower v.0 end field.0 tower.0 tower.1) (some_tower (tower_comes field.1) end field.1) (λ tower is.
    some_bind (UpperOf v.0 end tower.1) (λ upper. after_upper v.0 field.0 tower.0 upper.0 upper.1) (some_tower (has_feeds v.0 && tower_comes tower.1) end tower.1) (λ upper is.
    some_bind (Reads (begun v.0) upper.1) (λ body. WholeSignature field.0 tower.0 upper.0 body) (some_reads (begun v.0) upper.1) (λ body is. some_whole field.0 tower.0 upper.0 body)))))

pub some_text : (text : List ℕ) → (outcome : Result SignatureValue SigFault) × Sig text outcome
some_text text = some_signature (end_from 1 text) (lines_from 1 text)
