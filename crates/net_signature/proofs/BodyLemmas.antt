-- One more line of what is being read.
use Rattle.std.proofs.Common.{◌≡◌, ◌∙◌, ap, sym, refl, subst, ℕ, List, [], ◌∷◌, Bool, true, false, Result, Ok, Err, None, Some, inr}
use Rattle.std.proofs.lemmas.Bool.{true≢false}
use Rattle.std.specs.List.{list_any}
use Rattle.std.specs.Str.{bytes_eq}
use Rattle.outcome.specs.Outcome.{Returns}
use Rattle.net_signature.specs.Lines.{Line}
use Rattle.net_signature.specs.Statement.{SaysEntry}
use Rattle.net_signature.specs.Outcomes.{OrSyntax}
use Rattle.net_signature.specs.Body.{BlockValue, BodyValue, blocks_of, may_stand, block_begun, next, SaysHere, ReadsLine, Reads}
use Rattle.net_signature.specs.private.Seen.{IsFeedWithin}
use Rattle.net_signature.specs.Reading.{Fits}
use Rattle.net_signature.specs.declared.entry.Entry.{Entry}
use Rattle.net_signature.specs.declared.entry.Entry.TheVariants.{Word, Feed, Block}
use Rattle.net_signature.specs.declared.fault.SigFault.{SigFault}
use Rattle.net_signature.specs.declared.fault.SigFault.TheVariants.{Syntax, NameTwice}
use Rattle.net_signature.proofs.ReaderLemmas.{fits_after, fits_first, syntax_moves}
use Rattle.net_signature.proofs.EntryDetermined.{one_entry}

abbrev pub same_entry : Entry → Entry
same_entry said = said

abbrev pub same_body : BodyValue → BodyValue
same_body body = body

-- what a line says but may not stand here is a syntax fault
pub misplaced : (body : BodyValue) (line : Line) (said : Entry) → SaysEntry line said → may_stand body said ≡ false → SaysHere body line (Err (Syntax line.number))
misplaced body line said says not = (refl, λ e both. let P : Entry → Type 0 = λ x. may_stand body x ≡ true in true≢false (sym (subst P (one_entry line e said both.0 says) both.1) ∙ not))

-- a line that says nothing says nothing here
pub says_none : (fault : SigFault) (body : BodyValue) (line : Line) → Fits same_entry (Err fault) (OrSyntax line.number (SaysEntry line)) → Fits same_entry (Err fault) (SaysHere body line)
says_none fault body line fits = syntax_moves same_entry same_entry line.number (SaysEntry line) (λ said. SaysEntry line said × (may_stand body said ≡ true)) fault (λ said both. (said, both.0)) fits

-- the cycle of a feed that a line says is within its limit
pub says_within : (line : Line) (said : Entry) → SaysEntry line said → IsFeedWithin said
says_within line (Word word) says = tt
says_within line (Feed feed) says = says.within
says_within line (Block model) says = tt

pub line_read : {X : Type 0} (view : X → BodyValue) (body : BodyValue) (line : Line) (said : Entry) (result : Result X SigFault) → SaysHere body line (Ok said) → Fits view result (Returns (next body line.number said)) → Fits view result (ReadsLine body line)
line_read view body line said result says fits = fits_after view result (SaysHere body line) (λ e. Returns (next body line.number e)) said says fits

pub line_fails : (body : BodyValue) (line : Line) (fault : SigFault) → Fits same_entry (Err fault) (SaysHere body line) → Fits same_body (Err fault) (ReadsLine body line)
line_fails body line fault fits = fits_first same_entry same_body fault (SaysHere body line) (λ e. Returns (next body line.number e)) fits

pub lines_read : (body more : BodyValue) (line : Line) (lines : List Line) (all : List Line) (outcome : Result BodyValue SigFault) → all ≡ line ∷ lines → ReadsLine body line (Ok more) → Reads more lines outcome → Reads body all outcome
lines_read body more line lines all (Ok end) is first rest = let P : List Line → Type 0 = λ ls. Reads body ls (Ok end) in subst P (sym is) (more, first, rest)
lines_read body more line lines all (Err fault) is first rest = let P : List Line → Type 0 = λ ls. Reads body ls (Err fault) in subst P (sym is) (inr (more, first, rest))

module _ (body ended : BodyValue) (line : ℕ) (model : List ℕ) (are : ended ≡ record body { blocks = blocks_of body; block = None }) where
  -- whether a block is of the model, looked for among those that have ended
  has_ended : (has : Bool) → has ≡ list_any (λ (block : BlockValue). bytes_eq block.model model) ended.blocks → list_any (λ (block : BlockValue). bytes_eq block.model model) (blocks_of body) ≡ has
  has_ended has is = sym (is ∙ ap (λ (b : BodyValue). list_any (λ (block : BlockValue). bytes_eq block.model model) b.blocks) are)

  -- a block that begins, where no other is of its model
  pub begins : (block : BlockValue) → block ≡ record { model = model; words = [] } → false ≡ list_any (λ (block : BlockValue). bytes_eq block.model model) ended.blocks → ◌≡◌ {A = Result BodyValue SigFault} (Ok (record ended { block = Some block })) (block_begun body line model)
  begins block new none =
      let none' = has_ended false none in
      let put : BodyValue → BlockValue → Result BodyValue SigFault = λ b n. Ok (record b { block = Some n }) in
      rw none' (ap (λ (b : BodyValue). put b block) are ∙ ap (put (record body { blocks = blocks_of body; block = None })) new)

  -- and where one is
  pub begun_twice : true ≡ list_any (λ (block : BlockValue). bytes_eq block.model model) ended.blocks → ◌≡◌ {A = Result BodyValue SigFault} (Err (NameTwice line)) (block_begun body line model)
  begun_twice twice =
      let twice' = has_ended true twice in
      rw twice' refl
