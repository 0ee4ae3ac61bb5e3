-- What comes of a text and of what was read, step by step.
use Rattle.std.proofs.Common.{◌≡◌, ◌⊎◌, ◌∙◌, ◌+◌, ap, inl, inr, sym, refl, subst, true, false, List, [], ◌∷◌, ℕ, length, Result, Ok, Err}
use Rattle.std.specs.Prelude.{IfErr, IfOk}
use Rattle.std.specs.Str.Lines.{lines}
use Rattle.lists.specs.laws.BoolLaws.{first_true}
use Rattle.lists.specs.laws.LineLaws.{no_lines}
use Rattle.net_core.specs.Finish.{Finishes}
use Rattle.net_core.specs.NetList.{NetList}
use Rattle.net_core.specs.declared.fault.NetFault.{NetFault}
use Rattle.net_core.specs.declared.fault.NetFault.TheVariants as nets
use Rattle.net_aiger.specs.AigerNet.{AigerNet, NetOf}
use Rattle.net_aiger.specs.Checks.{apart, known}
use Rattle.net_aiger.specs.private.Run.{ends, header_from, is_complete, lines_read, one_line, start, text_read}
use Rattle.net_aiger.specs.Nets.{net_made}
use Rattle.net_aiger.specs.Numbers.{words_of}
use Rattle.net_aiger.specs.Reading.{Reading}
use Rattle.net_aiger.specs.Sections.{Text}
use Rattle.net_aiger.specs.declared.reading.Header.{Header}
use Rattle.net_aiger.specs.declared.fault.AigerFault.{AigerFault}
use Rattle.net_aiger.specs.declared.fault.AigerFault.TheVariants.{Net, OutOfMemory, Syntax}
use Rattle.net_aiger.specs.private.Making.{IsFaultOf}
use Rattle.net_core.proofs.SettleLemmas.{settles}
use Rattle.net_aiger.proofs.EntryLemmas.{then_by}
use Rattle.net_aiger.proofs.TextLemmas.{read_is_text}

-- ---- lines

module _ (n : ℕ) (all rest : List (List ℕ)) (line : List ℕ) (reading : Reading) (is : all ≡ line ∷ rest) where
  -- a line that ends the text
  pub ended : ends line reading ≡ true → lines_read n all reading ≡ Ok reading
  ended e = rw (is, e) refl

  -- one line and then the others
  pub one_read : (more : Reading) → ends line reading ≡ false → one_line n line reading ≡ Ok more → lines_read n all reading ≡ lines_read (n + 1) rest more
  one_read more e made = rw (is, e, made) refl

  pub one_refused : (fault : AigerFault) → ends line reading ≡ false → one_line n line reading ≡ Err fault → lines_read n all reading ≡ Err fault
  one_refused fault e made = rw (is, e, made) refl

  -- the fault of one line is the whole's
  pub refused_lines : (whole : Result Reading AigerFault) (fault : AigerFault) → whole ≡ lines_read n all reading → ends line reading ≡ false → (fault ≡ OutOfMemory) ⊎ (one_line n line reading ≡ Err fault) → (fault ≡ OutOfMemory) ⊎ (whole ≡ Err fault)
  refused_lines whole fault so_far e (inl w) = inl w
  refused_lines whole fault so_far e (inr w) = inr (so_far ∙ one_refused fault e w)

-- a line that ends a text stands behind all numbers
pub end_complete : (line : List ℕ) (reading : Reading) → ends line reading ≡ true → is_complete reading ≡ true
end_complete line reading e = first_true (is_complete reading) _ e

-- a text that is read to its end
pub all_read : (n : ℕ) (text : List ℕ) (reading : Reading) → length text ≡ 0 → is_complete reading ≡ true → lines_read n (lines text) reading ≡ Ok reading
all_read n text reading none complete = rw (no_lines text none, complete) refl

pub cut_short : (n : ℕ) (text : List ℕ) (reading : Reading) → length text ≡ 0 → is_complete reading ≡ false → lines_read n (lines text) reading ≡ Err (Syntax n)
cut_short n text reading none complete = rw (no_lines text none, complete) refl

-- ---- a text

-- what the reader makes of a text, its sections say
pub text_made : (text : List ℕ) (line : List ℕ) (rest : List (List ℕ)) (header : Header) (outcome : Result Reading AigerFault) → lines text ≡ line ∷ rest → header_from (words_of line) ≡ Ok header → lines_read 2 rest (start header) ≡ outcome → Text (lines text) outcome
text_made text line rest header outcome is heads made =
    let P : List (List ℕ) → Type 0 = λ ls. Text ls outcome in
    let Q : Result Reading AigerFault → Type 0 = Text (line ∷ rest) in
    let read : text_read (line ∷ rest) ≡ outcome = ap (λ (h : Result Header AigerFault). then_by h (λ header. lines_read 2 rest (start header))) heads ∙ made in
    subst P (sym is) (subst Q read (read_is_text (line ∷ rest)))

-- a text whose lines or whose header are refused
pub text_refused : (text : List ℕ) (line : List ℕ) (rest : List (List ℕ)) (header : Header) (fault : AigerFault) → lines text ≡ line ∷ rest → header_from (words_of line) ≡ Ok header → (fault ≡ OutOfMemory) ⊎ (lines_read 2 rest (start header) ≡ Err fault) → (fault ≡ OutOfMemory) ⊎ Text (lines text) (Err fault)
text_refused text line rest header fault is heads (inl wanting) = inl wanting
text_refused text line rest header fault is heads (inr refused) = inr (text_made text line rest header (Err fault) is heads refused)

pub header_refused : (text : List ℕ) (line : List ℕ) (rest : List (List ℕ)) (fault : AigerFault) → lines text ≡ line ∷ rest → (fault ≡ OutOfMemory) ⊎ (header_from (words_of line) ≡ Err fault) → (fault ≡ OutOfMemory) ⊎ Text (lines text) (Err fault)
header_refused text line rest fault is (inl wanting) = inl wanting
header_refused text line rest fault is (inr refused) =
    let P : List (List ℕ) → Type 0 = λ ls. Text ls (Err fault) in
    let Q : Result Reading AigerFault → Type 0 = Text (line ∷ rest) in
    let read : text_read (line ∷ rest) ≡ Err fault = ap (λ (h : Result Header AigerFault). then_by h (λ header. lines_read 2 rest (start header))) refused in
    inr (subst P (sym is) (subst Q read (read_is_text (line ∷ rest))))

pub nothing_read : (text : List ℕ) → length text ≡ 0 → Text (lines text) (Err (Syntax 1))
nothing_read text none = let P : List (List ℕ) → Type 0 = λ ls. Text ls (Err (Syntax 1)) in subst P (sym (no_lines text none)) refl

-- ---- the net

-- the fault of a net, or out of memory
abbrev pub IsWrapped : NetFault → AigerFault → Type 0
IsWrapped refusal fault = ((refusal ≡ nets.OutOfMemory) × (fault ≡ OutOfMemory)) ⊎ (¬ (refusal ≡ nets.OutOfMemory) × (fault ≡ Net refusal))

-- out of memory, or a fault of what was read
abbrev pub Comes : Reading → AigerFault → Type 0
Comes reading fault = (fault ≡ OutOfMemory) ⊎ NetOf reading (Err fault)

module _ (reading : Reading) where
  pub not_known : (fault : AigerFault) → known reading.defined reading.uses ≡ Err fault → Comes reading fault
  not_known fault is = inr (inl (sym is))

  module _ (is_known : known reading.defined reading.uses ≡ Ok tt) where
    pub not_apart : (fault : AigerFault) → (fault ≡ OutOfMemory) ⊎ (apart reading 0 [] reading.ports ≡ Err fault) → Comes reading fault
    not_apart fault (inl is) = inl is
    not_apart fault (inr is) = inr (inr (tt, sym is_known, inl (sym is)))

    module _ (is_apart : apart reading 0 [] reading.ports ≡ Ok tt) where
      pub not_made : (refusal : NetFault) (fault : AigerFault) → IsFaultOf (net_made reading) refusal → IsWrapped refusal fault → Comes reading fault
      not_made refusal fault why (inl (wanting, is)) = inl is
      not_made refusal fault (inl wanting) (inr (other, is)) = absurd (other wanting)
      not_made refusal fault (inr made) (inr (other, is)) = inr (inr (tt, sym is_known, inr (tt, sym is_apart, inl (refusal, sym made, is))))

      module _ (net : NetList) (made : net_made reading ≡ Ok net) where
        pub not_sound : (refusal : NetFault) (fault : AigerFault) → Finishes net (Err refusal) → IsWrapped refusal fault → Comes reading fault
        not_sound refusal fault finished (inl (wanting, is)) = inl is
        not_sound refusal fault finished (inr (other, is)) = inr (inr (tt, sym is_known, inr (tt, sym is_apart, inr (net, sym made, (refusal, settles net refusal other finished, is)))))

-- the net of what was read is that of the text
pub net_read : (text : List ℕ) (reading : Reading) (result : Result NetList AigerFault) → Text (lines text) (Ok reading) → IfOk result (λ net. NetOf reading (Ok net)) → IfOk result (λ net. AigerNet text (Ok net))
net_read text reading (Ok net) says is = (reading, says, is)
net_read text reading (Err fault) says is = tt

pub net_refused : (text : List ℕ) (reading : Reading) (result : Result NetList AigerFault) → Text (lines text) (Ok reading) → IfErr result (λ fault. Comes reading fault) → IfErr result (λ fault. (fault ≡ OutOfMemory) ⊎ AigerNet text (Err fault))
net_refused text reading (Ok net) says is = tt
net_refused text reading (Err fault) says (inl wanting) = inl wanting
net_refused text reading (Err fault) says (inr refused) = inr (inr (reading, says, refused))

pub not_read : (text : List ℕ) (fault : AigerFault) → (fault ≡ OutOfMemory) ⊎ Text (lines text) (Err fault) → (fault ≡ OutOfMemory) ⊎ AigerNet text (Err fault)
not_read text fault (inl wanting) = inl wanting
not_read text fault (inr refused) = inr (inl refused)
