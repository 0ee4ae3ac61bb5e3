-- At most one net or fault comes of a text.
use Rattle.std.proofs.Common.{◌≡◌, ap, sym, subst, ℕ, ◌<◌, ◌+◌, List, [], ◌∷◌, ◌++◌, length, Ok, Err}
use Rattle.std.specs.Str.Lines.{lines}
use Rattle.lists.specs.laws.NumberLaws.{even}
use Rattle.lists.specs.laws.ReadLaws.{get_below}
use Rattle.outcome.proofs.DeterminedLemmas.{determined_bind, determined_returns}
use Rattle.outcome.specs.Outcome.{◌>>=◌, Determined, Exactly, Returns, Within}
use Rattle.outcome.proofs.DeterminedLemmas.{determined_after, determined_exactly, determined_within}
use Rattle.net_core.specs.Finish.{Settles}
use Rattle.net_core.proofs.SettleLemmas.{settles_determined}
use Rattle.net_aiger.specs.AigerNet.{AigerNet}
use Rattle.net_aiger.specs.Checks.{apart, known}
use Rattle.net_aiger.specs.Nets.{net_made}
use Rattle.net_aiger.specs.Reading.{Name, driven, literals_of, ports_of, reading_of}
use Rattle.net_aiger.specs.Sections.{And, AreEntries, Ends, Heading, Input, Latch, Output, Section, Symbol, Symbols, Text}
use Rattle.net_aiger.specs.declared.fault.AigerFault.TheVariants.{Net, Syntax}
use Rattle.net_aiger.specs.declared.reading.Header.{Header}
use Rattle.net_aiger.proofs.DriveLemmas.{net_drives}
use Rattle.net_aiger.proofs.EntryLemmas.{no_fault, same_entries, same_faults, section_determined}
use Rattle.net_aiger.proofs.LineLemmas.{and_determined, heading_determined, input_determined, latch_determined, no_symbol, output_determined, symbol_determined}

-- ---- symbols

module _ (header : Header) (body : List (List ℕ)) (first : ℕ) where
  -- no symbol stands where the text ends
  not_further : (xs ys : List (ℕ × Name)) → AreEntries (Symbol header body) first ys → Ends body (first + length xs) → length xs < length ys → ⊥
  not_further xs ys are end less =
      let y = get_below ys (length xs) less in
      no_symbol header body _ (first + length xs) y.0 end (are (length xs) y.0 y.1)

  pub symbols_determined : Determined (Symbols header body first)
  symbols_determined (Ok xs) (Ok ys) (a, end) (b, end') =
      ap Ok (same_entries (Symbol header body) first (symbol_determined header body) xs ys a b (even (length xs) (length ys) (λ less. not_further xs ys b end less) (λ less. not_further ys xs a end' less)))
  symbols_determined (Ok xs) (Err e) (a, end) (before, further, b, wrong) =
      let P : ℕ → Type 0 = λ n. Ends body (first + n) in
      let long : length before ≡ length xs = even (length before) (length xs) (λ less. no_fault (Symbol header body) first (symbol_determined header body) xs before e a b less wrong) (λ less. not_further xs before b end less) in
      absurd (further (subst P (sym long) end))
  symbols_determined (Err d) (Ok ys) (before, further, a, wrong) (b, end) =
      let P : ℕ → Type 0 = λ n. Ends body (first + n) in
      let long : length before ≡ length ys = even (length before) (length ys) (λ less. no_fault (Symbol header body) first (symbol_determined header body) ys before d b a less wrong) (λ less. not_further ys before a end less) in
      absurd (further (subst P (sym long) end))
  symbols_determined (Err d) (Err e) (xs, further, a, wrong) (ys, further', b, wrong') =
      let long : length xs ≡ length ys = even (length xs) (length ys) (λ less. no_fault (Symbol header body) first (symbol_determined header body) ys xs d b a less wrong) (λ less. no_fault (Symbol header body) first (symbol_determined header body) xs ys e a b less wrong') in
      ap Err (same_faults (Symbol header body) first (symbol_determined header body) xs ys d e a b long wrong wrong')

-- ---- the text

pub text_determined : (text : List (List ℕ)) → Determined (Text text)
text_determined [] = determined_returns (Err (Syntax 1))
text_determined (line ∷ body) =
    determined_bind (Heading line) _ (heading_determined line) (λ header.
    determined_bind (Section (Input header body) 0 header.inputs) _ (section_determined (Input header body) 0 (input_determined header body) header.inputs) (λ inputs.
    determined_bind (Section (Latch header body inputs) header.inputs header.latches) _ (section_determined (Latch header body inputs) header.inputs (latch_determined header body inputs) header.latches) (λ latches.
    determined_bind (Section (Output header body) (driven header) header.outputs) _ (section_determined (Output header body) (driven header) (output_determined header body) header.outputs) (λ outputs.
    determined_bind (Section (And header body (inputs ++ literals_of latches)) (ports_of header) header.ands) _ (section_determined (And header body (inputs ++ literals_of latches)) (ports_of header) (and_determined header body (inputs ++ literals_of latches)) header.ands) (λ ands.
    determined_bind (Symbols header body (ports_of header + header.ands)) (λ symbols. Exactly (reading_of header inputs latches outputs ands symbols)) (symbols_determined header body (ports_of header + header.ands)) (λ symbols.
    determined_exactly (reading_of header inputs latches outputs ands symbols)))))))

pub aiger_determined : (text : List ℕ) → Determined (AigerNet text)
aiger_determined text =
    determined_bind (Text (lines text))
    (λ reading. Returns (known reading.defined reading.uses) >>= (λ _. Returns (apart reading 0 [] reading.ports) >>= (λ _. Within Net (Returns (net_made reading)) >>= (λ made. Within Net (Settles made)))))
    (text_determined (lines text))
    (λ reading. determined_bind (Returns (known reading.defined reading.uses))
    (λ _. Returns (apart reading 0 [] reading.ports) >>= (λ _. Within Net (Returns (net_made reading)) >>= (λ made. Within Net (Settles made))))
    (determined_returns (known reading.defined reading.uses))
    (λ _. determined_bind (Returns (apart reading 0 [] reading.ports))
    (λ _. Within Net (Returns (net_made reading)) >>= (λ made. Within Net (Settles made)))
    (determined_returns (apart reading 0 [] reading.ports))
    (λ _. determined_after (Within Net (Returns (net_made reading))) (λ made. Within Net (Settles made)) (determined_within Net (Returns (net_made reading)) (determined_returns (net_made reading)))
    (λ made is. determined_within Net (Settles made) (settles_determined made (net_drives reading made (sym is)))))))
