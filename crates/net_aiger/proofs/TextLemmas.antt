-- What the reader makes of a text is what its sections say.
use Rattle.std.proofs.Common.{◌≡◌, ◌∙◌, ap, sym, refl, subst, inl, inr, ℕ, suc, ◌+◌, ◌&&◌, Bool, true, false, cond, List, [], ◌∷◌, ◌++◌, length, drop, Option, None, Some, Result, Ok, Err, arith}
use Rattle.std.specs.Prelude.{slice_get, option_and_then, codes}
use Rattle.std.specs.Str.{bytes_eq}
use Rattle.std.proofs.lemmas.Slice.Eq.{bytes_eq-Decides}
use Rattle.lists.specs.laws.ListLaws.{length-push}
use Rattle.lists.specs.laws.TakeLaws.{drop_none as drop_none_law}
use Rattle.outcome.specs.Outcome.{Exactly, Outcome, ◌>>=◌}
use Rattle.net_aiger.specs.Numbers.{numbers_of, words_of}
use Rattle.net_aiger.specs.Reading.{Name, Reading, driven, literals_of, ports_of, reading_of}
use Rattle.net_aiger.specs.Sections.{And, AreEntries, Ends, Heading, Input, Latch, Output, Section, Symbol, Symbols, Text, numbers_at}
use Rattle.net_aiger.specs.Spelling.{counts, is_header, left_out}
use Rattle.net_aiger.specs.declared.fault.AigerFault.{AigerFault}
use Rattle.net_aiger.specs.declared.fault.AigerFault.TheVariants.{Syntax}
use Rattle.net_aiger.specs.declared.reading.AndLine.{AndLine}
use Rattle.net_aiger.specs.declared.reading.Header.{Header}
use Rattle.net_aiger.specs.declared.reading.LatchLine.{LatchLine}
use Rattle.net_aiger.specs.private.Run.{ends, header_from, header_with, lines_read, one_line, start, text_read}
use Rattle.net_aiger.proofs.AigerDetermined.{text_determined}
use Rattle.net_aiger.proofs.EntryLemmas.{both_come, no_entries, one_more, or_syntax, then_by}
use Rattle.net_aiger.proofs.LineLemmas.{and_comes, conjunction, head_found, head_with, heading, heading_comes, input, input_comes, latch, latch_comes, output, output_comes, symbol_comes, symbol_in}
use Rattle.net_aiger.proofs.SectionLemmas.{drop_none, drop_some, entries, section_comes, section_goes}
use Rattle.net_aiger.proofs.StepLemmas.{after_ands, after_inputs, after_latches, after_outputs, after_symbols, and_read, ands_go, input_read, inputs_go, latch_read, latches_go, output_read, outputs_go, symbol_read, symbols_complete}

-- ---- a line that is missing

missing_line : (body : List (List ℕ)) (place : ℕ) → slice_get body place ≡ None → numbers_at body place ≡ None
missing_line body place none = rw none refl

line_there : (body : List (List ℕ)) (place : ℕ) (line : List ℕ) → slice_get body place ≡ Some line → numbers_at body place ≡ numbers_of (words_of line)
line_there body place line at = rw at refl

module _ (header : Header) (body : List (List ℕ)) where
  -- ---- inputs

  abbrev inputs_of : Result (List ℕ) AigerFault
  inputs_of = entries body (Input header body) 0 header.inputs (input header body) (after_inputs header) header.inputs []

  inputs_come : Section (Input header body) 0 header.inputs inputs_of
  inputs_come = section_comes body (Input header body) 0 header.inputs (input header body) (after_inputs header) (input_comes header body) header.inputs [] (omega arith) (no_entries (Input header body) 0)

  inputs_read : lines_read 2 body (start header) ≡ then_by inputs_of (λ xs. lines_read (0 + header.inputs + 2) (drop (0 + header.inputs) body) (after_inputs header xs))
  inputs_read = section_goes body (Input header body) 0 header.inputs (input header body) (after_inputs header)
      (λ before place none. rw (missing_line body place none) refl)
      (λ before less. inputs_go header before less)
      (λ before line less at. input_read header (0 + length before + 2) line before less ∙ rw (line_there body (0 + length before) line at) refl)
      2 body (omega arith) (sym (drop_none_law body))

  module _ (inputs : List ℕ) (all_inputs : length inputs ≡ header.inputs) where
    -- ---- latches

    abbrev latches_of : Result (List LatchLine) AigerFault
    latches_of = entries body (Latch header body inputs) header.inputs header.latches (latch header body inputs) (after_latches header inputs all_inputs) header.latches []

    latches_come : Section (Latch header body inputs) header.inputs header.latches latches_of
    latches_come = section_comes body (Latch header body inputs) header.inputs header.latches (latch header body inputs) (after_latches header inputs all_inputs) (latch_comes header body inputs) header.latches [] (omega arith) (no_entries (Latch header body inputs) header.inputs)

    latches_read : (n : ℕ) (rest : List (List ℕ)) → n ≡ header.inputs + 2 → rest ≡ drop header.inputs body → lines_read n rest (after_inputs header inputs) ≡ then_by latches_of (λ xs. lines_read (driven header + 2) (drop (driven header) body) (after_latches header inputs all_inputs xs))
    latches_read n rest number left = section_goes body (Latch header body inputs) header.inputs header.latches (latch header body inputs) (after_latches header inputs all_inputs)
        (λ before place none. rw (missing_line body place none) refl)
        (λ before less. latches_go header inputs all_inputs before less)
        (λ before line less at. latch_read header inputs all_inputs (header.inputs + length before + 2) line before less refl ∙ rw (line_there body (header.inputs + length before) line at) refl)
        n rest number left

    module _ (latches : List LatchLine) (all_latches : length latches ≡ header.latches) where
      -- ---- outputs

      abbrev outputs_of : Result (List ℕ) AigerFault
      outputs_of = entries body (Output header body) (driven header) header.outputs (output header body) (after_outputs header inputs all_inputs latches all_latches) header.outputs []

      outputs_come : Section (Output header body) (driven header) header.outputs outputs_of
      outputs_come = section_comes body (Output header body) (driven header) header.outputs (output header body) (after_outputs header inputs all_inputs latches all_latches) (output_comes header body) header.outputs [] (omega arith) (no_entries (Output header body) (driven header))

      outputs_read : lines_read (driven header + 2) (drop (driven header) body) (after_latches header inputs all_inputs latches) ≡ then_by outputs_of (λ xs. lines_read (ports_of header + 2) (drop (ports_of header) body) (after_outputs header inputs all_inputs latches all_latches xs))
      outputs_read = section_goes body (Output header body) (driven header) header.outputs (output header body) (after_outputs header inputs all_inputs latches all_latches)
          (λ before place none. rw (missing_line body place none) refl)
          (λ before less. outputs_go header inputs all_inputs latches all_latches before less)
          (λ before line less at. output_read header inputs all_inputs latches all_latches (driven header + length before + 2) line before less refl ∙ rw (line_there body (driven header + length before) line at) refl)
          (driven header + 2) (drop (driven header) body) refl refl

      module _ (outputs : List ℕ) (all_outputs : length outputs ≡ header.outputs) where
        -- ---- ANDs

        abbrev ands_of : Result (List AndLine) AigerFault
        ands_of = entries body (And header body (inputs ++ literals_of latches)) (ports_of header) header.ands (conjunction header body (inputs ++ literals_of latches)) (after_ands header inputs all_inputs latches all_latches outputs all_outputs) header.ands []

        ands_come : Section (And header body (inputs ++ literals_of latches)) (ports_of header) header.ands ands_of
        ands_come = section_comes body (And header body (inputs ++ literals_of latches)) (ports_of header) header.ands (conjunction header body (inputs ++ literals_of latches)) (after_ands header inputs all_inputs latches all_latches outputs all_outputs) (and_comes header body (inputs ++ literals_of latches)) header.ands [] (omega arith) (no_entries (And header body (inputs ++ literals_of latches)) (ports_of header))

        ands_read : lines_read (ports_of header + 2) (drop (ports_of header) body) (after_outputs header inputs all_inputs latches all_latches outputs) ≡ then_by ands_of (λ xs. lines_read (ports_of header + header.ands + 2) (drop (ports_of header + header.ands) body) (after_ands header inputs all_inputs latches all_latches outputs all_outputs xs))
        ands_read = section_goes body (And header body (inputs ++ literals_of latches)) (ports_of header) header.ands (conjunction header body (inputs ++ literals_of latches)) (after_ands header inputs all_inputs latches all_latches outputs all_outputs)
            (λ before place none. rw (missing_line body place none) refl)
            (λ before less. ands_go header inputs all_inputs latches all_latches outputs all_outputs before less)
            (λ before line less at. and_read header inputs all_inputs latches all_latches outputs all_outputs (ports_of header + length before + 2) line before less refl ∙ rw (line_there body (ports_of header + length before) line at) refl)
            (ports_of header + 2) (drop (ports_of header) body) refl refl

        module _ (ands : List AndLine) (all_ands : length ands ≡ header.ands) where
          -- ---- symbols

          abbrev first : ℕ
          first = ports_of header + header.ands

          abbrev state : List (ℕ × Name) → Reading
          state symbols = after_symbols header inputs all_inputs latches all_latches outputs all_outputs ands all_ands symbols

          -- the symbols of the lines that are left, after those before
          symbols_from : List (List ℕ) → List (ℕ × Name) → Result (List (ℕ × Name)) AigerFault
          symbols_from [] before = Ok before
          symbols_from (line ∷ rest) before = cond (bytes_eq line (codes "c")) (Ok before) (then_by (or_syntax (first + length before + 2) (symbol_in header before line)) (λ s. symbols_from rest (before ++ s ∷ [])))

          next_place : (before : List (ℕ × Name)) (s : ℕ × Name) → suc (first + length before) ≡ first + length (before ++ s ∷ [])
          next_place before s = omega (arith, length-push before s)

          not_end : (line : List ℕ) (place : ℕ) → slice_get body place ≡ Some line → bytes_eq line (codes "c") ≡ false → Ends body place → ⊥
          not_end line place at other (inl none) = absurd (cc)
          not_end line place at other (inr comment) = let same : line ≡ codes "c" = cc in let wrong : bytes_eq line (codes "c") ≡ true = (bytes_eq-Decides line (codes "c")).1 same in absurd (cc)

          symbols_come : (rest : List (List ℕ)) (before : List (ℕ × Name)) → rest ≡ drop (first + length before) body → AreEntries (Symbol header body) first before → Symbols header body first (symbols_from rest before)
          unfolding symbols_from
          symbols_come [] before left are = (are, inl (drop_none (first + length before) body left))
          symbols_come (line ∷ rest) before left are =
              let here = drop_some (first + length before) body line rest left in
              by here.0 (bytes_eq line (codes "c")) refl (λ s h. symbols_come rest (before ++ s ∷ []) (here.1 ∙ ap (λ n. drop n body) (next_place before s)) (one_more (Symbol header body) first before s are h))
            where
              one : (found : Option (ℕ × Name)) → (Ends body (first + length before) → ⊥) → Symbol header body before (first + length before) (or_syntax (first + length before + 2) found)
                  → ((s : ℕ × Name) → Symbol header body before (first + length before) (Ok s) → Symbols header body first (symbols_from rest (before ++ s ∷ [])))
                  → Symbols header body first (then_by (or_syntax (first + length before + 2) found) (λ s. symbols_from rest (before ++ s ∷ [])))
              one None further is onward = (before, further, are, is)
              one (Some s) further is onward = onward s is

              by : slice_get body (first + length before) ≡ Some line → (b : Bool) → bytes_eq line (codes "c") ≡ b
                  → ((s : ℕ × Name) → Symbol header body before (first + length before) (Ok s) → Symbols header body first (symbols_from rest (before ++ s ∷ [])))
                  → Symbols header body first (cond b (Ok before) (then_by (or_syntax (first + length before + 2) (symbol_in header before line)) (λ s. symbols_from rest (before ++ s ∷ []))))
              by at true e onward = (are, inr (at ∙ ap Some ((bytes_eq-Decides line (codes "c")).0 e)))
              by at false e onward =
                  let P : Option (List ℕ) → Type 0 = λ o. Symbol header body before (first + length before) (or_syntax (first + length before + 2) (option_and_then (symbol_in header before) o)) in
                  one (symbol_in header before line) (not_end line (first + length before) at e) (subst P at (symbol_comes header body before (first + length before))) onward

          symbols_go : (rest : List (List ℕ)) (before : List (ℕ × Name)) → lines_read (first + length before + 2) rest (state before) ≡ then_by (symbols_from rest before) (λ symbols. Ok (state symbols))
          unfolding symbols_from
          symbols_go [] before = rw (symbols_complete header inputs all_inputs latches all_latches outputs all_outputs ands all_ands before) refl
          symbols_go (line ∷ rest) before =
              by (bytes_eq line (codes "c")) (ends line (state before)) (ap (λ b. b && bytes_eq line (codes "c")) (symbols_complete header inputs all_inputs latches all_latches outputs all_outputs ands all_ands before))
              (one_line (first + length before + 2) line (state before)) (symbol_in header before line) (symbol_read header inputs all_inputs latches all_latches outputs all_outputs ands all_ands (first + length before + 2) line before)
              (λ s. symbols_go rest (before ++ s ∷ []))
            where
              step : (found : Option (ℕ × Name)) → ((s : ℕ × Name) → lines_read (first + length (before ++ s ∷ []) + 2) rest (state (before ++ s ∷ [])) ≡ then_by (symbols_from rest (before ++ s ∷ [])) (λ symbols. Ok (state symbols)))
                  → then_by (then_by (or_syntax (first + length before + 2) found) (λ s. Ok (state (before ++ s ∷ [])))) (λ m. lines_read (first + length before + 2 + 1) rest m) ≡ then_by (then_by (or_syntax (first + length before + 2) found) (λ s. symbols_from rest (before ++ s ∷ []))) (λ symbols. Ok (state symbols))
              step None further = refl
              step (Some s) further = let number : first + length before + 2 + 1 ≡ first + length (before ++ s ∷ []) + 2 = omega (arith, length-push before s) in ap (λ n. lines_read n rest (state (before ++ s ∷ []))) number ∙ further s

              by : (b e : Bool) → e ≡ (true && b) → (r : Result Reading AigerFault) (found : Option (ℕ × Name)) → r ≡ then_by (or_syntax (first + length before + 2) found) (λ s. Ok (state (before ++ s ∷ [])))
                  → ((s : ℕ × Name) → lines_read (first + length (before ++ s ∷ []) + 2) rest (state (before ++ s ∷ [])) ≡ then_by (symbols_from rest (before ++ s ∷ [])) (λ symbols. Ok (state symbols)))
                  → cond e (Ok (state before)) (then_by r (λ m. lines_read (first + length before + 2 + 1) rest m)) ≡ then_by (cond b (Ok before) (then_by (or_syntax (first + length before + 2) found) (λ s. symbols_from rest (before ++ s ∷ [])))) (λ symbols. Ok (state symbols))
              by true true same r found is further = refl
              by true false same r found is further = absurd (cc)
              by false true same r found is further = absurd (cc)
              by false false same r found is further = ap (λ (m : Result Reading AigerFault). then_by m (λ x. lines_read (first + length before + 2 + 1) rest x)) is ∙ step found further

-- ---- the whole

-- what comes of the sections behind others
module _ (header : Header) (body : List (List ℕ)) where
  abbrev BehindAnds : List ℕ → List LatchLine → List ℕ → List AndLine → Outcome AigerFault Reading
  BehindAnds inputs latches outputs ands = Symbols header body (ports_of header + header.ands) >>= (λ symbols. Exactly (reading_of header inputs latches outputs ands symbols))

  abbrev BehindOutputs : List ℕ → List LatchLine → List ℕ → Outcome AigerFault Reading
  BehindOutputs inputs latches outputs = Section (And header body (inputs ++ literals_of latches)) (ports_of header) header.ands >>= (λ ands. BehindAnds inputs latches outputs ands)

  abbrev BehindLatches : List ℕ → List LatchLine → Outcome AigerFault Reading
  BehindLatches inputs latches = Section (Output header body) (driven header) header.outputs >>= (λ outputs. BehindOutputs inputs latches outputs)

  abbrev BehindInputs : List ℕ → Outcome AigerFault Reading
  BehindInputs inputs = Section (Latch header body inputs) header.inputs header.latches >>= (λ latches. BehindLatches inputs latches)

  abbrev BehindHeader : Outcome AigerFault Reading
  BehindHeader = Section (Input header body) 0 header.inputs >>= (λ inputs. BehindInputs inputs)

  module _ (inputs : List ℕ) (all_inputs : length inputs ≡ header.inputs) where
    module _ (latches : List LatchLine) (all_latches : length latches ≡ header.latches) where
      module _ (outputs : List ℕ) (all_outputs : length outputs ≡ header.outputs) where
        symbols_last : (ands : List AndLine) → length ands ≡ header.ands → BehindAnds inputs latches outputs ands (lines_read (ports_of header + header.ands + 2) (drop (ports_of header + header.ands) body) (after_ands header inputs all_inputs latches all_latches outputs all_outputs ands))
        symbols_last ands all_ands =
            let none : first header body inputs all_inputs latches all_latches outputs all_outputs ands all_ands + 0 ≡ ports_of header + header.ands = omega arith in
            let P : Result Reading AigerFault → Type 0 = BehindAnds inputs latches outputs ands in
            let rest : List (List ℕ) = drop (ports_of header + header.ands) body in
            let go = symbols_go header body inputs all_inputs latches all_latches outputs all_outputs ands all_ands rest [] in
            let come = symbols_come header body inputs all_inputs latches all_latches outputs all_outputs ands all_ands rest [] (ap (λ n. drop n body) (sym none)) (no_entries (Symbol header body) (ports_of header + header.ands)) in
            let number : ports_of header + header.ands + 2 ≡ ports_of header + header.ands + 0 + 2 = omega arith in
            subst P (sym (ap (λ n. lines_read n rest (after_ands header inputs all_inputs latches all_latches outputs all_outputs ands)) number ∙ go))
            (both_come (Symbols header body (ports_of header + header.ands)) (λ symbols. Exactly (reading_of header inputs latches outputs ands symbols)) (symbols_from header body inputs all_inputs latches all_latches outputs all_outputs ands all_ands rest []) (λ symbols. Ok (reading_of header inputs latches outputs ands symbols)) come (λ symbols may. refl))

      ands_last : (outputs : List ℕ) → length outputs ≡ header.outputs → BehindOutputs inputs latches outputs (lines_read (ports_of header + 2) (drop (ports_of header) body) (after_outputs header inputs all_inputs latches all_latches outputs))
      ands_last outputs all_outputs =
          let P : Result Reading AigerFault → Type 0 = BehindOutputs inputs latches outputs in
          subst P (sym (ands_read header body inputs all_inputs latches all_latches outputs all_outputs))
          (both_come (Section (And header body (inputs ++ literals_of latches)) (ports_of header) header.ands) (λ ands. BehindAnds inputs latches outputs ands) (ands_of header body inputs all_inputs latches all_latches outputs all_outputs) (λ ands. lines_read (ports_of header + header.ands + 2) (drop (ports_of header + header.ands) body) (after_ands header inputs all_inputs latches all_latches outputs all_outputs ands))
          (ands_come header body inputs all_inputs latches all_latches outputs all_outputs) (λ ands may. symbols_last outputs all_outputs ands may.0))

    outputs_last : (latches : List LatchLine) → length latches ≡ header.latches → BehindLatches inputs latches (lines_read (driven header + 2) (drop (driven header) body) (after_latches header inputs all_inputs latches))
    outputs_last latches all_latches =
        let P : Result Reading AigerFault → Type 0 = BehindLatches inputs latches in
        subst P (sym (outputs_read header body inputs all_inputs latches all_latches))
        (both_come (Section (Output header body) (driven header) header.outputs) (λ outputs. BehindOutputs inputs latches outputs) (outputs_of header body inputs all_inputs latches all_latches) (λ outputs. lines_read (ports_of header + 2) (drop (ports_of header) body) (after_outputs header inputs all_inputs latches all_latches outputs))
        (outputs_come header body inputs all_inputs latches all_latches) (λ outputs may. ands_last latches all_latches outputs may.0))

  latches_last : (inputs : List ℕ) → length inputs ≡ header.inputs → BehindInputs inputs (lines_read (0 + header.inputs + 2) (drop (0 + header.inputs) body) (after_inputs header inputs))
  latches_last inputs all_inputs =
      let none : 0 + header.inputs ≡ header.inputs = omega arith in
      let P : Result Reading AigerFault → Type 0 = BehindInputs inputs in
      subst P (sym (latches_read header body inputs all_inputs (0 + header.inputs + 2) (drop (0 + header.inputs) body) (omega arith) (ap (λ n. drop n body) none)))
      (both_come (Section (Latch header body inputs) header.inputs header.latches) (λ latches. BehindLatches inputs latches) (latches_of header body inputs all_inputs) (λ latches. lines_read (driven header + 2) (drop (driven header) body) (after_latches header inputs all_inputs latches))
      (latches_come header body inputs all_inputs) (λ latches may. outputs_last inputs all_inputs latches may.0))

  inputs_last : BehindHeader (lines_read 2 body (start header))
  inputs_last =
      let P : Result Reading AigerFault → Type 0 = BehindHeader in
      subst P (sym (inputs_read header body))
      (both_come (Section (Input header body) 0 header.inputs) (λ inputs. BehindInputs inputs) (inputs_of header body) (λ inputs. lines_read (0 + header.inputs + 2) (drop (0 + header.inputs) body) (after_inputs header inputs))
      (inputs_come header body) (λ inputs may. latches_last inputs may.0))

-- the first line
heading_read : (words : List (List ℕ)) → header_from words ≡ then_by (or_syntax 1 (head_found words)) (λ head. then_by (left_out head.0 head.1) (λ _. Ok (counts head.1)))
heading_read [] = refl
heading_read (word ∷ words) = by (numbers_of words)
  where
    with : (numbers : List ℕ) (b : Bool) → cond b (then_by (left_out word numbers) (λ _. Ok (counts numbers))) (Err (Syntax 1)) ≡ then_by {A = List ℕ × List ℕ} (or_syntax 1 (cond b (Some (word, numbers)) None)) (λ head. then_by (left_out head.0 head.1) (λ _. Ok (counts head.1)))
    with numbers true = refl
    with numbers false = refl

    by : (found : Option (List ℕ)) → header_with word found ≡ then_by (or_syntax 1 (head_with word found)) (λ head. then_by (left_out head.0 head.1) (λ _. Ok (counts head.1)))
    by None = refl
    by (Some numbers) = with numbers (is_header word numbers)

-- what the reader makes of a text may come of its sections
pub read_is_text : (text : List (List ℕ)) → Text text (text_read text)
read_is_text [] = refl
read_is_text (line ∷ body) =
    let P : Result Header AigerFault → Type 0 = λ h. Text (line ∷ body) (then_by h (λ header. lines_read 2 body (start header))) in
    subst P (sym (heading_read (words_of line)))
    (both_come (Heading line) (λ header. BehindHeader header body) (heading line) (λ header. lines_read 2 body (start header)) (heading_comes line) (λ header may. inputs_last header body))

-- and nothing else does
pub text_is_read : (text : List (List ℕ)) (outcome : Result Reading AigerFault) → Text text outcome → text_read text ≡ outcome
text_is_read text outcome may = text_determined text (text_read text) outcome (read_is_text text) may
