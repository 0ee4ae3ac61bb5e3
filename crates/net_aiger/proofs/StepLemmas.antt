-- What the reader makes of one line of a section.
use Rattle.std.proofs.Common.{◌≡◌, ◌∙◌, ap, sym, refl, ℕ, ◌<◌, ◌+◌, ◌&&◌, Bool, true, false, cond, not, List, [], ◌∷◌, ◌++◌, drop, length, length-append, map, Option, None, Some, Result, Ok, Err, arith, append_assoc, append-nil}
use Rattle.std.specs.Prelude.{nat_eq, nat_le, is_some}
use Rattle.std.specs.Map.{lookup}
use Rattle.std.proofs.lemmas.Bool.{le-leb, lt-leb, lt-ltb, le-ltb}
use Rattle.lists.specs.laws.BoolLaws.{and_made}
use Rattle.lists.specs.laws.ListLaws.{length_map, map_push}
use Rattle.net_aiger.specs.Numbers.{number_of, numbers_of, words_of}
use Rattle.net_aiger.specs.Reading.{Name, Reading, driven, literals_of, ports_of, reading_of, uses_from, used_by_and, used_by_latch, used_by_output}
use Rattle.net_aiger.specs.Sections.{defining, using, within}
use Rattle.net_aiger.specs.Spelling.{is_port_name}
use Rattle.net_aiger.specs.declared.fault.AigerFault.{AigerFault}
use Rattle.net_aiger.specs.declared.fault.AigerFault.TheVariants.{Literal, Syntax}
use Rattle.net_aiger.specs.declared.reading.AndLine.{AndLine}
use Rattle.net_aiger.specs.declared.reading.Header.{Header}
use Rattle.net_aiger.specs.declared.reading.LatchLine.{LatchLine}
use Rattle.net_aiger.specs.declared.reading.Use.{Use}
use Rattle.net_aiger.specs.private.Run.{and_line, before_space, is_complete, latch_of, named, number_line, one_line, output_line, port_of, symbol_line, with_latch}
use Rattle.net_aiger.proofs.EntryLemmas.{or_syntax, then_by, then_one}
use Rattle.net_aiger.proofs.LineLemmas.{allowing, latch_in, name_for, single, symbol_in, triple}
use Rattle.net_aiger.proofs.SectionLemmas.{define_step, uses_push}

-- ---- readings that are the same

same_reading : (h : Header) (p q : List ℕ) (l m : List LatchLine) (a b : List AndLine) (d e : List ℕ) (u v : List Use) (s t : List (ℕ × Name)) → p ≡ q → l ≡ m → a ≡ b → d ≡ e → u ≡ v → s ≡ t
    → ◌≡◌ {A = Reading} (record { header = h; ports = p; latches = l; ands = a; defined = d; uses = u; symbols = s }) (record { header = h; ports = q; latches = m; ands = b; defined = e; uses = v; symbols = t })
same_reading h p q l m a b d e u v s t i j k n o r = rw (i, j, k, n, o, r) refl

-- something after something, where nothing stands behind
module _ {A : Type 0} where
  push_nil : (xs : List A) (x : A) → (xs ++ []) ++ x ∷ [] ≡ (xs ++ x ∷ []) ++ []
  push_nil xs x = ap (λ ys. ys ++ x ∷ []) (append-nil xs) ∙ sym (append-nil (xs ++ x ∷ []))

  push_nils : (xs : List A) (x : A) → ((xs ++ []) ++ []) ++ x ∷ [] ≡ ((xs ++ x ∷ []) ++ []) ++ []
  push_nils xs x = push_nil (xs ++ []) x ∙ ap (λ ys. ys ++ []) (push_nil xs x)

  front_push : (xs ys : List A) (y : A) → (xs ++ ys) ++ y ∷ [] ≡ xs ++ (ys ++ y ∷ [])
  front_push xs ys y = append_assoc xs ys (y ∷ [])

long_nil : (xs : List ℕ) → length (xs ++ []) ≡ length xs
long_nil xs = ap length (append-nil xs)

-- ---- what is complete

-- ports or ANDs are missing
missing_ports : (reading : Reading) → length reading.ports < ports_of reading.header → is_complete reading ≡ false
missing_ports reading less = ap (λ b. b && nat_le reading.header.ands (length reading.ands)) (lt-leb (ports_of reading.header) (length reading.ports) less)

missing_ands : (reading : Reading) → length reading.ands < reading.header.ands → is_complete reading ≡ false
missing_ands reading less = by (nat_le (ports_of reading.header) (length reading.ports)) (nat_le reading.header.ands (length reading.ands)) (lt-leb reading.header.ands (length reading.ands) less)
  where
    by : (a b : Bool) → b ≡ false → (a && b) ≡ false
    by true b e = e
    by false b e = refl

-- a line that is to say numbers
numbered : (n : ℕ) (line : List ℕ) (reading : Reading) → is_complete reading ≡ false → one_line n line reading ≡ number_line n (numbers_of (words_of line)) reading
numbered n line reading more = by (symbol_line n line reading) (number_line n (numbers_of (words_of line)) reading) (is_complete reading) more
  where
    by : (a b : Result Reading AigerFault) (c : Bool) → c ≡ false → cond c a b ≡ b
    by a b true e = absurd (cc)
    by a b false e = refl

module _ (header : Header) where
  -- ---- inputs

  abbrev pub after_inputs : List ℕ → Reading
  after_inputs inputs = reading_of header inputs [] [] [] []

  inputs_long : (inputs : List ℕ) → length (after_inputs inputs).ports ≡ length inputs
  inputs_long inputs = long_nil (inputs ++ []) ∙ long_nil inputs

  pub inputs_go : (inputs : List ℕ) → length inputs < header.inputs → is_complete (after_inputs inputs) ≡ false
  inputs_go inputs less = missing_ports (after_inputs inputs) (omega (arith, less, inputs_long inputs))

  input_number : (n : ℕ) (inputs : List ℕ) (numbers : Option (List ℕ)) → length inputs < header.inputs → number_line n numbers (after_inputs inputs) ≡ then_by (allowing n (single numbers) (λ literal. defining header inputs n literal 0 0)) (λ a. Ok (after_inputs (inputs ++ a ∷ [])))
  input_number n inputs None less = refl
  input_number n inputs (Some []) less = rw (lt-ltb (length (after_inputs inputs).ports) header.inputs (omega (arith, less, inputs_long inputs))) refl
  input_number n inputs (Some (l ∷ [])) less =
      rw (lt-ltb (length (after_inputs inputs).ports) header.inputs (omega (arith, less, inputs_long inputs)))
      (define_step n l 0 0 (after_inputs inputs) inputs (append-nil (inputs ++ []) ∙ append-nil inputs) (λ more. Ok (record more { ports = more.ports ++ l ∷ [] })) (after_inputs (inputs ++ l ∷ [])) (ap Ok grown)
      ∙ sym (then_one (defining header inputs n l 0 0) l (λ a. Ok (after_inputs (inputs ++ a ∷ [])))))
    where
      grown : record (record (after_inputs inputs) { defined = (after_inputs inputs).defined ++ l ∷ [] }) { ports = (after_inputs inputs).ports ++ l ∷ [] } ≡ after_inputs (inputs ++ l ∷ [])
      grown = same_reading header (((inputs ++ []) ++ []) ++ l ∷ []) (((inputs ++ l ∷ []) ++ []) ++ []) [] [] [] [] (((inputs ++ []) ++ []) ++ l ∷ []) (((inputs ++ l ∷ []) ++ []) ++ []) [] [] [] [] (push_nils inputs l) refl refl (push_nils inputs l) refl refl
  input_number n inputs (Some (l ∷ m ∷ ms)) less = rw (lt-ltb (length (after_inputs inputs).ports) header.inputs (omega (arith, less, inputs_long inputs))) refl

  pub input_read : (n : ℕ) (line : List ℕ) (inputs : List ℕ) → length inputs < header.inputs → one_line n line (after_inputs inputs) ≡ then_by (allowing n (single (numbers_of (words_of line))) (λ literal. defining header inputs n literal 0 0)) (λ a. Ok (after_inputs (inputs ++ a ∷ [])))
  input_read n line inputs less = numbered n line (after_inputs inputs) (inputs_go inputs less) ∙ input_number n inputs (numbers_of (words_of line)) less

  module _ (inputs : List ℕ) (all_inputs : length inputs ≡ header.inputs) where
    -- ---- latches

    abbrev pub after_latches : List LatchLine → Reading
    after_latches latches = reading_of header inputs latches [] [] []

    latches_long : (latches : List LatchLine) → length (after_latches latches).ports ≡ header.inputs + length latches
    latches_long latches = long_nil (inputs ++ literals_of latches) ∙ omega (arith, length-append inputs (literals_of latches), length_map (λ (l : LatchLine). l.literal) latches, all_inputs)

    pub latches_go : (latches : List LatchLine) → length latches < header.latches → is_complete (after_latches latches) ≡ false
    latches_go latches less = missing_ports (after_latches latches) (omega (arith, less, latches_long latches))

    latch_grown : (n : ℕ) (latches : List LatchLine) (latch : LatchLine) → n ≡ header.inputs + length latches + 2
        → record (record (after_latches latches) { defined = (after_latches latches).defined ++ latch.literal ∷ [] }) { ports = (after_latches latches).ports ++ latch.literal ∷ []; latches = latches ++ latch ∷ []; uses = (after_latches latches).uses ++ record { line = n; literal = latch.next } ∷ [] } ≡ after_latches (latches ++ latch ∷ [])
    latch_grown n latches latch place =
        let here : inputs ++ (literals_of latches ++ latch.literal ∷ []) ≡ inputs ++ literals_of (latches ++ latch ∷ []) = ap (λ xs. inputs ++ xs) (sym (map_push (λ (l : LatchLine). l.literal) latches latch)) in
        let literals : ((inputs ++ literals_of latches) ++ []) ++ latch.literal ∷ [] ≡ (inputs ++ literals_of (latches ++ latch ∷ [])) ++ [] = push_nil (inputs ++ literals_of latches) latch.literal ∙ ap (λ xs. xs ++ []) (front_push inputs (literals_of latches) latch.literal ∙ here) in
        let line : header.inputs + 2 + length latches ≡ n = omega (arith, place) in
        let used : uses_from used_by_latch (header.inputs + 2) latches ++ record { line = n; literal = latch.next } ∷ [] ≡ uses_from used_by_latch (header.inputs + 2) (latches ++ latch ∷ []) =
        sym (uses_push used_by_latch (header.inputs + 2) latches latch ∙ ap (λ m. uses_from used_by_latch (header.inputs + 2) latches ++ record { line = m; literal = latch.next } ∷ []) line) in
        same_reading header _ _ _ _ [] [] _ _ _ _ [] [] literals refl refl literals (push_nils (uses_from used_by_latch (header.inputs + 2) latches) (record { line = n; literal = latch.next }) ∙ ap (λ (us : List Use). (us ++ []) ++ []) used) refl

    latch_number : (n : ℕ) (latches : List LatchLine) (found : Option LatchLine) → n ≡ header.inputs + length latches + 2 → with_latch n found (after_latches latches) ≡ then_by (allowing n found (λ l. defining header (inputs ++ literals_of latches) n l.literal l.next 0)) (λ a. Ok (after_latches (latches ++ a ∷ [])))
    latch_number n latches None place = refl
    latch_number n latches (Some latch) place =
        define_step n latch.literal latch.next 0 (after_latches latches) (inputs ++ literals_of latches) (append-nil (inputs ++ literals_of latches)) (λ more. Ok (record more { ports = more.ports ++ latch.literal ∷ []; latches = more.latches ++ latch ∷ []; uses = more.uses ++ record { line = n; literal = latch.next } ∷ [] })) (after_latches (latches ++ latch ∷ [])) (ap Ok (latch_grown n latches latch place))
        ∙ sym (then_one (defining header (inputs ++ literals_of latches) n latch.literal latch.next 0) latch (λ a. Ok (after_latches (latches ++ a ∷ []))))

    pub latch_read : (n : ℕ) (line : List ℕ) (latches : List LatchLine) → length latches < header.latches → n ≡ header.inputs + length latches + 2 → one_line n line (after_latches latches) ≡ then_by (allowing n (latch_in (numbers_of (words_of line))) (λ l. defining header (inputs ++ literals_of latches) n l.literal l.next 0)) (λ a. Ok (after_latches (latches ++ a ∷ [])))
    latch_read n line latches less place = numbered n line (after_latches latches) (latches_go latches less) ∙ by (numbers_of (words_of line))
      where
        by : (numbers : Option (List ℕ)) → number_line n numbers (after_latches latches) ≡ then_by (allowing n (latch_in numbers) (λ l. defining header (inputs ++ literals_of latches) n l.literal l.next 0)) (λ a. Ok (after_latches (latches ++ a ∷ [])))
        by None = refl
        by (Some numbers) = rw (le-ltb (length (after_latches latches).ports) header.inputs (omega (arith, latches_long latches)), lt-ltb (length (after_latches latches).ports) (driven header) (omega (arith, less, latches_long latches))) (latch_number n latches (latch_of numbers) place)

    module _ (latches : List LatchLine) (all_latches : length latches ≡ header.latches) where
      -- ---- outputs

      abbrev pub after_outputs : List ℕ → Reading
      after_outputs outputs = reading_of header inputs latches outputs [] []

      outputs_long : (outputs : List ℕ) → length (after_outputs outputs).ports ≡ driven header + length outputs
      outputs_long outputs = omega (arith, length-append (inputs ++ literals_of latches) outputs, length-append inputs (literals_of latches), length_map (λ (l : LatchLine). l.literal) latches, all_inputs, all_latches)

      pub outputs_go : (outputs : List ℕ) → length outputs < header.outputs → is_complete (after_outputs outputs) ≡ false
      outputs_go outputs less = missing_ports (after_outputs outputs) (omega (arith, less, outputs_long outputs))

      output_grown : (n : ℕ) (outputs : List ℕ) (literal : ℕ) → n ≡ driven header + length outputs + 2
          → record (after_outputs outputs) { ports = (after_outputs outputs).ports ++ literal ∷ []; uses = (after_outputs outputs).uses ++ record { line = n; literal = literal } ∷ [] } ≡ after_outputs (outputs ++ literal ∷ [])
      output_grown n outputs literal place =
          let line : driven header + 2 + length outputs ≡ n = omega (arith, place) in
          let before : List Use = uses_from used_by_latch (header.inputs + 2) latches in
          let used : uses_from used_by_output (driven header + 2) outputs ++ record { line = n; literal = literal } ∷ [] ≡ uses_from used_by_output (driven header + 2) (outputs ++ literal ∷ []) =
          sym (uses_push used_by_output (driven header + 2) outputs literal ∙ ap (λ m. uses_from used_by_output (driven header + 2) outputs ++ record { line = m; literal = literal } ∷ []) line) in
          same_reading header _ _ latches latches [] [] _ _ _ _ [] [] (front_push (inputs ++ literals_of latches) outputs literal) refl refl refl
          (push_nil (before ++ uses_from used_by_output (driven header + 2) outputs) (record { line = n; literal = literal }) ∙ ap (λ (us : List Use). us ++ []) (front_push before (uses_from used_by_output (driven header + 2) outputs) (record { line = n; literal = literal }) ∙ ap (λ (us : List Use). before ++ us) used)) refl

      output_number : (n : ℕ) (outputs numbers : List ℕ) → n ≡ driven header + length outputs + 2 → output_line n numbers (after_outputs outputs) ≡ then_by (allowing n (single (Some numbers)) (λ literal. using header n literal)) (λ a. Ok (after_outputs (outputs ++ a ∷ [])))
      output_number n outputs [] place = refl
      output_number n outputs (l ∷ []) place = by (within header l) (output_grown n outputs l place)
        where
          by : (b : Bool) {more : Reading} → more ≡ after_outputs (outputs ++ l ∷ []) → cond b (Ok more) (Err (Literal n)) ≡ then_by (then_by {A = Unit {0}} (cond b (Ok tt) (Err (Literal n))) (λ _. Ok l)) (λ a. Ok (after_outputs (outputs ++ a ∷ [])))
          by true e = ap Ok e
          by false e = refl
      output_number n outputs (l ∷ m ∷ ms) place = refl

      pub output_read : (n : ℕ) (line : List ℕ) (outputs : List ℕ) → length outputs < header.outputs → n ≡ driven header + length outputs + 2 → one_line n line (after_outputs outputs) ≡ then_by (allowing n (single (numbers_of (words_of line))) (λ literal. using header n literal)) (λ a. Ok (after_outputs (outputs ++ a ∷ [])))
      output_read n line outputs less place = numbered n line (after_outputs outputs) (outputs_go outputs less) ∙ by (numbers_of (words_of line))
        where
          by : (numbers : Option (List ℕ)) → number_line n numbers (after_outputs outputs) ≡ then_by (allowing n (single numbers) (λ literal. using header n literal)) (λ a. Ok (after_outputs (outputs ++ a ∷ [])))
          by None = refl
          by (Some numbers) = rw (le-ltb (length (after_outputs outputs).ports) header.inputs (omega (arith, outputs_long outputs)), le-ltb (length (after_outputs outputs).ports) (driven header) (omega (arith, outputs_long outputs)), lt-ltb (length (after_outputs outputs).ports) (ports_of header) (omega (arith, less, outputs_long outputs))) (output_number n outputs numbers place)

      module _ (outputs : List ℕ) (all_outputs : length outputs ≡ header.outputs) where
        -- ---- ANDs

        abbrev pub after_ands : List AndLine → Reading
        after_ands ands = reading_of header inputs latches outputs ands []

        pub ands_go : (ands : List AndLine) → length ands < header.ands → is_complete (after_ands ands) ≡ false
        ands_go ands less = missing_ands (after_ands ands) less

        abbrev and_literals : List AndLine → List ℕ
        and_literals ands = map (λ (a : AndLine). a.literal) ands

        and_grown : (n : ℕ) (ands : List AndLine) (line : AndLine) → n ≡ ports_of header + length ands + 2
            → record (record (after_ands ands) { defined = (after_ands ands).defined ++ line.literal ∷ [] }) { ands = ands ++ line ∷ []; uses = ((after_ands ands).uses ++ record { line = n; literal = line.left } ∷ []) ++ record { line = n; literal = line.right } ∷ [] } ≡ after_ands (ands ++ line ∷ [])
        and_grown n ands line place =
            let here : ports_of header + 2 + length ands ≡ n = omega (arith, place) in
            let before : List Use = uses_from used_by_latch (header.inputs + 2) latches ++ uses_from used_by_output (driven header + 2) outputs in
            let those : List Use = uses_from used_by_and (ports_of header + 2) ands in
            let left : Use = record { line = n; literal = line.left } in
            let right : Use = record { line = n; literal = line.right } in
            let used : those ++ left ∷ right ∷ [] ≡ uses_from used_by_and (ports_of header + 2) (ands ++ line ∷ []) =
            sym (uses_push used_by_and (ports_of header + 2) ands line ∙ ap (λ m. those ++ record { line = m; literal = line.left } ∷ record { line = m; literal = line.right } ∷ []) here) in
            same_reading header _ _ latches latches _ _ _ _ _ _ [] [] refl refl refl
            (front_push (inputs ++ literals_of latches) (and_literals ands) line.literal ∙ ap (λ (xs : List ℕ). (inputs ++ literals_of latches) ++ xs) (sym (map_push (λ (a : AndLine). a.literal) ands line)))
            (append_assoc (before ++ those) (left ∷ []) (right ∷ []) ∙ (append_assoc before those (left ∷ right ∷ []) ∙ ap (λ (us : List Use). before ++ us) used)) refl

        and_number : (n : ℕ) (ands : List AndLine) (numbers : List ℕ) → n ≡ ports_of header + length ands + 2 → and_line n numbers (after_ands ands) ≡ then_by (allowing n (triple (Some numbers)) (λ l. defining header ((inputs ++ literals_of latches) ++ and_literals ands) n l.literal l.left l.right)) (λ a. Ok (after_ands (ands ++ a ∷ [])))
        and_number n ands [] place = refl
        and_number n ands (a ∷ []) place = refl
        and_number n ands (a ∷ b ∷ []) place = refl
        and_number n ands (a ∷ b ∷ c ∷ []) place =
            define_step n a b c (after_ands ands) ((inputs ++ literals_of latches) ++ and_literals ands) refl (λ more. Ok (record more { ands = more.ands ++ record { literal = a; left = b; right = c } ∷ []; uses = (more.uses ++ record { line = n; literal = b } ∷ []) ++ record { line = n; literal = c } ∷ [] })) (after_ands (ands ++ record { literal = a; left = b; right = c } ∷ [])) (ap Ok (and_grown n ands (record { literal = a; left = b; right = c }) place))
            ∙ sym (then_one (defining header ((inputs ++ literals_of latches) ++ and_literals ands) n a b c) (record { literal = a; left = b; right = c }) (λ l. Ok (after_ands (ands ++ l ∷ []))))
        and_number n ands (a ∷ b ∷ c ∷ d ∷ ds) place = refl

        pub and_read : (n : ℕ) (line : List ℕ) (ands : List AndLine) → length ands < header.ands → n ≡ ports_of header + length ands + 2 → one_line n line (after_ands ands) ≡ then_by (allowing n (triple (numbers_of (words_of line))) (λ l. defining header ((inputs ++ literals_of latches) ++ and_literals ands) n l.literal l.left l.right)) (λ a. Ok (after_ands (ands ++ a ∷ [])))
        and_read n line ands less place = numbered n line (after_ands ands) (ands_go ands less) ∙ by (numbers_of (words_of line))
          where
            by : (numbers : Option (List ℕ)) → number_line n numbers (after_ands ands) ≡ then_by (allowing n (triple numbers) (λ l. defining header ((inputs ++ literals_of latches) ++ and_literals ands) n l.literal l.left l.right)) (λ a. Ok (after_ands (ands ++ a ∷ [])))
            by None = refl
            by (Some numbers) =
                let long : length (after_outputs outputs).ports ≡ ports_of header = omega (arith, outputs_long outputs, all_outputs) in
                rw (le-ltb (length (after_outputs outputs).ports) header.inputs (omega (arith, long)), le-ltb (length (after_outputs outputs).ports) (driven header) (omega (arith, long)), le-ltb (length (after_outputs outputs).ports) (ports_of header) (omega (arith, long))) (and_number n ands numbers place)

        module _ (ands : List AndLine) (all_ands : length ands ≡ header.ands) where
          -- ---- symbols

          abbrev pub after_symbols : List (ℕ × Name) → Reading
          after_symbols symbols = reading_of header inputs latches outputs ands symbols

          pub symbols_complete : (symbols : List (ℕ × Name)) → is_complete (after_symbols symbols) ≡ true
          symbols_complete symbols =
              and_made (nat_le (ports_of header) (length (after_outputs outputs).ports)) (nat_le header.ands (length ands))
              (le-leb (ports_of header) (length (after_outputs outputs).ports) (omega (arith, outputs_long outputs, all_outputs))) (le-leb header.ands (length ands) (omega (arith, all_ands)))

          symbol_named : (n : ℕ) (symbols : List (ℕ × Name)) (name : Name) (port : Option ℕ) → named n name port (after_symbols symbols) ≡ then_by (or_syntax n (name_for symbols name port)) (λ s. Ok (after_symbols (symbols ++ s ∷ [])))
          symbol_named n symbols name None = refl
          symbol_named n symbols name (Some port) = by (is_port_name name && not (is_some (lookup (nat_eq port) symbols)))
            where
              by : (b : Bool) → cond b (Ok (after_symbols (symbols ++ (port, name) ∷ []))) (Err (Syntax n)) ≡ then_by (or_syntax n (cond b (Some (port, name)) None)) (λ s. Ok (after_symbols (symbols ++ s ∷ [])))
              by true = refl
              by false = refl

          pub symbol_read : (n : ℕ) (line : List ℕ) (symbols : List (ℕ × Name)) → one_line n line (after_symbols symbols) ≡ then_by (or_syntax n (symbol_in header symbols line)) (λ s. Ok (after_symbols (symbols ++ s ∷ [])))
          symbol_read n line symbols = by (symbol_line n line (after_symbols symbols)) (number_line n (numbers_of (words_of line)) (after_symbols symbols)) (is_complete (after_symbols symbols)) (symbols_complete symbols) ∙ said line
            where
              by : (a b : Result Reading AigerFault) (c : Bool) → c ≡ true → cond c a b ≡ a
              by a b true e = refl
              by a b false e = absurd (cc)

              said : (l : List ℕ) → symbol_line n l (after_symbols symbols) ≡ then_by (or_syntax n (symbol_in header symbols l)) (λ s. Ok (after_symbols (symbols ++ s ∷ [])))
              said [] = refl
              said (letter ∷ bytes) = symbol_named n symbols (drop (length (before_space bytes) + 1) bytes) (port_of header letter (number_of (before_space bytes)))
