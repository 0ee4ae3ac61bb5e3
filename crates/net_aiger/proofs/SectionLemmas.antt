-- The states of the reader follow the sections: what it knows after the lines of a section is what the section's entries say.
use Rattle.std.proofs.Common.{◌≡◌, ◌∙◌, ap, sym, refl, ℕ, zero, suc, ◌<◌, ◌+◌, ◌&&◌, Bool, true, false, cond, not, List, [], ◌∷◌, ◌++◌, length, drop, map, None, Some, Result, Ok, Err, arith, append_assoc, append-nil}
use Rattle.std.specs.Prelude.{slice_get, codes}
use Rattle.std.specs.Str.{bytes_eq}
use Rattle.lists.specs.laws.ListLaws.{length-push}
use Rattle.lists.specs.laws.TakeLaws.{drop_none as drop_start}
use Rattle.outcome.specs.Outcome.{Outcome}
use Rattle.net_aiger.specs.Reading.{Reading, uses_from}
use Rattle.net_aiger.specs.Sections.{AreEntries, Section, defining, fits}
use Rattle.net_aiger.specs.Reading.{stands}
use Rattle.net_aiger.specs.declared.fault.AigerFault.{AigerFault}
use Rattle.net_aiger.specs.declared.fault.AigerFault.TheVariants.{DefinedTwice, Literal, Syntax}
use Rattle.net_aiger.specs.declared.reading.Use.{Use}
use Rattle.net_aiger.specs.private.Run.{define, ends, is_complete, lines_read, one_line}
use Rattle.net_aiger.proofs.EntryLemmas.{one_more, then_by}

-- ---- what is left of a list

module _ {A : Type 0} where
  pub drop_none : (k : ℕ) (xs : List A) → [] ≡ drop k xs → slice_get xs k ≡ None
  drop_none zero [] left = refl
  drop_none (suc k) [] left = refl
  drop_none zero (x ∷ xs) left = absurd (cc)
  drop_none (suc k) (x ∷ xs) left = drop_none k xs left

  pub drop_some : (k : ℕ) (xs : List A) (y : A) (ys : List A) → y ∷ ys ≡ drop k xs → (slice_get xs k ≡ Some y) × (ys ≡ drop (suc k) xs)
  drop_some zero [] y ys left = absurd (cc)
  drop_some (suc k) [] y ys left = absurd (cc)
  drop_some zero (x ∷ xs) y ys left = let same : y ≡ x = cc in let rest : ys ≡ xs = cc in (ap Some (sym same), rest ∙ sym (drop_start xs))
  drop_some (suc k) (x ∷ xs) y ys left = drop_some k xs y ys left

-- ---- a section, line by line

-- where numbers are missing, one line is read and then the others
go_on : (n : ℕ) (line : List ℕ) (rest : List (List ℕ)) (reading : Reading) → is_complete reading ≡ false → lines_read n (line ∷ rest) reading ≡ then_by (one_line n line reading) (λ m. lines_read (n + 1) rest m)
go_on n line rest reading more = by (then_by (one_line n line reading) (λ m. lines_read (n + 1) rest m)) (ends line reading) (ap (λ b. b && bytes_eq line (codes "c")) more)
  where
    by : (whole : Result Reading AigerFault) (b : Bool) → b ≡ false → cond b (Ok reading) whole ≡ whole
    by whole true e = absurd (cc)
    by whole false e = refl

module _ {A : Type 0} (body : List (List ℕ)) (Line : List A → ℕ → Outcome AigerFault A) (first count : ℕ) (entry : List A → ℕ → Result A AigerFault) (state : List A → Reading) where
  -- the entries of so many more lines, after those before
  pub entries : ℕ → List A → Result (List A) AigerFault
  entries zero before = Ok before
  entries (suc more) before = then_by (entry before (first + length before)) (λ a. entries more (before ++ a ∷ []))

  module _ (comes : (before : List A) (place : ℕ) → Line before place (entry before place)) where
    pub section_comes : (more : ℕ) (before : List A) → length before + more ≡ count → AreEntries Line first before → Section Line first count (entries more before)
    unfolding entries
    section_comes zero before long are = (omega (arith, long), are)
    section_comes (suc more) before long are = by (entry before (first + length before)) (comes before (first + length before)) (λ a h. section_comes more (before ++ a ∷ []) (omega (arith, long, length-push before a)) (one_more Line first before a are h))
      where
        by : (r : Result A AigerFault) → Line before (first + length before) r → ((a : A) → Line before (first + length before) (Ok a) → Section Line first count (entries more (before ++ a ∷ []))) → Section Line first count (then_by r (λ a. entries more (before ++ a ∷ [])))
        by (Ok a) h further = further a h
        by (Err e) h further = (before, omega (arith, long), are, h)

  module _ (missing : (before : List A) (place : ℕ) → slice_get body place ≡ None → entry before place ≡ Err (Syntax (place + 2)))
      (going : (before : List A) → length before < count → is_complete (state before) ≡ false)
      (reads : (before : List A) (line : List ℕ) → length before < count → slice_get body (first + length before) ≡ Some line → one_line (first + length before + 2) line (state before) ≡ then_by (entry before (first + length before)) (λ a. Ok (state (before ++ a ∷ [])))) where
    -- what the reader makes of the lines of the section, and then of those behind
    after : Result (List A) AigerFault → Result Reading AigerFault
    after all = then_by all (λ xs. lines_read (first + count + 2) (drop (first + count) body) (state xs))

    lines_go : (more : ℕ) (before : List A) (rest : List (List ℕ)) → length before + more ≡ count → rest ≡ drop (first + length before) body → lines_read (first + length before + 2) rest (state before) ≡ after (entries more before)
    unfolding entries after
    lines_go zero before rest long left =
        let same : length before ≡ count = omega (arith, long) in
        let place : first + length before + 2 ≡ first + count + 2 = omega (arith, same) in
        ap (λ n. lines_read n rest (state before)) place ∙ ap (λ xs. lines_read (first + count + 2) xs (state before)) (left ∙ ap (λ n. drop (first + n) body) same)
    lines_go (suc more) before [] long left =
        let less : length before < count = omega (arith, long) in
        rw (going before less, missing before (first + length before) (drop_none (first + length before) body left)) refl
    lines_go (suc more) before (line ∷ rest) long left =
        let less : length before < count = omega (arith, long) in
        let here = drop_some (first + length before) body line rest left in
        go_on (first + length before + 2) line rest (state before) (going before less) ∙ (then_go line rest less here.0 (λ a. lines_go more (before ++ a ∷ []) rest (omega (arith, long, length-push before a)) (here.1 ∙ ap (λ n. drop n body) (next_place a))))
      where
        next_place : (a : A) → suc (first + length before) ≡ first + length (before ++ a ∷ [])
        next_place a = omega (arith, length-push before a)

        step : (r : Result A AigerFault) (line_rest : List (List ℕ)) → ((a : A) → lines_read (first + length (before ++ a ∷ []) + 2) line_rest (state (before ++ a ∷ [])) ≡ then_by (entries more (before ++ a ∷ [])) (λ xs. lines_read (first + count + 2) (drop (first + count) body) (state xs)))
            → then_by (then_by r (λ a. Ok (state (before ++ a ∷ [])))) (λ m. lines_read (first + length before + 2 + 1) line_rest m) ≡ then_by (then_by r (λ a. entries more (before ++ a ∷ []))) (λ xs. lines_read (first + count + 2) (drop (first + count) body) (state xs))
        step (Err e) line_rest further = refl
        step (Ok a) line_rest further =
            let number : first + length before + 2 + 1 ≡ first + length (before ++ a ∷ []) + 2 = omega (arith, length-push before a) in
            ap (λ n. lines_read n line_rest (state (before ++ a ∷ []))) number ∙ further a

        then_go : (l : List ℕ) (ls : List (List ℕ)) → length before < count → slice_get body (first + length before) ≡ Some l
            → ((a : A) → lines_read (first + length (before ++ a ∷ []) + 2) ls (state (before ++ a ∷ [])) ≡ then_by (entries more (before ++ a ∷ [])) (λ xs. lines_read (first + count + 2) (drop (first + count) body) (state xs)))
            → then_by (one_line (first + length before + 2) l (state before)) (λ m. lines_read (first + length before + 2 + 1) ls m) ≡ then_by (then_by (entry before (first + length before)) (λ a. entries more (before ++ a ∷ []))) (λ xs. lines_read (first + count + 2) (drop (first + count) body) (state xs))
        then_go l ls less at further = ap (λ (r : Result Reading AigerFault). then_by r (λ m. lines_read (first + length before + 2 + 1) ls m)) (reads before l less at) ∙ step (entry before (first + length before)) ls further

    -- from the section's first line on
    pub section_goes : (n : ℕ) (rest : List (List ℕ)) → n ≡ first + 2 → rest ≡ drop first body → lines_read n rest (state []) ≡ then_by (entries count []) (λ xs. lines_read (first + count + 2) (drop (first + count) body) (state xs))
    unfolding entries after
    section_goes n rest number left =
        let place : first + 0 ≡ first = omega arith in
        let number' : n ≡ first + 0 + 2 = omega (arith, number) in
        ap (λ m. lines_read m rest (state [])) number' ∙ lines_go count [] rest (omega arith) (left ∙ ap (λ m. drop m body) (sym place))

-- ---- literals that are defined and used

-- a literal is defined where none before is the same, and then the reader goes on
pub define_step : (n literal left right : ℕ) (reading : Reading) (defined : List ℕ) → reading.defined ≡ defined → (further : Reading → Result Reading AigerFault) (more : Reading) → further (record reading { defined = reading.defined ++ literal ∷ [] }) ≡ Ok more
    → then_by (define n literal left right reading) further ≡ then_by (defining reading.header defined n literal left right) (λ _. Ok more)
define_step n literal left right reading defined same further more onward = by (fits reading.header literal left right) (stands reading.defined literal) (stands defined literal) (ap (λ (d : List ℕ). stands d literal) same)
  where
    by : (f s t : Bool) → s ≡ t → then_by (cond (not f) (Err (Literal n)) (cond s (Err (DefinedTwice n)) (Ok (record reading { defined = reading.defined ++ literal ∷ [] })))) further ≡ then_by {A = Unit {0}} (cond (not f) (Err (Literal n)) (cond t (Err (DefinedTwice n)) (Ok tt))) (λ _. Ok more)
    by true true true e = refl
    by true false false e = onward
    by true true false e = absurd (cc)
    by true false true e = absurd (cc)
    by false s t e = refl

-- the uses of one more entry
pub uses_push : {A : Type 0} (used : A → List ℕ) (n : ℕ) (xs : List A) (x : A) → uses_from used n (xs ++ x ∷ []) ≡ uses_from used n xs ++ map (λ (literal : ℕ). record { line = n + length xs; literal = literal }) (used x)
uses_push {A} used n [] x =
    let place : n ≡ n + 0 = omega arith in
    let P : ℕ → List Use = λ m. map (λ (literal : ℕ). record { line = m; literal = literal }) (used x) in
    append-nil (P n) ∙ ap P place
uses_push used n (y ∷ ys) x =
    let P : ℕ → List Use = λ m. map (λ (literal : ℕ). record { line = m; literal = literal }) (used x) in
    let place : n + 1 + length ys ≡ n + suc (length ys) = omega arith in
    ap (λ (us : List Use). map (λ (literal : ℕ). record { line = n; literal = literal }) (used y) ++ us) (uses_push used (n + 1) ys x ∙ ap (λ m. uses_from used (n + 1) ys ++ P m) place)
    ∙ sym (append_assoc (map (λ (literal : ℕ). record { line = n; literal = literal }) (used y)) (uses_from used (n + 1) ys) (P (n + suc (length ys))))
