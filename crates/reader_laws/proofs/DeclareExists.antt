-- Of a declaration in structural Verilog there is an outcome: whether its nets have short names, and whether they meet others, is decided.
use Rattle.std.proofs.Common.{◌≡◌, ◌∙◌, ap, sym, refl, subst, inl, inr, ℕ, zero, suc, ◌≤◌, true, false, List, [], ◌∷◌, length, Option, None, Some, Result, Ok, Err, arith}
use Rattle.std.specs.Prelude.{bytes_eq, cond}
use Rattle.std.specs.Option.{option_map}
use Rattle.std.proofs.lemmas.Bool.{cases_eq, cases_lt}
use Rattle.std.proofs.lemmas.Slice.Eq.{bytes_eq-Decides}
use Rattle.lists.specs.Lists.{Has}
use Rattle.lists.specs.laws.BoolLaws.{either}
use Rattle.lists.specs.laws.HasLaws.{none_at}
use Rattle.net_verilog.specs.Declarations.{Declarations, Range, IsNetOf, bit_name, declared_as, range_of, with_declared}
use Rattle.net_verilog.specs.declared.declared.Declared.{Declared}
use Rattle.net_verilog.specs.declared.declared.Direction.{Direction}
use Rattle.net_verilog.specs.declared.fault.VerilogFault.{VerilogFault}
use Rattle.net_verilog.specs.declared.fault.VerilogFault.TheVariants.{Syntax, Redeclared}
use Rattle.verilog_reader.specs.Declares.{Declares, HasShortNames, IsRedeclared, Meets, is_against}
use Rattle.reader_laws.proofs.DecidedLemmas.{IsDecided, both_decided, bytes_decided, most_decided}

-- a number of at most this size
module _ (P : ℕ → Type 0) (each : (i : ℕ) → IsDecided (P i)) where
  here_or : (n : ℕ) → ((i : ℕ) × (i ≤ n) × P i → ⊥) → (P (suc n) → ⊥) → (i : ℕ) → i ≤ suc n → P i → ⊥
  here_or n none other i low is = elim (cases_eq i (suc n)) [ inl same ↦ other (subst P same is) | inr differs ↦ none (i, omega (arith, low, differs), is) ]

  zero_or : (P 0 → ⊥) → (i : ℕ) → i ≤ 0 → P i → ⊥
  zero_or other zero low is = other is
  zero_or other (suc i) low is = omega (arith, low)

  up_to : (n : ℕ) → IsDecided ((i : ℕ) × (i ≤ n) × P i)
  up_to zero = elim (each 0) [ inl is ↦ inl (0, omega arith, is) | inr other ↦ inr (λ found. zero_or other found.0 found.1 found.2) ]
  up_to (suc n) =
      elim (up_to n) [
        | inl found ↦ inl (found.0, omega (arith, found.1), found.2)
        | inr none ↦ elim (each (suc n)) [ inl is ↦ inl (suc n, omega arith, is) | inr other ↦ inr (λ found. here_or n none other found.0 found.1 found.2) ]
      ]

-- an entry
module _ {X : Type 0} (Q : X → Type 0) (each : (x : X) → IsDecided (Q x)) where
  no_entry : (e : X) (es : List X) → (Q e → ⊥) → ((x : X) × Has es x × Q x → ⊥) → (x : X) → Has (e ∷ es) x → Q x → ⊥
  no_entry e es other none x (zero, got) is = let same : e ≡ x = cc in other (subst Q (sym same) is)
  no_entry e es other none x (suc k, got) is = none (x, (k, got), is)

  some_entry : (es : List X) → IsDecided ((x : X) × Has es x × Q x)
  some_entry [] = inr (λ found. none_at found.0 found.1)
  some_entry (e ∷ es) =
      elim (each e) [
        | inl is ↦ inl (e, (0, refl), is)
        | inr other ↦ elim (some_entry es) [
          | inl found ↦ inl (found.0, (suc found.1.0, found.1.1), found.2)
          | inr none ↦ inr (λ found. no_entry e es other none found.0 found.1 found.2)
        ]
      ]

-- ---- short names

short_decided : (name : List ℕ) (range : Range) → IsDecided (HasShortNames name range)
short_decided name None =
    elim (most_decided (length name) 255) [
      | inl few ↦ inl (λ net is. let same : length net ≡ length name = ap (λ (xs : List ℕ). length xs) is in omega (arith, same, few))
      | inr long ↦ inr (λ short. long (short name refl))
    ]
short_decided name (Some (low, high)) =
    elim (up_to (λ i. (low ≤ i) × (256 ≤ length (bit_name name i))) (λ i. both_decided (most_decided low i) (most_decided 256 (length (bit_name name i)))) high) [
      | inl found ↦ inr (λ short. let few : length (bit_name name found.0) ≤ 255 = short (bit_name name found.0) (found.0, found.2.0, found.1, refl) in omega (arith, few, found.2.1))
      | inr none ↦ inl (λ net is.
          let same : length net ≡ length (bit_name name is.0) = ap (λ (xs : List ℕ). length xs) is.3 in
          elim (cases_lt (length net) 256) [
            | inl few ↦ omega (arith, few)
            | inr long ↦ absurd (none (is.0, is.2, (is.1, omega (arith, same, long))))
          ])
    ]

-- ---- names that meet

-- both names make a net of one name
abbrev Common : List ℕ → Range → List ℕ → Range → Type 0
Common other there name range = (net : List ℕ) × IsNetOf other there net × IsNetOf name range net

-- a name is that of a bit
bit_decided : (low high : ℕ) (vector name : List ℕ) → IsDecided ((i : ℕ) × (i ≤ high) × ((low ≤ i) × (name ≡ bit_name vector i)))
bit_decided low high vector name = up_to (λ i. (low ≤ i) × (name ≡ bit_name vector i)) (λ i. both_decided (most_decided low i) (bytes_decided name (bit_name vector i))) high

common_decided : (other : List ℕ) (there : Range) (name : List ℕ) (range : Range) → IsDecided (Common other there name range)
common_decided other None name None =
    elim (bytes_decided other name) [ inl same ↦ inl (other, refl, same) | inr differ ↦ inr (λ is. differ (sym is.1 ∙ is.2)) ]
common_decided other None name (Some (low, high)) =
    elim (bit_decided low high name other) [
      | inl found ↦ inl (other, refl, (found.0, found.2.0, found.1, found.2.1))
      | inr none ↦ inr (λ is. none (is.2.0, is.2.2, (is.2.1, sym is.1 ∙ is.2.3)))
    ]
common_decided other (Some (low, high)) name None =
    elim (bit_decided low high other name) [
      | inl found ↦ inl (name, (found.0, found.2.0, found.1, found.2.1), refl)
      | inr none ↦ inr (λ is. none (is.1.0, is.1.2, (is.1.1, sym is.2 ∙ is.1.3)))
    ]
common_decided other (Some (low, high)) name (Some (a, b)) =
    elim (up_to (λ i. (low ≤ i) × ((j : ℕ) × (j ≤ b) × ((a ≤ j) × (bit_name other i ≡ bit_name name j)))) (λ i. both_decided (most_decided low i) (bit_decided a b name (bit_name other i))) high) [
      | inl found ↦ inl (bit_name other found.0, (found.0, found.2.0, found.1, refl), (found.2.1.0, found.2.1.2.0, found.2.1.1, found.2.1.2.1))
      | inr none ↦ inr (λ is. none (is.1.0, is.1.2, (is.1.1, (is.2.0, is.2.2, (is.2.1, sym is.1.3 ∙ is.2.3)))))
    ]

-- the declared name is another one and makes a net of the same name
abbrev MeetsAt : Declarations → Range → List ℕ → List ℕ → Type 0
MeetsAt declared range name other = (there : Range) × (range_of declared other ≡ Some there) × ((other ≡ name → ⊥) × Common other there name range)

meets_at : (declared : Declarations) (range : Range) (name other : List ℕ) (found : Option Range) → range_of declared other ≡ found → IsDecided (MeetsAt declared range name other)
meets_at declared range name other None e = inr (λ is. let bad : None ≡ Some is.0 = sym e ∙ is.1 in absurd (cc))
meets_at declared range name other (Some there) e =
    elim (bytes_decided other name) [
      | inl same ↦ inr (λ is. is.2.0 same)
      | inr differ ↦ elim (common_decided other there name range) [
        | inl common ↦ inl (there, e, (differ, common))
        | inr none ↦ inr (λ is.
            let both : Some there ≡ Some is.0 = sym e ∙ is.1 in
            let same : there ≡ is.0 = cc in
            let P : Range → Type 0 = λ r. Common other r name range in
            none (subst P (sym same) is.2.1))
      ]
    ]

-- a declared name has an entry
has_entry : (declared : Declarations) (other : List ℕ) (there : Range) → range_of declared other ≡ Some there → (e : List ℕ × Declared) × Has declared e × (e.0 ≡ other)
has_entry [] other there is = absurd (cc)
has_entry (e ∷ es) other there is =
    elim (bytes_eq other e.0) as (λ b. bytes_eq other e.0 ≡ b → option_map (λ (d : Declared). d.range) (cond b (Some e.1) (declared_as es other)) ≡ Some there → (x : List ℕ × Declared) × Has (e ∷ es) x × (x.0 ≡ other)) [
      | true ↦ λ same h. (e, (0, refl), sym ((bytes_eq-Decides other e.0).0 same))
      | false ↦ λ differ h. (let rest = has_entry es other there h in (rest.0, (suc rest.1.0, rest.1.1), rest.2))
    ] refl is

meets_decided : (declared : Declarations) (range : Range) (name : List ℕ) → IsDecided (Meets declared range name)
meets_decided declared range name =
    elim (some_entry (λ (e : List ℕ × Declared). MeetsAt declared range name e.0) (λ e. meets_at declared range name e.0 (range_of declared e.0) refl) declared) [
      | inl found ↦ (let at = found.2 in inl (found.0.0, at.0, at.2.1.0, at.1, at.2.0, at.2.1.1, at.2.1.2))
      | inr none ↦ inr (λ is.
          let entry = has_entry declared is.0 is.1 is.3 in
          let P : List ℕ → Type 0 = MeetsAt declared range name in
          let at : MeetsAt declared range name is.0 = (is.1, is.3, (is.4, (is.2, is.5, is.6))) in
          none (entry.0, entry.1, subst P (sym entry.2) at))
    ]

redeclared_decided : (declared : Declarations) (range : Range) (direction : Direction) (name : List ℕ) → IsDecided (IsRedeclared declared range direction name)
redeclared_decided declared range direction name =
    either (is_against (declared_as declared name) range direction) (λ against. inl (inl against)) (λ fits. elim (meets_decided declared range name) [
      | inl meets ↦ inl (inr meets)
      | inr apart ↦ inr (λ is. elim is [ inl against ↦ (let bad : true ≡ false = sym against ∙ fits in absurd (cc)) | inr meets ↦ apart meets ])
    ])

pub some_declares : (declared : Declarations) (range : Range) (direction : Direction) (name : ℕ × List ℕ) → (outcome : Result Declarations VerilogFault) × Declares declared range direction name outcome
some_declares declared range direction name =
    elim (short_decided name.1 range) [
      | inl short ↦ elim (redeclared_decided declared range direction name.1) [
        | inl again ↦ (Err (Redeclared name.0), inr (short, again, refl))
        | inr fresh ↦ (Ok (with_declared name.1 range direction declared), (short, fresh, refl))
      ]
      | inr long ↦ (Err (Syntax name.0), inl (long, refl))
    ]
