-- Sharing as the code finds it: multipliers are the same where their keys are. Source: this project's own.
use Rattle.std.specs.Prelude.{length, ◌≡◌, ℕ, ◌+◌, ◌==◌, cond, codes, decimal, List, [], ◌∷◌, ◌++◌, nat_lt, Option, Some, None, Result, OnOk}
use Rattle.std.specs.List.{AllByRecursion}
use Rattle.std.specs.Option.{option_map}
use Rattle.std.specs.BTreeMap.{get}
use Rattle.poly_mixed.specs.Labels.{Labelling}
use Rattle.poly_mixed.specs.Polynomial.{Terms}
use Rattle.poly_mixed.specs.Steps.{Step}
use Rattle.poly_mixed.specs.declared.steps.Generator.{Generator}
use Rattle.poly_mixed.specs.laws.TextLaw.{IsWritten}
use Rattle.lists.specs.Lists.{Has}
use Rattle.cert_make.specs.CertText.{generator_text, let_of, line_of, lines_at, text_of_lines}
use Rattle.cert_make.specs.Sharing.{shares_with}
use Rattle.cert_make.specs.Writable.{IsWritablePair}
use Rattle.cert_make.specs.private.Keys.{KeyParts, key_cmp, is_key, key_by, key_text}
use Rattle.cert_make.specs.declared.marks.Mark.{Mark}
use Rattle.cert_make.specs.declared.marks.Mark.TheVariants.{Once, Often, Number}
use Rattle.cert_make.specs.declared.marks.Marks.{Marks}
use Rattle.cert_make.specs.declared.sharing.Sharing.{Sharing}

-- what is known of the multiplier of a key
abbrev pub mark_at : Marks → KeyParts → Option Mark
mark_at marks q = get key_cmp marks.map q

-- a multiplier that is seen once more
abbrev pub seen_again : Option Mark → Mark
seen_again None = Once
seen_again (Some mark) = Often

-- how many of the pairs have a multiplier with this key
abbrev pub key_uses : Labelling → List Step → KeyParts → ℕ
key_uses labels [] q = 0
key_uses labels (s ∷ pairs) q = cond (is_key (key_by labels s.1) q) 1 0 + key_uses labels pairs q

-- the number of the first of these multipliers that has this key
abbrev pub key_number : Labelling → List Terms → KeyParts → Option ℕ
key_number labels [] q = None
key_number labels (x ∷ xs) q = cond (is_key (key_by labels x) q) (Some 0) (option_map (λ i. i + 1) (key_number labels xs q))

abbrev pub numbered : Option ℕ → Mark
numbered None = Often
numbered (Some n) = Number n

-- what is to be known of a multiplier of so many pairs that has this number
abbrev pub mark_of : ℕ → Option ℕ → Option Mark
mark_of uses number = cond (uses == 0) None (cond (nat_lt 1 uses) (Some (numbered number)) (Some Once))

-- the marks of the multipliers of these pairs, where these multipliers have numbers
abbrev pub AreMarks : Labelling → List Step → List Terms → Marks → Type 0
AreMarks labels pairs shares marks = (q : KeyParts) → mark_at marks q ≡ mark_of (key_uses labels pairs q) (key_number labels shares q)

-- the `let` line that is due at a multiplier with this mark and this text, where so many have a number
abbrev pub lets_by : Option Mark → ℕ → List ℕ → List (List ℕ)
lets_by None count t = []
lets_by (Some Once) count t = []
lets_by (Some Often) count t = let_of count t ∷ []
lets_by (Some (Number n)) count t = []

-- how a multiplier with this text is written: by its number, or as it is where it has none
abbrev pub named_by : Option ℕ → List ℕ → List ℕ
named_by None t = t
named_by (Some n) t = codes "#" ++ decimal n

-- the line of a pair whose multiplier is known by this, with its number where it has one
abbrev pub known_line : Labelling → Generator → Option ℕ → KeyParts → List ℕ
known_line labels generator number key = line_of (generator_text labels generator) (named_by number (key_text labels key))

-- how it is written by its mark
abbrev pub written_by : Option Mark → ℕ → List ℕ → List ℕ
written_by None count t = t
written_by (Some Once) count t = t
written_by (Some Often) count t = codes "#" ++ decimal count
written_by (Some (Number n)) count t = codes "#" ++ decimal n

-- how many multipliers have a number then
abbrev pub count_by : Option Mark → ℕ → ℕ
count_by None count = count
count_by (Some Once) count = count
count_by (Some Often) count = count + 1
count_by (Some (Number n)) count = count

-- what is known then of the multiplier of a key q of which this was known
abbrev pub mark_by : Option Mark → ℕ → KeyParts → KeyParts → Option Mark → Option Mark
mark_by None count t q known = known
mark_by (Some Once) count t q known = known
mark_by (Some Often) count t q known = cond (is_key t q) (Some (Number count)) known
mark_by (Some (Number n)) count t q known = known

-- what is known where these multipliers are shared so far
pub record IsSharingOf (labels : Labelling) (k : ℕ) (pairs : List Step) (shares : List Terms) (sharing : Sharing) : Type 0 where
  pub writable : AllByRecursion (IsWritablePair labels k) pairs
  pub written : AllByRecursion (IsWritten labels k) shares
  pub marks : AreMarks labels pairs shares sharing.marks
  pub count : sharing.count ≡ length shares

-- among whatever pairs this pair is, and whatever was shared before, its lines are added
abbrev pub AddsLinesOf : {F : Type 0} → Labelling → Step → Sharing → Result (Unit {0}) F → List ℕ → List ℕ → Type 0
AddsLinesOf labels pair sharing result old new = (k : ℕ) (pairs : List Step) (shares : List Terms) → IsSharingOf labels k pairs shares sharing → Has pairs pair → OnOk result (new ≡ old ++ text_of_lines (lines_at labels pairs shares pair))

-- among whatever pairs this pair is, and whatever was shared before, its multiplier is shared then where it is to be
abbrev pub SharesWith : {F : Type 0} → Labelling → Step → Sharing → Result (Unit {0}) F → Sharing → Type 0
SharesWith labels pair old result new = (k : ℕ) (pairs : List Step) (shares : List Terms) → IsSharingOf labels k pairs shares old → Has pairs pair → OnOk result (IsSharingOf labels k pairs (shares_with pairs shares pair.1) new)
