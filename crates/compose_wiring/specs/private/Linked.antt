-- Candidates found by their keys. Source: this project's own; chains in one table as in Knuth, The Art of Computer Programming,
-- section 6.4.
use Rattle.std.specs.Prelude.{◌≡◌, ℕ, ◌+◌, ◌==◌, ◌&&◌, Bool, true, false, List, [], ◌∷◌, Option, None, Some, length, drop, slice_get, if◌then◌else◌}
use Rattle.std.specs.Str.{bytes_eq}
use Rattle.net_blif.specs.Statement.{Token}
use Rattle.net_blif.specs.Table.{Numbers}
use Rattle.compose_wiring.specs.private.Keys.{key_of}
use Rattle.compose_wiring.specs.private.Names.{same_names}
use Rattle.compose_wiring.specs.private.Plain.{CandidateValue}

-- the elements are the same, place by place
abbrev pub same_elements : List ℕ → List ℕ → Bool
same_elements [] [] = true
same_elements [] (y ∷ ys) = false
same_elements (x ∷ xs) [] = false
same_elements (x ∷ xs) (y ∷ ys) = (x == y) && same_elements xs ys

-- a candidate stands on these nets and has this basis
abbrev pub is_on : List Token → List ℕ → CandidateValue → Bool
is_on nets basis candidate = same_names candidate.nets nets && same_elements candidate.basis basis

-- the key of a candidate
abbrev pub its_key : CandidateValue → Token
its_key candidate = key_of candidate.nets candidate.basis

-- the first candidate with this key, where they are numbered from n
abbrev pub first_from : ℕ → List CandidateValue → Token → Option ℕ
first_from n [] key = None
first_from n (candidate ∷ candidates) key = if bytes_eq (its_key candidate) key then Some n else first_from (n + 1) candidates key

-- each candidate from number n on leads to the next one with the same key
pub record LeadOn (n : ℕ) (candidates : List CandidateValue) (next : List (Option ℕ)) : Type 0 where
  pub long : length next ≡ length candidates
  pub each : (q j : ℕ) (candidate : CandidateValue) → q ≡ n + j → slice_get candidates q ≡ Some candidate → slice_get next q ≡ Some (first_from (q + 1) (drop (q + 1) candidates) (its_key candidate))

-- a table has the first candidate of each key, and each candidate leads to the next one
pub record AreLinked (candidates : List CandidateValue) (firsts : Numbers) (next : List (Option ℕ)) : Type 0 where
  pub firsts_are : firsts ≡ first_from 0 candidates
  pub lead_on : LeadOn 0 candidates next
