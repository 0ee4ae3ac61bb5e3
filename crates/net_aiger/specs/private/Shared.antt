-- Ports whose names another one may have, and those whose names no other has: for the clauses of private functions.
-- Source: this project's own.
use Rattle.std.specs.Prelude.{◌≡◌, ℕ, ◌<◌, ◌≤◌, ◌^◌, ◌==◌, cond, true, false, List, Some, slice_get}
use Rattle.std.specs.List.{list_any}
use Rattle.std.specs.Str.{bytes_eq}
use Rattle.net_aiger.specs.Reading.{Name, Reading, default_name, driven, port_name, stands}
use Rattle.net_aiger.specs.declared.reading.Header.{Header}

-- ---- ports whose names another one may have

-- the number that a place counts from behind a letter: 0 behind `i`, that of the first latch behind `l`, and that of the first
-- output behind any other
abbrev pub first_of : Header → ℕ → ℕ
first_of header letter = cond (letter == 105) 0 (cond (letter == 108) header.inputs (driven header))

-- the port that a name is given to is among these, and so is the one that has it by default
pub record IsNoted (header : Header) (ports : List ℕ) (symbol : ℕ × Name) : Type 0 where
  pub given : stands ports symbol.0 ≡ true
  pub by_default : (port : ℕ) → port < 2 ^ 64 → default_name header port ≡ symbol.1 → stands ports port ≡ true

-- so it is with the first names that are given
abbrev pub AreNoted : Reading → List ℕ → ℕ → Type 0
AreNoted reading ports count = (i : ℕ) (symbol : ℕ × Name) → i < count → slice_get reading.symbols i ≡ Some symbol → IsNoted reading.header ports symbol

-- what is among the first ports is among the second
abbrev pub Keeps : List ℕ → List ℕ → Type 0
Keeps old new = (port : ℕ) → stands old port ≡ true → stands new port ≡ true

-- ---- ports whose names no other has

-- no other port has the name of this one
abbrev pub IsAlone : Reading → ℕ → Type 0
IsAlone reading port = (other : ℕ) → other < 2 ^ 64 → port_name reading other ≡ port_name reading port → other ≡ port

-- no port from a number on whose name no other has is called by one of these names
abbrev pub HasNoneAlone : Reading → ℕ → List Name → Type 0
HasNoneAlone reading port names = (later : ℕ) → port ≤ later → later < 2 ^ 64 → IsAlone reading later → list_any (bytes_eq (port_name reading later)) names ≡ false
