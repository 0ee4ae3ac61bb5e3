-- What the code keeps while it reads, and what it stands for. Source: this project's own.
use Rattle.std.specs.Prelude.{◌≡◌, ℕ, ◌<◌, ◌==◌, true, cond, nat_lt, List, [], length, Option, None, Some, Result, Ok, Err, get_or}
use Rattle.std.specs.List.{position_from}
use denote.Ref.{Bor}
use Rattle.text_core.specs.Numbers.{value_of}
use Rattle.net_core.specs.NetList.{NetList, nets}
use Rattle.net_core.specs.GateValue.{GateValue}
use Rattle.poly_mixed.specs.Labels.{Labelling, word_at}
use Rattle.poly_mixed.specs.Polynomial.{Terms, IsReduced}
use Rattle.poly_mixed.specs.declared.steps.Generator.{Generator}
use Rattle.poly_mixed.specs.declared.steps.Generator.TheVariants.{Net, Bit}
use Rattle.cert_check.specs.Certificate.{Said, pairs, shares, ends}
use Rattle.cert_check.specs.Driver.{is_driven}
use Rattle.cert_check.specs.Frame.{Frame, pair_of, share_of, end_of}
use Rattle.cert_check.specs.Scan.{is_blank}
use Rattle.cert_check.specs.declared.fault.LineFault.{LineFault}
use Rattle.cert_check.specs.declared.fault.LineFault.TheVariants as own
use Rattle.poly_mixed.specs.declared.fault.PolyFault.{PolyFault}
use Rattle.poly_mixed.specs.declared.fault.PolyFault.TheVariants as poly
use Rattle.cert_check.specs.declared.frame.Frame.{Frame as CodeFrame}
use Rattle.cert_check.specs.declared.frame.Frame.TheVariants as frame
use Rattle.cert_check.specs.declared.head.Head.{Head}
use Rattle.cert_check.specs.declared.line.Multiplier.{Multiplier}
use Rattle.cert_check.specs.declared.line.Multiplier.TheVariants as multiplier
use Rattle.cert_check.specs.declared.line.Line.{Line}
use Rattle.cert_check.specs.declared.line.Line.TheVariants as line

-- for each net the position of the first gate from position i on that drives it
pub record AreDriversFrom (i : ℕ) (gates : List GateValue) (count : ℕ) (drivers : List (Option ℕ)) : Type 0 where
  pub long : length drivers ≡ count
  pub each : (n : ℕ) → n < count → get_or drivers n None ≡ position_from (λ (g : GateValue). g.out == n) i gates

-- for each net the position of the gate that drives it
abbrev pub AreDrivers : NetList → List (Option ℕ) → Type 0
AreDrivers net drivers = AreDriversFrom 0 net.gates (nets net) drivers

-- a generator and what is left
abbrev pub pair_left : Result (Generator × Bor (List ℕ)) LineFault → Result (Generator × List ℕ) LineFault
pair_left (Ok found) = Ok (found.0, found.1.now)
pair_left (Err fault) = Err fault

-- what is left, or a fault
abbrev pub text_left : Result (Bor (List ℕ)) LineFault → Result (List ℕ) LineFault
text_left (Ok rest) = Ok rest.now
text_left (Err fault) = Err fault

abbrev pub frame_view : CodeFrame → Frame
frame_view (frame.Pair g text) = pair_of g text.now
frame_view (frame.Share text) = share_of text.now
frame_view frame.End = end_of

abbrev pub frame_left : Result CodeFrame LineFault → Result Frame LineFault
frame_left (Ok found) = Ok (frame_view found)
frame_left (Err fault) = Err fault

-- a multiplier, where these are shared
abbrev pub multiplier_in : List Terms → Multiplier → Terms
multiplier_in shared (multiplier.Own p) = p.terms
multiplier_in shared (multiplier.Shared n) = get_or shared n []

-- the multiplier of this number, where so many are shared
abbrev pub multiplier_numbered : ℕ → ℕ → Result Multiplier LineFault
multiplier_numbered count n = cond (nat_lt n count) (Ok (multiplier.Shared n)) (Err own.NoSuchLet)

-- the multiplier whose number stands first, with nothing after it, where so many are shared
abbrev pub multiplier_named : ℕ → Option (List ℕ × List ℕ) → Result Multiplier LineFault
multiplier_named count None = Err own.Syntax
multiplier_named count (Some found) = cond (is_blank found.1) (multiplier_numbered count (value_of 10 found.0)) (Err own.Syntax)

abbrev pub line_in : List Terms → Line → Said
line_in shared (line.Pair g m) = pairs g (multiplier_in shared m)
line_in shared (line.Share p) = shares p.terms

-- no line is the end
abbrev pub said_in : List Terms → Option Line → Said
said_in shared None = ends
said_in shared (Some said) = line_in shared said

-- a net that a gate drives, or a bit of a word that the labels name
abbrev pub IsGenerator : NetList → Labelling → Generator → Type 0
IsGenerator net labels (Net n) = (n < nets net) × (is_driven net n ≡ true)
IsGenerator net labels (Bit w i) = (w < length labels.words) × (i < (word_at labels.words w).1)

-- a polynomial over the field, or the number of one of so many
abbrev pub IsMultiplier : ℕ → ℕ → Multiplier → Type 0
IsMultiplier k count (multiplier.Own p) = IsReduced k p.terms
IsMultiplier k count (multiplier.Shared n) = n < count

abbrev pub IsLine : ℕ → NetList → Labelling → ℕ → Line → Type 0
IsLine k net labels count (line.Pair g m) = IsGenerator net labels g × IsMultiplier k count m
IsLine k net labels count (line.Share p) = IsReduced k p.terms

-- the fault of a line in which a polynomial's text has this fault
abbrev pub fault_of_poly : PolyFault → LineFault
fault_of_poly poly.Syntax = own.Syntax
fault_of_poly poly.NoSuchNet = own.NoSuchNet
fault_of_poly poly.NoSuchBit = own.NoSuchBit
fault_of_poly poly.OutOfMemory = own.OutOfMemory

-- and where only a polynomial in words may stand
abbrev pub fault_of_claim : PolyFault → LineFault
fault_of_claim poly.Syntax = own.Syntax
fault_of_claim poly.NoSuchNet = own.Syntax
fault_of_claim poly.NoSuchBit = own.Syntax
fault_of_claim poly.OutOfMemory = own.OutOfMemory

-- the version and the claim
abbrev pub head_of : Head → ℕ × Terms
head_of head = (head.version, head.claim.terms)
