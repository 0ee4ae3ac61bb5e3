-- What a line after the claim says, out of what it begins with.
use Rattle.std.proofs.Common.{◌≡◌, sym, subst, inl, inr, ℕ, List, length, Option, Result, Ok, Err}
use Rattle.outcome.specs.Outcome.{Outcome, ◌>>=◌, Fits}
use Rattle.net_core.specs.NetList.{NetList}
use Rattle.poly_mixed.specs.Labels.{Labelling}
use Rattle.poly_mixed.specs.Polynomial.{Terms}
use Rattle.cert_check.specs.Fault.{line_refusal}
use Rattle.cert_check.specs.Frame.{Frame, frame_of}
use Rattle.cert_check.specs.Certificate.{SaidBy, LineOf}
use Rattle.cert_check.specs.declared.fault.LineFault.{LineFault}
use Rattle.cert_check.specs.declared.fault.LineFault.TheVariants as line
use Rattle.cert_check.specs.declared.line.Line.{Line}
use Rattle.cert_check.specs.private.Reading.{said_in}

-- a fault of the first step is one of both
pub line_first : {X Y A B : Type 0} (view : X → A) (view' : Y → B) (fault : LineFault) (first : Outcome LineFault A) (second : A → Outcome LineFault B) → Fits line_refusal view (Err fault) first → Fits line_refusal view' (Err fault) (first >>= second)
line_first view view' line.Syntax first second fits = inl fits
line_first view view' line.NoSuchNet first second fits = inl fits
line_first view view' line.NoSuchBit first second fits = inl fits
line_first view view' line.NotDriven first second fits = inl fits
line_first view view' line.NoSuchLet first second fits = inl fits
line_first view view' line.OutOfMemory first second fits = tt

module _ (k : ℕ) (net : NetList) (labels : Labelling) (version count : ℕ) (text : List ℕ) (shared : List Terms) (long : length shared ≡ count) where
  -- where it begins with what no line begins with
  pub no_frame : (fault : LineFault) → Err fault ≡ frame_of net labels version count text → Fits line_refusal (said_in shared) (Err fault) (LineOf k net labels version shared text)
  no_frame fault is =
      let P : ℕ → Type 0 = λ n. ◌≡◌ {A = Result Frame LineFault} (Err fault) (frame_of net labels version n text) in
      refused fault (subst P (sym long) is)
    where
      refused : (f : LineFault) → Err f ≡ frame_of net labels version (length shared) text → Fits line_refusal (said_in shared) (Err f) (LineOf k net labels version shared text)
      refused line.Syntax same = inl same
      refused line.NoSuchNet same = inl same
      refused line.NoSuchBit same = inl same
      refused line.NotDriven same = inl same
      refused line.NoSuchLet same = inl same
      refused line.OutOfMemory same = tt

  -- and where it begins with this
  pub framed : (frame : Frame) → Ok frame ≡ frame_of net labels version count text → (r : Result (Option Line) LineFault) → Fits line_refusal (said_in shared) r (SaidBy k net labels version shared frame) → Fits line_refusal (said_in shared) r (LineOf k net labels version shared text)
  framed frame is r fits =
      let P : ℕ → Type 0 = λ n. ◌≡◌ {A = Result Frame LineFault} (Ok frame) (frame_of net labels version n text) in
      says r (subst P (sym long) is) fits
    where
      says : (r : Result (Option Line) LineFault) → Ok frame ≡ frame_of net labels version (length shared) text → Fits line_refusal (said_in shared) r (SaidBy k net labels version shared frame) → Fits line_refusal (said_in shared) r (LineOf k net labels version shared text)
      says (Ok said) same fits = (frame, same, fits)
      says (Err line.Syntax) same fits = inr (frame, same, fits)
      says (Err line.NoSuchNet) same fits = inr (frame, same, fits)
      says (Err line.NoSuchBit) same fits = inr (frame, same, fits)
      says (Err line.NotDriven) same fits = inr (frame, same, fits)
      says (Err line.NoSuchLet) same fits = inr (frame, same, fits)
      says (Err line.OutOfMemory) same fits = tt
