-- No smaller width fits.
use Rattle.std.proofs.Common.{◌<◌, ℕ}
use Rattle.mult_digit.specs.DigitForm.{AreDigitFeeds}
use Rattle.mult_digit.proofs.form.width_of.Given as goal

abbrev pub invariant-loop-width : goal.invariant-loop-width
invariant-loop-width l = (w : ℕ) → w < l.width → AreDigitFeeds l.fn.k w l.fn.feeds → ⊥
