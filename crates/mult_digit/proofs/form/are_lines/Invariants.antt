-- The lines before are right.
use Rattle.std.proofs.Common.{◌≡◌, ◌<◌, ℕ, Some}
use Rattle.std.specs.Prelude.{slice_get}
use Rattle.net_words.specs.declared.feed.FeedText.{FeedText}
use Rattle.mult_digit.specs.DigitForm.{IsDigitFeed}
use Rattle.mult_digit.proofs.form.are_lines.Given as goal

abbrev pub invariant-loop-i : goal.invariant-loop-i
invariant-loop-i l = (j : ℕ) (feed : FeedText) → j < l.i → slice_get l.fn.feeds j ≡ Some feed → IsDigitFeed l.fn.k l.fn.width l.fn.feeds j feed
