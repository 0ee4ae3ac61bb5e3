use Rattle.std.proofs.Common.{sym, subst, List}
use Rattle.net_words.specs.declared.feed.FeedText.{FeedText}
use Rattle.mult_digit.specs.DigitForm.{AreDigitFeeds}
use Rattle.mult_digit.proofs.maker.digit_width.Goals as goal

pub returns-clause-none : goal.returns-clause-none
returns-clause-none c = λ form. c.width_of.ensures.none form.width (subst (λ (fs : List FeedText). AreDigitFeeds c.args.k form.width fs) (sym c.feeds.ensures) form.feeds)
