use Rattle.std.proofs.Common.{◌≡◌, drop}
use Rattle.job_input.specs.SettingOf.{feeds_within}
use Rattle.job_input.proofs.setting.judge_feeds.Given as goal

-- what comes of the rest comes of the whole
abbrev pub invariant-loop-feed : goal.invariant-loop-feed
invariant-loop-feed l = feeds_within l.k l.feeds ≡ feeds_within l.k (drop l.feed-index l.feeds)
