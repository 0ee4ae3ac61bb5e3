-- What holds of each setting that a text gives. Source: this project's own.
use Rattle.std.specs.Prelude.{◌≡◌, ℕ, List, length, map}
use Rattle.lists.specs.Lists.{Has}
use Rattle.net_words.specs.Binding.{AreWords}
use Rattle.net_words.specs.Feeds.{AreFeeds}
use Rattle.gf_field.specs.Ring.{IsRing}
use Rattle.gf_field.specs.Field.{HasNoZeroDivisors}
use Rattle.gf_basis.specs.Basis.{IsBasis}
use Rattle.job_input.specs.SettingValue.{SettingValue}

-- its field is one of 2 to the k elements; its words and its feeds can be bound; and each word has a basis of the field
pub record IsSoundSetting (setting : SettingValue) : Type 0 where
  pub ring : IsRing setting.k setting.product
  pub field : HasNoZeroDivisors setting.k setting.product
  pub words : AreWords setting.k setting.signature.words
  pub feeds : AreFeeds setting.k (map (λ word. word.role) setting.signature.words) setting.signature.feeds
  pub long : length setting.bases ≡ length setting.signature.words
  pub each : (basis : List ℕ) → Has setting.bases basis → IsBasis setting.k basis
