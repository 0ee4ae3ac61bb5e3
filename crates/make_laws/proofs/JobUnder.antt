-- Words and feeds of jobs whose nets get other numbers. Source: this project's own.
use Rattle.std.specs.Prelude.{ℕ, map}
use Rattle.circuit_model.specs.Word.{Word}
use Rattle.circuit_model.specs.declared.circuit_feed.CircuitFeed.{CircuitFeed}

-- a word of a job, each net n of which gets the number f n
abbrev pub job_word_under : (ℕ → ℕ) → Word → Word
job_word_under f w = record { role = w.role; nets = map f w.nets; basis = w.basis }

-- and a feed
abbrev pub job_feed_under : (ℕ → ℕ) → CircuitFeed → CircuitFeed
job_feed_under f feed = record { net = f feed.net; cycle = feed.cycle; source = feed.source }
