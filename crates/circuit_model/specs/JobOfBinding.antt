-- The job of a net list and of the words and feeds that are bound to it. Source: this project's own, docs/DEFINITIONS.md.
use Rattle.std.specs.Prelude.{ℕ, not, true, false, List, [], ◌∷◌, ◌++◌, length, filter, map, take}
use Rattle.net_words.specs.Binding.{BoundNet}
use Rattle.net_words.specs.Roles.{same_role}
use Rattle.net_words.specs.declared.bound.BoundWord.{BoundWord}
use Rattle.net_words.specs.declared.feed.Feed.{Feed}
use Rattle.net_words.specs.declared.feed.Source.{Source}
use Rattle.net_words.specs.declared.feed.Source.TheVariants.{Zero, One, Bit}
use Rattle.net_words.specs.declared.word.Role.{Role}
use Rattle.net_words.specs.declared.word.Role.TheVariants.{Input, State, Fed, Output}
use Rattle.circuit_model.specs.declared.circuit_feed.CircuitFeed.{CircuitFeed}
use Rattle.circuit_model.specs.declared.circuit_feed.FeedSource.{FeedSource}
use Rattle.circuit_model.specs.declared.circuit_feed.FeedSource.TheVariants.{Constant, Bit as BitOf}
use Rattle.circuit_model.specs.Word.{Word}
use Rattle.circuit_model.specs.Circuit.{Circuit}
use Rattle.circuit_model.specs.OfBinding.{output_word, output_basis}

-- the word that a bound word adds to the input, state and fed words of the job
abbrev pub job_word_with : Role → List ℕ → List ℕ → List Word
job_word_with Input nets basis = record { role = Input; nets = nets; basis = basis } ∷ []
job_word_with State nets basis = record { role = State; nets = nets; basis = basis } ∷ []
job_word_with Fed nets basis = record { role = Fed; nets = nets; basis = basis } ∷ []
job_word_with Output nets basis = []

-- the input, state and fed words, with their bases out of a list of one basis for each word
abbrev pub job_words_of : List BoundWord → List (List ℕ) → List Word
job_words_of [] bases = []
job_words_of (word ∷ words) [] = []
job_words_of (word ∷ words) (basis ∷ bases) = job_word_with word.role word.nets basis ++ job_words_of words bases

-- the number among the input, state and fed words of the word with number w among all words
abbrev pub inner_number : List BoundWord → ℕ → ℕ
inner_number words w = length (filter (λ word. not (same_role word.role Output)) (take w words))

-- the source, where words are counted without the output word
abbrev pub inner_source : List BoundWord → Source → FeedSource
inner_source words Zero = Constant false
inner_source words One = Constant true
inner_source words (Bit w place) = BitOf (inner_number words w) place

-- what a bound feed feeds
abbrev pub job_feed : List BoundWord → Feed → CircuitFeed
job_feed words feed = record { net = feed.net; cycle = feed.cycle; source = inner_source words feed.source }

-- the job over the field of 2 to the k elements with this product, with one basis for each word of the binding, and with so
-- many cycles after the first
abbrev pub job_with : ℕ → (ℕ → ℕ → ℕ) → BoundNet → List (List ℕ) → ℕ → Circuit
job_with k product netlist bases cycles = record { k = k; product = product; net = netlist.net; words = job_words_of netlist.binding.words bases; output = output_word netlist.binding.words (output_basis netlist.binding.words bases); feeds = map (job_feed netlist.binding.words) netlist.binding.feeds; cycles = cycles }
