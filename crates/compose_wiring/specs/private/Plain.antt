-- Instances by their connections and words alone, and what feeds them. Source: this project's own.
use Rattle.std.specs.Global.{Global}
use Rattle.std.specs.Prelude.{◌≡◌, ◌≢◌, ◌⊎◌, ℕ, ◌+◌, ◌<◌, Bool, true, false, List, [], ◌∷◌, ◌++◌, None, Some, Option, length, slice_get, map, take, Vec}
use Rattle.std.specs.Option.{option_map_or}
use Rattle.lists.specs.Lists.{Has}
use Rattle.net_words.specs.declared.word.Role.TheVariants.{Output}
use Rattle.net_blif.specs.Statement.{Token}
use Rattle.net_signature.specs.Body.{BlockValue}
use Rattle.gf_basis.specs.BasisParts.{elements_of}
use Rattle.gf_basis.specs.declared.bases.Basis.{Basis}
use Rattle.compose_model.specs.NamedWord.{inputs_among, named_words, outputs_among, NamedWord}
use Rattle.compose_model.specs.declared.feeder.Feeder.{Feeder}
use Rattle.compose_model.specs.declared.feeder.Feeder.TheVariants.{InputWord, OutputOf}
use Rattle.compose_wiring.specs.private.Names.{actual_by, actuals_by}
use Rattle.compose_wiring.specs.declared.fault.WiringFault.{WiringFault}
use Rattle.compose_wiring.specs.declared.fault.WiringFault.TheVariants.{NotWords, OutputNotWords, OutOfMemory}
use Rattle.compose_wiring.specs.private.Words.{AreOf}

-- an instance: its connections, and the words of its block
pub record PlacedValue : Type 0 where
  pub connections : List Token
  pub words : List NamedWord

-- what may feed a word: it stands on these nets and has this basis
pub record CandidateValue : Type 0 where
  pub feed : Feeder
  pub nets : List Token
  pub basis : List ℕ

-- what an instance connects to the nets of each word
abbrev pub nets_by : PlacedValue → List (Option (List Token))
nets_by placed = map (λ (word : NamedWord). actuals_by placed.connections word.nets) placed.words

-- the input words of the top, numbered from n
abbrev pub word_candidates : ℕ → List NamedWord → List CandidateValue
word_candidates n [] = []
word_candidates n (word ∷ words) = record { feed = InputWord n; nets = word.nets; basis = word.basis } ∷ word_candidates (n + 1) words

-- the output of an instance that has one output word, if its nets are connected
abbrev pub output_by : ℕ → List Token → List NamedWord → List CandidateValue
output_by n connections [] = []
output_by n connections (word ∷ []) = option_map_or (λ nets. record { feed = OutputOf n; nets = nets; basis = word.basis } ∷ []) (actuals_by connections word.nets) []
output_by n connections (word ∷ other ∷ words) = []

-- the outputs of instances, numbered from n
abbrev pub output_candidates : ℕ → List PlacedValue → List CandidateValue
output_candidates n [] = []
output_candidates n (placed ∷ more) = output_by n placed.connections (outputs_among placed.words) ++ output_candidates (n + 1) more

-- all of them
abbrev pub candidates_of : List NamedWord → List PlacedValue → List CandidateValue
candidates_of top placed = word_candidates 0 (inputs_among top) ++ output_candidates 0 placed

-- the feed is a candidate on the nets that the instance connects to the word, with the word's basis
pub record IsFoundFor (candidates : List CandidateValue) (placed : PlacedValue) (word : NamedWord) (feed : Feeder) : Type 0 where
  pub nets : List Token
  pub actuals : actuals_by placed.connections word.nets ≡ Some nets
  pub has : Has candidates (record { feed = feed; nets = nets; basis = word.basis })

-- nothing is found for the word of this place
abbrev pub IsUnfedAt : List CandidateValue → PlacedValue → ℕ → Type 0
IsUnfedAt candidates placed place = (word : NamedWord) (feed : Feeder) → slice_get placed.words place ≡ Some word → IsFoundFor candidates placed word feed → ⊥

-- the feed is that of the first candidate on these nets and with this basis
pub record IsFirstOn (candidates : List CandidateValue) (nets : List Token) (basis : List ℕ) (feed : Feeder) : Type 0 where
  pub place : ℕ
  pub at : slice_get candidates place ≡ Some (record { feed = feed; nets = nets; basis = basis })
  pub before : (q : ℕ) (other : Feeder) → q < place → slice_get candidates q ≡ Some (record { feed = other; nets = nets; basis = basis }) → ⊥

-- the feed is that of the first candidate on the nets that the instance connects to the word, with the word's basis
pub record IsFirstFor (candidates : List CandidateValue) (placed : PlacedValue) (word : NamedWord) (feed : Feeder) : Type 0 where
  pub nets : List Token
  pub actuals : actuals_by placed.connections word.nets ≡ Some nets
  pub first : IsFirstOn candidates nets word.basis feed

-- a bit of the output word is not connected, or an input
pub record IsBadOutput (placed : PlacedValue) (word : NamedWord) : Type 0 where
  pub net : Token
  pub bit : Has word.nets net
  pub because : (actual_by placed.connections net ≡ None) ⊎ ((other : NamedWord) × Has (inputs_among placed.words) other × Has other.nets net)

-- the word is refused
abbrev pub IsRefusedBy : List CandidateValue → PlacedValue → NamedWord → Type 0
IsRefusedBy candidates placed word = ((word.role ≡ Output) × IsBadOutput placed word) ⊎ ((word.role ≢ Output) × ((feed : Feeder) → IsFoundFor candidates placed word feed → ⊥))

-- one word more is fed: the output word adds no feed to the row, and any other its own
abbrev pub IsFedMore : List CandidateValue → PlacedValue → NamedWord → List Feeder → List Feeder → Type 0
IsFedMore candidates placed word old new =
    ((word.role ≡ Output) × (IsBadOutput placed word → ⊥) × (new ≡ old))
    ⊎ ((word.role ≢ Output) × ((feed : Feeder) × IsFirstFor candidates placed word feed × (new ≡ old ++ feed ∷ [])))

-- what comes of one word: it is fed, or it is refused
abbrev pub ComesOf : List CandidateValue → PlacedValue → NamedWord → Bool → List Feeder → List Feeder → Type 0
ComesOf candidates placed word true old new = IsFedMore candidates placed word old new
ComesOf candidates placed word false old new = IsRefusedBy candidates placed word

-- the row has the feeds of the input words among the first w words, of which none is refused
pub record AreFedBefore (candidates : List CandidateValue) (placed : PlacedValue) (w : ℕ) (row : List Feeder) : Type 0 where
  pub long : length row ≡ length (inputs_among (take w placed.words))
  pub each : (j : ℕ) (word : NamedWord) (feed : Feeder) → slice_get (inputs_among (take w placed.words)) j ≡ Some word → slice_get row j ≡ Some feed → IsFirstFor candidates placed word feed
  pub accepted : (v : ℕ) (word : NamedWord) → v < w → slice_get placed.words v ≡ Some word → IsRefusedBy candidates placed word → ⊥

-- the row of an instance
abbrev pub IsRow : List CandidateValue → PlacedValue → List Feeder → Type 0
IsRow candidates placed row = AreFedBefore candidates placed (length placed.words) row

-- word w is the first that is refused
pub record IsRefusedFirst (candidates : List CandidateValue) (placed : PlacedValue) (w : ℕ) : Type 0 where
  pub word : NamedWord
  pub at : slice_get placed.words w ≡ Some word
  pub refused : IsRefusedBy candidates placed word
  pub before : (v : ℕ) (other : NamedWord) → v < w → slice_get placed.words v ≡ Some other → IsRefusedBy candidates placed other → ⊥

-- row i is that of instance i
pub record AreRows (candidates : List CandidateValue) (placed : List PlacedValue) (rows : List (List Feeder)) : Type 0 where
  pub long : length rows ≡ length placed
  pub each : (i : ℕ) (instance : PlacedValue) (row : List Feeder) → slice_get placed i ≡ Some instance → slice_get rows i ≡ Some row → IsRow candidates instance row

-- word w of instance i is the first that is refused
pub record IsRefusedInOrder (candidates : List CandidateValue) (placed : List PlacedValue) (i w : ℕ) : Type 0 where
  pub instance : PlacedValue
  pub at : slice_get placed i ≡ Some instance
  pub first : IsRefusedFirst candidates instance w
  pub before : (j : ℕ) (other : PlacedValue) → j < i → slice_get placed j ≡ Some other → (v : ℕ) (word : NamedWord) → slice_get other.words v ≡ Some word → IsRefusedBy candidates other word → ⊥

-- why there are no rows; out of memory is free
abbrev pub IsRowFault : List CandidateValue → List PlacedValue → WiringFault → Type 0
IsRowFault candidates placed (NotWords n w) = (i : ℕ) × (n ≡ i + 1) × IsRefusedInOrder candidates placed i w
IsRowFault candidates placed OutputNotWords = ⊥
IsRowFault candidates placed OutOfMemory = Unit {0}

-- the bases of all candidates have k elements
abbrev pub HaveSize : ℕ → List CandidateValue → Type 0
HaveSize k candidates = (candidate : CandidateValue) → Has candidates candidate → length candidate.basis ≡ k

-- all words of instances have k bits and k basis elements, and each instance one output word
abbrev pub AreSized : ℕ → List PlacedValue → Type 0
AreSized k placed = (i : ℕ) (instance : PlacedValue) → slice_get placed i ≡ Some instance → AreOf k instance.words

-- the instances with these connections, of blocks by these numbers
pub record ArePlaced (blocks : List (List NamedWord)) (numbers : List ℕ) (connections : List (List Token)) (placed : List PlacedValue) : Type 0 where
  pub long : length placed ≡ length connections
  pub each : (i : ℕ) (instance : PlacedValue) → slice_get placed i ≡ Some instance → (slice_get connections i ≡ Some instance.connections) × ((number : ℕ) × (slice_get numbers i ≡ Some number) × (slice_get blocks number ≡ Some instance.words))

-- each instance has one output word
abbrev pub HaveOutputs : List PlacedValue → Type 0
HaveOutputs placed = (i : ℕ) (instance : PlacedValue) → slice_get placed i ≡ Some instance → length (outputs_among instance.words) ≡ 1

-- list b + 1 has one basis for each word of block b
abbrev pub IsListed : List BlockValue → List (Vec Basis Global) → Type 0
IsListed blocks bases = (b : ℕ) (block : BlockValue) → slice_get blocks b ≡ Some block → (list : Vec Basis Global) × (slice_get bases (b + 1) ≡ Some list) × (length list.items ≡ length block.words)

-- the words of each block with their bases
pub record HaveWords (blocks : List BlockValue) (bases : List (Vec Basis Global)) (words : List (List NamedWord)) : Type 0 where
  pub long : length words ≡ length blocks
  pub each : (b : ℕ) (block : BlockValue) (list : Vec Basis Global) → slice_get blocks b ≡ Some block → slice_get bases (b + 1) ≡ Some list → slice_get words b ≡ Some (named_words block.words (map elements_of list.items))

-- the output word of the top has a feed
pub record IsOutputFeed (candidates : List CandidateValue) (top : List NamedWord) (feed : Feeder) : Type 0 where
  pub word : NamedWord
  pub one : outputs_among top ≡ word ∷ []
  pub has : Has candidates (record { feed = feed; nets = word.nets; basis = word.basis })

-- the output word of the top has this feed, the first that it can have
pub record IsFirstOutput (candidates : List CandidateValue) (top : List NamedWord) (feed : Feeder) : Type 0 where
  pub word : NamedWord
  pub one : outputs_among top ≡ word ∷ []
  pub first : IsFirstOn candidates word.nets word.basis feed

-- no word of an instance is refused
abbrev pub AreAccepted : List CandidateValue → List PlacedValue → Type 0
AreAccepted candidates placed = (i : ℕ) (instance : PlacedValue) → slice_get placed i ≡ Some instance → (v : ℕ) (word : NamedWord) → slice_get instance.words v ≡ Some word → IsRefusedBy candidates instance word → ⊥

-- what feeds the instances, and the output word of the top
pub record ArePlainlyWired (top : List NamedWord) (placed : List PlacedValue) (rows : List (List Feeder)) (output : Feeder) : Type 0 where
  pub rows_are : AreRows (candidates_of top placed) placed rows
  pub output_is : IsFirstOutput (candidates_of top placed) top output

-- why there is no wiring; out of memory is free
abbrev pub IsPlainFault : List NamedWord → List PlacedValue → WiringFault → Type 0
IsPlainFault top placed (NotWords n w) = (i : ℕ) × (n ≡ i + 1) × IsRefusedInOrder (candidates_of top placed) placed i w
IsPlainFault top placed OutputNotWords = AreAccepted (candidates_of top placed) placed × ((feed : Feeder) → IsOutputFeed (candidates_of top placed) top feed → ⊥)
IsPlainFault top placed OutOfMemory = Unit {0}
