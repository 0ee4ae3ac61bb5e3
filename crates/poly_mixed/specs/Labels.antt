-- The names of the variables of a text. Ranks are the bits of the words, by word and by place, and then other nets.
-- Source: this project's own.
use Rattle.std.specs.Prelude.{◌≢◌, ℕ, ◌+◌, ◌-◌, ◌<◌, ◌≤◌, ◌^◌, cond, List, [], ◌∷◌, ◌++◌, length, nat_lt, codes, decimal, slice_index, get_or, map, ◌==◌, Option, Some, None, bytes_eq}
use Rattle.std.specs.Option.{option_map}
use Rattle.std.specs.List.{AllByRecursion}
use Rattle.text_core.specs.Names.{IsName}

-- the output word's name, each input, state and fed word with its number of bits, and the numbers of the other nets
pub record Labelling : Type 0 where
  pub output : List ℕ
  pub words : List (List ℕ × ℕ)
  pub nets : List ℕ

-- the number of bits of all words
abbrev pub bit_count : List (List ℕ × ℕ) → ℕ
bit_count [] = 0
bit_count (w ∷ ws) = w.1 + bit_count ws

-- `W[i]`
abbrev pub bit_text : List ℕ → ℕ → List ℕ
bit_text name place = name ++ codes "[" ++ decimal place ++ codes "]"

-- `@` and the number
abbrev pub net_text : ℕ → List ℕ
net_text number = codes "@" ++ decimal number

-- how the bit or net of a rank is written
abbrev pub rank_text : List (List ℕ × ℕ) → List ℕ → ℕ → List ℕ
rank_text [] nets rank = net_text (slice_index nets rank)
rank_text (w ∷ ws) nets rank = cond (nat_lt rank w.1) (bit_text w.0 rank) (rank_text ws nets (rank - w.1))

-- the word of a number
abbrev pub word_at : List (List ℕ × ℕ) → ℕ → List ℕ × ℕ
word_at ws k = get_or ws k ([], 0)

-- x is none of ys
abbrev pub Differs : {A : Type 0} → A → List A → Type 0
Differs x ys = AllByRecursion (λ y. x ≢ y) ys

abbrev pub AreDifferent : {A : Type 0} → List A → Type 0
AreDifferent [] = Unit {0}
AreDifferent (x ∷ xs) = Differs x xs × AreDifferent xs

-- a name and 1 to 64 bits
abbrev pub IsWord : List ℕ × ℕ → Type 0
IsWord w = IsName w.0 × (1 ≤ w.1) × (w.1 ≤ 64)

-- at most 8 words with different names, and different nets
pub record AreLabels (l : Labelling) : Type 0 where
  pub output : IsName l.output
  pub words : AllByRecursion IsWord l.words
  pub few : length l.words ≤ 8
  pub names : AreDifferent (map (λ w. w.0) l.words)
  pub numbers : AllByRecursion (λ n. n < 2 ^ 32) l.nets
  pub nets : AreDifferent l.nets

-- ---- what names name

-- the number of the word with this name
abbrev pub word_of : List (List ℕ × ℕ) → List ℕ → Option ℕ
word_of [] name = None
word_of (w ∷ ws) name = cond (bytes_eq w.0 name) (Some 0) (option_map (λ i. i + 1) (word_of ws name))

-- the rank of the bit of this name and place
abbrev pub bit_of : List (List ℕ × ℕ) → List ℕ → ℕ → Option ℕ
bit_of [] name place = None
bit_of (w ∷ ws) name place = cond (bytes_eq w.0 name) (cond (nat_lt place w.1) (Some place) None) (option_map (λ r. w.1 + r) (bit_of ws name place))

-- the place of this number among the nets
abbrev pub net_of : List ℕ → ℕ → Option ℕ
net_of [] number = None
net_of (n ∷ ns) number = cond (n == number) (Some 0) (option_map (λ i. i + 1) (net_of ns number))
