-- Small worked examples of the definitions of specs/, which the check computes: a top whose input word stands on net `a` and whose output
-- word stands on net `z`, with one instance of the block `m`, whose words stand on `x` and `y`. All words have one bit.
use Rattle.std.proofs.Common.{inl, List, [], ◌∷◌, refl, arith}
use Rattle.net_words.specs.declared.word.BasisText.TheVariants.{Poly}
use Rattle.net_words.specs.declared.word.Role.{Role}
use Rattle.net_words.specs.declared.word.Role.TheVariants.{Input, Output}
use Rattle.net_words.specs.declared.word.WordText.{WordText}
use Rattle.net_blif.specs.Statement.{Token}
use Rattle.net_blif.specs.declared.item.Item.TheVariants.{Instance}
use Rattle.compose_model.specs.Feeds.{FitsWord}
use Rattle.compose_model.specs.Hierarchy.{Hierarchy, IsInstance}
use Rattle.compose_model.specs.NamedWord.{NamedWord}
use Rattle.compose_model.specs.declared.feeder.Feeder.TheVariants.{InputWord, OutputOf}
use Rattle.compose_wiring.specs.Answer.{IsEarlierFeed, IsFeedIn, IsFirstFit}
use Rattle.compose_wiring.specs.Refusal.{IsInputOf, IsRefusedAt}

-- names of one byte
abbrev a : Token
a = 97 ∷ []

abbrev m : Token
m = 109 ∷ []

abbrev x : Token
x = 120 ∷ []

abbrev y : Token
y = 121 ∷ []

abbrev z : Token
z = 122 ∷ []

abbrev joined : Token → Token → Token
joined [] actual = 61 ∷ actual
joined (b ∷ bs) actual = b ∷ joined bs actual

abbrev text : Role → Token → WordText
text role net = record { line = 3; name = net; role = role; basis = Poly; nets = net ∷ [] }

-- a top with these connections of its instance
abbrev top : List Token → Hierarchy
top connections = record {
  design = record { name = z; items = Instance 4 m connections ∷ [] } ∷ [];
  words = text Input a ∷ text Output z ∷ [];
  blocks = record { model = m; words = text Input x ∷ text Output y ∷ [] } ∷ [];
  bases = ((1 ∷ []) ∷ (1 ∷ []) ∷ []) ∷ ((1 ∷ []) ∷ (1 ∷ []) ∷ []) ∷ [];
}

abbrev input_x : NamedWord
input_x = record { role = Input; nets = x ∷ []; basis = 1 ∷ [] }

abbrev output_y : NamedWord
output_y = record { role = Output; nets = y ∷ []; basis = 1 ∷ [] }

abbrev whole : List Token
whole = joined x a ∷ joined y z ∷ []

-- the words of the instance
instance_of_m : (connections : List Token) → IsInstance (top connections) 0 (Instance 4 m connections) (input_x ∷ output_y ∷ [])
instance_of_m connections = record { at = refl; number = 0; named = refl; block = record { model = m; words = text Input x ∷ text Output y ∷ [] }; found = refl; words_are = refl }

-- the input word of the top fits x
a_fits_x : FitsWord (top whole) (Instance 4 m whole) input_x (InputWord 0)
a_fits_x = record { nets = a ∷ []; actuals = refl; stands = record { word = record { role = Input; nets = a ∷ []; basis = 1 ∷ [] }; at = refl; nets_are = refl; basis_is = refl } }

-- no earlier feed fits it: the input words of the top come first
a_is_first : IsFirstFit (top whole) (Instance 4 m whole) input_x (InputWord 0)
a_is_first (InputWord w) early fit = absurd (omega (arith, early))
a_is_first (OutputOf i) early fit = early

words_before_outputs : IsEarlierFeed (InputWord 3) (OutputOf 0)
words_before_outputs = tt

outputs_by_number : IsEarlierFeed (OutputOf 0) (OutputOf 2)
outputs_by_number = omega arith

-- it is one of the top's one input word and one instance
a_is_among : IsFeedIn (top whole) (InputWord 0)
a_is_among = omega arith

-- x is an input of the block, y is not
x_is_input : IsInputOf (input_x ∷ output_y ∷ []) x
x_is_input = (input_x, (0, refl), (0, refl))

-- where y is not connected, word 1 of instance 0 is refused
y_is_refused : IsRefusedAt (top (joined x a ∷ [])) 0 1
y_is_refused = record {
  item = Instance 4 m (joined x a ∷ []);
  words = input_x ∷ output_y ∷ [];
  instance = instance_of_m (joined x a ∷ []);
  word = output_y;
  at = refl;
  refused = inl (refl, record { net = y; bit = (0, refl); because = inl refl });
}
