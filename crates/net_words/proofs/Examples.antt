-- Small worked examples of the definitions of specs/, which the check computes: the net y = a AND b, whose nets are
-- 0, 1 and 2, and words on it.
use Rattle.std.proofs.Common.{◌≡◌, ℕ, [], ◌∷◌, List, true, false, Some, Ok, Err, codes, refl, arith}
use Rattle.net_core.specs.NetList.{NetList, LabelValue}
use Rattle.net_words.specs.Bind.{bits_of, with_role, is_uncovered, names_with}
use Rattle.net_words.specs.Feeds.{IsSource, free_net}
use Rattle.net_words.specs.Rebind.{rebound}
use Rattle.net_words.specs.Variables.{variables}
use Rattle.net_words.specs.declared.binding.BindFault.TheVariants.{NotInput, NetTwice, FeedNotFree}
use Rattle.net_words.specs.declared.bound.BoundWord.{BoundWord}
use Rattle.net_words.specs.declared.feed.Feed.{Feed}
use Rattle.net_words.specs.declared.feed.Source.TheVariants.{One, Bit}
use Rattle.net_words.specs.declared.word.BasisText.TheVariants.{Poly}
use Rattle.net_words.specs.declared.word.Role.{Role}
use Rattle.net_words.specs.declared.word.Role.TheVariants.{Input, Fed, Output}
use Rattle.net_words.specs.declared.word.WordText.{WordText}

abbrev named : List ℕ → LabelValue
named name = record { text = name; named = true }

abbrev and_net : NetList
and_net = record { labels = named (codes "a") ∷ named (codes "b") ∷ named (codes "y") ∷ []; inputs = 0 ∷ 1 ∷ []; outputs = 2 ∷ []; gates = record { out = 2; inputs = 0 ∷ 1 ∷ []; table = 8 } ∷ []; latches = [] }

abbrev word : List ℕ → Role → List ℕ → BoundWord
word name role nets = record { name = name; role = role; nets = nets }

-- of four nets, where B is net 2, Z is the output word on net 3, and A is net 0: the bits of the words B and A come
-- first, which are 2 and 0, and then the others, 1 and 3
order_of_variables : variables 4 (word (codes "B") Input (2 ∷ []) ∷ word (codes "Z") Output (3 ∷ []) ∷ word (codes "A") Input (0 ∷ []) ∷ []) ≡ 2 ∷ 0 ∷ 1 ∷ 3 ∷ []
order_of_variables = refl

-- net 2 is no primary input, so it is refused at place 1 of the input word 0
not_an_input : with_role and_net 0 1 [] Input 2 ≡ Err (NotInput 0 1)
not_an_input = refl

-- net 1 stands in an input word already, so it is refused in another
in_two_words : with_role and_net 0 1 (1 ∷ []) Input 1 ≡ Err (NetTwice 1)
in_two_words = refl

-- the output word may have any net
output_on_any_net : with_role and_net 0 1 (1 ∷ []) Output 1 ≡ Ok 1
output_on_any_net = refl

-- where A is net 0 and Z is net 2, net 1 feeds the gate and is in no word
b_is_uncovered : is_uncovered and_net (word (codes "A") Input (0 ∷ []) ∷ word (codes "Z") Output (2 ∷ []) ∷ []) [] 1 ≡ true
b_is_uncovered = refl

-- net 1 is a primary input in no input word, so it may be fed
free_net_is_fed : free_net and_net (word (codes "A") Input (0 ∷ []) ∷ []) 6 (Some 1) ≡ Ok 1
free_net_is_fed = refl

-- net 0 stands in an input word, and so the feed of line 6 is refused
held_net_is_not_fed : free_net and_net (word (codes "A") Input (0 ∷ []) ∷ []) 6 (Some 0) ≡ Err (FeedNotFree 6)
held_net_is_not_fed = refl

-- net 1 is 1 in cycle 0
abbrev feed : Feed
feed = record { line = 6; net = 1; cycle = 0; source = One }

-- and so it is not uncovered
fed_b_is_covered : is_uncovered and_net (word (codes "A") Input (0 ∷ []) ∷ word (codes "Z") Output (2 ∷ []) ∷ []) (feed ∷ []) 1 ≡ false
fed_b_is_covered = refl

-- place 1 of the fed word 0, of 2 bits, is a source
bit_of_a_fed_word : IsSource 2 (Fed ∷ Output ∷ []) (Bit 0 1)
bit_of_a_fed_word = (omega arith, refl)

abbrev text : Role → List (List ℕ) → WordText
text role names = record { line = 3; name = codes "W"; role = role; basis = Poly; nets = names }

-- the first word that is not fed says how many bits words have
bits_past_a_fed_word : bits_of (text Fed [] ∷ text Input (codes "a" ∷ codes "b" ∷ []) ∷ []) ≡ 2
bits_past_a_fed_word = refl

-- a fed word is bound to no nets, whatever names it has
fed_word_has_no_nets : names_with Fed (codes "a" ∷ []) ≡ []
fed_word_has_no_nets = refl

-- two words on the nets 4, 5, 0 and 1: A on 4 and 5, and Z on 0 and 1
words_on_other_nets : rebound 2 (word (codes "A") Fed [] ∷ word (codes "Z") Output (2 ∷ 3 ∷ []) ∷ []) (4 ∷ 5 ∷ 0 ∷ 1 ∷ []) ≡ word (codes "A") Fed (4 ∷ 5 ∷ []) ∷ word (codes "Z") Output (0 ∷ 1 ∷ []) ∷ []
words_on_other_nets = refl
