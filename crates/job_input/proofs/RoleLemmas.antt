-- The bound words of a netlist have the roles of the signature's words.
use Rattle.std.proofs.Common.{◌≡◌, ◌∙◌, ap, sym, refl, subst, ℕ, List, [], ◌∷◌, ◌++◌, length, map, Ok, append-nil}
use Rattle.std.proofs.lemmas.List.{append_assoc, length-map}
use Rattle.net_core.specs.NetList.{NetList}
use Rattle.net_words.specs.Bind.{BoundOf, BindingOf, bound_word}
use Rattle.net_words.specs.Binding.{Binding, BoundNet}
use Rattle.net_words.specs.declared.bound.BoundWord.{BoundWord}
use Rattle.net_words.specs.declared.word.Role.{Role}
use Rattle.net_words.specs.declared.feed.FeedText.{FeedText}
use Rattle.net_words.specs.declared.word.WordText.{WordText}
use Rattle.net_signature.specs.Signature.{SignatureValue}
use Rattle.job_input.specs.Setting.{HaveRoles}
use Rattle.job_input.specs.NetlistOf.{BoundNetOf, NetlistText}

roles : List BoundWord → List Role
roles words = map (λ word. word.role) words

text_roles : List WordText → List Role
text_roles words = map (λ word. word.role) words

one_more : (before : List BoundWord) (word : BoundWord) → roles (before ++ word ∷ []) ≡ roles before ++ word.role ∷ []
unfolding roles
one_more [] word = refl
one_more (b ∷ bs) word = ap (λ rs. b.role ∷ rs) (one_more bs word)

bound_roles : (net : NetList) (taken : List ℕ) (before : List BoundWord) (words : List WordText) (more : List BoundWord × List ℕ) → BoundOf net taken before words (Ok more) → roles more.0 ≡ roles before ++ text_roles words
unfolding roles text_roles
bound_roles net taken before [] more is = ap (λ (m : List BoundWord × List ℕ). roles m.0) is ∙ sym (append-nil (roles before))
bound_roles net taken before (word ∷ words) more (list, own, rest) =
    bound_roles net list.1 (before ++ bound_word word list.0 ∷ []) words more rest
    ∙ (ap (λ rs. rs ++ text_roles words) (one_more before (bound_word word list.0))
    ∙ append_assoc (roles before) (word.role ∷ []) (text_roles words))

pub binding_roles : (net : NetList) (words : List WordText) (feeds : List FeedText) (binding : Binding) → BindingOf net words feeds (Ok binding) → HaveRoles words binding.words
unfolding roles text_roles
binding_roles net words feeds binding (bound, is, rest) =
    ap (λ (b : Binding). roles b.words) rest.2.2.2 ∙ bound_roles net [] [] words bound is

pub netlist_roles : (signature : SignatureValue) (text : NetlistText) (circuit : BoundNet) → BoundNetOf signature text (Ok circuit) → HaveRoles signature.words circuit.binding.words
netlist_roles signature text circuit (net, is_net, (bound, is, same)) =
    let P : BoundNet → Type 0 = λ c. HaveRoles signature.words c.binding.words in
    subst P (sym same) (binding_roles net signature.words signature.feeds bound is)

-- so there are as many
pub roles_long : (words : List WordText) (bound : List BoundWord) → HaveRoles words bound → length bound ≡ length words
roles_long words bound same = sym (length-map bound (λ (b : BoundWord). b.role)) ∙ (ap length same ∙ length-map words (λ (w : WordText). w.role))
