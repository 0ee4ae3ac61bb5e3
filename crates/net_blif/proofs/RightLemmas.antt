-- Whether models are right, and that a text that is read has one.
use Rattle.std.proofs.Common.{◌≡◌, ◌⊎◌, ◌∙◌, inl, inr, ap, sym, refl, subst, ℕ, zero, suc, ◌<◌, ◌≤◌, Bool, true, false, cond, List, [], ◌∷◌, ◌++◌, length, Option, None, Some, Result, Ok, Err, arith}
use Rattle.std.specs.Prelude.{slice_get, is_some, nat_lt, codes, IsTrue}
use Rattle.std.specs.Str.{bytes_eq}
use Rattle.std.specs.Option.{option_map, option_map_or}
use Rattle.std.proofs.lemmas.List.{length-append}
use Rattle.outcome.proofs.DeterminedLemmas.{determined_bind, determined_returns}
use Rattle.outcome.specs.Outcome.{◌>>=◌, Determined}
use Rattle.text_core.specs.Lines.{tokens_of}
use Rattle.graph_core.specs.Graph.{Graph}
use Rattle.graph_core.specs.Cycle.{IsCycleOf, IsEndless, IsFirstEndless}
use Rattle.graph_core.proofs.LawLemmas.{is_only}
use Rattle.net_blif.specs.Statement.{Token, is_dotted}
use Rattle.net_blif.specs.Cover.{begun}
use Rattle.net_blif.specs.Lines.{lines_of, Numbered}
use Rattle.net_blif.specs.Design.{ModelValue, model_named, name_of}
use Rattle.net_blif.specs.Instances.{instances_fault, refused, HaveFormals}
use Rattle.net_blif.specs.Chains.{graph_of, AreWithinDepth, WalkEnds}
use Rattle.net_blif.specs.Models.{begins, first_word, in_model, may_stand, models_of, next, placed, start, with_items, AreRight, BlifDesign, HasModel, OpenValue, Reading, Reads, ReadsLine}
use Rattle.net_blif.specs.declared.statement.Statement.{Statement}
use Rattle.net_blif.specs.declared.statement.Statement.TheVariants.{Model, Inputs, Outputs, Clock, Cover, Latch, Instance, Row, End, Other}
use Rattle.net_blif.specs.declared.fault.BlifFault.{BlifFault}
use Rattle.net_blif.specs.declared.fault.BlifFault.TheVariants.{NoModel, Syntax, LeftOut, TooWide, ModelTwice, NoSuchModel, NoSuchFormal, FormalTwice, FormalMissing, Recursive, TooDeep, OutOfMemory}

-- models of which nothing is wrong
pub right : (models : List ModelValue) → instances_fault models ≡ None → WalkEnds models (Ok tt) → AreWithinDepth models (Ok tt) → AreRight models (Ok tt)
right models none ends within = (tt, sym (ap refused none), (tt, ends, within))

pub formals_wrong : (models : List ModelValue) (fault : BlifFault) → instances_fault models ≡ Some fault → AreRight models (Err fault)
formals_wrong models fault some = inl (sym (ap refused some))

pub walk_wrong : (models : List ModelValue) (fault : BlifFault) → instances_fault models ≡ None → WalkEnds models (Err fault) → AreRight models (Err fault)
walk_wrong models fault none wrong = inr (tt, sym (ap refused none), inl wrong)

pub depth_wrong : (models : List ModelValue) (fault : BlifFault) → instances_fault models ≡ None → WalkEnds models (Ok tt) → AreWithinDepth models (Err fault) → AreRight models (Err fault)
depth_wrong models fault none ends wrong = inr (tt, sym (ap refused none), inr (tt, ends, wrong))

-- what a step answers in place of right, or out of memory
pub wrong_formals : (models : List ModelValue) (fault wanting : BlifFault) → (fault ≡ wanting) ⊎ (instances_fault models ≡ Some fault) → (fault ≡ wanting) ⊎ AreRight models (Err fault)
wrong_formals models fault wanting (inl is) = inl is
wrong_formals models fault wanting (inr some) = inr (formals_wrong models fault some)

pub wrong_walk : (models : List ModelValue) (fault wanting : BlifFault) → instances_fault models ≡ None → (fault ≡ wanting) ⊎ WalkEnds models (Err fault) → (fault ≡ wanting) ⊎ AreRight models (Err fault)
wrong_walk models fault wanting none (inl is) = inl is
wrong_walk models fault wanting none (inr wrong) = inr (walk_wrong models fault none wrong)

pub wrong_depth : (models : List ModelValue) (fault wanting : BlifFault) → instances_fault models ≡ None → WalkEnds models (Ok tt) → (fault ≡ wanting) ⊎ AreWithinDepth models (Err fault) → (fault ≡ wanting) ⊎ AreRight models (Err fault)
wrong_depth models fault wanting none ends (inl is) = inl is
wrong_depth models fault wanting none ends (inr wrong) = inr (depth_wrong models fault none ends wrong)

-- a fault of a walk names the first model of its cycle
only_recursive : (models : List ModelValue) (fault : BlifFault) → WalkEnds models (Err fault) → (name : Token) × (fault ≡ Recursive name) × WalkEnds models (Err (Recursive name))
only_recursive models NoModel is = absurd is
only_recursive models (Syntax n) is = absurd is
only_recursive models (LeftOut n word) is = absurd is
only_recursive models (TooWide n i) is = absurd is
only_recursive models (ModelTwice n) is = absurd is
only_recursive models (NoSuchModel n) is = absurd is
only_recursive models (NoSuchFormal n) is = absurd is
only_recursive models (FormalTwice n) is = absurd is
only_recursive models (FormalMissing n) is = absurd is
only_recursive models (Recursive name) is = (name, refl, is)
only_recursive models TooDeep is = absurd is
only_recursive models OutOfMemory is = absurd is

first_at : (xs : List ℕ) (k : ℕ) → k < length xs → (x : ℕ) × (slice_get xs 0 ≡ Some x)
first_at [] k below = absurd (omega arith)
first_at (x ∷ xs) k below = (x, refl)

-- where a walk from the top finds a cycle, the top is endless
cycle_endless : (graph : Graph) (cycle : List ℕ) → IsCycleOf graph (0 ∷ []) cycle → IsEndless graph 0
cycle_endless graph cycle is = let first = first_at is.walk is.from is.within in begins first.0 (is.is_walk.begins first.0 first.1)
  where
    begins : (a : ℕ) → IsFirstEndless graph (0 ∷ []) a → IsEndless graph 0
    begins a (zero, at, endless, before) = let same : 0 ≡ a = cc in subst (λ (n : ℕ). IsEndless graph n) (sym same) endless
    begins a (suc i, at, endless, before) = absurd (cc)

same_name : (models : List ModelValue) (x y : Token) → WalkEnds models (Err (Recursive x)) → WalkEnds models (Err (Recursive y)) → x ≡ y
same_name models x y (c, m, is, first, named) (d, k, are, second, called) =
    let cycles : c ≡ d = is_only (graph_of models) (0 ∷ []) c d is are in
    let same : Some m ≡ Some k = sym first ∙ ap (λ (xs : List ℕ). slice_get xs 0) cycles ∙ second in
    let number : m ≡ k = cc in
    named ∙ (ap (name_of models) number ∙ sym called)

determined_walk : (models : List ModelValue) → Determined (WalkEnds models)
determined_walk models (Ok a) (Ok b) h k = refl
determined_walk models (Ok a) (Err e) h k = let r = only_recursive models e k in absurd (cycle_endless (graph_of models) r.2.0 r.2.2 h)
determined_walk models (Err d) (Ok b) h k = let r = only_recursive models d h in absurd (cycle_endless (graph_of models) r.2.0 r.2.2 k)
determined_walk models (Err d) (Err e) h k =
    let r = only_recursive models d h in
    let s = only_recursive models e k in
    ap Err (r.1 ∙ (ap Recursive (same_name models r.0 s.0 r.2 s.2) ∙ sym s.1))

pub determined_right : (models : List ModelValue) → Determined (AreRight models)
determined_right models =
    determined_bind (HaveFormals models) (λ _. WalkEnds models >>= (λ _. AreWithinDepth models)) (determined_returns _)
    (λ _. determined_bind (WalkEnds models) (λ _. AreWithinDepth models) (determined_walk models) (λ _. determined_returns _))

-- how many models were read
abbrev count : Reading → ℕ
count reading = length (models_of reading)

open_more : (models : List ModelValue) (m : OpenValue) → length models < length (models ++ record { name = m.name; items = placed m } ∷ [])
open_more models m = omega (arith, length-append models (record { name = m.name; items = placed m } ∷ []))

changed_count : (change : OpenValue → OpenValue) (reading : Reading) → count (in_model change reading) ≡ count reading
changed_count change reading = by reading.model
  where
    by : (model : Option OpenValue) → length (option_map_or (λ (m : OpenValue). reading.models ++ record { name = m.name; items = placed m } ∷ []) (option_map change model) reading.models) ≡ length (option_map_or (λ (m : OpenValue). reading.models ++ record { name = m.name; items = placed m } ∷ []) model reading.models)
    by None = refl
    by (Some m) = length-append reading.models (record { name = (change m).name; items = placed (change m) } ∷ []) ∙ sym (length-append reading.models (record { name = m.name; items = placed m } ∷ []))

became_count : (made more : Reading) (n : ℕ) → n ≤ count made → ◌≡◌ {A = Result Reading BlifFault} (Ok made) (Ok more) → n ≤ count more
became_count made more n le e = let same : made ≡ more = cc in let P : Reading → Type 0 = λ r. n ≤ count r in subst P same le

changed : (reading more : Reading) (change : OpenValue → OpenValue) → ◌≡◌ {A = Result Reading BlifFault} (Ok (in_model change reading)) (Ok more) → count reading ≤ count more
changed reading more change e = became_count (in_model change reading) more (count reading) (omega (arith, changed_count change reading)) e

-- no model is lost
kept_models : (reading more : Reading) (n : ℕ) (s : Statement) → next reading n s ≡ Ok more → count reading ≤ count more
kept_models reading more n (Model name) e = by (is_some (model_named (models_of reading) name)) e
  where
    by : (b : Bool) → cond b (Err (ModelTwice n)) (Ok (record { models = models_of reading; model = Some (record { name = name; items = []; cover = None }) })) ≡ Ok more → count reading ≤ count more
    by true e = absurd (cc)
    by false e = became_count _ more (count reading) (let less = open_more (models_of reading) (record { name = name; items = []; cover = None }) in omega (arith, less)) e
kept_models reading more n (Inputs nets) e = changed reading more _ e
kept_models reading more n (Outputs nets) e = changed reading more _ e
kept_models reading more n (Clock nets) e = changed reading more _ e
kept_models reading more n (Cover inputs out) e = by (nat_lt 6 (length inputs)) e
  where
    by : (b : Bool) → cond b (Err (TooWide n (length inputs))) (Ok (in_model (with_items [] (Some (begun n inputs out))) reading)) ≡ Ok more → count reading ≤ count more
    by true e = absurd (cc)
    by false e = changed reading more _ e
kept_models reading more n (Latch first out rest) e = changed reading more _ e
kept_models reading more n (Instance model connections) e = changed reading more _ e
kept_models reading more n (Row pattern output) e = changed reading more _ e
kept_models reading more n End e = became_count _ more (count reading) (omega arith) e
kept_models reading more n (Other word rest) e = absurd (cc)

line_kept : (reading more : Reading) (n : ℕ) (tokens : List Token) → ReadsLine reading n tokens (Ok more) → count reading ≤ count more
line_kept reading more n [] same = let P : Reading → Type 0 = λ r. count reading ≤ count r in subst P (sym same) (omega arith)
line_kept reading more n (word ∷ words) (s, says, made) = kept_models reading more n s (sym made)

lines_kept : (reading more : Reading) (lines : List Numbered) → Reads reading lines (Ok more) → count reading ≤ count more
lines_kept reading more [] same = let P : Reading → Type 0 = λ r. count reading ≤ count r in subst P (sym same) (omega arith)
lines_kept reading more (line ∷ lines) (mid, first, rest) = let one = line_kept reading mid line.0 (tokens_of line.1) first in let two = lines_kept mid more lines rest in omega (arith, one, two)

-- the first statement begins a model
first_model : (more : Reading) (n : ℕ) (s : Statement) → IsTrue (may_stand start s) → next start n s ≡ Ok more → 1 ≤ count more
first_model more n (Model name) may e = became_count _ more 1 (omega arith) e
first_model more n (Inputs nets) may e = absurd (cc)
first_model more n (Outputs nets) may e = absurd (cc)
first_model more n (Clock nets) may e = absurd (cc)
first_model more n (Cover inputs out) may e = absurd (cc)
first_model more n (Latch first out rest) may e = absurd (cc)
first_model more n (Instance model connections) may e = absurd (cc)
first_model more n (Row pattern output) may e = absurd (cc)
first_model more n End may e = absurd (cc)
first_model more n (Other word rest) may e = absurd (cc)

first_line : (more : Reading) (n : ℕ) (token : Token) (tokens : List Token) → ReadsLine start n (token ∷ tokens) (Ok more) → 1 ≤ count more
first_line more n token tokens (s, says, made) = first_model more n s says.3 (sym made)

-- a text that is read has a model
pub some_model : (lines : List Numbered) (more : Reading) → begins lines ≡ true → Reads start lines (Ok more) → 1 ≤ length (models_of more)
some_model [] more dot reads = absurd (cc)
some_model (line ∷ lines) more dot (mid, first, rest) = by (λ again reads. some_model lines more again reads) (tokens_of line.1) refl
  where
    at : (tokens : List Token) → tokens_of line.1 ≡ tokens → ReadsLine start line.0 tokens (Ok mid)
    at tokens is = let P : List Token → Type 0 = λ t. ReadsLine start line.0 t (Ok mid) in subst P is first

    by : (begins lines ≡ true → Reads start lines (Ok more) → 1 ≤ length (models_of more)) → (tokens : List Token) → tokens_of line.1 ≡ tokens → 1 ≤ length (models_of more)
    by further [] is =
        let same : mid ≡ start = at [] is in
        let P : Reading → Type 0 = λ r. Reads r lines (Ok more) in
        let Q : List Token → Type 0 = λ t. cond (is_dotted (first_word t)) (bytes_eq (first_word t) (codes ".model")) (begins lines) ≡ true in
        further (subst Q is dot) (subst P same rest)
    by further (token ∷ tokens) is =
        let one = first_line mid line.0 token tokens (at (token ∷ tokens) is) in
        let two = lines_kept mid more lines rest in
        omega (arith, one, two)

-- a text whose models are right, or not
module _ (text : List ℕ) (reading : Reading) (models : List ModelValue) (dot : begins (lines_of text) ≡ true) (reads : Reads start (lines_of text) (Ok reading)) (are : models ≡ models_of reading) where
  has_model : HasModel (lines_of text) (Ok tt)
  has_model = rw dot refl

  pub read_some : 0 < length models
  read_some = let some = some_model (lines_of text) reading dot reads in omega (arith, some, ap length are)

  pub read_right : (design : List ModelValue) → design ≡ models → AreRight models (Ok tt) → BlifDesign text (Ok design)
  read_right design is right = let P : List ModelValue → Type 0 = λ ms. AreRight ms (Ok tt) in (tt, has_model, (reading, reads, (tt, subst P are right, is ∙ are)))

  pub read_wrong : (fault wanting : BlifFault) → (fault ≡ wanting) ⊎ AreRight models (Err fault) → (fault ≡ wanting) ⊎ BlifDesign text (Err fault)
  read_wrong fault wanting (inl is) = inl is
  read_wrong fault wanting (inr wrong) = let P : List ModelValue → Type 0 = λ ms. AreRight ms (Err fault) in inr (inr (tt, has_model, inr (reading, reads, inl (subst P are wrong))))
