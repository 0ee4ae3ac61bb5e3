-- Items, one after another.
use Rattle.std.proofs.Common.{◌≡◌, ap, sym, inl, inr, refl, subst, ℕ, suc, Bool, true, false, List, Result, Ok, Err}
use Rattle.outcome.specs.Outcome.{Exactly, ◌>>=◌}
use Rattle.net_verilog.specs.Tokens.{TokenValue, is_end}
use Rattle.net_verilog.specs.Several.{Either, after_first}
use Rattle.net_verilog.specs.declared.kind.Kind.{Kind}
use Rattle.net_verilog.specs.declared.kind.Kind.TheVariants as kinds
use Rattle.net_verilog.specs.declared.fault.VerilogFault.{VerilogFault}
use Rattle.net_verilog.specs.declared.fault.VerilogFault.TheVariants as faults
use Rattle.verilog_reader.specs.Items.{Item, Items, ItemsOf, State, endmodule_first, word_is}
use Rattle.verilog_reader.specs.declared.starts.ItemStart.TheVariants as items

-- a word is not the end
pub word_goes : (kind : Kind) (text word : List ℕ) → word_is kind text word ≡ true → is_end kind ≡ false
word_goes kinds.Word text word is = refl
word_goes kind text word is = absurd (cc)

-- the end of the items
pub items_end : (state : State) (tokens rest : List TokenValue) → endmodule_first tokens ≡ true → after_first tokens ≡ rest → Items state tokens (Ok (state, rest))
items_end state tokens rest ends after =
    let P : Bool → Type 0 = λ b. Either b (Exactly (state, after_first tokens)) (Item state tokens >>= (λ next. ItemsOf 0 next.0 next.1)) (Ok (state, rest)) in
    (1, subst P (sym ends) (ap (λ ts. (state, ts)) (sym after)))

-- an item before others
pub items_more : (state s : State) (tokens rest : List TokenValue) (outcome : Result (State × List TokenValue) VerilogFault) → endmodule_first tokens ≡ false → Item state tokens (Ok (s, rest)) → Items s rest outcome → Items state tokens outcome
items_more state s tokens rest (Ok found) goes reads (n, more) =
    let P : Bool → Type 0 = λ b. Either b (Exactly (state, after_first tokens)) (Item state tokens >>= (λ next. ItemsOf n next.0 next.1)) (Ok found) in
    (suc n, subst P (sym goes) ((s, rest), reads, more))
items_more state s tokens rest (Err fault) goes reads (n, more) =
    let P : Bool → Type 0 = λ b. Either b (Exactly (state, after_first tokens)) (Item state tokens >>= (λ next. ItemsOf n next.0 next.1)) (Err fault) in
    (suc n, subst P (sym goes) (inr ((s, rest), reads, more)))

-- an item that is refused
pub items_fail : (state : State) (tokens : List TokenValue) (fault : VerilogFault) → endmodule_first tokens ≡ false → Item state tokens (Err fault) → Items state tokens (Err fault)
items_fail state tokens fault goes refuses =
    let P : Bool → Type 0 = λ b. Either b (Exactly (state, after_first tokens)) (Item state tokens >>= (λ next. ItemsOf 0 next.0 next.1)) (Err fault) in
    (1, subst P (sym goes) (inl refuses))
