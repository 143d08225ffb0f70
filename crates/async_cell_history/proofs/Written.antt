-- What writes do, by what the core says of its steps.
use Rattle.async_cell_history.proofs.Words.{◌≡◌, arith, Bool, true, List, [], Option, Some, None, option_to_list, Result, Ok, Err}
use Rattle.async_cell_history.proofs.Words.{Entry, Kept, State, Update, Set, Value, Done, Refused, Does, IsSound, is_closed, content}
use Rattle.async_cell_model.specs.declared.entry.Kept.TheVariants.{Replace}
use Rattle.async_cell_model.specs.declared.refusal.Refusal.{Refusal}
use Rattle.async_cell_model.specs.declared.refusal.Refusal.TheVariants as why
use Rattle.async_cell_core.specs.IsStep.{done_answer}
use Rattle.async_cell_wakers.specs.WaitList.{first_then}
use Rattle.async_cell_history.specs.History.{done_reply}

-- an update of a closed cell
pub closed_update : {T W : Type 0} (will_wake : W → W → Bool) (sure : Bool) (b : State T W) → IsSound will_wake b → true ≡ is_closed b.cell
    → Does will_wake sure b (record { call = Update (content b.cell) (content b.cell); reply = Refused why.Closed None }) [] b
closed_update will_wake sure b sound closed = grind arith

-- a call that returns nothing, and wakes nobody
pub done_as : {T W A : Type 0} (will_wake : W → W → Bool) (sure : Bool) (b t : State T W) (call : Kept T W) (result : Result A Refusal)
    → Does will_wake sure b (record { call = call; reply = (done_answer {T = T} {W = W} result).reply }) (done_answer {T = T} {W = W} result).woken t
    → Does will_wake sure b (record { call = call; reply = done_reply result }) [] t
done_as will_wake sure b t call (Ok x) does = does
done_as will_wake sure b t call (Err it) does = does

-- a `set` is a `replace` whose old value is not replied
pub set_as : {T W : Type 0} (will_wake : W → W → Bool) (sure : Bool) (b t : State T W) (x : T) (old : Option T) (woken : List W)
    → Does will_wake sure b (record { call = Replace x; reply = Value old }) woken t → Does will_wake sure b (record { call = Set x; reply = Done }) woken t
set_as will_wake sure b t x old woken does = grind arith

-- at most one task waited
pub woke_first : {T W : Type 0} (will_wake : W → W → Bool) (sure : Bool) (b t : State T W) (e : Entry T W) (first : Option W)
    → Does will_wake sure b e (first_then first []) t → Does will_wake sure b e (option_to_list first) t
woke_first will_wake sure b t e None does = does
woke_first will_wake sure b t e (Some w) does = does
