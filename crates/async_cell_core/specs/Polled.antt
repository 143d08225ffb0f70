-- What polls and gets return.
use Rattle.std.specs.Prelude.{Option, Some, None, Result, Ok, Err}
use Rattle.async_cell_model.specs.declared.{refusal.Refusal.Refusal, refusal.Refusal.TheVariants.Memory, reply.Reply.Reply}
use Rattle.async_cell_model.specs.declared.reply.Reply.TheVariants as reply
pub use Rattle.async_cell_model.specs.Legal.{IsExact}
use Rattle.futures.specs.declared.{task.Poll.Poll, task.Poll.TheVariants.{Ready, Pending}}

-- the reply that stands for the result of a poll
abbrev pub poll_reply : {T : Type 0} → Result (Poll (Option T)) Refusal → Reply T
poll_reply (Ok (Ready value)) = reply.Ready value
poll_reply (Ok Pending) = reply.Pending
poll_reply (Err why) = reply.Refused why None

-- the second content is a clone of the first: both are `None`, or both hold a value
abbrev pub IsCloneOf : {T : Type 0} → (T → T → Type 0) → Option T → Option T → Type 0
IsCloneOf is_clone None None = Unit {0}
IsCloneOf is_clone (Some a) (Some b) = is_clone a b
IsCloneOf is_clone _ _ = ⊥

-- the poll is ready, and P holds of its content
abbrev pub IsReadyWith : {T : Type 0} → (Option T → Type 0) → Poll (Option T) → Type 0
IsReadyWith P (Ready value) = P value
IsReadyWith P Pending = ⊥

-- The reply to a get of this value: a clone of it, or `Memory`. The latter only if the clone of the
-- value can fail.
abbrev pub IsCopied : {T : Type 0} → (T → T → Type 0) → (T → Type 0) → T → Reply T → Type 0
IsCopied is_clone is_infallible value (reply.Value (Some copy)) = is_clone value copy
IsCopied is_clone is_infallible value (reply.Ready (Some copy)) = is_clone value copy
IsCopied is_clone is_infallible value (reply.Refused Memory None) = is_infallible value → ⊥
IsCopied is_clone is_infallible value _ = ⊥
