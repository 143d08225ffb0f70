-- One call of a core as a step of the machine, and the answer that stands for the result of a call.
use Rattle.std.specs.Prelude.{Bool, Option, Some, None, Result, Ok, Err, List, [], if◌then◌else◌}
use Rattle.async_cell_model.specs.declared.{cell.Cell.Cell, entry.Kept.Kept, refusal.Refusal.Refusal}
use Rattle.async_cell_model.specs.declared.refusal.Refusal.TheVariants as why
use Rattle.async_cell_model.specs.declared.reply.Reply.{Reply}
use Rattle.async_cell_model.specs.declared.reply.Reply.TheVariants as reply
use Rattle.async_cell_model.specs.Machine.{is_closed, State, Does, DoesUpTo}
use Rattle.async_cell_core.specs.declared.answer.Answer.{Answer}
use Rattle.async_cell_core.specs.Polled.{poll_reply}
use Rattle.futures.specs.declared.task.Poll.{Poll}

-- what `W.Wakes` names in a clause: the ghost members of `Wakes`, with those of `Clone`
abbrev pub WakerRules : Type 0 → Type 1
WakerRules W =
    record {
      is_clone : W → W → Type 0;
      is_infallible : W → Type 0;
      will_wake : W → W → Bool;
      SURE_CLONE : Bool;
    }

module _ {T W : Type 0} where
  -- the machine does this: in the state `old` the call gives this answer, and it leaves `new`
  abbrev pub IsStep : WakerRules W → State T W → Kept T W → Answer T W → State T W → Type 0
  IsStep rules old call answer new =
      Does rules.will_wake rules.SURE_CLONE old (record { call = call; reply = answer.reply })
      answer.woken new

  -- the same up to clones: a get may answer a clone of the value
  abbrev pub IsStepUpTo : (T → T → Type 0) → WakerRules W → State T W → Kept T W → Answer T W
      → State T W → Type 0
  IsStepUpTo is_clone rules old call answer new =
      DoesUpTo rules.will_wake rules.SURE_CLONE is_clone old
      (record { call = call; reply = answer.reply }) answer.woken new

  -- a reply, and no wakers
  abbrev pub replies : Reply T → Answer T W
  replies r = record { reply = r; woken = [] }

  -- a refusal, which gives no value back
  abbrev pub refuses : Refusal → Answer T W
  refuses why = replies (reply.Refused why None)

  -- the answer of `set`
  abbrev pub set_answer : Result (List W) T → Answer T W
  set_answer (Ok woken) = record { reply = reply.Done; woken = woken }
  set_answer (Err back) = record { reply = reply.Refused why.Closed (Some back); woken = [] }

  -- the answer of `replace` and `or_set`
  abbrev pub replace_answer : Result (Option T × List W) T → Answer T W
  replace_answer (Ok (old, woken)) = record { reply = reply.Value old; woken = woken }
  replace_answer (Err back) = record { reply = reply.Refused why.Closed (Some back); woken = [] }

  -- the answer of `update`
  abbrev pub update_answer : Result (List W) Refusal → Answer T W
  update_answer (Ok woken) = record { reply = reply.Done; woken = woken }
  update_answer (Err why) = refuses why

  -- the answer of `update_some` and `add_owner`
  abbrev pub done_answer : {A : Type 0} → Result A Refusal → Answer T W
  done_answer (Ok _) = replies reply.Done
  done_answer (Err why) = refuses why

  -- the answer of `end_owner` and `take_inner`
  abbrev pub end_answer : Result (Option T × List W) Refusal → Answer T W
  end_answer (Ok (value, woken)) = record { reply = reply.Value value; woken = woken }
  end_answer (Err why) = refuses why

  -- the answer of `try_get`
  abbrev pub get_answer : Result (Option T) Refusal → Answer T W
  get_answer (Ok copy) = replies (reply.Value copy)
  get_answer (Err why) = refuses why

  -- the answer of `poll_take` and `poll_get`
  abbrev pub poll_answer : Result (Poll (Option T)) Refusal → Answer T W
  poll_answer polled = replies (poll_reply polled)

  -- the answer of a poll that has to wait: it is `Pending`, or there is no memory
  abbrev pub wait_answer : {A E : Type 0} → Result A E → Answer T W
  wait_answer (Ok _) = replies reply.Pending
  wait_answer (Err _) = refuses why.Memory

  -- the answer of the `or_set` that ends a guard, made of what the guard's end returns
  abbrev pub end_guard_answer : Cell T → Option T × List W → Answer T W
  end_guard_answer c ended = record {
    reply = if is_closed c then reply.Refused why.Closed ended.0 else reply.Value ended.0;
    woken = ended.1;
  }
