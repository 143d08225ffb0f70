-- One call as a step of the model, and the answer that stands for the result of a call.
use Rattle.std.specs.Prelude.{ℕ, Bool, Option, Some, None, Result, Ok, Err, List, [], ◌∷◌}
use Rattle.async_cell_model.specs.declared.refusal.Refusal.{Refusal}
use Rattle.async_cell_model.specs.declared.refusal.Refusal.TheVariants as why
use Rattle.async_cell_latest.specs.State.{State}
use Rattle.async_cell_latest.specs.Step.{Kept, Reply, Old, Shown, Pending, Ended, Done, Refused}
use Rattle.async_cell_latest.specs.History.{Runs}
use Rattle.futures.specs.declared.task.Poll.{Poll}
use Rattle.futures.specs.declared.task.Poll.TheVariants as poll

-- what `W.Wakes` names in a clause: the ghost members of `Wakes`, with those of `Clone`
abbrev pub WakerRules : Type 0 → Type 1
WakerRules W =
    record {
      is_clone : W → W → Type 0;
      is_infallible : W → Type 0;
      will_wake : W → W → Bool;
      SURE_CLONE : Bool;
    }

-- the answer to a call: its reply, and the wakers to wake
pub record Answer (T W : Type 0) : Type 0 where
  pub reply : Reply T
  pub woken : List W

module _ {T W : Type 0} where
  -- the call is a step of the model: in the state `old` it gives this answer, and it leaves `new`
  abbrev pub IsStep : WakerRules W → State T W → Kept T W → Answer T W → State T W → Type 0
  IsStep rules old call answer new =
      Runs rules.will_wake rules.SURE_CLONE old
      (record { call = call; reply = answer.reply } ∷ []) (answer.woken ∷ []) new

  -- a reply, and no wakers
  abbrev pub replies : Reply T → Answer T W
  replies r = record { reply = r; woken = [] }

  -- the answer of `write`
  abbrev pub write_answer : Result (T × List W) T → Answer T W
  write_answer (Ok (old, woken)) = record { reply = Old old; woken = woken }
  write_answer (Err back) = replies (Refused why.Closed (Some back))

  -- the answer of `modify` that changed this value and woke these wakers
  abbrev pub change_answer : T → List W → Answer T W
  change_answer old woken = record { reply = Old old; woken = woken }

  -- the answer of `poll_changed` on a state with this value, which can then be read
  abbrev pub changed_answer : T → Result (Poll (Option ℕ)) Refusal → Answer T W
  changed_answer value (Ok (poll.Ready (Some version))) = replies (Shown version value)
  changed_answer value (Ok (poll.Ready None)) = replies Ended
  changed_answer value (Ok poll.Pending) = replies Pending
  changed_answer value (Err why) = replies (Refused why None)

  -- the answer of a poll that waits: it is `Pending`, or there is no memory
  abbrev pub wait_answer : {A E : Type 0} → Result A E → Answer T W
  wait_answer (Ok _) = replies Pending
  wait_answer (Err _) = replies (Refused why.Memory None)

  -- the answer of `add_owner`
  abbrev pub add_answer : {A : Type 0} → Result A Refusal → Answer T W
  add_answer (Ok _) = replies Done
  add_answer (Err why) = replies (Refused why None)

  -- the answer of `end_owner`
  abbrev pub end_answer : Result (List W) Refusal → Answer T W
  end_answer (Ok woken) = record { reply = Done; woken = woken }
  end_answer (Err why) = replies (Refused why None)
