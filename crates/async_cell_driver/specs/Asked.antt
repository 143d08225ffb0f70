-- What follows from what a poll returns.
use Rattle.std.specs.Prelude.{◌≡◌, false, List, [], ◌∷◌, ◌++◌, Option, None, Result, Ok, Err, IfOk, OnOk}
use Rattle.async_cell_wakers.specs.declared.named.Named.{Named}
use Rattle.async_cell_model.specs.declared.refusal.Refusal.{Refusal}
use Rattle.async_cell_model.specs.Machine.{content, is_vacant, State}
use Rattle.async_cell_core.specs.Polled.{IsCloneOf}
use Rattle.async_cell_driver.specs.declared.{tasks.Mark.Mark, event.Polled.Polled}
use Rattle.async_cell_driver.specs.declared.tasks.Mark.TheVariants as mark
use Rattle.async_cell_driver.specs.declared.event.Polled.TheVariants as polled

module _ {T : Type 0} where
  -- the wait list after the poll
  abbrev pub waiting_when : Polled T → Named → List Named → List Named
  waiting_when (polled.Ready value) name waiting = waiting
  waiting_when _ name waiting = waiting ++ name ∷ []

  -- the mark of the task after the poll
  abbrev pub mark_after : Result (Polled T) Refusal → Mark
  mark_after (Ok (polled.Ready value)) = mark.Done
  mark_after (Ok _) = mark.Waiting
  mark_after (Err why) = mark.Ready

  -- the task's poll is ready, with a content that satisfies P
  abbrev pub IsPolledWith : (Option T → Type 0) → Polled T → Type 0
  IsPolledWith P (polled.Ready value) = P value
  IsPolledWith P polled.Pending = ⊥
  IsPolledWith P polled.NotReady = ⊥

  -- what a taker's poll returns: the content, unless it has to wait. If it is not refused, the cell
  -- holds none afterwards.
  pub record TakesContent (old new : State T Named)
      (result : Result (Polled T) Refusal) : Type 0 where
    pub takes : is_vacant old.cell ≡ false → result ≡ Ok (polled.Ready (content old.cell))
    pub leaves_none : OnOk result (content new.cell ≡ None)

  -- what a getter's poll returns: a clone of the content, which stays, unless it has to wait
  pub record ClonesContent (is_clone : T → T → Type 0)
      (old new : State T Named) (result : Result (Polled T) Refusal) : Type 0 where
    pub clones : is_vacant old.cell ≡ false
        → IfOk result (IsPolledWith (IsCloneOf is_clone (content old.cell)))
    pub leaves : is_vacant old.cell ≡ false → new ≡ old
