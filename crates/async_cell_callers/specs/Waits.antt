-- No poll that waits is forgotten.
use Rattle.std.specs.Prelude.{◌≡◌, ◌⊎◌, ◌++◌, true, Option}
use Rattle.async_cell_core.specs.IsStep.{WakerRules}
use Rattle.async_cell_model.specs.declared.entry.Kept.{Kept}
use Rattle.async_cell_model.specs.declared.reply.Reply.{Reply}
use Rattle.async_cell_model.specs.History.{History, IsCovered, cell_after, has_fill_or_close}
use Rattle.async_cell_history.specs.History.{Begun, IsLinearized, StillWaits, start_of}

-- A poll with this waker waits at the end of `polled`. After it came this call, the last. It woke
-- the waker, or one that would wake it, unless another call filled or closed the cell in between.
pub record IsNotForgotten {T W : Type 0} (rules : WakerRules W) (named : Option (Begun T W)) (w : W)
    (call : Kept T W) (reply : Reply T) (now : History T W) : Type 0 where
  pub polled : History T W
  pub waits : StillWaits (start_of named).cell w polled
  pub told : IsLinearized rules named polled call reply now
  pub between : History T W
  pub split : told.before ≡ polled ++ between
  pub woken : (has_fill_or_close (cell_after (start_of named).cell polled) between ≡ true)
      ⊎ IsCovered rules.will_wake told.woken w
