-- What a call prints, and the names that a session knows of the wakers that wait.
use Rattle.std.specs.Prelude.{◌≡◌, ◌+ℤ◌, ℕ, ℤ, Bool, true, List, [], ◌∷◌, ◌++◌, Option, Some, None, codes, decimal, if◌then◌else◌}
use Rattle.std.specs.{BTreeSet.BTreeSet, BTreeSet.contains, Fmt.signed_decimal, Int.saturate_signed, Int.w64, Ordering.nat_cmp}
use Rattle.async_cell_wakers.specs.{Named.same_name, declared.named.Named.Named}
use Rattle.async_cell_model.specs.declared.{cell.Cell.Cell, entry.Kept.Kept, refusal.Refusal.Refusal, reply.Reply.Reply}
use Rattle.async_cell_model.specs.declared.refusal.Refusal.TheVariants as why
use Rattle.async_cell_model.specs.declared.reply.Reply.TheVariants.{Done, Value, Is, Pending, Ready, Refused}
use Rattle.async_cell_model.specs.Machine.{owners_of, skips, State, Does}
use Rattle.async_cell_runs.specs.{Kept.kept_call as listed_call, declared.call.Call.Call}
use Rattle.async_cell_runs.specs.declared.call.Call.TheVariants as listed
use Rattle.cellrun.specs.declared.command.Command.{Command}
use Rattle.cellrun.specs.declared.command.Command.TheVariants.{Set, OrSet, Replace, UpdatePut, UpdateNone, UpdateKeep, UpdateSomeAdd, Take, Get, TryTake, TryGet, Own, End, Inner, Debug}

-- what the closure of an update makes of the content
abbrev pub edited : Command → Option ℤ → Option ℤ
edited (UpdatePut v) content = Some v
edited UpdateNone content = None
edited call content = content

-- what the closure of `update_some` makes of the value
abbrev pub increased : Command → ℤ → ℤ
increased (UpdateSomeAdd more) v = saturate_signed w64 (v +ℤ more)
increased call v = v

-- the call of a line, as a list of calls holds it; `is_set` for `debug`, which makes none
abbrev pub call_of : Command → Call ℤ Named Command
call_of (Set v) = listed.Set v
call_of (OrSet v) = listed.OrSet v
call_of (Replace v) = listed.Replace v
call_of (UpdatePut v) = listed.Update (UpdatePut v)
call_of UpdateNone = listed.Update UpdateNone
call_of UpdateKeep = listed.Update UpdateKeep
call_of (UpdateSomeAdd more) = listed.UpdateSome (UpdateSomeAdd more)
call_of (Take w) = listed.PollTake (record { 0 = w })
call_of (Get w) = listed.PollGet (record { 0 = w })
call_of TryTake = listed.TryTake
call_of TryGet = listed.TryGet
call_of Own = listed.AddOwner
call_of End = listed.EndOwner
call_of Inner = listed.TakeInner
call_of _ = listed.IsSet

-- the same on this cell, as a history stores it
abbrev pub kept_call : Cell ℤ → Command → Kept ℤ Named
kept_call cell command = listed_call edited increased cell (call_of command)

-- why a call was refused
abbrev pub refusal_text : Refusal → List ℕ
refusal_text why.Closed = codes "refused closed"
refusal_text why.OwnersFull = codes "refused owners"
refusal_text why.StillShared = codes "refused shared"
refusal_text _ = codes "refused memory"

-- a value after its label, or the text that stands for none
abbrev pub value_text : List ℕ → List ℕ → Option ℤ → List ℕ
value_text label none None = none
value_text label none (Some v) = label ++ signed_decimal v

-- the names of wakers, each after a space
abbrev pub names_text : List Named → List ℕ
names_text [] = []
names_text (name ∷ names) = codes " " ++ decimal name.0 ++ names_text names

-- the wakers that a call wakes, if there are any, and the line feed
abbrev pub end_text : List Named → List ℕ
end_text [] = codes "\n"
end_text (name ∷ names) = codes " woke" ++ names_text (name ∷ names) ++ codes "\n"

-- the reply to the call, on a cell that then has this number of owners
abbrev pub reply_text : Reply ℤ → Command → ℕ → List ℕ
reply_text (Value old) (Replace v) owners = value_text (codes "old ") (codes "old none") old
reply_text (Value unused) (OrSet v) owners = codes "done"
reply_text Done Own owners = codes "owners " ++ decimal owners
reply_text (Value last) End owners = codes "owners " ++ decimal owners
reply_text Done call owners = codes "done"
reply_text (Value found) call owners = value_text (codes "some ") (codes "none") found
reply_text (Is holds) call owners = if holds then codes "true" else codes "false"
reply_text Pending call owners = codes "pending"
reply_text (Ready value) call owners = value_text (codes "ready ") (codes "closed") value
reply_text (Refused why back) call owners = refusal_text why

-- The machine does the call between these two cells, and the line is its reply and the wakers
-- that it wakes. Of `debug` this says only that the cell stays as it was.
abbrev pub CallPrints : State ℤ Named → Command → List ℕ → State ℤ Named → Type 0
CallPrints from Debug line to = to ≡ from
CallPrints from call line to = (reply : Reply ℤ) × (woken : List Named)
    × Does same_name true from (record { call = kept_call from.cell call; reply = reply }) woken to
    × (line ≡ reply_text reply call (owners_of to.cell) ++ end_text woken)

-- If `all` is true, the names that wait are among these.
pub record KnowsNames (waiting : List Named) (names : BTreeSet ℕ) (all : Bool) : Type 0 where
  pub each : all ≡ true → (name : ℕ) → skips same_name waiting (record { 0 = name }) ≡ true
      → contains nat_cmp names name ≡ true
