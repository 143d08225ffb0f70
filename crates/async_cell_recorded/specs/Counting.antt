-- What shares and books count.
use Rattle.std.specs.Prelude.{◌≡◌, ◌+◌, ◌<◌, ℕ, suc, zero, Bool, List, [], ◌∷◌, ◌++◌, length, map, slice_index, if◌then◌else◌}
use Rattle.async_cell_wakers.specs.declared.named.Named.{Named}
use Rattle.async_cell_model.specs.{Machine.State, History.after, Legal.woken_by}
use Rattle.async_cell_recorded.specs.declared.history.Entry.{Entry}
use Rattle.async_cell_recorded.specs.Recording.{Recording, plain_entry, start, state, made_by, IsRecorded}
use Rattle.async_cell_wakers.specs.Named.{same_name}

-- a share: its number, how many calls were made with it, and how many of their results were picked
pub record ShareState : Type 0 where
  pub number : ℕ
  pub count : ℕ
  pub picked : ℕ

-- what the shares add up to, the calls and the results that were picked, and the serial of the next
-- call of each share
pub record Totals : Type 0 where
  pub calls : ℕ
  pub picked : ℕ
  pub next_serials : List ℕ

-- the shares of a new cell, numbered from 0, in order
abbrev pub new_shares : ℕ → List ShareState
new_shares zero = []
new_shares (suc n) = new_shares n ++ record { number = n; count = 0; picked = 0 } ∷ []

-- 1 if the test passes, otherwise 0
abbrev pub from_bool : Bool → ℕ
from_bool test = if test then 1 else 0

-- a test on an entry and the names that it wakes
abbrev pub Test : Type 0 → Type 0
Test T = Entry T → List Named → Bool

module _ {T : Type 0} (test : Test T) where
  -- a share, after a call with it returned this entry and these names
  abbrev pub share_after : ShareState → Entry T → List Named → ShareState
  share_after share entry names =
      record {
        number = share.number;
        count = share.count + 1;
        picked = share.picked + from_bool (test entry names);
      }

  -- how many of these entries pass the test, each with the names that it wakes, after the entries h
  abbrev pub picked_after : State T Named → List (Entry T) → List (Entry T) → ℕ
  picked_after b h [] = 0
  picked_after b h (e ∷ rest) =
      from_bool (test e (woken_by (after same_name b (map plain_entry h)) (plain_entry e)))
      + picked_after b (h ++ e ∷ []) rest

  -- how many entries of a recorded history pass the test, each with the names that it wakes
  abbrev pub picked : Recording T → ℕ
  picked r = picked_after (start r.begin) [] r.entries

  -- A journal has a recorded history that leads to the cell and the wait list of its core. It has
  -- as many entries as the shares count. As many of its entries pass the test as results were
  -- picked over all shares. The next serial of a share is the number of its entries.
  pub record IsJournal (r : Recording T) (core : State T Named) (counted : Totals) : Type 0 where
    pub recorded : IsRecorded r
    pub cell_is : core.cell ≡ (state r).cell
    pub waiting_is : core.waiting ≡ (state r).waiting
    pub counts_calls : counted.calls ≡ length r.entries
    pub counts_picked : counted.picked ≡ picked r
    pub counts_shares : length counted.next_serials ≡ r.begin
    pub counts_each : (share : ℕ) → share < r.begin
        → slice_index counted.next_serials share ≡ made_by share r.entries
