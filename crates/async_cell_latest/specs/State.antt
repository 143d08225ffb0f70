-- A state that many follow: its value and version, its owners, and who waits for the next write.
use Rattle.std.specs.Prelude.{◌≡◌, ◌≤◌, ◌-◌, ℕ, Bool, true, not, ◌&&◌, List, [], nat_eq, nat_lt, if◌then◌else◌}
use Rattle.async_cell_wakers.specs.WaitList.{ListState}
use Rattle.async_cell_model.specs.Machine.{skips, wait_list, with_one_more}

-- the last version: no write comes after it
abbrev pub versions_limit : ℕ
versions_limit = 18446744073709551615

-- the largest number of owners that a state can count
abbrev pub owners_limit : ℕ
owners_limit = 4294967295

-- The value that was written last, its version, the number of owners, the wait list in order of
-- registration, and the room, which is the number of wakers that can still be added without memory
-- beyond their clones.
pub record State (T W : Type 0) : Type 0 where
  pub value : T
  pub version : ℕ
  pub owners : ℕ
  pub waiting : List W
  pub room : ℕ

-- the state of these fields
abbrev pub state_of : {T W : Type 0} → T → ℕ → ℕ → ListState W → State T W
state_of value version owners list = record {
  value = value;
  version = version;
  owners = owners;
  waiting = list.wakers;
  room = list.room;
}

module _ {T W : Type 0} where
  -- whether the state is closed: its last owner has ended
  abbrev pub is_closed : State T W → Bool
  is_closed s = nat_eq s.owners 0

  -- whether a write succeeds: the state is open, and its version is not the last one
  abbrev pub is_writable : State T W → Bool
  is_writable s = not (is_closed s) && nat_lt s.version versions_limit

  -- whether a poll waits: the state is open, and its version is the one that was seen
  abbrev pub is_waited_for : State T W → ℕ → Bool
  is_waited_for s seen = nat_eq seen s.version && not (is_closed s)

  -- the value, the version and the owners are the same in both states
  abbrev pub Stays : State T W → State T W → Type 0
  Stays s t = (t.value ≡ s.value) × (t.version ≡ s.version) × (t.owners ≡ s.owners)

module _ {T W : Type 0} (will_wake : W → W → Bool) where
  -- the state after w is registered: w is added last, or skipped
  abbrev pub registered : State T W → W → State T W
  registered s w = record s {
    waiting = with_one_more will_wake s.waiting w;
    room = if skips will_wake s.waiting w then s.room else s.room - 1;
  }

  -- A sound state: its version and its owners are in range, wakers wait only if it is open, and
  -- none of them is one that an earlier waiting waker would wake.
  pub record IsSound (s : State T W) : Type 0 where
    pub first : 1 ≤ s.version
    pub last : s.version ≤ versions_limit
    pub counted : s.owners ≤ owners_limit
    pub waits_open : is_closed s ≡ true → s.waiting ≡ []
    pub none_skipped : wait_list will_wake s.waiting ≡ s.waiting
