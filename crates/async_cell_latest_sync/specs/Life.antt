-- The history of a state: the values that it has had, in order, and whether it is closed.
use Rattle.std.specs.Prelude.{◌≡◌, ◌≤◌, ◌⊎◌, ℕ, Bool, true, false, List, [], ◌∷◌, ◌++◌, length, ⊤, Option, Some, None, IsSome}
use mathlib.Core.List.{IsPrefix}
use Rattle.async_cell_latest.specs.State.{State, is_closed, versions_limit}

-- The values that a state has had so far, in order, and whether it is closed. The version of a
-- value is its place among them, from 1 on.
pub record Life (T : Type 0) : Type 0 where
  pub values : List T
  pub closed : Bool

-- a state, beside its life so far
pub record Desk (T W : Type 0) : Type 0 where
  pub state : State T W
  pub life : Life T

-- how a named state began: the name of the list of its values, and that of the count of its owners,
-- if they are counted
pub record Begun : Type 0 where
  pub name : ℕ
  pub permits : Option ℕ

-- a state without a name can have any list
abbrev pub Fits : Option Begun → ℕ → Type 0
Fits None name = ⊤
Fits (Some named) name = name ≡ named.name

-- the name of the count of a state's owners
abbrev pub permits_of : Option Begun → Option ℕ
permits_of None = None
permits_of (Some named) = named.permits

module _ {T : Type 0} where
  -- the values of a list of writes, up to the close, which is `None`
  abbrev pub values_of : List (Option T) → List T
  values_of [] = []
  values_of (Some value ∷ rest) = value ∷ values_of rest
  values_of (None ∷ rest) = []

  -- whether the close is in it
  abbrev pub closed_of : List (Option T) → Bool
  closed_of [] = false
  closed_of (Some value ∷ rest) = closed_of rest
  closed_of (None ∷ rest) = true

  -- the life that these writes make
  abbrev pub life_of : List (Option T) → Life T
  life_of writes = record { values = values_of writes; closed = closed_of writes }

  -- each of these values may be written after those before it
  pub record IsLawful (may : List T → T → Type 0) (values : List T) : Type 0 where
    pub each : (before later : List T) → (value : T)
        → values ≡ before ++ value ∷ later → may before value

  -- this value is the last one
  abbrev pub EndsIn : List T → T → Type 0
  EndsIn values last = (before : List T) × (values ≡ before ++ last ∷ [])

  -- the life of a state, as it is now: its version counts its values, of which its own is the last
  -- (a state without a name may have changed its value without a write). The value keeps the rule.
  pub record IsOf {W : Type 0} (named : Option Begun) (holds : T → Type 0) (state : State T W)
      (life : Life T) : Type 0 where
    pub counted : length life.values ≡ state.version
    pub closed : life.closed ≡ is_closed state
    pub last : IsSome named → EndsIn life.values state.value
    pub rule : holds state.value

  -- a life goes on: values are added at its end, but none after the close
  pub record GoesOn (life now : Life T) : Type 0 where
    pub begins : IsPrefix life.values now.values
    pub ended : life.closed ≡ true → now ≡ life

  -- a life takes no further value: it is closed, or the last version was written
  abbrev pub TakesNoMore : Life T → Type 0
  TakesNoMore life = (life.closed ≡ true) ⊎ (versions_limit ≤ length life.values)

  -- the life that was seen has gone on, and now ends in the write of this value
  pub record IsWritten (seen : Life T) (value : T) (now : Life T) : Type 0 where
    pub goes_on : GoesOn seen now
    pub before : List T
    pub after_seen : IsPrefix seen.values before
    pub ends : now.values ≡ before ++ value ∷ []
    pub stays_open : now.closed ≡ false

  -- the life that was seen has gone on, and now ends in two values of which this holds
  pub record IsUpdated (seen : Life T) (P : T → T → Type 0) (now : Life T) : Type 0 where
    pub before : List T
    pub old : T
    pub new : T
    pub made : P old new
    pub ends : now.values ≡ before ++ old ∷ new ∷ []
    pub written : IsWritten seen new now

  module _ (is_clone : T → T → Type 0) where
    -- the life that was seen has gone on, and this is a clone of the last value now
    pub record IsShown (seen : Life T) (copy : T) (now : Life T) : Type 0 where
      pub goes_on : GoesOn seen now
      pub value : T
      pub ends : EndsIn now.values value
      pub clone : is_clone value copy

    -- and that value was written after all that was seen
    pub record IsShownNext (seen : Life T) (copy : T) (now : Life T) : Type 0 where
      pub goes_on : GoesOn seen now
      pub before : List T
      pub value : T
      pub after_seen : IsPrefix seen.values before
      pub ends : now.values ≡ before ++ value ∷ []
      pub clone : is_clone value copy

    -- What is shown after what was seen: an unseen value, or none if all was seen of a state that
    -- is closed now.
    abbrev pub IsNext : Life T → Option T → Life T → Type 0
    IsNext seen (Some copy) now = IsShownNext seen copy now
    IsNext seen None now = GoesOn seen now × (now.values ≡ seen.values) × (now.closed ≡ true)

  -- the rule allows to write this value now, whatever was written since this was seen
  abbrev pub MayWrite : (List T → T → Type 0) → Life T → T → Type 0
  MayWrite may seen value =
      (before : List T) → IsPrefix seen.values before → IsLawful may before → may before value

  -- it allows to write any value of which this holds after the last one
  abbrev pub MayUpdate : (List T → T → Type 0) → Life T → (T → T → Type 0) → Type 0
  MayUpdate may seen P = (before : List T) → (old new : T)
      → IsPrefix seen.values (before ++ old ∷ [])
      → IsLawful may (before ++ old ∷ []) → P old new → may (before ++ old ∷ []) new
