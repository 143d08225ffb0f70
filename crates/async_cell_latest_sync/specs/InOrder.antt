-- Values of a state, one after another: what is shown of them, and in which order they may follow.
use Rattle.std.specs.Prelude.{◌≡◌, true, List, ◌∷◌, ◌++◌}
use Rattle.async_cell_latest_sync.specs.Life.{Life, EndsIn}

module _ {T : Type 0} where
  -- this value follows the last one of those before it, if there are any
  abbrev pub FollowsLast : (T → T → Type 0) → List T → T → Type 0
  FollowsLast Follows before value = (last : T) → EndsIn before last → Follows last value

  -- only what follows the last value may be written
  abbrev pub OnlyFollowing : (List T → T → Type 0) → (T → T → Type 0) → Type 0
  OnlyFollowing may Follows = (before : List T) → (value : T)
      → may before value → FollowsLast Follows before value

  -- all that follows the last value may be written
  abbrev pub AllFollowing : (List T → T → Type 0) → (T → T → Type 0) → Type 0
  AllFollowing may Follows = (before : List T) → (value : T)
      → FollowsLast Follows before value → may before value

  module _ (is_clone : T → T → Type 0) where
    -- clones of two of these values, of which the second was written after the first
    pub record AreInOrder (x y : T) (values : List T) : Type 0 where
      pub before : List T
      pub first : T
      pub between : List T
      pub second : T
      pub later : List T
      pub split : values ≡ before ++ first ∷ between ++ second ∷ later
      pub shown_first : is_clone first x
      pub shown_second : is_clone second y

    -- this is a clone of one of the values
    pub record WasShown (copy : T) (life : Life T) : Type 0 where
      pub before : List T
      pub value : T
      pub later : List T
      pub split : life.values ≡ before ++ value ∷ later
      pub clone : is_clone value copy

    -- the state is closed, and this is a clone of its last value
    pub record IsLast (copy : T) (life : Life T) : Type 0 where
      pub closed : life.closed ≡ true
      pub value : T
      pub ends : EndsIn life.values value
      pub clone : is_clone value copy
