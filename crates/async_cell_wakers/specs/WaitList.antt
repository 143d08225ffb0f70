-- Wait lists, as contracts see them.
use Rattle.std.specs.Prelude.{ℕ, List, [], ◌∷◌, Option, Some, None}

-- The wakers in order of registration; the room, which is the number of wakers that can still be
-- added without memory beyond their clones; and the round, which moves on when the wakers are
-- handed out: the places of other rounds are given up.
pub record ListState (W : Type 0) : Type 0 where
  pub wakers : List W
  pub room : ℕ
  pub round : ℕ

-- the first element, if there is one, and then the others
abbrev pub first_then : {A : Type 0} → Option A → List A → List A
first_then None rest = rest
first_then (Some first) rest = first ∷ rest

-- the items of an iterator, if there is one
abbrev pub items_left : {I A : Type 0} → (I → List A) → Option I → List A
items_left items None = []
items_left items (Some it) = items it
