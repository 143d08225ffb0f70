-- The values passed to writes, and those that replies move out of the cell.
use Rattle.std.specs.Prelude.{◌≢◌, Bool, List, [], ◌∷◌, Option, None, filter_map, AllPairs, if◌then◌else◌}
use Rattle.std.specs.List.{list_any}
use Rattle.async_cell_model.specs.declared.entry.Kept.{Kept}
use Rattle.async_cell_model.specs.declared.reply.Reply.{Reply}
use Rattle.async_cell_model.specs.declared.reply.Reply.TheVariants.{Done, Value, Is, Pending, Ready, Refused}
use Rattle.async_cell_model.specs.Facts.{is_moved, is_updated, facts}
use Rattle.async_cell_model.specs.History.{History}

-- no two of these values are equal
abbrev pub IsDistinct : {A : Type 0} → List A → Type 0
IsDistinct xs = AllPairs (λ x y. x ≢ y) xs

-- the first list is the second with any number of its elements left out, in the same order
pub data IsSubsequence {A : Type 0} : List A → List A → Type 0 where
  none : IsSubsequence [] []
  skip : {x : A} {xs ys : List A} → IsSubsequence xs ys → IsSubsequence xs (x ∷ ys)
  both : {x : A} {xs ys : List A} → IsSubsequence xs ys → IsSubsequence (x ∷ xs) (x ∷ ys)

-- the value that a reply gives
abbrev pub given_by : {T : Type 0} → Reply T → Option T
given_by Done = None
given_by (Value v) = v
given_by (Is set) = None
given_by Pending = None
given_by (Ready v) = v
given_by (Refused why back) = None

module _ {T W : Type 0} where
  -- whether the call is an update
  abbrev pub is_update : Kept T W → Bool
  is_update call = is_updated (facts call).fate

  -- whether some call of the history is an update
  abbrev pub has_update : History T W → Bool
  has_update h = list_any (λ e. is_update e.call) h

  -- the value passed to the call, if it writes one
  abbrev pub put_by : Kept T W → Option T
  put_by call = if is_update call then None else (facts call).puts

  -- the values passed to the writes, in order
  abbrev pub put_in : History T W → List T
  put_in h = filter_map (λ e. put_by e.call) h

  -- the value that a reply moves out of the cell: a get only copies it
  abbrev pub taken_by : Kept T W → Reply T → Option T
  taken_by call reply = if is_moved (facts call).fate then given_by reply else None

  -- the values that the replies moved out of the cell, in order
  abbrev pub taken_out : History T W → List T
  taken_out h = filter_map (λ e. taken_by e.call e.reply) h
