-- What the threads of a session returned.
use Rattle.std.specs.Prelude.{◌≡◌, ℕ, List, IsSomeAnd, length, map}
use Rattle.std.specs.List.{AllZip, sum_by}
use Rattle.async_cell_recorded.specs.declared.session.Seat.{Seat}
use Rattle.async_cell_recorded.specs.{Counting.ShareState, Counting.Test, Counting.picked, Recording.Recording, Recording.numbers_below}

module _ {O : Type 0} (describes : O → ShareState → Type 0) where
  -- a seat whose thread has ended: there is an outcome, which describes the share
  pub record HasEnded (seat : Seat ShareState O) : Type 0 where
    pub given : IsSomeAnd seat.outcome (λ outcome. describes outcome seat.share)

  -- These are the outcomes of this many shares, in the order of their numbers, and the history of
  -- their cell. Each outcome describes its share. The history has as many entries as the shares
  -- count, and as many of them pass the test, each with the names that it wakes, as results of the
  -- shares were picked.
  pub record AreOutcomes {T : Type 0} (test : Test T) (count : ℕ) (outcomes : List O)
      (history : Recording T) : Type 0 where
    pub shares : List ShareState
    pub numbered : map (λ share. share.number) shares ≡ numbers_below count
    pub described : AllZip describes outcomes shares
    pub counted : length history.entries ≡ sum_by (λ share. share.count) shares
    pub picked_is : picked test history ≡ sum_by (λ share. share.picked) shares

-- a share with which no call was made
pub record IsNew (share : ShareState) : Type 0 where
  pub count_is : share.count ≡ 0
  pub picked_is : share.picked ≡ 0
