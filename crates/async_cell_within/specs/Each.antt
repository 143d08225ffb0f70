-- What is left of futures that were waited for together, and of which some gave an output.
use Rattle.std.specs.Prelude.{◌≡◌, ℕ, ◌<◌, List, length, Option, Some, None, IfSome, IfNone, slice_index_or}

module _ {F A : Type 0} where
  -- each output is one that the future at its place gives
  abbrev pub EachGiven : (F → A → Type 0) → List F → List (Option A) → Type 0
  EachGiven gives old outputs = (k : ℕ) (d : F) → k < length old
      → IfSome (slice_index_or outputs k None) (gives (slice_index_or old k d))

  -- each future without an output can be polled
  abbrev pub EachLate : (F → Type 0) → List F → List (Option A) → Type 0
  EachLate can_poll new outputs = (k : ℕ) (d : F) → k < length new
      → IfNone (slice_index_or outputs k None) (can_poll (slice_index_or new k d))

  -- each future without an output gives nothing that it did not give before
  abbrev pub EachLateGives : (F → A → Type 0) → List F → List F → List (Option A) → Type 0
  EachLateGives gives old new outputs = (k : ℕ) (d : F) → k < length old
      → IfNone (slice_index_or outputs k None)
      ((x : A) → gives (slice_index_or new k d) x → gives (slice_index_or old k d) x)

  module _ (can_poll : F → Type 0) (gives : F → A → Type 0) where
    -- What polls did to a future and its output. An output that was there stays. One that came is
    -- one that the future gives. A future without an output can be polled, and gives nothing new.
    abbrev pub Fills : F → Option A → F → Option A → Type 0
    Fills old (Some x) new after = after ≡ Some x
    Fills old None new (Some x) = gives old x
    Fills old None new None = can_poll new × ((x : A) → gives new x → gives old x)

    -- the same for each of these futures
    pub record EachFills (old : List F) (before : List (Option A))
        (new : List F) (after : List (Option A)) : Type 0 where
      pub futures : length new ≡ length old
      pub outputs : length after ≡ length old
      pub each : (k : ℕ) (d : F) → k < length old
          → Fills (slice_index_or old k d) (slice_index_or before k None)
          (slice_index_or new k d) (slice_index_or after k None)
