-- Two polls of one follower, with calls of others in between, are in one history.
use Rattle.std.proofs.Common.{◌≤◌, ◌<◌, ℕ, Bool, List, [], ◌∷◌, ◌++◌, refl}
use Rattle.async_cell_model.specs.Taken.{IsSubsequence, both}
use Rattle.async_cell_model.proofs.Once.{IsSubsequence-append, IsSubsequence-nil, IsSubsequence-same}
use Rattle.async_cell_latest.specs.State.{State}
use Rattle.async_cell_latest.specs.Step.{PollChanged, Shown}
use Rattle.async_cell_latest.specs.History.{History, IsLegal, Runs}
use Rattle.async_cell_latest.specs.Follower.{IsFollower, IsRising}

module _ {T W : Type 0} (will_wake : W → W → Bool) (sure : Bool) where
  -- a poll that showed this version
  abbrev pub Polled : State T W → ℕ → W → ℕ → State T W → Type 0
  Polled s seen w version t = Runs will_wake sure s (record { call = PollChanged seen w; reply = Shown version s.value } ∷ []) ([] ∷ []) t

  pub two_rise :
      ((from at to : State T W) (g h : History T W) (first second : List (List W)) → Runs will_wake sure from g first at → Runs will_wake sure at h second to
      → Runs will_wake sure from (g ++ h) (first ++ second) to)
      → ((b : State T W) (h mine : History T W) (seen : ℕ) → IsLegal will_wake sure b h → IsSubsequence mine h → IsFollower seen mine → seen ≤ b.version → IsRising seen mine)
      → (b s t u : State T W) (seen first second : ℕ) (w : W) (h : History T W) (woken : List (List W))
      → Polled b seen w first s → Runs will_wake sure s h woken t → Polled t first w second u
      → seen ≤ b.version → (seen < first) × (first < second)
  two_rise join rise b s t u seen first second w h woken before between then below =
      let all = join b t u _ _ _ _ (join b s t _ h _ woken before between) then in
      let rising = rise b _ (record { call = PollChanged seen w; reply = Shown first b.value } ∷ record { call = PollChanged first w; reply = Shown second t.value } ∷ []) seen all.legal
      (both (IsSubsequence-append [] h _ _ (IsSubsequence-nil h) (IsSubsequence-same _))) (refl, (refl, tt)) below in
      (rising.0, rising.1.0)
