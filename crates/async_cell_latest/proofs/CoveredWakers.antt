-- Each waker that waits is covered until all waiting ends.
use Rattle.async_cell_latest.proofs.Words.{pending_waker, has_end, History, then_state, after, Entry, MayFollow, IsLegal, State, ends_waiting, IsCovered, skips, ◌≡◌, Bool, false}
use Rattle.async_cell_latest.proofs.Words.{List, [], ◌∷◌, ◌++◌, Some, arith, or_parts, nat_tests, Contains-append_left, Contains-push, list_any-append, if◌then◌else◌}
use Rattle.async_cell_latest.proofs.Versions.{legal_rest, after_append}

module _ {W : Type 0} (will_wake : W → W → Bool) where
  -- whoever is covered stays covered when one more is registered
  covered_if : (m : List W) (v w : W) (b : Bool) → IsCovered will_wake m w → IsCovered will_wake (if b then m else m ++ v ∷ []) w
  covered_if m v w b covered = grind (arith, nat_tests, Contains-append_left m (v ∷ []) w, list_any-append (λ u. will_wake u w) m (v ∷ []))

  -- one more waker is covered
  covers_one : (m : List W) (w : W) (b : Bool) → skips will_wake m w ≡ b → IsCovered will_wake (if b then m else m ++ w ∷ []) w
  covers_one m w b is = grind (arith, nat_tests, Contains-push m w)

module _ {T W : Type 0} (will_wake : W → W → Bool) where
  then_stays : (s : State T W) (e : Entry T W) (w : W) → ends_waiting s e.call ≡ false → IsCovered will_wake s.waiting w → IsCovered will_wake (then_state will_wake s e).waiting w
  then_stays s e w quiet covered = grind (arith, nat_tests, covered_if)

  after_covers : (s : State T W) (h : History T W) (w : W) → has_end will_wake s h ≡ false → IsCovered will_wake s.waiting w → IsCovered will_wake (after will_wake s h).waiting w
  after_covers s [] w quiet covered = covered
  after_covers s (e ∷ h) w quiet covered =
      let both = or_parts (ends_waiting s e.call) (has_end will_wake (then_state will_wake s e) h) quiet in
      after_covers (then_state will_wake s e) h w both.1 (then_stays s e w both.0 covered)

  module _ (sure : Bool) where
    -- a poll that is told to wait is registered
    then_covers : (s : State T W) (e : Entry T W) (w : W) → MayFollow will_wake sure s e → pending_waker e.call e.reply ≡ Some w → IsCovered will_wake (then_state will_wake s e).waiting w
    then_covers s e w may is = grind (arith, nat_tests, covers_one)

    -- until all waiting ends, the waker of a pending poll is covered
    pub stays_covered : (b : State T W) (g : History T W) (e : Entry T W) (rest : History T W) (w : W) → IsLegal will_wake sure b (g ++ e ∷ rest) → pending_waker e.call e.reply ≡ Some w
        → has_end will_wake (after will_wake b (g ++ e ∷ [])) rest ≡ false → IsCovered will_wake (after will_wake b (g ++ e ∷ rest)).waiting w
    stays_covered b g e rest w legal is quiet = grind (arith, nat_tests, legal_rest, then_covers, after_append, after_covers)
