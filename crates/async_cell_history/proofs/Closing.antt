-- Of a closed cell nothing is left, and what is passed to a later call on it comes back.
use Rattle.async_cell_history.proofs.Words.{◌≡◌, ◌+◌, Bool, [], ◌∷◌, ◌++◌, true, refl, sym, subst, arith, option_to_list, count_by, All, All-cons, All-nil}
use Rattle.async_cell_history.proofs.Words.{Cell, Entry, State, Exactly, content, is_closed, next, after, History, cell_after, IsLegal, IsLegalAfterBy, MayFollowBy, cell_after-append}
use Rattle.async_cell_history.proofs.Words.{come_out, comes_out, dropped, goes_in, gone_in}
use Rattle.async_cell_history.proofs.Counting.{balance}
use Rattle.async_cell_history.proofs.Linearizing.{second}

module _ {T : Type 0} (test : T → Bool) where
  none_left : (c : Cell T) → is_closed c ≡ true → count_by test (option_to_list (content c)) ≡ 0
  none_left c closed = grind arith

  -- after a close, what comes out or is dropped is what was there or goes in
  pub balance_of_closed : {W : Type 0} (will_wake : W → W → Bool) (sure : Bool) (b : State T W) (now : History T W) → is_closed (cell_after b.cell now) ≡ true → IsLegal will_wake sure b now
      → count_by test (come_out now) + count_by test (dropped b.cell now) ≡ count_by test (option_to_list (content b.cell)) + count_by test (gone_in now)
  balance_of_closed will_wake sure b now closed legal = omega (
    arith,
    balance test will_wake sure b [] now b.cell refl legal,
    none_left (cell_after b.cell now) closed,
  )

module _ {T W : Type 0} where
  step_closed : (c : Cell T) (e : Entry T W) → is_closed c ≡ true → is_closed (next c e) ≡ true
  step_closed c e closed = grind arith

  all_closed : (c : Cell T) (h : History T W) → is_closed c ≡ true → is_closed (cell_after c h) ≡ true
  all_closed c [] closed = closed
  all_closed c (e ∷ h) closed = all_closed (next c e) h (step_closed c e closed)

  -- a closed cell stays closed
  pub stays_closed : (c : Cell T) (now later : History T W) → is_closed (cell_after c now) ≡ true → is_closed (cell_after c (now ++ later)) ≡ true
  stays_closed c now later closed = subst (λ (k : Cell T). is_closed k ≡ true) (sym (cell_after-append c now later)) (all_closed (cell_after c now) later closed)

  -- what comes out is what goes in
  abbrev IsBack : Entry T W → Type 0
  IsBack e = comes_out e.call e.reply ≡ goes_in e.call

  module _ (will_wake : W → W → Bool) (sure : Bool) where
    step_back : (at : State T W) (e : Entry T W) → is_closed at.cell ≡ true → MayFollowBy Exactly will_wake sure at e → IsBack e
    step_back at e closed may = grind (arith, may.replied, may.updated)

    back_after : (b : State T W) (g h : History T W) → is_closed (cell_after b.cell g) ≡ true → IsLegalAfterBy Exactly will_wake sure b g h → All IsBack h
    back_after b g [] closed legal = All-nil IsBack
    back_after b g (e ∷ h) closed legal = All-cons IsBack e h (step_back (after will_wake b g) e closed legal.0)
        (back_after b (g ++ e ∷ []) h (stays_closed b.cell g (e ∷ []) closed) legal.1)

    -- what is passed to a call after a close comes back, and nothing else
    pub all_back : (b : State T W) (now later : History T W) → is_closed (cell_after b.cell now) ≡ true → IsLegal will_wake sure b (now ++ later) → All IsBack later
    all_back b now later closed legal = back_after b now later closed (second will_wake sure b [] now later legal)
