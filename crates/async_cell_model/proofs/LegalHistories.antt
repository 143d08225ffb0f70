-- Legal histories, joined and started anew.
use Rattle.async_cell_model.proofs.Words.{◌≡◌, ◌≤◌, Bool, List, [], ◌∷◌, ◌++◌, refl, arith, append_assoc, append-nil, nat_tests, Entry, Kept, Reply, wait_list, State}
use Rattle.async_cell_model.proofs.Words.{IsSound, Exactly, History, cell_after, waiting, room, after, MayFollowBy, IsLegalAfterBy, RunsBy, wakes_after, Runs}
use Rattle.async_cell_model.proofs.JoinedHistory.{after_none, after-append, cell_after-append, waiting-append, room-append}

module _ {T W : Type 0} (MayReply : Kept T W → Reply T → Reply T → Type 0) (will_wake : W → W → Bool) (sure : Bool) where
  -- a history is legal in two parts
  IsLegalAfter-append : (b : State T W) (h xs ys : History T W) → IsLegalAfterBy MayReply will_wake sure b h xs → IsLegalAfterBy MayReply will_wake sure b (h ++ xs) ys
      → IsLegalAfterBy MayReply will_wake sure b h (xs ++ ys)
  IsLegalAfter-append b h [] ys first second = rw (← append-nil h) second
  IsLegalAfter-append b h (e ∷ xs) ys first second = (first.0, IsLegalAfter-append b (h ++ e ∷ []) xs ys first.1 (rw (append_assoc h (e ∷ []) xs) second))

  wakes_after-append : (b : State T W) (h xs ys : History T W) → wakes_after will_wake b h (xs ++ ys) ≡ wakes_after will_wake b h xs ++ wakes_after will_wake b (h ++ xs) ys
  wakes_after-append b h [] ys = grind (arith, append-nil)
  wakes_after-append b h (e ∷ xs) ys = grind (arith, append_assoc, wakes_after-append b (h ++ e ∷ []) xs ys)

  -- A second history, from a state that the first may leave: with the cell and the wait list after
  -- it, and at least the room.
  module _ (b mid : State T W) (g : History T W) (kept : wait_list will_wake b.waiting ≡ b.waiting)
      (cell_is : mid.cell ≡ cell_after b.cell g) (waiting_is : mid.waiting ≡ waiting will_wake b g) (room_is_left : room will_wake b g ≤ mid.room) where
    -- more room only makes fewer refusals legal
    follows : (h : History T W) (e : Entry T W) → MayFollowBy MayReply will_wake sure (after will_wake mid h) e → MayFollowBy MayReply will_wake sure (after will_wake b (g ++ h)) e
    follows h e may = grind (arith, nat_tests, cell_after-append b.cell g h, waiting-append will_wake b g h, room-append will_wake b g h kept)

    second_legal : (h rest : History T W) → IsLegalAfterBy MayReply will_wake sure mid h rest → IsLegalAfterBy MayReply will_wake sure b (g ++ h) rest
    second_legal h [] legal = tt
    second_legal h (e ∷ rest) legal = (follows h e legal.0, rw (append_assoc g h (e ∷ [])) (second_legal (h ++ e ∷ []) rest legal.1))

    second_wakes : (h rest : History T W) → wakes_after will_wake b (g ++ h) rest ≡ wakes_after will_wake mid h rest
    second_wakes h [] = refl
    second_wakes h (e ∷ rest) = grind (arith, after-append, append_assoc, second_wakes (h ++ e ∷ []) rest)

    room_on : (h : History T W) → room will_wake b (g ++ h) ≤ room will_wake mid h
    room_on h = grind (arith, after-append)

  -- two histories, the second from the state where the first ends, are one
  pub Runs-join-by : (b mid to : State T W) (g h : History T W) (ws us : List (List W)) → RunsBy MayReply will_wake sure b g ws mid → RunsBy MayReply will_wake sure mid h us to
      → RunsBy MayReply will_wake sure b (g ++ h) (ws ++ us) to
  Runs-join-by b mid to g h ws us first second =
      let kept = first.sound.none_skipped in
      let legal = second_legal b mid g kept first.cell_is first.waiting_is first.room_is_left [] h second.legal in
      let wakes = second_wakes b mid g kept first.cell_is first.waiting_is first.room_is_left [] h in
      let left = room_on b mid g kept first.cell_is first.waiting_is first.room_is_left h in
      grind (arith, append-nil, after-append will_wake b g h kept, IsLegalAfter-append b [] g h, wakes_after-append b [] g h)

module _ {T W : Type 0} (will_wake : W → W → Bool) (sure : Bool) where
  pub Runs-join : (b mid to : State T W) (g h : History T W) (ws us : List (List W)) → Runs will_wake sure b g ws mid → Runs will_wake sure mid h us to → Runs will_wake sure b (g ++ h) (ws ++ us) to
  Runs-join b mid to g h ws us first second = Runs-join-by Exactly will_wake sure b mid to g h ws us first second

  -- the empty history leaves the state as it is
  pub Runs-nil : (b : State T W) → IsSound will_wake b → Runs will_wake sure b [] [] b
  Runs-nil b sound = grind (arith, after_none)
