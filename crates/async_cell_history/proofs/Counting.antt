-- As many values come out, are dropped or are left as were there and went in.
use Rattle.async_cell_history.proofs.Words.{◌≡◌, ◌+◌, ℕ, Bool, List, [], ◌∷◌, ◌++◌, Option, Some, None, refl, ap, subst, ◌∙◌, arith, cond, option_to_list, count_by, cons_option}
use Rattle.async_cell_history.proofs.Words.{All, All-head, All-tail, Cell, Entry, Kept, Reply, State, Exactly, content, next, History, cell_after, IsLegalAfterBy, MayFollowBy}
use Rattle.async_cell_history.proofs.Words.{cell_after-append, IsAllowed, IsNoSet, come_out, comes_out, dropped, dropped_by, goes_in, gone_in}
use Rattle.std.proofs.lemmas.List.Sums.{sum_by-append}

module _ {T : Type 0} (test : T → Bool) where
  abbrev count : Option T → ℕ
  count o = count_by test (option_to_list o)

  count_more : (o : Option T) (xs : List T) → count_by test (cons_option o xs) ≡ count o + count_by test xs
  count_more None xs = omega arith
  count_more (Some x) xs = sum_by-append _ (x ∷ []) xs

module _ {T W : Type 0} (test : T → Bool) where
  -- what comes out of a cell, is dropped or is left, is what was there or goes in
  abbrev Balances : Cell T → Kept T W → Reply T → Cell T → Type 0
  Balances c call answer after = count test (comes_out call answer) + count_by test (dropped_by c call) + count test (content after) ≡ count test (content c) + count test (goes_in call)

  module _ (will_wake : W → W → Bool) (sure : Bool) where
    step : (at : State T W) (e : Entry T W) → MayFollowBy Exactly will_wake sure at e → Balances at.cell e.call e.reply (next at.cell e)
    step at e may = grind (arith, may.replied, may.updated)

    pub balance : (b : State T W) (g h : History T W) (c : Cell T) → cell_after b.cell g ≡ c → IsLegalAfterBy Exactly will_wake sure b g h
        → count_by test (come_out h) + count_by test (dropped c h) + count test (content (cell_after c h)) ≡ count test (content c) + count_by test (gone_in h)
    balance b g [] c is legal = omega arith
    balance b g (e ∷ h) c is legal =
        let here = subst (λ (k : Cell T). Balances k e.call e.reply (next k e)) is (step _ e legal.0) in
        let rest = balance b (g ++ e ∷ []) h (next c e) (cell_after-append b.cell g (e ∷ []) ∙ ap (λ k. next k e) is) legal.1 in
        omega (
          arith,
          here,
          rest,
          count_more test (comes_out e.call e.reply) (come_out h),
          count_more test (goes_in e.call) (gone_in h),
          sum_by-append (λ x. cond (test x) 1 0) (dropped_by c e.call) (dropped (next c e) h),
        )

module _ {T W : Type 0} where
  drops_none : (c : Cell T) (call : Kept T W) → IsAllowed IsNoSet call → dropped_by c call ≡ []
  drops_none c call may = grind (arith, may)

  -- without a `set` none is dropped
  pub none_dropped : (c : Cell T) (h : History T W) → All (λ e. IsAllowed IsNoSet e.call) h → dropped c h ≡ []
  none_dropped c [] all = refl
  none_dropped c (e ∷ h) all = rw (drops_none c e.call (All-head (λ (x : Entry T W). IsAllowed IsNoSet x.call) e h all))
      (none_dropped (next c e) h (All-tail (λ (x : Entry T W). IsAllowed IsNoSet x.call) e h all))
