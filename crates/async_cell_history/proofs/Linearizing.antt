-- What a thread knows after a call that it was told of.
use Rattle.async_cell_history.proofs.Words.{◌≡◌, ◌+◌, ℕ, Bool, List, [], ◌∷◌, ◌++◌, map, ap, sym, ◌∙◌, Option, refl, subst, append-nil, append_assoc, arith, IsPrefix, map-append, Kept}
use Rattle.async_cell_history.proofs.Words.{Reply, Logged, Made, Seen, IsSigned, Begun, IsLinearized, IsReady, start_of, Entry, State, IsSound, Does, Exactly, History, after, IsLegal}
use Rattle.async_cell_history.proofs.Words.{IsLegalAfterBy, MayFollowBy, Runs, woken_by, NoClone, legal_of_exact, after-append, machine_of, after-nil, IsSound-after, WakerRules}
use Rattle.async_cell_history.proofs.Leading.{runs_more}
use Rattle.async_cell_history.specs.History.{IsLed}

module _ {A B : Type 0} (f : A → B) where
  -- what begins a list begins it also after a change of each element
  pub begins_map : (xs ys : List A) (us vs : List B) → map f xs ≡ us → map f ys ≡ vs → IsPrefix xs ys → IsPrefix us vs
  begins_map xs ys us vs first second (rest, is) = (map f rest, ap (λ l. l ++ map f rest) (sym first) ∙ sym (map-append f xs rest) ∙ ap (map f) is ∙ second)

module _ {T W : Type 0} (will_wake : W → W → Bool) (sure : Bool) where
  -- the second part of legal calls is legal after the first
  pub second : (b : State T W) (g xs ys : History T W) → IsLegalAfterBy Exactly will_wake sure b g (xs ++ ys) → IsLegalAfterBy Exactly will_wake sure b (g ++ xs) ys
  second b g [] ys legal = subst (λ (l : History T W). IsLegalAfterBy Exactly will_wake sure b l ys) (sym (append-nil g)) legal
  second b g (x ∷ xs) ys legal =
      subst (λ (l : History T W). IsLegalAfterBy Exactly will_wake sure b l ys) (append_assoc g (x ∷ []) xs) (second b (g ++ x ∷ []) xs ys legal.1)

  -- one more legal call is a step of the machine, on the state after those before it
  step_there : (b : State T W) (h : History T W) (e : Entry T W) → IsSound will_wake b → IsLegal will_wake sure b h → IsLegal will_wake sure b (h ++ e ∷ [])
      → Does will_wake sure (after will_wake b h) e (woken_by (after will_wake (after will_wake b h) []) e) (after will_wake b (h ++ e ∷ []))
  step_there b h e sound legal longer =
      let at = after will_wake b h in
      let there : IsSound will_wake at = IsSound-after NoClone will_wake sure b h sound (legal_of_exact will_wake sure b h legal) in
      let none : after will_wake at [] ≡ at = after-nil NoClone will_wake sure at there.none_skipped in
      let may : MayFollowBy Exactly will_wake sure at e = (second b [] h (e ∷ []) longer).0 in
      let runs : Runs will_wake sure at (e ∷ []) (woken_by (after will_wake at []) e ∷ []) (after will_wake at (e ∷ [])) = record {
        sound = there;
        legal = (subst (λ (s : State T W). MayFollowBy Exactly will_wake sure s e) (sym none) may, tt);
        cell_is = refl;
        waiting_is = refl;
        room_is_left = omega arith;
        wakes_are = refl;
      } in
      subst (λ (s : State T W). Does will_wake sure at e (woken_by (after will_wake at []) e) s) (sym (after-append will_wake b h (e ∷ []) sound.none_skipped))
      (machine_of will_wake sure at (after will_wake at (e ∷ [])) e.call e.reply _ runs)

-- what a thread knows that had seen the past before a call, and has seen the past after it
pub linearized_of : {T W : Type 0} (rules : WakerRules W) (named : Option (Begun T W)) (old new : Logged T W) (seen now : History T W) (call : Kept T W) (reply : Reply T) (woken : List W) (by : ℕ)
    → IsLed rules.will_wake rules.SURE_CLONE old.past.begun.start old.past.calls old.inner → Made rules.will_wake rules.SURE_CLONE old call reply woken by new
    → old.past.begun.start ≡ start_of named → IsPrefix seen old.past.calls → now ≡ new.past.calls → IsLinearized rules named seen call reply now
linearized_of {T} {W} rules named old new seen now call reply woken by led made begins on is =
    let will_wake = rules.will_wake in let sure = rules.SURE_CLONE in
    let e : Entry T W = record { call = call; reply = reply } in
    let longer = runs_more will_wake sure old.past new.past old.inner new.inner e woken led made.does made.begun made.entered in
    let legal : IsLegal will_wake sure old.past.begun.start (old.past.calls ++ e ∷ []) = rw (sym made.entered, sym (ap (λ b. b.start) made.begun)) longer.runs.legal in
    let there = step_there will_wake sure old.past.begun.start old.past.calls e led.runs.sound led.runs.legal legal in
    record {
      before = old.past.calls;
      goes_on = on;
      ends = is ∙ made.entered;
      woken = woken_by (after will_wake (after will_wake old.past.begun.start old.past.calls) []) e;
      does = rw (sym begins, is, made.entered) there;
    }

-- who was ready before a call, and has seen the past after it
pub seen_of : {T W : Type 0} (rules : WakerRules W) (named : Option (Begun T W)) (holds : T → Type 0) (first ready now : Seen T W) (old new : Logged T W) (call : Kept T W) (reply : Reply T)
    (woken : List W)
    → IsReady rules.will_wake rules.SURE_CLONE holds named first ready old → Made rules.will_wake rules.SURE_CLONE old call reply woken ready.author new
    → now.calls ≡ new.past.calls → now.authors ≡ new.past.authors → now.author ≡ ready.author → now.own ≡ ready.own + 1 → IsLinearized rules named first.calls call reply now.calls × IsSigned first now
seen_of rules named holds first ready now old new call reply woken is made calls authors author own = (
  linearized_of rules named old new first.calls now.calls call reply woken ready.author is.led.0 made is.begun is.calls calls,
  record {
    before = old.past.authors;
    goes_on = is.authors;
    ends = authors ∙ made.signed ∙ ap (λ n. old.past.authors ++ n ∷ []) is.stays;
    stays = author ∙ is.stays;
    one_more = own ∙ ap (λ n. n + 1) is.none_made;
  },
)
