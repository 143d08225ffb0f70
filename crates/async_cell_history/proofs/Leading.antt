-- What one more call makes of a past that leads to a core: its owners, its values, its history.
use Rattle.async_cell_history.proofs.Words.{◌≡◌, ℕ, Bool, false, Option, IfSome, rules, arith, ◌<◌, List, [], ◌∷◌, ◌++◌, map, map-append, ap, ◌∙◌, sym, subst, Cell, Entry, Kept, content, next, State}
use Rattle.async_cell_history.proofs.Words.{Does, is_closed, owners_of}
use Rattle.async_cell_history.proofs.Words.{IsAllowed, Puts, is_of_owners, Past, Leads, IsLawful, OnlyMakes, History, IsLegal, Runs, wakes_after, model_of, All, All-append, All-cons, All-nil}
use Rattle.async_cell_history.proofs.Words.{All-weaker}
use Rattle.async_cell_model.proofs.LegalHistories.{Runs-join}
use Rattle.async_cell_history.proofs.Exchanging.{step_of}
use Rattle.async_cell_history.specs.History.{IsLed}
use Rattle.async_cell_history.specs.declared.number.Signed.{Signed}

-- one more element
pub map_more : {A B : Type 0} (f : A → B) (xs ys : List A) (x : A) → ys ≡ xs ++ x ∷ [] → map f ys ≡ map f xs ++ f x ∷ []
map_more f xs ys x is = ap (map f) is ∙ map-append f xs (x ∷ [])

module _ {T W : Type 0} (P : T → Type 0) where
  pub step_holds : (c : Cell T) (e : Entry T W) → IfSome (content c) P → Puts P e.call → IfSome (content (next c e)) P
  step_holds c e holds puts = grind arith

-- a call that is allowed puts in what each call that may be made puts in
pub allowed_puts : {T W : Type 0} (may : Kept T W → Type 0) (P : T → Type 0) (keeps : (call : Kept T W) → may call → Puts P call) (call : Kept T W) → IsAllowed may call → Puts P call
allowed_puts may P keeps call allowed = search rules

pub open_if_owned : {T : Type 0} (c : Cell T) → 0 < owners_of c → is_closed c ≡ false
open_if_owned c h = grind arith

module _ {T W : Type 0} where
  pub owners_stay : (will_wake : W → W → Bool) (sure : Bool) (from to : State T W) (e : Entry T W) (woken : List W) → Does will_wake sure from e woken to → is_of_owners e.call ≡ false
      → owners_of to.cell ≡ owners_of from.cell
  owners_stay will_wake sure from to e woken does h = grind (arith, does.cell_is)

module _ {T W : Type 0} (will_wake : W → W → Bool) (sure : Bool) where
  -- the calls that are one more run to the state after it
  runs_longer : (past now : Past T W) (from to : State T W) (e : Entry T W) (woken : List W)
      → Runs will_wake sure past.begun.start past.calls (wakes_after will_wake past.begun.start [] past.calls) from → Does will_wake sure from e woken to → now.begun ≡ past.begun
      → now.calls ≡ past.calls ++ e ∷ [] → Runs will_wake sure now.begun.start now.calls (wakes_after will_wake now.begun.start [] now.calls) to
  runs_longer past now from to e woken led does begun calls =
      let both = Runs-join will_wake sure past.begun.start from to past.calls (e ∷ []) _ (woken ∷ []) led (model_of will_wake sure from to e.call e.reply woken does) in
      let longer = subst (λ (ws : List (List W)). Runs will_wake sure past.begun.start (past.calls ++ e ∷ []) ws to) both.wakes_are both in
      rw (begun, calls) longer

  -- and that lead to it
  pub runs_more : (past now : Past T W) (from to : State T W) (e : Entry T W) (woken : List W) → IsLed will_wake sure past.begun.start past.calls from → Does will_wake sure from e woken to
      → now.begun ≡ past.begun
      → now.calls ≡ past.calls ++ e ∷ [] → IsLed will_wake sure now.begun.start now.calls to
  runs_more past now from to e woken led does begun calls =
      let step = step_of will_wake sure from to e woken led.waited led.exchanged does in record {
        waited = step.then_waited;
        runs = runs_longer past now _ _ e step.woken led.runs step.does begun calls;
        exchanged = step.exchanged;
      }

  -- and they lead there, if the call puts in what satisfies the rule
  pub leads_more : (holds : T → Type 0) (past now : Past T W) (from to : State T W) (e : Entry T W) (woken : List W) → Leads will_wake sure holds past from → Does will_wake sure from e woken to
      → Puts holds e.call → now.begun ≡ past.begun → now.calls ≡ past.calls ++ e ∷ [] → Leads will_wake sure holds now to
  leads_more holds past now from to e woken led does puts begun calls = (
    runs_more past now from to e woken led.0 does begun calls,
    subst (λ c. IfSome (content c) holds) (sym does.cell_is) (step_holds holds from.cell e led.1 puts),
  )

module _ {T W : Type 0} (may : Kept T W → Type 0) where
  -- lawful calls, and one more that is legal and allowed
  pub lawful_more : (will_wake : W → W → Bool) (sure : Bool) (start : State T W) (h : History T W) (e : Entry T W) → IsLawful will_wake sure may start h → IsLegal will_wake sure start (h ++ e ∷ [])
      → IsAllowed may e.call → IsLawful will_wake sure may start (h ++ e ∷ [])
  lawful_more will_wake sure start h e lawful legal allowed = record {
    legal = legal;
    allowed = All-append (λ x. IsAllowed may x.call) h (e ∷ []) lawful.allowed (All-cons (λ x. IsAllowed may x.call) e [] allowed (All-nil (λ x. IsAllowed may x.call)));
  }

  -- where only such changes may be made, all are such
  pub all_such : (Such : Kept T W → Type 0) → OnlyMakes may Such → (h : History T W) → All (λ e. IsAllowed may e.call) h → All (λ e. IsAllowed Such e.call) h
  all_such Such only h all = All-weaker (λ (e : Entry T W). IsAllowed may e.call) (λ (e : Entry T W). IsAllowed Such e.call) (λ e allowed change. only e.call (allowed change) change) h all

-- what contracts see of a past: of the count and the state it began with, and of its log
abbrev pub past_of : {T W : Type 0} → Option ℕ → State T W → ℕ → ℕ → List (Signed T W) → Past T W
past_of permits start out name log = record {
  begun = record { name = name; permits = permits; start = start };
  calls = map (λ s. s.entry) log;
  authors = map (λ s. s.who) log;
  out = out;
}

module _ {T W : Type 0} (will_wake : W → W → Bool) (sure : Bool) (may : Kept T W → Type 0) (permits : Option ℕ) (start : State T W) (out : ℕ) where
  -- a past that leads to a core leads to the core after an allowed call, once its log has the entry
  pub entered : (holds : T → Type 0) → ((call : Kept T W) → may call → Puts holds call) → (name name' : ℕ) (log log' : List (Signed T W)) (s : Signed T W) (past : Past T W) (from to : State T W)
      (woken : List W) → past_of permits start out name log ≡ past → name' ≡ name → log' ≡ log ++ s ∷ []
      → Leads will_wake sure holds past from → Does will_wake sure from s.entry woken to → IsAllowed may s.entry.call → Leads will_wake sure holds (past_of permits start out name' log') to
  entered holds keeps name name' log log' s past from to woken view same pushed led does allowed =
      leads_more will_wake sure holds past (past_of permits start out name' log') from to s.entry woken led does (allowed_puts may holds keeps s.entry.call allowed)
      (ap (λ n. record { name = n; permits = permits; start = start }) same ∙ ap (λ p. p.begun) view)
      (map_more (λ s. s.entry) log log' s pushed ∙ ap (λ p. p.calls ++ s.entry ∷ []) view)

  -- and its calls are lawful
  pub entered_lawful : (log log' : List (Signed T W)) (s : Signed T W) → log' ≡ log ++ s ∷ [] → IsLegal will_wake sure start (map (λ s. s.entry) log')
      → IsAllowed may s.entry.call → IsLawful will_wake sure may start (map (λ s. s.entry) log) → IsLawful will_wake sure may start (map (λ s. s.entry) log')
  entered_lawful log log' s pushed legal allowed lawful =
      let is = map_more (λ s. s.entry) log log' s pushed in
      subst (IsLawful will_wake sure may start) (sym is) (lawful_more may will_wake sure start (map (λ s. s.entry) log) s.entry lawful (subst (IsLegal will_wake sure start) is legal) allowed)
