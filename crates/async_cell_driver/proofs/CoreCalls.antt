-- Where a call on the cell leads, and where a poll does.
use Rattle.async_cell_driver.proofs.Words.{Polled, mark_after, waiting_when, is_ready_mark, DriverState, NamesMatch, change, kind_at, mark_at, name_of, result_at, result_of, wake_each, with_mark}
use Rattle.async_cell_driver.proofs.Words.{Drives, is_call, call_of, entry_of, handed_out, history, line_of, names_by, poll_of, reply_of, told_of, Line, is_ready, with_edit, Event, Kind, Told, Mark}
use Rattle.async_cell_driver.proofs.Words.{Task, model_of, Runs-sound, up_to_clones, DoesUpTo, model_up_to, woken_by, Does, IsSound, State, ends_waiting, waker_of, Cell, Entry, Kept, Refusal, Memory}
use Rattle.async_cell_driver.proofs.Words.{Reply, same_name, Named, List, None, Option, Some, [], ap, append-nil, arith, false, map, refl, subst, sym, true, ℕ, ◌∙◌, ◌∷◌, ◌≡◌, ◌≢◌, or-false, or-true}
use Rattle.async_cell_driver.proofs.Words.{nat_tests, eq-eqb, eqb-true, IsSomeAnd, option_map, IfErr, IfOk, MatchOption, OnOk, Result, if◌then◌else◌, nat_eq, option_to_list}
use Rattle.async_cell_driver.specs.declared.event.Event.TheVariants as event
use Rattle.async_cell_driver.specs.declared.event.Told.TheVariants as told
use Rattle.async_cell_driver.proofs.TaskList.{awake, kinds-wake_each, map-change, mark-wake_each, named-append, named-wait_list, says_same, slice_get-change_other, slice_get-change_same}

from_some : {A : Type 0} (o : Option A) (P : A → Type 0) → IsSomeAnd o P → (x : A) × (o ≡ Some x) × P x
from_some None P has = absurd has
from_some (Some x) P has = (x, refl, has)

module _ {T : Type 0} where
  -- the names are those that the entry wakes
  pub names_are : (from to : State T Named) (call : Kept T Named) (r : Reply T) (names : List Named) → Does same_name true from (record { call = call; reply = r }) names to
      → names ≡ woken_by from (record { call = call; reply = r })
  names_are from to call r names answers = answers.woken_are ∙ ap (λ (c : Cell T). if ends_waiting from.cell c then from.waiting else []) answers.cell_is

  -- where a history leads another begins
  pub begins_there : (from to : State T Named) (call : Kept T Named) (r : Reply T) (names : List Named) → Does same_name true from (record { call = call; reply = r }) names to → IsSound same_name to
  begins_there from to call r names answers =
      Runs-sound (λ (x y : T). y ≡ x) same_name true from to _ _ (up_to_clones _ same_name true from to _ _ (model_of same_name true from to call r names answers))

  -- the core's call of an event, with its reply and the names that it wakes
  abbrev pub CallsAs : Event T (Option T → Option T) → State T Named → Reply T → List Named → State T Named → Type 0
  CallsAs event from r names to = IsSomeAnd (call_of [] from.cell event) (λ call. Does same_name true from (record { call = call; reply = r }) names to)

  pub is_call-with_edit : {E : Type 0} (edit : E → Option T → Option T) (event : Event T E) → is_call event ≡ true → is_call (with_edit edit event) ≡ true
  is_call-with_edit edit event is = grind arith

  -- each waiting name still stands in the wait list, or was woken; a call that does not wait adds
  -- none
  pub covered_called : (from : DriverState T) (core : State T Named) (names : List Named) (event : Event T (Option T → Option T)) (r : Reply T)
      → is_call event ≡ true → NamesMatch from → CallsAs event from.core r names core → NamesMatch (record { core = core; tasks = wake_each names from.tasks })
  covered_called from core names event r is_event covered made =
      let (call, is, answers) = from_some (call_of [] from.core.cell event) (λ call. Does same_name true from.core (record { call = call; reply = r }) names core) made in
      let silent : waker_of call ≡ None = grind arith in (
        λ i stands. grind (arith, model_of, names_are, mark-wake_each, named-wait_list, named-append, covered.0),
        λ i named. grind (arith, model_of, names_are, mark-wake_each, named-wait_list, append-nil, covered.1),
      )

  -- Where the call of an event leads, with the tasks woken whose names it wakes.
  pub call_drives : (is_clone : T → T → Type 0) (from : DriverState T) (core : State T Named) (names : List Named) (event : Event T (Option T → Option T)) (r : Reply T)
      → is_call event ≡ true → NamesMatch from → CallsAs event from.core r names core
      → Drives is_clone from (line_of from event (told.Reply r) ∷ []) (record { core = core; tasks = wake_each names from.tasks })
  call_drives is_clone from core names event r is_event covered made =
      let (call, is, answers) = from_some (call_of [] from.core.cell event) (λ call. Does same_name true from.core (record { call = call; reply = r }) names core) made in
      let e : Entry T Named = record { call = call; reply = r } in
      let line : Line T = record { event = event; told = told.Reply r; names = names } in
      let entry : entry_of (call_of (map (λ task. task.kind) from.tasks) from.core.cell event) (Some r) ≡ Some e = grind arith in
      let line_is : line_of from event (told.Reply r) ≡ line =
      λ k. record { event = event; told = told.Reply r; names = (ap (names_by from.core) entry ∙ sym (names_are from.core core call r names answers)) k } in
      let is_history : history from (line ∷ []) ≡ e ∷ [] = ap option_to_list entry in
      let is_handed : handed_out from (line ∷ []) ≡ names ∷ [] = ap (λ (o : Option (Entry T Named)). option_to_list (option_map (λ x. names) o)) entry in
      rw line_is record {
        legal = (grind arith, tt);
        core_leads = up_to_clones is_clone same_name true from.core core _ _ (rw (is_history, is_handed) (model_of same_name true from.core core call r names answers));
        kinds_are = grind (arith, kinds-wake_each, append-nil);
        marks_are = λ i. mark-wake_each names from.tasks i;
        none_forgotten = awake _ (begins_there from.core core call r names answers) (covered_called from core names event r is_event covered made).0;
      }

  -- a poll wakes none
  poll_wakes_none : (core : State T Named) (kind : Option Kind) (i : ℕ) (r : Option (Reply T)) → names_by core (entry_of (Some (poll_of kind i)) r) ≡ []
  poll_wakes_none core kind i r = grind arith

  pub mark-marked : (m : Mark) (i j : ℕ) (tasks : List (Task T)) → mark_at (change (with_mark m) i tasks) j ≡ (if nat_eq i j then option_map (λ _. m) (mark_at tasks j) else mark_at tasks j)
  mark-marked m i j tasks = grind (arith, nat_tests, slice_get-change_same, slice_get-change_other)

  -- what a task of the same number says
  this_ready : (i j : ℕ) (tasks : List (Task T)) → is_ready_mark (mark_at tasks i) ≡ true → nat_eq i j ≡ true → is_ready_mark (mark_at tasks j) ≡ true
  this_ready i j tasks ready same = subst (λ k. is_ready_mark (mark_at tasks k) ≡ true) (eqb-true i j same) ready

  -- each waiting name is still in the wait list, and so is that of the polled task, if it waits
  pub covered_polled : (from : DriverState T) (core : State T Named) (i : ℕ) (asked : Result (Polled T) Refusal) → NamesMatch from → is_ready_mark (mark_at from.tasks i) ≡ true
      → IfErr asked (λ why. (why ≡ Memory) × (core.cell ≡ from.core.cell) × (core.waiting ≡ from.core.waiting)) → IfOk asked (λ p. core.waiting ≡ waiting_when p (name_of i) from.core.waiting)
      → NamesMatch (record { core = core; tasks = change (with_mark (mark_after asked)) i from.tasks })
  covered_polled from core i asked covered ready refused waits = (
    λ j stands. grind (arith, mark-marked, named-append, or-true, this_ready, covered.0),
    λ j named. grind (arith, mark-marked, named-append, or-false, this_ready, covered.1),
  )

  -- where the poll of a ready task leads
  pub poll_drives : (is_clone : T → T → Type 0) (from : DriverState T) (core : State T Named) (i : ℕ) (kind : Kind) (asked : Result (Polled T) Refusal)
      → IsSound same_name core → NamesMatch from → kind_at from.tasks i ≡ Some kind → is_ready_mark (mark_at from.tasks i) ≡ true
      → IsSomeAnd (reply_of (told_of asked)) (λ reply. DoesUpTo same_name true is_clone from.core (record { call = poll_of (Some kind) i; reply = reply }) [] core)
      → IfErr asked (λ why. (why ≡ Memory) × (core.cell ≡ from.core.cell) × (core.waiting ≡ from.core.waiting)) → IfOk asked (λ p. core.waiting ≡ waiting_when p (name_of i) from.core.waiting)
      → Drives is_clone from (line_of from (event.Poll i) (told_of asked) ∷ []) (record { core = core; tasks = change (with_mark (mark_after asked)) i from.tasks })
  poll_drives is_clone from core i kind asked sound covered is_kind ready answers refused waits =
      let (reply, is, does) =
      from_some (reply_of (told_of asked)) (λ reply. DoesUpTo same_name true is_clone from.core (record { call = poll_of (Some kind) i; reply = reply }) [] core) answers in
      let answer : Told T = told_of asked in
      let line : Line T = record { event = event.Poll i; told = answer; names = [] } in
      let line_is : line_of from (event.Poll i) answer ≡ line =
      λ k. record { event = event.Poll i; told = answer; names = poll_wakes_none from.core (kind_at from.tasks i) i (reply_of answer) k } in
      rw line_is record {
        legal = (grind arith, tt);
        core_leads = rw (is_kind, is) (model_up_to is_clone same_name true _ _ _ _ _ does);
        kinds_are = grind (arith, map-change, append-nil);
        marks_are = λ j. grind (arith, mark-marked, this_ready);
        none_forgotten = awake _ sound (covered_polled from core i asked covered ready refused waits).0;
      }

  -- what holds anyway holds for each content
  pub sure_anyway : (o : Option T) (P : Type 0) (Q : T → Type 0) → P → MatchOption o P (λ value. Q value → P)
  sure_anyway o P Q holds = grind arith

  -- a poll leaves the results
  pub results-marked : (m : Mark) (i j : ℕ) (tasks : List (Task T)) → result_at (change (with_mark m) i tasks) j ≡ result_at tasks j
  results-marked m i j tasks = says_same result_of (with_mark m) (λ t. grind arith) i j tasks

  -- a task whose poll was not refused is not ready
  pub ready_no_more : (core : State T Named) (i : ℕ) (asked : Result (Polled T) Refusal) (tasks : List (Task T)) → is_ready_mark (mark_at tasks i) ≡ true
      → OnOk asked (is_ready (record { core = core; tasks = change (with_mark (mark_after asked)) i tasks }) [] i ≡ false)
  ready_no_more core i asked tasks ready = grind (arith, mark-marked, eq-eqb)

  -- the others are as ready as before
  pub others_stay : (m : Mark) (i j : ℕ) (tasks : List (Task T)) → i ≢ j → mark_at (change (with_mark m) i tasks) j ≡ mark_at tasks j
  others_stay m i j tasks other = ap (option_map (λ task. task.mark)) (slice_get-change_other (with_mark m) i j tasks other)

-- what the tactics use where a task is polled
pub ruleset poll_steps = (sure_anyway, results-marked, others_stay)
